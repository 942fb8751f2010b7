-- Byte 10 is found, then the key and the list are tested in what stands before it.
use Rattle.std.proofs.Common.{sym, ◌∙◌}
use Rattle.sheet_lines.specs.Machine.{entry_of}
use Rattle.sheet_lines.proofs.Lines.{count_none, count_some, end_part, list_part}
use Rattle.sheet_lines.proofs.Lines.{line-unended, line_unkeyed, line-bad_list, line-good, line-bad}
use Rattle.sheet_lines.proofs.line.Goals as goal

pub returns-then-end-text : goal.returns-then-end-text
returns-then-end-text c =
    let a = c.args in
    let entry = entry_of a.kind in
    let none = line-unended entry a.key.now a.text.now a.from c.find-end.result c.requires c.find-end.ensures in
    line-bad entry a.text.now (none c.if-end-text.true)

pub begins-requires : goal.begins-requires
begins-requires c =
    let a = c.args in
    end_part (entry_of a.kind) a.key.now a.text.now a.from c.find-end.result c.requires c.find-end.ensures

pub returns-then-not-begins : goal.returns-then-not-begins
returns-then-not-begins c =
    let a = c.args in
    let entry = entry_of a.kind in
    let none = line_unkeyed entry a.key.now a.text.now a.from c.find-end.result c.requires c.find-end.ensures in
    line-bad entry a.text.now (none c.if-end-text.false (sym c.if-not-begins.ensures))

pub count_list-requires : goal.count_list-requires
count_list-requires c =
    let a = c.args in
    let part = list_part (entry_of a.kind) a.key.now a.text.now a.from c.find-end.result c.requires c.find-end.ensures in
    part c.if-end-text.false (sym c.if-not-begins.ensures)

pub returns-in_err-count_list : goal.returns-in_err-count_list
returns-in_err-count_list c =
    let a = c.args in
    let entry = entry_of a.kind in
    let no_list = count_none _ (sym c.count_list.ensures ∙ c.in_err-count_list.was) in
    let none = line-bad_list entry a.key.now a.text.now a.from c.find-end.result c.requires c.find-end.ensures in
    rw c.from_residual.ensures (line-bad entry a.text.now (none c.if-end-text.false (sym c.if-not-begins.ensures) no_list))

pub returns : goal.returns
returns c =
    let a = c.args in
    let list = count_some _ _ (sym c.count_list.ensures ∙ c.in_ok-count_list.was) in
    let good = line-good (entry_of a.kind) a.key.now a.text.now a.from c.find-end.result c.requires c.find-end.ensures in
    good c.if-end-text.false (sym c.if-not-begins.ensures) list.0 list.1
