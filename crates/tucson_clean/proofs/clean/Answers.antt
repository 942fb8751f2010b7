-- The options, the length, and then what is made of the file.
use Rattle.std.proofs.Common.{arith, sym, ◌∙◌, ap, length}
use borrow.Author.Tests.{le-leb, lt-leb}
use Rattle.base_outcome.specs.Outcome.{Outcome, ◌then◌}
use Rattle.spec_tucson.specs.KeptLines.{no_header_named}
use Rattle.spec_tucson.specs.CleanCall.{Cleaned, is_header_option, file_limit, if_room}
use Rattle.tucson_clean.proofs.Room.{ends_refused, ends_same}
use Rattle.tucson_clean.proofs.Calls.{no_header, no_unit, too_long, not_long}
use Rattle.tucson_clean.proofs.clean.Goals as goal

pub returns-then-header-gt-NO_HEADER_NAMED : goal.returns-then-header-gt-NO_HEADER_NAMED
unfolding is_header_option
returns-then-header-gt-NO_HEADER_NAMED c =
    let a = c.args in
    let p = ends_refused _ 26 0 a.out.now a.lines.now a.notes.now
    (ap (λ (o : Outcome Cleaned). o then if_room (length a.out.now) (length a.lines.now) (length a.notes.now))
    (no_header a.text.now a.header a.unit (lt-leb a.header no_header_named (omega arith)))) in
    (p.answers, (p.text_is, (p.lines_are, p.notes_are)))

pub returns-then-not-is_unit : goal.returns-then-not-is_unit
unfolding is_header_option
returns-then-not-is_unit c =
    let a = c.args in
    let h = le-leb a.header no_header_named (omega arith) in
    let p = ends_refused _ 24 0 a.out.now a.lines.now a.notes.now
    (ap (λ (o : Outcome Cleaned). o then if_room (length a.out.now) (length a.lines.now) (length a.notes.now))
    (no_unit a.text.now a.header a.unit h (sym c.is_unit.ensures ∙ c.if-not-is_unit.true))) in
    (p.answers, (p.text_is, (p.lines_are, p.notes_are)))

pub returns-then-text-gt-FILE_LIMIT : goal.returns-then-text-gt-FILE_LIMIT
unfolding is_header_option
returns-then-text-gt-FILE_LIMIT c =
    let a = c.args in
    let h = le-leb a.header no_header_named (omega arith) in
    let p = ends_refused _ 21 4294967295 a.out.now a.lines.now a.notes.now
    (ap (λ (o : Outcome Cleaned). o then if_room (length a.out.now) (length a.lines.now) (length a.notes.now))
    (too_long a.text.now a.header a.unit h (sym c.is_unit.ensures ∙ c.if-not-is_unit.false)
    (lt-leb (length a.text.now) file_limit (omega arith)))) in
    (p.answers, (p.text_is, (p.lines_are, p.notes_are)))

pub returns : goal.returns
unfolding is_header_option
returns c =
    let a = c.args in
    let h = le-leb a.header no_header_named (omega arith) in
    let p = ends_same
    (sym (ap (λ (o : Outcome Cleaned). o then if_room (length a.out.now) (length a.lines.now) (length a.notes.now))
    (not_long a.text.now a.header a.unit h (sym c.is_unit.ensures ∙ c.if-not-is_unit.false)
    (le-leb (length a.text.now) file_limit (omega arith))))) c.clean_file.ensures in
    (p.answers, (p.text_is, (p.lines_are, p.notes_are)))
