-- What the check refuses, or the buffers filled.
use Rattle.std.proofs.Common.{sym, ◌∙◌, ap, length}
use Rattle.std.proofs.lemmas.Result.{err_from_is_err_and}
use mathlib.Core.Option.{none}
use Rattle.base_outcome.specs.Outcome.{Outcome, ◌then◌}
use Rattle.base_outcome.specs.Machine.{passed}
use Rattle.base_text.specs.Bytes.{Text}
use Rattle.spec_tucson.specs.Line.{lines_of}
use Rattle.spec_tucson.specs.KeptLines.{kept_lines}
use Rattle.spec_tucson.specs.CleanCall.{Cleaned, checked_lines, if_room}
use Rattle.tucson_clean.proofs.Room.{ends_refused, ends_same}
use Rattle.tucson_clean.proofs.Below.{below_legal, below_refused}
use Rattle.tucson_clean.proofs.clean_below.Goals as goal

pub returns-in_err-check : goal.returns-in_err-check
returns-in_err-check c =
    let a = c.args in
    let r = c.in_err-check.field-0.0 in
    let told = ap (λ (x : Text). passed (kept_lines a.header 1 none (lines_of x) then checked_lines a.unit)) (sym c.requires.body_is)
    ∙ sym c.in_err-check.ensures in
    let p = err_from_is_err_and c.from_residual.result c.from_residual.ensures.1 in
    rw (p.1, p.2)
    (ends_refused _ r.code r.place a.out.now a.lines.now a.notes.now
    (ap (λ (o : Outcome Cleaned). o then if_room (length a.out.now) (length a.lines.now) (length a.notes.now))
    (below_refused a.text.now a.unit a.header r.code r.place told)))

pub returns : goal.returns
returns c =
    let a = c.args in
    let told = ap (λ (x : Text). passed (kept_lines a.header 1 none (lines_of x) then checked_lines a.unit)) (sym c.requires.body_is)
    ∙ sym c.in_ok-check.ensures in
    let m = below_legal a.text.now a.unit a.header told in
    ends_same (sym (ap (λ (o : Outcome Cleaned). o then if_room (length a.out.now) (length a.lines.now) (length a.notes.now)) m.made))
    (c.fill.ensures m.lines m.kept)
