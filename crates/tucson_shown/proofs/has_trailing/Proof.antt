-- Trailing blanks are there where what is shown ends before the line's bytes stop.
use borrow.Author.Rules.{rules}
use mathlib.Core.Path.{sym}
use native.Mathlib.Omega.{arith}
use Rattle.tucson_lines.proofs.Lines.{end_within}
use Rattle.tucson_shown.proofs.Fields.{trailing}
use Rattle.tucson_shown.proofs.has_trailing.Statement.{statement}
use Rattle.tucson_shown.proofs.has_trailing.Tie as tie

shown-end-requires : tie.Need-shown_end-requires
shown-end-requires c κs =
    let s = c in
    let told = c.line_stop-stop.ensures in
    record { ordered = told.after; within = omega (arith, told.before, end_within s.args.text.now s.args.from s.args.end s.requires) }

returns : tie.Need-returns
returns c =
    let k = c in
    let s = k in
    let stop = k.line_stop-stop.ensures in
    sym (trailing s.args.text.now s.args.from s.args.end k.line_stop-stop.result c.shown_end.result
    (omega (arith, stop.before, end_within s.args.text.now s.args.from s.args.end s.requires)) stop c.shown_end.ensures)

pub has_trailing_spec : {M : Type 1} → statement M
has_trailing_spec = tie.close (tie.spec (λ c κs. search rules) shown-end-requires returns)
