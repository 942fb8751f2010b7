-- Nothing is shown where what is shown ends at the line's beginning.
use borrow.Author.Rules.{rules}
use mathlib.Core.Path.{sym}
use native.Mathlib.Omega.{arith}
use Rattle.tucson_lines.proofs.Lines.{end_within}
use Rattle.tucson_shown.proofs.Fields.{blank-line}
use Rattle.tucson_shown.proofs.is_blank_line.Statement.{statement}
use Rattle.tucson_shown.proofs.is_blank_line.Tie as tie

returns : tie.Need-returns
returns c =
    let s = c in
    let told = c.shown_to.ensures in
    sym (blank-line s.args.text.now s.args.from s.args.end c.shown_to.result
    (omega (arith, told.before, end_within s.args.text.now s.args.from s.args.end s.requires)) told)

pub is_blank_line_spec : {M : Type 1} → statement M
is_blank_line_spec = tie.close (tie.spec (λ c κs. search rules) returns)
