-- A line whose series goes on keeps its last field.
use borrow.Author.Rules.{rules}
use mathlib.Core.Path.{sym, ◌∙◌}
use mir.Syntax.{w32}
use mir.Val.{SFits}
use Rattle.base_exact.proofs.Word.{to_z-of_z}
use Rattle.tucson_judge.proofs.Closing.{last_on, last-closed}
use Rattle.tucson_judge.proofs.last_after.Statement.{statement}
use Rattle.tucson_judge.proofs.last_after.Tie as tie

returns : tie.Need-returns-then-goes
returns c =
    let a = c.args in
    let f = c.ranges.last in
    simp to_z-of_z (sym (last_on a.unit a.last a.goes c.if-goes.true))

returns-2 : tie.Need-returns
returns-2 c =
    let s = c in
    let f = s.ranges.last in
    let r : SFits w32 c.closing_after.result = record { sfits = c.closing_after.type_inv } in
    simp to_z-of_z (simp to_z-of_z at c.closing_after.ensures) ∙ sym (last-closed s.args.unit s.args.last s.args.goes c.if-goes.false)

pub last_after_spec : {M : Type 1} → statement M
last_after_spec = tie.close (tie.spec returns (λ c κs. search rules) returns-2)
