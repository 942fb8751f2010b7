-- `curve_ordinates::at_most` meets its contract. Assumes nothing.
use mathlib.Core.Path.{sym}
use mir.ValLaws.{to_z-of_z}
use Rattle.base_exact.proofs.Decide.{cond_true, cond_false}
use Rattle.curve_ordinates.proofs.at_most.Statement.{statement}
use Rattle.curve_ordinates.proofs.at_most.Tie as tie

returns : tie.Need-returns-then-high-x
returns c =
    let f = c.before.ranges.high in let g = c.before.ranges.x in simp to_z-of_z (sym (cond_true _ _ (simp to_z-of_z at c.if-high-x.true)))

returns-2 : tie.Need-returns
returns-2 c =
    let f = c.before.ranges.high in let g = c.before.ranges.x in simp to_z-of_z (sym (cond_false _ _ (simp to_z-of_z at c.if-high-x.false)))

pub at_most_spec : {M : Type 1} → statement M
at_most_spec = tie.close (tie.spec returns returns-2)
