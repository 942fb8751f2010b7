-- `is_low` meets its contract: the second test is made only where the first fails.
use Rattle.base_exact.proofs.Word.{to_z-of_z}
use Rattle.spec_sheet.specs.Printout.{is_low}
use Rattle.sheet_lows.proofs.is_low.Statement.{statement}
use Rattle.sheet_lows.proofs.is_low.Tie as tie

returns : tie.Need-returns-then-early-le0
unfolding is_low
returns c = let f = c.ranges.early in simp to_z-of_z (rw (simp to_z-of_z at c.if-early-le0.true))

returns-2 : tie.Need-returns-else-early-le0
unfolding is_low
returns-2 c = let f = c.ranges.early in let g = c.ranges.late in simp to_z-of_z (rw (simp to_z-of_z at c.if-early-le0.false))

pub is_low_spec : {M : Type 1} → statement M
is_low_spec = tie.close (tie.spec returns returns-2)
