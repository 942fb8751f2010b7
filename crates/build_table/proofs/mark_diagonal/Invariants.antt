-- The places of the diagonal passed are 1 and the other cells as they came.
use Rattle.std.proofs.Common.{◌≡◌}
use Rattle.build_cells.specs.Region.{marked}
use Rattle.build_table.proofs.mark_diagonal.Given as goal

abbrev pub invariant-loop-i : goal.invariant-loop-i
invariant-loop-i l = l.num ≡ marked l.i l.initial.num
