-- Below i stand the indices of the first i rings, from there on what the cells held.
use Rattle.std.proofs.Common.{◌≡◌, ◌++◌, drop}
use Rattle.base_exact.specs.Tabulate.{tab}
use Rattle.indices_rings.specs.Cells.{cell_index}
use Rattle.indices_rings.proofs.write_indices.Given as goal

abbrev pub invariant-loop-i : goal.invariant-loop-i
invariant-loop-i l = l.indices ≡ tab l.i (cell_index l.widths l.values l.offset) ++ drop l.i l.fn.indices
