-- Below i stand the positions of the first i rings, from there on what the list held.
use Rattle.std.proofs.Common.{◌≡◌, ◌++◌, drop}
use Rattle.base_exact.specs.Tabulate.{tab}
use Rattle.indices.specs.Words.{word_position}
use Rattle.indices.proofs.fill_positions.Given as goal

abbrev pub invariant-loop-i : goal.invariant-loop-i
invariant-loop-i l = l.positions ≡ tab l.i (word_position l.first) ++ drop l.i l.fn.positions
