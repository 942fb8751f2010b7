-- Below k stand the ordinates from column c on, from k on 0.
use Rattle.std.proofs.Common.{◌≡◌, ◌+◌, ◌++◌, get_or, drop, replicate, pos}
use Rattle.base_exact.specs.Tabulate.{tab}
use Rattle.curve_places.proofs.local_ordinates.Given as goal

abbrev pub invariant-loop-k : goal.invariant-loop-k
invariant-loop-k l = l.o ≡ tab l.k (λ j. get_or l.ordinates (l.c + j) (pos 0)) ++ drop l.k (replicate 6 (pos 0))
