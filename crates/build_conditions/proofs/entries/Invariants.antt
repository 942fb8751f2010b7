-- Below e stand the entries, from e on the zeros of the start.
use Rattle.std.proofs.Common.{◌≡◌, ◌++◌, drop, replicate, pos}
use Rattle.base_exact.specs.Tabulate.{tab}
use Rattle.build_conditions.specs.Terms.{scale_of}
use Rattle.build_conditions.proofs.entries.Given as goal

abbrev pub invariant-loop-e : goal.invariant-loop-e
invariant-loop-e l = l.values ≡ tab l.e (scale_of l.s.left l.s.right l.k) ++ drop l.e (replicate 6 (pos 0))
