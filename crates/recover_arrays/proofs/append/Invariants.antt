-- Before the turn at i the arrays hold the coefficients and the first i of the ordinates behind them.
use Rattle.std.proofs.Common.{◌≡◌, ◌+◌, ◌++◌, List, length, get_or, pos}
use Rattle.base_exact.specs.Rational.{ℚ, int}
use Rattle.base_exact.specs.Tabulate.{tab}
use Rattle.base_fraction.specs.Fractions.{fractions}
use Rattle.recover_arrays.proofs.append.Given as goal

abbrev pub invariant-loop-i : goal.invariant-loop-i
invariant-loop-i l = (ps : List ℚ) → l.fn.cs ≡ fractions ps → length ps ≡ l.rows
    → l.all ≡ fractions (ps ++ tab l.i (λ k. int (get_or l.ordinates (l.column + k) (pos 0))))
