-- What undoing a step asks of coefficients, and what its counted fractions ask.
use Rattle.std.specs.Prelude.{List, ◌≢◌, ◌≡◌, ℕ, ◌≤◌, pos, length}
use Rattle.base_exact.specs.Rational.{ℚ}
use Rattle.build_factors.specs.Jumps.{AllFit}
use Rattle.base_fraction.specs.Machine.{FractionFits}
use Rattle.base_fraction.specs.Fractions.{fractions}
use Rattle.base_fraction.specs.declared.Fraction.{Fraction}
use Rattle.base_fraction.specs.declared.arrays.Fractions.{Fractions}
use Rattle.build_entry.specs.Factor.{UnitFactor}

-- At least n fractions, all of which fit.
pub record FractionsFit (cs : Fractions) (n : ℕ) : Type 0 where
  pub of : List ℚ
  pub is : cs ≡ fractions of
  pub fit : AllFit of
  pub long : n ≤ length of

-- The sum so far and both factors of one more product fit.
pub record TermAsks (sum coefficient jump : Fraction) : Type 0 where
  pub sum_fits : FractionFits sum
  pub coefficient-fits : FractionFits coefficient
  pub jump_fits : FractionFits jump

-- The factor is from 0 to 1 and not zero, and the coefficients of its row and of the row before fit.
pub record CoefficientAsks (w coefficient before : Fraction) : Type 0 where
  pub factor : UnitFactor w
  pub factor_nonzero : w.num ≢ pos 0
  pub coefficient-fits : FractionFits coefficient
  pub before-fits : FractionFits before
