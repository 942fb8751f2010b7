-- The machine's form of the counted fractions that the definitions of crate spec_spline give, and what a sum with one more product asks.
use Rattle.std.specs.Prelude.{◌≡◌, ◌^◌, ◌<◌, ℤ, nat_abs, Option, Some, None}
use Rattle.base_exact.specs.Rational.{ℚ}
use Rattle.base_fraction.specs.Machine.{fraction, value, FractionFits}
use Rattle.base_fraction.specs.declared.Fraction.{Fraction}
use Rattle.base_outcome.specs.Outcome.{Outcome, answer, refusal}

-- A counted fraction.
unfoldable pub counted : Outcome ℚ → Option Fraction
counted (answer q) = Some (fraction q)
counted (refusal code place) = None

-- The sum so far and both factors of the product fit, and the sum is in lowest terms.
pub record ProductAsks (sum weight : Fraction) (condition : ℤ) : Type 0 where
  pub sum_fits : FractionFits sum
  pub weight-fits : FractionFits weight
  pub condition_small : nat_abs condition < 2 ^ 31
  pub sum_lowest : sum ≡ fraction (value sum)
