-- What the cells are good for after a call that recovers coefficients: "The combination of the rows with these coefficients is the
-- list of ordinates, exactly, and no other list of n fractions is; after 19 none of any size is." (§ 12)
use Rattle.std.specs.Prelude.{◌≡◌, List, map, ℕ, ℤ, length}
use Rattle.base_exact.specs.Rational.{ℚ, int}
use Rattle.base_outcome.specs.Codes as codes
use Rattle.base_outcome.specs.Outcome.{answer, refusal}
use Rattle.spec_spline.specs.Space.{Space, column_count}
use Rattle.spec_spline.specs.Piecewise.{Accepted, combination}
use Rattle.spec_calls.specs.RecoveryCall.{listed, numerator_of, denominator_of, RecoveryEnd, recovery_end}
use Rattle.theorems_recovery.specs.Reproduction.{MissedCondition}

-- The answer buffers hold n fractions from the first cell on, and these alone reproduce the ordinates.
pub record HeldCoefficients (s : Space) (ordinates coef_num coef_den : List ℤ) (n : ℕ) (e : RecoveryEnd) : Type 0 where
  pub accepted : Accepted s
  pub coefficients : List ℚ
  pub count : length coefficients ≡ n
  pub numerators_are : e.coefficient_numerators ≡ listed numerator_of (length ordinates) coefficients coef_num
  pub denominators_are : e.coefficient_denominators ≡ listed denominator_of (length ordinates) coefficients coef_den
  pub reproduce : combination (column_count s) coefficients accepted.table ≡ map int ordinates
  pub no_others : (others : List ℚ) → length others ≡ n → combination (column_count s) others accepted.table ≡ map int ordinates
      → others ≡ coefficients

-- Every call that answers, whatever lists and buffers it was lent.
abbrev pub CellsReproduce : Type 0
CellsReproduce = (s : Space) (ordinates num den coef_num coef_den : List ℤ) (n : ℕ)
    → (recovery_end s ordinates num den coef_num coef_den).answers ≡ answer n
    → HeldCoefficients s ordinates coef_num coef_den n (recovery_end s ordinates num den coef_num coef_den)

-- The ordinates miss a join condition, so that no fractions reproduce them.
pub record NoCoefficients (s : Space) (ordinates : List ℤ) : Type 0 where
  pub missed : MissedCondition s ordinates
  pub none : (a : Accepted s) (coefficients : List ℚ) → combination (column_count s) coefficients a.table ≡ map int ordinates → ⊥

-- Every call that ends with 19.
abbrev pub NineteenMeansNone : Type 0
NineteenMeansNone = (s : Space) (ordinates num den coef_num coef_den : List ℤ) (place : ℕ)
    → (recovery_end s ordinates num den coef_num coef_den).answers ≡ refusal codes.no_coefficients place → NoCoefficients s ordinates
