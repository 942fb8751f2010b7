-- What recovered coefficients are good for: "The combination of the rows with these coefficients is the list of ordinates, exactly,
-- and no other list of n fractions is; after 19 none of any size is." (§ 12) All sums are exact.
use Rattle.std.specs.Prelude.{◌≡◌, true, List, map, ℕ, suc, ◌+◌, ◌-◌, ◌<◌, ℤ, pos, length, get_or}
use Rattle.base_exact.specs.Rational.{ℚ, int, ◌*ᵠ◌}
use Rattle.base_exact.specs.Sum.{sum}
use Rattle.base_outcome.specs.Codes as codes
use Rattle.base_outcome.specs.Outcome.{Outcome, answer, refusal}
use Rattle.spec_spline.specs.Space.{Space, segments, checked, degree, condition_count, first_column, column_count, row_count}
use Rattle.spec_spline.specs.Table.{entry}
use Rattle.spec_spline.specs.Build.{weights, clears}
use Rattle.spec_spline.specs.Piecewise.{Accepted, Meets, MeetsAll, combination}
use Rattle.spec_spline.specs.Reading.{Wood, fine, coefficient, fine_width, offset}
use Rattle.spec_spline.specs.ExactCurve.{bernstein_at, exact_on}
use Rattle.spec_calls.specs.Recovery.{Combination, recovered}

-- An answer has the build's own weights, and a coefficient for each of their n rows.
abbrev pub AnswersHaveTheWeights : Type 0
AnswersHaveTheWeights = (s : Space) → checked s ≡ answer s → (ordinates : List ℤ) → length ordinates ≡ column_count s → (r : Combination)
    → recovered s ordinates ≡ answer r
    → (weights s ≡ answer r.table) × (length r.coefficients ≡ row_count s)

-- "The combination of the rows with these coefficients is the list of ordinates, exactly" (§ 12).
abbrev pub AnswersReproduce : Type 0
AnswersReproduce = (s : Space) → checked s ≡ answer s → (ordinates : List ℤ) → length ordinates ≡ column_count s → (r : Combination)
    → recovered s ordinates ≡ answer r
    → combination (column_count s) r.coefficients r.table ≡ map int ordinates

-- "and no other list of n fractions is" (§ 12).
abbrev pub NoOthersReproduce : Type 0
NoOthersReproduce = (s : Space) → checked s ≡ answer s → (ordinates : List ℤ) → length ordinates ≡ column_count s → (r : Combination)
    → recovered s ordinates ≡ answer r
    → (others : List ℚ) → length others ≡ row_count s → combination (column_count s) others r.table ≡ map int ordinates
    → others ≡ r.coefficients

-- A join condition that these ordinates miss.
pub record MissedCondition (s : Space) (ordinates : List ℤ) : Type 0 where
  pub join : ℕ
  pub order : ℕ
  pub join-below : join < segments s - 1
  pub order_below : order < condition_count s join
  pub missed : Meets s (map int ordinates) join order → ⊥

-- After 19 the ordinates miss a join condition.
abbrev pub NineteenMissesACondition : Type 0
NineteenMissesACondition = (s : Space) → checked s ≡ answer s → (ordinates : List ℤ) → length ordinates ≡ column_count s → (place : ℕ)
    → recovered s ordinates ≡ refusal codes.no_coefficients place
    → MissedCondition s ordinates

-- "after 19 none of any size is" (§ 12).
abbrev pub NineteenHasNoCoefficients : Type 0
NineteenHasNoCoefficients = (s : Space) (a : Accepted s) (ordinates : List ℤ) → length ordinates ≡ column_count s → (place : ℕ)
    → recovered s ordinates ≡ refusal codes.no_coefficients place
    → (coefficients : List ℚ) → combination (column_count s) coefficients a.table ≡ map int ordinates → ⊥

-- Coefficients that are 256 times whole numbers, given to the curve call, have exactly these ordinates in its exact curve.
abbrev pub ExactCurveHasTheOrdinates : Type 0
ExactCurveHasTheOrdinates = (s : Space) → checked s ≡ answer s → (ordinates : List ℤ) → length ordinates ≡ column_count s → (r : Combination)
    → recovered s ordinates ≡ answer r
    → (part : Wood) (coefs : List ℤ) → ((i : ℕ) → i < row_count s → entry r.coefficients i ≡ int (fine (coefficient part coefs i)))
    → (j : ℕ) → j < segments s → (x : ℤ)
    → exact_on s r.table part coefs j x ≡ sum (suc (degree s j))
    (λ t. int (get_or ordinates (first_column s j + t) (pos 0)) *ᵠ bernstein_at (degree s j) (fine_width s j) (offset s j x) t)

-- 8 and 9 are of "all that building does, with its own 8 and 9" (§ 12): they come where, and as, the build gives them.
abbrev pub EightAndNineAreTheBuilds : Type 0
EightAndNineAreTheBuilds = (s : Space) (ordinates : List ℤ) (code place : ℕ) → clears code ≡ true
    → recovered s ordinates ≡ refusal code place → weights s ≡ refusal code place

-- What is recovered, or code 20.
pub data RecoveredOrTooLarge (o : Outcome Combination) : Type 0 where
  recovers : (r : Combination) → o ≡ answer r → RecoveredOrTooLarge o
  too_large : (place : ℕ) → o ≡ refusal codes.too_large_to_undo place → RecoveredOrTooLarge o

-- The ordinates of a piecewise curve that meets all join conditions of an accepted space are refused for their sizes alone.
abbrev pub CurvesAreRecovered : Type 0
CurvesAreRecovered = (s : Space) → Accepted s → (ordinates : List ℤ) → MeetsAll s (map int ordinates)
    → RecoveredOrTooLarge (recovered s ordinates)
