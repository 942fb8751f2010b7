-- Recovered coefficients in every legal space (§ 12), also where building gives 8: after 19 none of any size would
-- reproduce the ordinates, and the ordinates of a curve that meets all conditions are refused for the size of a fraction alone.
-- The weights here are the published construction's, which every legal space has.
use Rattle.std.specs.Prelude.{◌≡◌, false, List, map, ℕ, ◌<◌, ◌≤◌, ℤ, length}
use Rattle.base_exact.specs.Rational.{ℚ, int}
use Rattle.base_outcome.specs.Codes as codes
use Rattle.base_outcome.specs.Outcome.{Outcome, answer, refusal}
use Rattle.spec_spline.specs.Space.{Space, column_count}
use Rattle.spec_spline.specs.Table.{table_cells}
use Rattle.spec_published.specs.Published.{extraction}
use Rattle.spec_spline.specs.Piecewise.{MeetsAll, combination}
use Rattle.theorems_weights.specs.PublishedBasis.{OneCombination}
use Rattle.spec_calls.specs.Recovery.{Combination, recovered}
use Rattle.spec_calls.specs.RecoveryCall.{bad_ordinate, recovery_end}
use Rattle.theorems_basis.specs.Basis.{LegalLists}

-- These fractions, as many as there may be, reproduce the ordinates.
abbrev pub Reproduce : Space → List ℤ → List ℚ → Type 0
Reproduce s ordinates coefficients = combination (column_count s) coefficients (extraction s) ≡ map int ordinates

-- "after 19 none of any size is" (§ 12), in every legal space.
abbrev pub NoneAfterNineteen : Type 0
NoneAfterNineteen = (s : Space) → LegalLists s → (ordinates : List ℤ) → length ordinates ≡ column_count s
    → (place : ℕ) → recovered s ordinates ≡ refusal codes.no_coefficients place
    → (coefficients : List ℚ) → Reproduce s ordinates coefficients → ⊥

-- Nor after a call that ends with 19, whatever lists and buffers it was lent.
abbrev pub NoneAfterCallsWithNineteen : Type 0
NoneAfterCallsWithNineteen = (s : Space) (ordinates num den coef_num coef_den : List ℤ) (place : ℕ)
    → (recovery_end s ordinates num den coef_num coef_den).answers ≡ refusal codes.no_coefficients place
    → (coefficients : List ℚ) → Reproduce s ordinates coefficients → ⊥

-- An answer, code 8 or code 20.
pub data AnsweredOrTooLarge {A : Type 0} (o : Outcome A) : Type 0 where
  answered : (a : A) → o ≡ answer a → AnsweredOrTooLarge o
  weights_too_large : (place : ℕ) → o ≡ refusal codes.tooLarge place → AnsweredOrTooLarge o
  coefficients_too_large : (place : ℕ) → o ≡ refusal codes.too_large_to_undo place → AnsweredOrTooLarge o

-- The ordinates of a curve that meets all join conditions of a legal space are refused for the size of a fraction alone.
abbrev pub RefusedForSizeAlone : Type 0
RefusedForSizeAlone = (s : Space) → LegalLists s → (ordinates : List ℤ) → MeetsAll s (map int ordinates)
    → AnsweredOrTooLarge (recovered s ordinates)

-- Likewise from a call with such ordinates in range and buffers that are long enough.
abbrev pub CallsRefusedForSizeAlone : Type 0
CallsRefusedForSizeAlone = (s : Space) → LegalLists s → (ordinates num den coef_num coef_den : List ℤ) → MeetsAll s (map int ordinates)
    → ((i : ℕ) → i < length ordinates → bad_ordinate ordinates i ≡ false)
    → table_cells ≤ length num → table_cells ≤ length den → length ordinates ≤ length coef_num → length ordinates ≤ length coef_den
    → AnsweredOrTooLarge (recovery_end s ordinates num den coef_num coef_den).answers

-- Whether they are answered or not, one list of n fractions reproduces the ordinates of such a curve, and no other.
abbrev pub CurvesHaveOneList : Type 0
CurvesHaveOneList = (s : Space) → LegalLists s → (ordinates : List ℤ) → MeetsAll s (map int ordinates)
    → OneCombination s (extraction s) (map int ordinates)

-- Where they are answered, the weights are the published ones, and the coefficients reproduce the ordinates: they are this list.
abbrev pub AnswersAreOfPublishedRows : Type 0
AnswersAreOfPublishedRows = (s : Space) → LegalLists s → (ordinates : List ℤ) → length ordinates ≡ column_count s
    → (r : Combination) → recovered s ordinates ≡ answer r
    → (r.table ≡ extraction s) × Reproduce s ordinates r.coefficients
