-- What § 7 says of values: a curve call within the specification's limits on an
-- accepted space answers with two values for each position, each on either side of the exact curve by at most (s + p)/2, and
-- between 256 times the least and the greatest coefficient with weight on the position's segment; for each wood part apart
-- (§ 8). `CellsAreClose` says all this of the cells after a call.
use Rattle.std.specs.Prelude.{◌≡◌, List, ℕ, ◌+◌, ◌*◌, ◌<◌, ◌≤◌, T, ℤ, pos, nat_abs, length, get_or, ◌≤ℤ◌}
use Rattle.base_exact.specs.Rational.{ℚ, int, ◌+ᵠ◌, ◌/ᵠ◌}
use Rattle.base_exact.specs.Order.{◌≤ᵠ◌}
use Rattle.base_outcome.specs.Outcome.{answer}
use Rattle.spec_spline.specs.Space.{Space, segments, break, degree}
use Rattle.base_outcome.specs.Tests.{between}
use Rattle.spec_spline.specs.Table.{Table}
use Rattle.spec_spline.specs.Piecewise.{Accepted}
use Rattle.spec_spline.specs.Reading.{fineness, fine, segment_at, Wood, wood_index, value_at, values}
use Rattle.spec_spline.specs.CurveCall.{coefficient_limit, CurveResult, curve_outcome, returned, values_after}
use Rattle.spec_spline.specs.ExactCurve.{exact_curve, most_weights, least_on, greatest_on, Legal}

-- The position is neither below 256·x0 nor above 256·xm.
abbrev pub InSpan : Space → ℤ → Type 0
InSpan s x = T (between (fine (break s 0)) (fine (break s (segments s))) x)

-- (s + p)/2 of the position's segment.
abbrev pub closeness : Space → Table → ℤ → ℚ
closeness s t x = int (pos (most_weights s t (segment_at s x) + degree s (segment_at s x))) /ᵠ int (pos 2)

-- ---- a value, whatever the coefficients

-- "Every value is within (s + p)/2 of the exact curve" (§ 7): below it,
abbrev pub ExactAtMostValueAndCloseness : Type 0
ExactAtMostValueAndCloseness = (s : Space) (a : Accepted s) (wood : Wood) (coefs : List ℤ) (x : ℤ) → InSpan s x
    → exact_curve s a.table wood coefs x ≤ᵠ int (value_at s a.table wood coefs x) +ᵠ closeness s a.table x

-- and above it.
abbrev pub ValueAtMostExactAndCloseness : Type 0
ValueAtMostExactAndCloseness = (s : Space) (a : Accepted s) (wood : Wood) (coefs : List ℤ) (x : ℤ) → InSpan s x
    → int (value_at s a.table wood coefs x) ≤ᵠ exact_curve s a.table wood coefs x +ᵠ closeness s a.table x

-- Every value is "between 256 times the least and the greatest coefficient with weight on its segment" (§ 7): not below the least,
abbrev pub ValueAtLeastLeast : Type 0
ValueAtLeastLeast = (s : Space) (a : Accepted s) (wood : Wood) (coefs : List ℤ) (x : ℤ) → InSpan s x
    → fine (least_on s a.table wood coefs (segment_at s x)) ≤ℤ value_at s a.table wood coefs x

-- and not above the greatest.
abbrev pub ValueAtMostGreatest : Type 0
ValueAtMostGreatest = (s : Space) (a : Accepted s) (wood : Wood) (coefs : List ℤ) (x : ℤ) → InSpan s x
    → value_at s a.table wood coefs x ≤ℤ fine (greatest_on s a.table wood coefs (segment_at s x))

-- ---- a call within the specification's limits

-- What such a call has worked out: the accepted weights, and a pair of values for each position.
abbrev pub legal_result : (s : Space) → Accepted s → List ℤ → List ℤ → CurveResult
legal_result s a coefs positions = record { table = a.table; values = values s a.table coefs positions }

-- A legal call answers, its positions repeated, out of order or none at all.
abbrev pub LegalCallsAnswer : Type 0
LegalCallsAnswer = (s : Space) (coefs positions : List ℤ) (num_length den_length values_length : ℕ)
    (l : Legal s coefs positions num_length den_length values_length)
    → curve_outcome s coefs positions num_length den_length values_length ≡ answer (legal_result s l.accepted coefs positions)

-- It "answers with the count of positions" (§ 6).
abbrev pub LegalCallsReturnCount : Type 0
LegalCallsReturnCount = (s : Space) (coefs positions : List ℤ) (num_length den_length values_length : ℕ)
    → Legal s coefs positions num_length den_length values_length
    → returned (curve_outcome s coefs positions num_length den_length values_length) ≡ answer (length positions)

-- And only such calls answer.
abbrev pub AnsweredCallsAreLegal : Type 0
AnsweredCallsAreLegal = (s : Space) (coefs positions : List ℤ) (num_length den_length values_length : ℕ) (r : CurveResult)
    → curve_outcome s coefs positions num_length den_length values_length ≡ answer r
    → Legal s coefs positions num_length den_length values_length

-- ---- the cells after a call

-- 256 times the largest coefficient.
abbrev pub value_limit : ℕ
value_limit = fineness * coefficient_limit

-- All that § 7 says of the number v written for a wood part at position x, and its size.
pub record Close (s : Space) (t : Table) (wood : Wood) (coefs : List ℤ) (x v : ℤ) : Type 0 where
  pub exact_at_most : exact_curve s t wood coefs x ≤ᵠ int v +ᵠ closeness s t x
  pub at_most_exact : int v ≤ᵠ exact_curve s t wood coefs x +ᵠ closeness s t x
  pub at_least-least : fine (least_on s t wood coefs (segment_at s x)) ≤ℤ v
  pub at_most_greatest : v ≤ℤ fine (greatest_on s t wood coefs (segment_at s x))
  pub size : nat_abs v ≤ value_limit

-- After a legal call the value cells 2 k and 2 k + 1 hold such numbers for earlywood and latewood at position k: "two signed 32-bit
-- numbers a position, earlywood first, in list order" (§ 2).
abbrev pub CellsAreClose : Type 0
CellsAreClose = (s : Space) (coefs positions : List ℤ) (num_length den_length values_length : ℕ)
    (l : Legal s coefs positions num_length den_length values_length) (before : List ℤ) (k : ℕ) → k < length positions → (wood : Wood)
    → Close s l.accepted.table wood coefs (get_or positions k (pos 0))
    (get_or (values_after (curve_outcome s coefs positions num_length den_length values_length) before) (2 * k + wood_index wood) (pos 0))

-- The buffer is as long as it was, and the cells past twice the positions' count keep what they held.
abbrev pub CellsPastAreKept : Type 0
CellsPastAreKept = (s : Space) (coefs positions : List ℤ) (num_length den_length values_length : ℕ)
    → Legal s coefs positions num_length den_length values_length → (before : List ℤ) → length before ≡ values_length
    → (length (values_after (curve_outcome s coefs positions num_length den_length values_length) before) ≡ values_length)
    × ((k : ℕ) → 2 * length positions ≤ k
    → get_or (values_after (curve_outcome s coefs positions num_length den_length values_length) before) k (pos 0) ≡ get_or before k (pos 0))
