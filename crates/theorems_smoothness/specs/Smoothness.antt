-- What the join conditions of the specification mean: at a join the derivatives of the polynomials on its two sides agree. So the
-- combinations of the rows are exactly the smooth piecewise curves, and the exact curve is made of such polynomials.
use Rattle.std.specs.Prelude.{◌≡◌, ◌↔◌, List, ℕ, suc, ◌+◌, ◌-◌, ◌<◌, ℤ, pos, negsuc, length}
use Rattle.base_exact.specs.Rational.{ℚ, int, ◌/ᵠ◌}
use Rattle.base_exact.specs.Tabulate.{tab}
use Rattle.base_outcome.specs.Outcome.{answer}
use Rattle.spec_spline.specs.Space.{Space, segments, break, degree, order, width, first_column, column_count, condition_count, checked}
use Rattle.spec_spline.specs.Table.{Row, Table, entry}
use Rattle.spec_spline.specs.Piecewise.{Meets, Accepted, combination}
use Rattle.spec_spline.specs.Reading.{fineness, fine, segment_at, Wood, coefficient, offset}
use Rattle.spec_spline.specs.ExactCurve.{exact_curve}
use Rattle.theorems_weights.specs.PublishedBasis.{OneCombination}
use Rattle.theorems_values.specs.ValueLimits.{InSpan}
use Rattle.theorems_smoothness.specs.Polynomial.{Polynomial, value, iterated}
use Rattle.theorems_smoothness.specs.Bernstein.{bernstein_form}

-- The polynomial of segment i with the ordinates o, in the ring count from breakpoint i.
unfoldable pub piece : Space → Row → ℕ → Polynomial
piece s o i = bernstein_form (width s i) (degree s i) (λ t. entry o (first_column s i + t))

-- The k-th derivative at join j from the left: that of the piece before the join, at its end.
abbrev pub left_derivative : Space → Row → ℕ → ℕ → ℚ
left_derivative s o j k = value (iterated k (piece s o j)) (int (pos (width s j)))

-- The k-th derivative at join j from the right: that of the piece after the join, at its start.
abbrev pub right_derivative : Space → Row → ℕ → ℕ → ℚ
right_derivative s o j k = value (iterated k (piece s o (suc j))) (int (pos 0))

-- In a space that passes the checks of its lists, the condition of order k at a join holds exactly where the k-th derivatives agree.
abbrev pub ConditionsAreSmoothness : Type 0
ConditionsAreSmoothness = (s : Space) → checked s ≡ answer s → (o : Row) (j k : ℕ) → j < segments s - 1 → k < condition_count s j
    → Meets s o j k ↔ (left_derivative s o j k ≡ right_derivative s o j k)

-- A smooth piecewise curve: one ordinate per column, and at every join the same derivatives from both sides, of all orders from 0 to the
-- join's.
pub record Smooth (s : Space) (o : Row) : Type 0 where
  pub columns : length o ≡ column_count s
  pub agree : (j k : ℕ) → j < segments s - 1 → k < condition_count s j → left_derivative s o j k ≡ right_derivative s o j k

-- Every combination of the rows of an accepted space is smooth.
abbrev pub CombinationsAreSmooth : Type 0
CombinationsAreSmooth = (s : Space) (a : Accepted s) (multipliers : List ℚ) → Smooth s (combination (column_count s) multipliers a.table)

-- Every smooth piecewise curve is one and only one combination of the rows.
abbrev pub SmoothCurvesAreCombinations : Type 0
SmoothCurvesAreCombinations = (s : Space) (a : Accepted s) (o : Row) → Smooth s o → OneCombination s a.table o

-- ---- the exact curve

-- The combination whose multipliers are 256 times a wood part's coefficients.
abbrev pub curve_ordinates : Space → Table → Wood → List ℤ → Row
curve_ordinates s t wood coefs = combination (column_count s) (tab (length t) (λ i. int (fine (coefficient wood coefs i)))) t

-- The specification's exact curve at a position is the value of its segment's polynomial with these ordinates, 256 positions being a ring.
abbrev pub ExactCurveIsPolynomial : Type 0
ExactCurveIsPolynomial = (s : Space) (a : Accepted s) (wood : Wood) (coefs : List ℤ) (x : ℤ) → InSpan s x
    → exact_curve s a.table wood coefs x ≡ value (piece s (curve_ordinates s a.table wood coefs) (segment_at s x))
    (int (offset s (segment_at s x) x) /ᵠ int (pos fineness))

-- At a join of order -1 it is where the piece before the join ends.
abbrev pub ExactCurveAtDiscontinuity : Type 0
ExactCurveAtDiscontinuity = (s : Space) (a : Accepted s) (wood : Wood) (coefs : List ℤ) (j : ℕ) → suc j < segments s → order s j ≡ negsuc 0
    → exact_curve s a.table wood coefs (fine (break s (suc j))) ≡ left_derivative s (curve_ordinates s a.table wood coefs) j 0

-- At a join of any other order it is where the piece after the join starts.
abbrev pub ExactCurveAtOtherJoin : Type 0
ExactCurveAtOtherJoin = (s : Space) (a : Accepted s) (wood : Wood) (coefs : List ℤ) (j : ℕ) → suc j < segments s → ¬ (order s j ≡ negsuc 0)
    → exact_curve s a.table wood coefs (fine (break s (suc j))) ≡ right_derivative s (curve_ordinates s a.table wood coefs) j 0
