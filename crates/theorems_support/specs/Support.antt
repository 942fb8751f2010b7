-- Local support (Speleers 2019, Proposition 4): which rows act on which segment, how many segments a row reaches, and that no other
-- coefficient moves a value.
use Rattle.std.specs.Prelude.{◌≡◌, true, List, ◌≢◌, ◌⊎◌, ℕ, suc, ◌+◌, ◌*◌, ◌<◌, ◌≤◌, ℤ, pos, length, get_or}
use Rattle.spec_spline.specs.Space.{Space, segments, degree, condition_count, row_count, rows_before}
use Rattle.spec_spline.specs.Piecewise.{Accepted}
use Rattle.spec_spline.specs.Reading.{segment_at, Wood, wood_index, coefficient, value_at}
use Rattle.spec_spline.specs.CurveCall.{curve_outcome, values_after}
use Rattle.spec_spline.specs.ExactCurve.{weighs_on, Legal}
use Rattle.theorems_values.specs.ValueLimits.{InSpan}

-- Row i is one of the p + 1 rows from v on, where p is the degree of segment j and v the sum, over the segments before it, of degree
-- minus the order behind each: `rowsBefore`, defined for the first segment of a part, is that sum for every segment.
pub record ActsOn (s : Space) (j i : ℕ) : Type 0 where
  pub from : rows_before s j ≤ i
  pub to : i ≤ rows_before s j + degree s j

-- Exactly these rows have weight on segment j.
abbrev pub RowsThatAct : Type 0
RowsThatAct = (s : Space) (a : Accepted s) (j i : ℕ) → j < segments s
    → (weighs_on s a.table j i ≡ true → ActsOn s j i) × (ActsOn s j i → weighs_on s a.table j i ≡ true)

-- A row that acts on a segment acts on none further than r + 1 segments behind it, where r is the order of the segment's right
-- join, and r + 1 its count of conditions: one that starts in a segment reaches at most r + 2 segments.
abbrev pub RowsReach : Type 0
RowsReach = (s : Space) (a : Accepted s) (j k i : ℕ) → suc j < segments s → k < segments s
    → weighs_on s a.table j i ≡ true → weighs_on s a.table k i ≡ true → k ≤ j + condition_count s j

-- No order is above 2, so no row acts on more than four segments.
abbrev pub FourSegmentsAtMost : Type 0
FourSegmentsAtMost = (s : Space) (a : Accepted s) (j k i : ℕ) → suc j < segments s → k < segments s
    → weighs_on s a.table j i ≡ true → weighs_on s a.table k i ≡ true → k ≤ j + 3

-- ---- values

-- Coefficients that agree on these rows give the same value.
abbrev pub OthersDoNotCount : Type 0
OthersDoNotCount = (s : Space) (a : Accepted s) (wood other : Wood) (coefs changed : List ℤ) (x : ℤ) → InSpan s x
    → ((i : ℕ) → i < row_count s → ActsOn s (segment_at s x) i → coefficient wood coefs i ≡ coefficient other changed i)
    → value_at s a.table wood coefs x ≡ value_at s a.table other changed x

-- Where one coefficient is changed, that of row r, no value changes on a segment on which row r does not act.
abbrev pub OneCoefficientActsHere : Type 0
OneCoefficientActsHere = (s : Space) (a : Accepted s) (wood : Wood) (coefs changed : List ℤ) (r : ℕ)
    → ((i : ℕ) → i < row_count s → i ≢ r → coefficient wood coefs i ≡ coefficient wood changed i)
    → (x : ℤ) → InSpan s x → (r < rows_before s (segment_at s x)) ⊎ (rows_before s (segment_at s x) + degree s (segment_at s x) < r)
    → value_at s a.table wood coefs x ≡ value_at s a.table wood changed x

-- The same of the cells after two legal calls with the same positions.
abbrev pub OtherCellsStay : Type 0
OtherCellsStay = (s : Space) (coefs changed positions : List ℤ) (num_length den_length values_length : ℕ)
    → Legal s coefs positions num_length den_length values_length
    → Legal s changed positions num_length den_length values_length
    → (held before : List ℤ) (wood : Wood) (r : ℕ)
    → ((i : ℕ) → i < row_count s → i ≢ r → coefficient wood coefs i ≡ coefficient wood changed i)
    → (k : ℕ) → k < length positions
    → let j = segment_at s (get_or positions k (pos 0)) in
    (r < rows_before s j) ⊎ (rows_before s j + degree s j < r)
    → get_or (values_after (curve_outcome s coefs positions num_length den_length values_length) held) (2 * k + wood_index wood) (pos 0)
    ≡ get_or (values_after (curve_outcome s changed positions num_length den_length values_length) before) (2 * k + wood_index wood) (pos 0)
