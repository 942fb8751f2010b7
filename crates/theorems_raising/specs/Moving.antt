-- How sure a coefficient must be: where those with weight on a position's segment are off by at most d, the value there is off by at
-- most 256 d + s - 1, where s is the most weights that an ordinate of the segment has. So by at most 256 d + 2 anywhere.
use Rattle.std.specs.Prelude.{◌≡◌, true, List, ℕ, ◌+◌, ◌*◌, ◌-◌, ◌<◌, ◌≤◌, ℤ, pos, ◌-ℤ◌, nat_abs, length, get_or}
use Rattle.spec_spline.specs.Space.{Space, row_count}
use Rattle.spec_spline.specs.Table.{Table}
use Rattle.spec_spline.specs.Piecewise.{Accepted}
use Rattle.spec_spline.specs.Reading.{fineness, Wood, wood_index, segment_at, coefficient, value_at}
use Rattle.spec_spline.specs.CurveCall.{curve_outcome, values_after}
use Rattle.spec_spline.specs.ExactCurve.{most_weights, weighs_on, Legal}
use Rattle.theorems_values.specs.ValueLimits.{InSpan}

-- The coefficients of the rows with weight on segment j differ by at most d.
abbrev pub OffByAtMost : Space → Table → ℕ → ℕ → (ℕ → ℤ) → (ℕ → ℤ) → Type 0
OffByAtMost s t j d f g = (i : ℕ) → i < length t → weighs_on s t j i ≡ true → nat_abs (g i -ℤ f i) ≤ d

-- 256 d + s - 1 of segment j.
abbrev pub most_moved : Space → Table → ℕ → ℕ → ℕ
most_moved s t j d = fineness * d + (most_weights s t j - 1)

-- The values.
abbrev pub CloseCoefficientsCloseValues : Type 0
CloseCoefficientsCloseValues = (s : Space) (a : Accepted s) (wood other : Wood) (coefs moved : List ℤ) (d : ℕ) (x : ℤ) → InSpan s x
    → OffByAtMost s a.table (segment_at s x) d (coefficient wood coefs) (coefficient other moved)
    → nat_abs (value_at s a.table other moved x -ℤ value_at s a.table wood coefs x) ≤ most_moved s a.table (segment_at s x) d

-- No segment has an s above 3.
abbrev pub most_moved_anywhere : ℕ → ℕ
most_moved_anywhere d = fineness * d + 2

-- The cells after two legal calls with the same positions, where all coefficients are off by at most d.
abbrev pub CloseCells : Type 0
CloseCells = (s : Space) (coefs moved positions : List ℤ) (num_length den_length values_length : ℕ)
    → Legal s coefs positions num_length den_length values_length
    → Legal s moved positions num_length den_length values_length
    → (held before : List ℤ) (wood other : Wood) (d : ℕ)
    → ((i : ℕ) → i < row_count s → nat_abs (coefficient other moved i -ℤ coefficient wood coefs i) ≤ d)
    → (k : ℕ) → k < length positions
    → nat_abs (get_or (values_after (curve_outcome s moved positions num_length den_length values_length) before) (2 * k + wood_index other) (pos 0)
    -ℤ get_or (values_after (curve_outcome s coefs positions num_length den_length values_length) held) (2 * k + wood_index wood) (pos 0))
    ≤ most_moved_anywhere d
