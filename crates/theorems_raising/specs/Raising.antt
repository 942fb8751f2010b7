-- Raised coefficients lower no value: where none of the coefficients with weight on a position's segment is below that of another list, the
-- value there is not below the other's, rounding included, at any order. The two lists may belong to different wood parts, so that
-- the statement also compares the earlywood of a curve with its latewood.
use Rattle.std.specs.Prelude.{◌≡◌, true, List, ℕ, ◌+◌, ◌*◌, ◌<◌, ℤ, pos, length, get_or, ◌≤ℤ◌}
use Rattle.spec_spline.specs.Space.{Space, row_count}
use Rattle.spec_spline.specs.Table.{Table}
use Rattle.spec_spline.specs.Piecewise.{Accepted}
use Rattle.spec_spline.specs.Reading.{Wood, wood_index, segment_at, coefficient, value_at}
use Rattle.spec_spline.specs.CurveCall.{curve_outcome, values_after}
use Rattle.spec_spline.specs.ExactCurve.{weighs_on, Legal}
use Rattle.theorems_values.specs.ValueLimits.{InSpan}

-- Of the rows with weight on segment j none has a coefficient g below its coefficient f.
abbrev pub NowhereLower : Space → Table → ℕ → (ℕ → ℤ) → (ℕ → ℤ) → Type 0
NowhereLower s t j f g = (i : ℕ) → i < length t → weighs_on s t j i ≡ true → f i ≤ℤ g i

-- The values.
abbrev pub RaisedCoefficientsLowerNoValue : Type 0
RaisedCoefficientsLowerNoValue = (s : Space) (a : Accepted s) (wood other : Wood) (coefs raised : List ℤ) (x : ℤ) → InSpan s x
    → NowhereLower s a.table (segment_at s x) (coefficient wood coefs) (coefficient other raised)
    → value_at s a.table wood coefs x ≤ℤ value_at s a.table other raised x

-- The cells after two legal calls with the same positions, where no coefficient at all is lower.
abbrev pub RaisedCells : Type 0
RaisedCells = (s : Space) (coefs raised positions : List ℤ) (num_length den_length values_length : ℕ)
    → Legal s coefs positions num_length den_length values_length
    → Legal s raised positions num_length den_length values_length
    → (held before : List ℤ) (wood other : Wood) → ((i : ℕ) → i < row_count s → coefficient wood coefs i ≤ℤ coefficient other raised i)
    → (k : ℕ) → k < length positions
    → get_or (values_after (curve_outcome s coefs positions num_length den_length values_length) held) (2 * k + wood_index wood) (pos 0)
    ≤ℤ get_or (values_after (curve_outcome s raised positions num_length den_length values_length) before) (2 * k + wood_index other) (pos 0)
