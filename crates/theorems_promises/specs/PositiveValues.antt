-- Positive coefficients are enough: where all coefficients of a wood part are above zero, so is each of its values, by 256 or more.
-- What follows for ring indices and for sheets is stated beside them, in crates indices and sheet_text.
use Rattle.std.specs.Prelude.{List, ℕ, ◌+◌, ◌*◌, ◌<◌, ℤ, pos, length, get_or, ◌≤ℤ◌, ◌<ℤ◌}
use Rattle.spec_spline.specs.Space.{Space, row_count}
use Rattle.spec_spline.specs.Piecewise.{Accepted}
use Rattle.spec_spline.specs.Reading.{fine, Wood, wood_index, coefficient, value_at}
use Rattle.spec_spline.specs.CurveCall.{curve_outcome, values_after}
use Rattle.spec_spline.specs.ExactCurve.{Legal}
use Rattle.theorems_values.specs.ValueLimits.{InSpan}

-- All n coefficients of a wood part are above zero.
abbrev pub PositiveCoefficients : Space → Wood → List ℤ → Type 0
PositiveCoefficients s wood coefs = (i : ℕ) → i < row_count s → pos 0 <ℤ coefficient wood coefs i

-- The least value of such a wood part: 256 times the least coefficient above zero.
abbrev pub least_positive : ℤ
least_positive = fine (pos 1)

-- Its value at every position of the span is at least that.
abbrev pub PositiveValues : Type 0
PositiveValues = (s : Space) (a : Accepted s) (wood : Wood) (coefs : List ℤ) → PositiveCoefficients s wood coefs → (x : ℤ) → InSpan s x
    → least_positive ≤ℤ value_at s a.table wood coefs x

-- And so is its cell for each position after a legal call.
abbrev pub PositiveCells : Type 0
PositiveCells = (s : Space) (coefs positions : List ℤ) (num_length den_length values_length : ℕ)
    → Legal s coefs positions num_length den_length values_length
    → (before : List ℤ) (wood : Wood) → PositiveCoefficients s wood coefs → (k : ℕ) → k < length positions
    → let cells = values_after (curve_outcome s coefs positions num_length den_length values_length) before in
    least_positive ≤ℤ get_or cells (2 * k + wood_index wood) (pos 0)
