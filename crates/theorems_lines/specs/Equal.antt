-- Equal coefficients give a constant curve, exactly: 256 times the coefficient at every position, whatever is rounded.
use Rattle.std.specs.Prelude.{◌≡◌, List, ℕ, ◌+◌, ◌*◌, ◌<◌, ℤ, pos, length, get_or}
use Rattle.spec_spline.specs.Space.{Space, row_count}
use Rattle.spec_spline.specs.Piecewise.{Accepted}
use Rattle.spec_spline.specs.Reading.{fine, Wood, wood_index, coefficient, value_at}
use Rattle.spec_spline.specs.CurveCall.{curve_outcome, values_after}
use Rattle.spec_spline.specs.ExactCurve.{Legal}
use Rattle.theorems_values.specs.ValueLimits.{InSpan}

-- All n coefficients of a wood part are q.
abbrev pub AllEqual : Space → Wood → List ℤ → ℤ → Type 0
AllEqual s wood coefs q = (i : ℕ) → i < row_count s → coefficient wood coefs i ≡ q

abbrev pub EqualCoefficientsAreKept : Type 0
EqualCoefficientsAreKept = (s : Space) (a : Accepted s) (wood : Wood) (coefs : List ℤ) (q : ℤ) → AllEqual s wood coefs q
    → (x : ℤ) → InSpan s x → value_at s a.table wood coefs x ≡ fine q

-- The cells after a legal call.
abbrev pub EqualCells : Type 0
EqualCells = (s : Space) (coefs positions : List ℤ) (num_length den_length values_length : ℕ)
    → Legal s coefs positions num_length den_length values_length
    → (held : List ℤ) (wood : Wood) (q : ℤ) → AllEqual s wood coefs q → (k : ℕ) → k < length positions
    → get_or (values_after (curve_outcome s coefs positions num_length den_length values_length) held) (2 * k + wood_index wood) (pos 0) ≡ fine q
