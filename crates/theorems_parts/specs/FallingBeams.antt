-- A list that does not rise over a whole beam gives values that do not rise over the whole beam, across its discontinuities too, where no
-- join has an order above 1; likewise for a list that does not fall. Crate theorems_promises, specs/FallingCurves, has this of one
-- part.
use Rattle.std.specs.Prelude.{List, ℕ, suc, ◌+◌, ◌*◌, ◌<◌, ℤ, pos, length, get_or, ◌≤ℤ◌}
use Rattle.spec_spline.specs.Space.{Space, segments, order, row_count}
use Rattle.spec_spline.specs.Piecewise.{Accepted}
use Rattle.spec_spline.specs.Reading.{Wood, wood_index, coefficient, value_at}
use Rattle.spec_spline.specs.CurveCall.{curve_outcome, values_after}
use Rattle.spec_spline.specs.ExactCurve.{Legal}
use Rattle.theorems_values.specs.ValueLimits.{InSpan}
use Rattle.theorems_promises.specs.FallingCurves.{falling_order}

-- No join of the beam has a greater order.
abbrev pub LowBeam : Space → Type 0
LowBeam s = (j : ℕ) → suc j < segments s → order s j ≤ℤ falling_order

-- Over all n rows the coefficients do not rise: none is above the one before it.
abbrev pub FallsAlong : Space → Wood → List ℤ → Type 0
FallsAlong s wood coefs = (i : ℕ) → suc i < row_count s → coefficient wood coefs (suc i) ≤ℤ coefficient wood coefs i

-- They do not fall.
abbrev pub ClimbsAlong : Space → Wood → List ℤ → Type 0
ClimbsAlong s wood coefs = (i : ℕ) → suc i < row_count s → coefficient wood coefs i ≤ℤ coefficient wood coefs (suc i)

-- ---- values

abbrev pub FallingBeamsFall : Type 0
FallingBeamsFall = (s : Space) (x : Accepted s) → LowBeam s → (wood : Wood) (coefs : List ℤ) → FallsAlong s wood coefs
    → (y z : ℤ) → InSpan s y → InSpan s z → y ≤ℤ z → value_at s x.table wood coefs z ≤ℤ value_at s x.table wood coefs y

abbrev pub ClimbingBeamsClimb : Type 0
ClimbingBeamsClimb = (s : Space) (x : Accepted s) → LowBeam s → (wood : Wood) (coefs : List ℤ) → ClimbsAlong s wood coefs
    → (y z : ℤ) → InSpan s y → InSpan s z → y ≤ℤ z → value_at s x.table wood coefs y ≤ℤ value_at s x.table wood coefs z

-- ---- the cells after a legal call, for any two of its positions, k the earlier and m the later one

abbrev pub FallingBeamCells : Type 0
FallingBeamCells = (s : Space) (coefs positions : List ℤ) (num_length den_length values_length : ℕ)
    → Legal s coefs positions num_length den_length values_length
    → (held : List ℤ) (wood : Wood) → LowBeam s → FallsAlong s wood coefs
    → (k m : ℕ) → k < length positions → m < length positions → get_or positions k (pos 0) ≤ℤ get_or positions m (pos 0)
    → let cells = values_after (curve_outcome s coefs positions num_length den_length values_length) held in
    get_or cells (2 * m + wood_index wood) (pos 0) ≤ℤ get_or cells (2 * k + wood_index wood) (pos 0)

abbrev pub ClimbingBeamCells : Type 0
ClimbingBeamCells = (s : Space) (coefs positions : List ℤ) (num_length den_length values_length : ℕ)
    → Legal s coefs positions num_length den_length values_length
    → (held : List ℤ) (wood : Wood) → LowBeam s → ClimbsAlong s wood coefs
    → (k m : ℕ) → k < length positions → m < length positions → get_or positions k (pos 0) ≤ℤ get_or positions m (pos 0)
    → let cells = values_after (curve_outcome s coefs positions num_length den_length values_length) held in
    get_or cells (2 * k + wood_index wood) (pos 0) ≤ℤ get_or cells (2 * m + wood_index wood) (pos 0)
