-- A falling list gives a falling curve: where no join inside a part of the beam has an order above 1 and the coefficients of a wood
-- part do not rise over the rows of that part, its values, the rounded numbers themselves, do not rise from any position to a later
-- one of the same part. The mirror holds for lists that do not fall. At order 2 it is false by one unit (proofs/FallingInstances).
use Rattle.std.specs.Prelude.{List, ℕ, suc, ◌+◌, ◌*◌, ◌<◌, ◌≤◌, ℤ, pos, length, get_or, ◌≤ℤ◌}
use Rattle.spec_spline.specs.Space.{Space, order, part_end, row_count, rows_before}
use Rattle.spec_spline.specs.Piecewise.{Accepted}
use Rattle.spec_spline.specs.Reading.{segment_at, Wood, wood_index, coefficient, value_at}
use Rattle.spec_spline.specs.CurveCall.{curve_outcome, values_after}
use Rattle.spec_spline.specs.ExactCurve.{Legal}
use Rattle.theorems_beams.specs.Sections.{part_at}
use Rattle.theorems_beams.specs.Parts.{Starts}
use Rattle.theorems_values.specs.ValueLimits.{InSpan}

-- The greatest order at which it holds.
abbrev pub falling_order : ℤ
falling_order = pos 1

-- No join inside the part that starts with segment a has a greater one.
abbrev pub LowOrders : Space → ℕ → Type 0
LowOrders s a = (j : ℕ) → a ≤ j → suc j < part_end s a → order s j ≤ℤ falling_order

-- The coefficient of the part's row i.
abbrev pub part_coefficient : Space → Wood → List ℤ → ℕ → ℕ → ℤ
part_coefficient s wood coefs a i = coefficient wood coefs (rows_before s a + i)

-- Over the rows of the part the coefficients do not rise: none is above the one before it.
abbrev pub Falls : Space → Wood → List ℤ → ℕ → Type 0
Falls s wood coefs a = (i : ℕ) → suc i < row_count (part_at s a) → part_coefficient s wood coefs a (suc i) ≤ℤ part_coefficient s wood coefs a i

-- They do not fall: none is below the one before it.
abbrev pub Climbs : Space → Wood → List ℤ → ℕ → Type 0
Climbs s wood coefs a = (i : ℕ) → suc i < row_count (part_at s a) → part_coefficient s wood coefs a i ≤ℤ part_coefficient s wood coefs a (suc i)

-- The position lies in the span, and its segment in the part that starts with segment a: a discontinuity belongs to the part that
-- ends there.
pub record InPart (s : Space) (a : ℕ) (x : ℤ) : Type 0 where
  pub inside : InSpan s x
  pub from : a ≤ segment_at s x
  pub to : segment_at s x < part_end s a

-- ---- values

abbrev pub FallingListsFall : Type 0
FallingListsFall = (s : Space) (x : Accepted s) (a : ℕ) → Starts s a → LowOrders s a
    → (wood : Wood) (coefs : List ℤ) → Falls s wood coefs a
    → (y z : ℤ) → InPart s a y → InPart s a z → y ≤ℤ z → value_at s x.table wood coefs z ≤ℤ value_at s x.table wood coefs y

abbrev pub ClimbingListsClimb : Type 0
ClimbingListsClimb = (s : Space) (x : Accepted s) (a : ℕ) → Starts s a → LowOrders s a
    → (wood : Wood) (coefs : List ℤ) → Climbs s wood coefs a
    → (y z : ℤ) → InPart s a y → InPart s a z → y ≤ℤ z → value_at s x.table wood coefs y ≤ℤ value_at s x.table wood coefs z

-- ---- the cells after a legal call, for any two of its positions

-- The positions in list order, k the earlier and m the later of the two.
pub record InOrder (s : Space) (positions : List ℤ) (a k m : ℕ) : Type 0 where
  pub earlier_listed : k < length positions
  pub later-listed : m < length positions
  pub earlier : InPart s a (get_or positions k (pos 0))
  pub later : InPart s a (get_or positions m (pos 0))
  pub ordered : get_or positions k (pos 0) ≤ℤ get_or positions m (pos 0)

abbrev pub FallingCells : Type 0
FallingCells = (s : Space) (coefs positions : List ℤ) (num_length den_length values_length : ℕ)
    → Legal s coefs positions num_length den_length values_length
    → (held : List ℤ) (wood : Wood) (a : ℕ) → Starts s a → LowOrders s a → Falls s wood coefs a → (k m : ℕ) → InOrder s positions a k m
    → let cells = values_after (curve_outcome s coefs positions num_length den_length values_length) held in
    get_or cells (2 * m + wood_index wood) (pos 0) ≤ℤ get_or cells (2 * k + wood_index wood) (pos 0)

abbrev pub ClimbingCells : Type 0
ClimbingCells = (s : Space) (coefs positions : List ℤ) (num_length den_length values_length : ℕ)
    → Legal s coefs positions num_length den_length values_length
    → (held : List ℤ) (wood : Wood) (a : ℕ) → Starts s a → LowOrders s a → Climbs s wood coefs a → (k m : ℕ) → InOrder s positions a k m
    → let cells = values_after (curve_outcome s coefs positions num_length den_length values_length) held in
    get_or cells (2 * k + wood_index wood) (pos 0) ≤ℤ get_or cells (2 * m + wood_index wood) (pos 0)
