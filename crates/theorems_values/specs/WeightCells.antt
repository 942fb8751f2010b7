-- What the theorems say of the two weight buffers after a curve call: a legal call leaves the published construction's weights
-- of the last part in them, as building does.
use Rattle.std.specs.Prelude.{List, ℕ, ◌+◌, ◌*◌, ◌<◌, ℤ, length}
use Rattle.spec_spline.specs.Space.{Space}
use Rattle.spec_spline.specs.Table.{row_cells}
use Rattle.spec_published.specs.Published.{extraction}
use Rattle.spec_spline.specs.CurveCall.{curve_end}
use Rattle.spec_spline.specs.ExactCurve.{Legal}
use Rattle.theorems_weights.specs.Cells.{HoldsFraction, last_part_cell}

-- After a legal curve call, cell 72·i + c holds the published weight of the last part's row i on its column c, and 0/1 outside
-- the table.
abbrev pub CurveCellsHoldPublishedWeights : Type 0
CurveCellsHoldPublishedWeights = (s : Space) (coefs positions num den values : List ℤ)
    → Legal s coefs positions (length num) (length den) (length values)
    → (i c : ℕ) → i < row_cells → c < row_cells
    → HoldsFraction (last_part_cell s (extraction s) i c) (curve_end s coefs positions num den values).numerators
    (curve_end s coefs positions num den values).denominators (row_cells * i + c)
