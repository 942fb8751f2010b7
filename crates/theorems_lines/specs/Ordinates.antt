-- At orders up to 1 every coefficient of every curve is one of its ordinates: for each row there is a column on which it alone has
-- weight. At order 2 the middle one of three rows at a join has none.
use Rattle.std.specs.Prelude.{◌≡◌, List, ℕ, ◌<◌}
use Rattle.base_exact.specs.Rational.{ℚ}
use Rattle.spec_spline.specs.Space.{Space, column_count, row_count}
use Rattle.spec_spline.specs.Table.{Table, entry}
use Rattle.spec_spline.specs.Piecewise.{Accepted, combination}
use Rattle.theorems_acceptance.specs.Acceptance.{OrdersAtMostOne}

-- The column on which a combination's ordinate is its multiplier of row i, whatever the multipliers.
pub record OwnColumn (s : Space) (t : Table) (i : ℕ) : Type 0 where
  pub column : ℕ
  pub below : column < column_count s
  pub is : (multipliers : List ℚ) → entry (combination (column_count s) multipliers t) column ≡ entry multipliers i

abbrev pub CoefficientsAreOrdinates : Type 0
CoefficientsAreOrdinates = (s : Space) (a : Accepted s) → OrdersAtMostOne s → (i : ℕ) → i < row_count s → OwnColumn s a.table i
