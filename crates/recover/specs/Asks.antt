-- What the recovery of a part of a beam, and of all its parts, asks.
use Rattle.std.specs.Prelude.{List, ℕ, ◌+◌, ◌≤◌, ℤ, length}
use Rattle.spec_spline.specs.Space.{column_count}
use Rattle.spec_spline.specs.Table.{row_cells}
use Rattle.build_space.specs.Machine.{space}
use Rattle.build_space.specs.Legal.{ListsLegal}
use Rattle.build_joins.specs.Asks.{BuffersFit}
use Rattle.build.specs.Asks.{PartIs}
use Rattle.recover_joins.specs.Asks.{OrdinatesFit}

-- Room for n coefficients from `from` on in both answer buffers.
pub record WriteAsks (coef_num coef_den : List ℤ) (from n : ℕ) : Type 0 where
  pub few : n ≤ row_cells
  pub num_room : from + n ≤ length coef_num
  pub den-room : from + n ≤ length coef_den

-- A part of legal lists, the ordinates of the beam and buffers for the part's table.
pub record PartAsks (breaks degrees orders ordinates : List ℤ) (a b : ℕ) (num den : List ℤ) : Type 0 where
  pub legal : ListsLegal breaks degrees orders
  pub part : PartIs (space breaks degrees orders) a b
  pub room : BuffersFit num den
  pub given : OrdinatesFit ordinates (column_count (space breaks degrees orders))

-- All parts of legal lists, the ordinates of the beam, buffers for the table of a part, and for a coefficient for each ordinate.
pub record PartsAsk (breaks degrees orders ordinates num den coef_num coef_den : List ℤ) : Type 0 where
  pub legal : ListsLegal breaks degrees orders
  pub room : BuffersFit num den
  pub given : OrdinatesFit ordinates (column_count (space breaks degrees orders))
  pub coef_num_long : length ordinates ≤ length coef_num
  pub coef_den_long : length ordinates ≤ length coef_den
