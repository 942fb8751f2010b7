-- What the joins of a part, and its build, ask.
use Rattle.std.specs.Prelude.{List, ℕ, ◌+◌, ◌<◌, ◌≤◌, ℤ, length}
use Rattle.spec_spline.specs.Table.{row_cells, table_cells}
use Rattle.build_space.specs.Machine.{space}
use Rattle.build_space.specs.Legal.{ListsLegal, PartLegal}
use Rattle.build_cells.specs.Held.{ClearFrom}
use Rattle.build_conditions.specs.declared.Join.{Join}
use Rattle.build_step.specs.Asks.{StepsAsk}
use Rattle.build_joins.specs.Leaves.{Start}

-- ---- the two lent buffers

-- Both take a whole table.
pub record BuffersFit (num den : List ℤ) : Type 0 where
  pub num_long : table_cells ≤ length num
  pub den_long : table_cells ≤ length den

-- They are clear from row `used` on.
pub record UsedRows (num den : List ℤ) (used : ℕ) : Type 0 where
  pub few : used ≤ row_cells
  pub clear : ClearFrom num den used

-- ---- the joins

-- The rows of the segment on the right of a join are within a table, and their columns within the columns.
pub record GrowthFits (join : Join) (rows columns : ℕ) : Type 0 where
  pub low : rows + (join.right.degree + 1) ≤ row_cells
  pub wide : join.right.column + (join.right.degree + 1) ≤ columns

-- The steps at a join, before the rows of the segment on its right have come in.
pub record JoinAsks (join : Join) (n : ℕ) (num den : List ℤ) (rows columns : ℕ) : Type 0 where
  pub steps : StepsAsk join n num den rows columns
  pub growth : GrowthFits join rows columns

-- Segment i of lists that are legal with some orders.
pub record SideAsks (breaks degrees : List ℤ) (i : ℕ) : Type 0 where
  pub orders : List ℤ
  pub legal : ListsLegal breaks degrees orders
  pub below : i < length degrees

-- The joins of a legal part, and the first segment's rows in the buffers.
pub record JoinsAsk (breaks degrees orders num den : List ℤ) (columns : ℕ) : Type 0 where
  pub part : PartLegal breaks degrees orders
  pub start : Start (space breaks degrees orders) num den columns

-- The build of a legal part, in buffers that are clear from row `used` on.
pub record LegalAsks (breaks degrees orders num den : List ℤ) (used : ℕ) : Type 0 where
  pub part : PartLegal breaks degrees orders
  pub room : BuffersFit num den
  pub rest : UsedRows num den used
