-- What the two halves of a step, the step and all steps at a join ask.
use Rattle.std.specs.Prelude.{List, ℕ, ◌<◌, ◌≤◌, ℤ}
use Rattle.base_fraction.specs.declared.arrays.Fractions.{Fractions}
use Rattle.spec_spline.specs.Table.{row_cells}
use Rattle.build_cells.specs.Held.{Held}
use Rattle.build_conditions.specs.Sides.{JoinFits}
use Rattle.build_conditions.specs.declared.Join.{Join}
use Rattle.build_rows.specs.Rows.{UnitFactors}
use Rattle.build_factors.specs.Jumps.{Present}

-- The first half: the jumps of all rows, which are no more than a table has.
pub record PlanAsks (js : Fractions) (rows : ℕ) : Type 0 where
  pub few : rows ≤ row_cells
  pub jumps : Present js rows

-- The second half: the rows f to l of the table in the buffers, and their factors.
pub record RenewAsks (num den : List ℤ) (factors : Fractions) (f l rows columns : ℕ) : Type 0 where
  pub ordered : f ≤ l
  pub below : l < rows
  pub held : Held num den rows columns
  pub unit : UnitFactors factors

-- A step: a join that has order k, and a table in the buffers.
pub record StepAsks (join : Join) (k : ℕ) (num den : List ℤ) (rows columns : ℕ) : Type 0 where
  pub fits : JoinFits join k
  pub held : Held num den rows columns

-- The steps at a join: it has the n orders, which are no more than the rows of the table in the buffers.
pub record StepsAsk (join : Join) (n : ℕ) (num den : List ℤ) (rows columns : ℕ) : Type 0 where
  pub few : n ≤ rows
  pub fits : (k : ℕ) → k < n → JoinFits join k
  pub held : Held num den rows columns
