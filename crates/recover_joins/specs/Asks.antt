-- What the steps, the joins and a part ask, with the coefficients of the rows.
use Rattle.std.specs.Prelude.{List, map, ◌≡◌, ℕ, ◌-◌, ◌<◌, ◌≤◌, ℤ, length}
use Rattle.base_exact.specs.Rational.{int}
use Rattle.base_fraction.specs.declared.arrays.Fractions.{Fractions}
use Rattle.spec_spline.specs.Space.{column_count}
use Rattle.spec_spline.specs.Table.{row_cells}
use Rattle.build_space.specs.Machine.{space}
use Rattle.build_space.specs.Legal.{PartLegal}
use Rattle.build_cells.specs.Held.{Held}
use Rattle.build_conditions.specs.Sides.{JoinFits}
use Rattle.build_conditions.specs.declared.Join.{Join}
use Rattle.build_rows.specs.Rows.{UnitFactors}
use Rattle.build_factors.specs.Jumps.{AllFit, Present}
use Rattle.build_step.specs.Asks.{StepsAsk}
use Rattle.build_joins.specs.Leaves.{Start}
use Rattle.build_joins.specs.Asks.{BuffersFit, GrowthFits}
use Rattle.recover_counted.specs.Machine.{FractionsFit}
use Rattle.recover_rows.specs.Machine.{NonZero}

-- An ordinate for each column, all of which fit.
pub record OrdinatesFit (ordinates : List ℤ) (columns : ℕ) : Type 0 where
  pub count : length ordinates ≡ columns
  pub fit : AllFit (map int ordinates)

-- The undoing of a step: the jumps and the coefficients of the rows, and the factors of the rows f to l, none of which divides by 0.
pub record UndoAsks (js ws : Fractions) (f l : ℕ) (cs : Fractions) (rows : ℕ) : Type 0 where
  pub few : rows ≤ row_cells
  pub jumps : FractionsFit js rows
  pub coefficients : FractionsFit cs rows
  pub ordered : f ≤ l
  pub below : l < rows
  pub unit : UnitFactors ws
  pub nonzero : NonZero ws (l - f)

-- A step and its undoing: a join that has order k, a table in the buffers and the coefficients of its rows.
pub record StepAsks (join : Join) (k : ℕ) (num den : List ℤ) (rows columns : ℕ) (cs : Fractions) : Type 0 where
  pub fits : JoinFits join k
  pub held : Held num den rows columns
  pub coefficients : FractionsFit cs rows

-- The steps at a join, with the coefficients of the rows.
pub record OrdersAsk (join : Join) (n : ℕ) (num den : List ℤ) (rows columns : ℕ) (cs : Fractions) : Type 0 where
  pub steps : StepsAsk join n num den rows columns
  pub coefficients : Present cs rows

-- The same before the rows of the segment on the right have come in, with the ordinates of all columns.
pub record JoinAsks (ordinates : List ℤ) (join : Join) (n : ℕ) (num den : List ℤ) (rows columns : ℕ) (cs : Fractions) : Type 0 where
  pub steps : StepsAsk join n num den rows columns
  pub coefficients : Present cs rows
  pub growth : GrowthFits join rows columns
  pub given : OrdinatesFit ordinates columns

-- The joins of a legal part, the first segment's rows in the buffers and the ordinates.
pub record JoinsAsk (breaks degrees orders ordinates num den : List ℤ) (columns : ℕ) : Type 0 where
  pub part : PartLegal breaks degrees orders
  pub start : Start (space breaks degrees orders) num den columns
  pub given : OrdinatesFit ordinates columns

-- A legal part, its ordinates and buffers for its table.
pub record PartAsks (breaks degrees orders ordinates num den : List ℤ) : Type 0 where
  pub part : PartLegal breaks degrees orders
  pub room : BuffersFit num den
  pub given : OrdinatesFit ordinates (column_count (space breaks degrees orders))
