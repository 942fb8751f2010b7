-- What the jump of a row asks.
use Rattle.std.specs.Prelude.{List, ◌≡◌, ℕ, ◌<◌, ℤ}
use Rattle.spec_spline.specs.Space.{Space}
use Rattle.spec_spline.specs.Conditions.{conditions}
use Rattle.spec_spline.specs.Table.{Table, row_cells}
use Rattle.build_cells.specs.Held.{Holds}
use Rattle.build_conditions.specs.Sides.{JoinIs, JoinFits}
use Rattle.build_conditions.specs.Terms.{entries_of}
use Rattle.build_conditions.specs.declared.Join.{Join}

-- The row is one of the table that the buffers hold, and the entries are those of the join's column of conditions for order k.
pub record JumpAsks (num den : List ℤ) (at : ℕ) (join : Join) (k : ℕ) (entries : List ℤ) : Type 0 where
  pub row_within : at < row_cells
  pub join-fits : JoinFits join k
  pub entries_are : (s : Space) (j : ℕ) → JoinIs join s j → entries ≡ entries_of (conditions s j k)
  pub table : Table
  pub held : Holds num den table
