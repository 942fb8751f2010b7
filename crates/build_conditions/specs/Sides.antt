-- The machine's sides and joins: which segment and join of a space they are, and what is known of a join of a legal space.
use Rattle.std.specs.Prelude.{◌≡◌, ℕ, suc, ◌+◌, ◌<◌, ◌≤◌, pos}
use Rattle.spec_spline.specs.Space.{Space, span_limit, degree_limit, degree, width, first_column}
use Rattle.spec_spline.specs.Table.{row_cells}
use Rattle.build_conditions.specs.declared.Side.{Side}
use Rattle.build_conditions.specs.declared.Join.{Join}

-- The machine's side of a join is segment i of the space.
pub record SideIs (side : Side) (s : Space) (i : ℕ) : Type 0 where
  pub degree_is : side.degree ≡ degree s i
  pub length_is : side.length ≡ pos (width s i)
  pub column_is : side.column ≡ first_column s i

-- The machine's join is join j of the space.
pub record JoinIs (join : Join) (s : Space) (j : ℕ) : Type 0 where
  pub left_is : SideIs join.left s j
  pub right_is : SideIs join.right s (suc j)

-- The degrees, lengths and columns of a join of a legal space, of which order k is one.
pub record JoinFits (join : Join) (k : ℕ) : Type 0 where
  pub space : Space
  pub index : ℕ
  pub is : JoinIs join space index
  pub left-short : width space index ≤ span_limit
  pub right-short : width space (suc index) ≤ span_limit
  pub left_long : 1 ≤ width space index
  pub right_long : 1 ≤ width space (suc index)
  pub left-degree : degree space index ≤ degree_limit
  pub right-degree : degree space (suc index) ≤ degree_limit
  pub order-left : k < degree space index
  pub order-right : k < degree space (suc index)
  pub order : k ≤ 2
  pub left-columns : first_column space index + degree space index < first_column space (suc index)
  pub right-columns : first_column space (suc index) + degree space (suc index) < row_cells
