-- How long a printout can be, and what printing an answer asks.
use Rattle.std.specs.Prelude.{List, ℕ, ◌+◌, ◌*◌, ◌/◌, ◌≤◌, ℤ, length}
use Rattle.spec_spline.specs.Space.{Space}
use Rattle.spec_spline.specs.Table.{row_cells}
use Rattle.spec_spline.specs.CurveCall.{position_limit}
use Rattle.sheet_weights.specs.Printed.{weight_line_limit}
use Rattle.sheet_values.specs.Printed.{count_line_limit, value_line_limit}
use Rattle.sheet_lows.specs.Printed.{low_line_limit}
use Rattle.sheet_beam.specs.Beam.{row_limit, Filled}

-- The most bytes that a printout has, 2,189,079: a row has weights on the columns of one part, at most 72.
abbrev pub printout_limit : ℕ
printout_limit = count_line_limit + weight_line_limit * (row_cells * row_limit) + value_line_limit * position_limit + low_line_limit * position_limit

-- Buffers with the weights of the space, and as many values as positions, two each.
pub record AnswerAsks (s : Space) (n : ℕ) (num den positions values : List ℤ) : Type 0 where
  pub filled : Filled s n num den
  pub few : length positions ≤ position_limit
  pub valued : length positions ≤ length values / 2
