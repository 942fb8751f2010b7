-- A partition of unity in the cells themselves: after an answered build and after a legal curve call no cell of the two
-- weight buffers holds a fraction below zero, and those of each column of the last part sum to exactly one.
use Rattle.std.specs.Prelude.{◌≡◌, List, ℕ, ◌+◌, ◌*◌, ◌-◌, ◌<◌, ◌≤◌, ℤ, pos, length, get_or, ◌≤ℤ◌, ◌<ℤ◌}
use Rattle.base_exact.specs.Rational.{ℚ, int, ◌/ᵠ◌}
use Rattle.base_exact.specs.Sum.{sum}
use Rattle.base_outcome.specs.Outcome.{answer}
use Rattle.spec_spline.specs.Space.{Space, last_part_start, first_column, column_count}
use Rattle.spec_spline.specs.Table.{row_cells, table_cells}
use Rattle.spec_spline.specs.Build.{build_end}
use Rattle.spec_spline.specs.CurveCall.{curve_end}
use Rattle.spec_spline.specs.ExactCurve.{Legal}

-- The fraction that cell k of two buffers holds.
abbrev pub held_fraction : List ℤ → List ℤ → ℕ → ℚ
held_fraction nums dens k = int (get_or nums k (pos 0)) /ᵠ int (get_or dens k (pos 0))

-- The number of columns of the last part.
abbrev pub last_columns : Space → ℕ
last_columns s = column_count s - first_column s (last_part_start s)

-- None of the 5,184 cells is negative, each has a denominator above zero, and the 72 cells of each column of the last part sum
-- to one.
pub record SumsToOne (s : Space) (nums dens : List ℤ) : Type 0 where
  pub not_negative : (k : ℕ) → k < table_cells → (pos 0 ≤ℤ get_or nums k (pos 0)) × (pos 0 <ℤ get_or dens k (pos 0))
  pub columns-fit : last_columns s ≤ row_cells
  pub sums : (c : ℕ) → c < last_columns s → sum row_cells (λ i. held_fraction nums dens (row_cells * i + c)) ≡ int (pos 1)

-- After every build that answers.
abbrev pub BuiltCellsSumToOne : Type 0
BuiltCellsSumToOne = (s : Space) (nums dens : List ℤ) (n : ℕ) → (build_end s nums dens).answers ≡ answer n
    → SumsToOne s (build_end s nums dens).numerators (build_end s nums dens).denominators

-- After every legal curve call.
abbrev pub CurveCellsSumToOne : Type 0
CurveCellsSumToOne = (s : Space) (coefs positions num den values : List ℤ)
    → Legal s coefs positions (length num) (length den) (length values)
    → SumsToOne s (curve_end s coefs positions num den values).numerators (curve_end s coefs positions num den values).denominators
