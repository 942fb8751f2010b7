-- What the theorems say of the lent cells after a call: building an accepted space leaves the published construction's
-- weights of its last part in them. The contract of the build cites the same end, so this holds of the machine's cells.
use Rattle.std.specs.Prelude.{List, ◌≡◌, ℕ, ◌+◌, ◌*◌, ◌<◌, ◌≤◌, ℤ, pos, length, get_or}
use Rattle.base_exact.specs.Rational.{ℚ, den}
use Rattle.base_outcome.specs.Outcome.{answer}
use Rattle.spec_spline.specs.Space.{Space, last_part_start, first_column, rows_before}
use Rattle.spec_spline.specs.Table.{Table, cell, row_cells, table_cells}
use Rattle.spec_spline.specs.Build.{built, build_end}
use Rattle.spec_published.specs.Published.{extraction}
use Rattle.spec_spline.specs.Piecewise.{Accepted}

-- Cell k of the two buffers holds the fraction q.
pub record HoldsFraction (q : ℚ) (nums dens : List ℤ) (k : ℕ) : Type 0 where
  pub numerator : get_or nums k (pos 0) ≡ q.num
  pub denominator : get_or dens k (pos 0) ≡ pos (den q)

-- An accepted space is built in buffers that are long enough.
abbrev pub AcceptedSpacesAreBuilt : Type 0
AcceptedSpacesAreBuilt = (s : Space) (a : Accepted s) (num_length den_length : ℕ) → table_cells ≤ num_length → table_cells ≤ den_length
    → built s num_length den_length ≡ answer a.table

-- Row i and column c of the last part, counted from 0, in a table of the whole beam.
abbrev pub last_part_cell : Space → Table → ℕ → ℕ → ℚ
last_part_cell s t i c = let a = last_part_start s in cell t (rows_before s a + i) (first_column s a + c)

-- After it, cell 72·i + c holds the published weight of the last part's row i on its column c, and 0/1 outside the table.
abbrev pub CellsHoldPublishedWeights : Type 0
CellsHoldPublishedWeights = (s : Space) → Accepted s → (nums dens : List ℤ) → table_cells ≤ length nums → table_cells ≤ length dens
    → (i c : ℕ) → i < row_cells → c < row_cells
    → HoldsFraction (last_part_cell s (extraction s) i c) (build_end s nums dens).numerators (build_end s nums dens).denominators
    (row_cells * i + c)
