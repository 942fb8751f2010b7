-- What the functions over the two lent buffers ask and leave of them: they hold a table whose entries all fit, and what
-- lies past its 5,184 cells stays as it is.
use Rattle.std.specs.Prelude.{true, List, ◌≡◌, ℕ, ◌*◌, ◌<◌, ◌≤◌, ℤ, pos, length, get_or, drop}
use Rattle.base_fraction.specs.Size.{fits}
use Rattle.spec_spline.specs.Table.{Table, row, cell, row_cells, table_cells, numerators, denominators}

-- The buffers hold the table t, and each of its entries fits.
pub record Holds (num den : List ℤ) (t : Table) : Type 0 where
  pub num_long : table_cells ≤ length num
  pub den_long : table_cells ≤ length den
  pub num_is : num ≡ numerators t num
  pub den_is : den ≡ denominators t den
  pub fit : (i c : ℕ) → fits (cell t i c) ≡ true

-- A table with this number of rows and columns, for which the buffers have room.
pub record Shaped (t : Table) (rows columns : ℕ) : Type 0 where
  pub row_count_lem : length t ≡ rows
  pub wide : (i : ℕ) → i < rows → length (row t i) ≡ columns
  pub rows_fit : rows ≤ row_cells
  pub columns-fit : columns ≤ row_cells

-- The buffers hold some table of this shape.
pub record Held (num den : List ℤ) (rows columns : ℕ) : Type 0 where
  pub table : Table
  pub holds : Holds num den table
  pub shaped : Shaped table rows columns

-- A buffer has its length, and its cells past 5,184, as before.
pub record Kept (before after : List ℤ) : Type 0 where
  pub long : length after ≡ length before
  pub rest : drop table_cells after ≡ drop table_cells before

-- The buffers are clear from this row on: 0/1 in the rest of the table's cells.
pub record ClearFrom (num den : List ℤ) (rows : ℕ) : Type 0 where
  pub zeros : (k : ℕ) → row_cells * rows ≤ k → k < table_cells → get_or num k (pos 0) ≡ pos 0
  pub ones : (k : ℕ) → row_cells * rows ≤ k → k < table_cells → get_or den k (pos 0) ≡ pos 1
