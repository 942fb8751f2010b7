-- Tables of fractions, and how they lie in the two lent buffers (§ 2).
use Rattle.std.specs.Prelude.{cond, List, [], ◌++◌, ℕ, ◌/◌, ◌%◌, eqb, ℤ, pos, get_or, drop}
use Rattle.base_exact.specs.Rational.{ℚ, den, int}
use Rattle.base_exact.specs.Tabulate.{tab}
pub use Rattle.base_fraction.specs.Fractions.{row_cells}

abbrev pub Row : Type 0
Row = List ℚ

-- The rows of a table from the top.
abbrev pub Table : Type 0
Table = List Row

-- The entry in column j of a row: 0 past its end.
abbrev pub entry : Row → ℕ → ℚ
entry r j = get_or r j (int (pos 0))

-- Row i of a table: empty past its end.
abbrev pub row : Table → ℕ → Row
row t i = get_or t i []

-- The entry in row i and column j: 0 outside the table.
abbrev pub cell : Table → ℕ → ℕ → ℚ
cell t i j = entry (row t i) j

-- The identity with n rows and n columns.
unfoldable pub identity : ℕ → Table
identity n = tab n (λ i. tab n (λ j. cond (eqb i j) (int (pos 1)) (int (pos 0))))

-- "at least 5,184 = 72 · 72 cells" (§ 2).
abbrev pub table_cells : ℕ
table_cells = 5184

-- What cell k of the table area stands for: row i, column j "is cell 72·i + j" (§ 2).
abbrev pub stored : Table → ℕ → ℚ
stored t k = cell t (k / row_cells) (k % row_cells)

-- The numerators' buffer with the table in it: 0 in all unused cells, the cells past 5,184 as they were.
unfoldable pub numerators : Table → List ℤ → List ℤ
numerators t before = tab table_cells (λ k. (stored t k).num) ++ drop table_cells before

-- The denominators' buffer with the table in it: 1 in all unused cells, the cells past 5,184 as they were.
unfoldable pub denominators : Table → List ℤ → List ℤ
denominators t before = tab table_cells (λ k. pos (den (stored t k))) ++ drop table_cells before
