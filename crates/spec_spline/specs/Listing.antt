-- The non-zero weights of a table as a list: a row, a column and the fraction "for each non-zero weight of the whole beam, rows
-- rising, then columns" (§ 13). The cases (§ 15) and the sheet show tables in this form.
use Rattle.std.specs.Prelude.{cond, List, [], ◌∷◌, ◌++◌, ℕ, suc, ℤ}
use Rattle.base_exact.specs.Rational.{ℚ, den}
use Rattle.base_exact.specs.Order.{is_zero}
use Rattle.spec_spline.specs.Table.{Row, Table}

-- One weight with its place.
pub record Weight : Type 0 where
  pub row : ℕ
  pub column : ℕ
  pub numerator : ℤ
  pub denominator : ℕ

-- The weight q in row r and column c, if it is not zero.
abbrev pub listed : ℕ → ℕ → ℚ → List Weight
listed r c q = cond (is_zero q) [] (record { row = r; column = c; numerator = q.num; denominator = den q } ∷ [])

-- The non-zero weights of row r, from column c on.
unfoldable pub row_weights : ℕ → ℕ → Row → List Weight
row_weights r c [] = []
row_weights r c (q ∷ qs) = listed r c q ++ row_weights r (suc c) qs

-- The non-zero weights of a table, from row r on.
unfoldable pub table_weights : ℕ → Table → List Weight
table_weights r [] = []
table_weights r (row ∷ rows) = row_weights r 0 row ++ table_weights (suc r) rows
