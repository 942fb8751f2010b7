-- What the functions of the w lines are handed: the two buffers that hold a part of a table, with the part's first row and column. The
-- buffers are taken as they are, whatever they hold: proofs/Stored shows that where they hold a part's table these are the whole
-- table's weights in the part's rows.
use Rattle.std.specs.Prelude.{cond, List, [], ◌∷◌, ◌++◌, ℕ, zero, suc, ◌+◌, ◌/◌, ◌%◌, ◌^◌, ◌≤◌, eqb, ℤ, pos, nat_abs, length, get_or}
use Rattle.spec_spline.specs.Listing.{Weight}
use Rattle.spec_spline.specs.Table.{row_cells, table_cells}
use Rattle.base_text.specs.Bytes.{Text, newline, comma, slash}
use Rattle.base_text.specs.Numeral.{digits, decimal}
use Rattle.spec_sheet.specs.Printout.{weight_key}

-- The most bytes of a w line: every number is counted with the 20 digits that 64 bits can have, and a
-- signed one with its minus.
abbrev pub weight_line_limit : ℕ
weight_line_limit = 87

-- A weight's line in two parts: w=row,column, and numerator/denominator with the end of the line.
abbrev pub place_text : ℕ → ℕ → Text
place_text r c = weight_key ++ (digits r ++ (comma ∷ (digits c ++ (comma ∷ []))))

abbrev pub fraction_text : ℤ → ℕ → Text
fraction_text num den = decimal num ++ (slash ∷ (digits den ++ (newline ∷ [])))

-- The weight in cell k, where row i, column j "is cell 72·i + j" (§ 2), if its numerator is not zero; r and c are the row and the
-- column of cell 0, "both counted over the beam" (§ 13). A denominator counts by its size.
unfoldable pub stored_weight : ℕ → ℕ → ℕ → ℤ → ℤ → List Weight
stored_weight r c k num den =
    cond (eqb (nat_abs num) 0) [] (record { row = r + k / row_cells; column = c + k % row_cells; numerator = num; denominator = nat_abs den }
    ∷ [])

-- The non-zero weights of the first k cells.
unfoldable pub stored_weights : ℕ → ℕ → ℕ → List ℤ → List ℤ → List Weight
stored_weights r c zero num den = []
stored_weights r c (suc k) num den = stored_weights r c k num den ++ stored_weight r c k (get_or num k (pos 0)) (get_or den k (pos 0))

-- ---- what is asked

-- A cell of a table whose first row and column have such numbers, and an index to write at.
pub record CellAsks (at row column k : ℕ) : Type 0 where
  pub near : at ≤ 2 ^ 42
  pub row_low : row ≤ 2 ^ 41
  pub column_low : column ≤ 2 ^ 41
  pub within : k ≤ table_cells

-- Two buffers with n rows of such a table.
pub record RowsAsk (at row column n : ℕ) (num den : List ℤ) : Type 0 where
  pub near : at ≤ 2 ^ 41
  pub row_low : row ≤ 2 ^ 41
  pub column_low : column ≤ 2 ^ 41
  pub few : n ≤ row_cells
  pub num_long : table_cells ≤ length num
  pub den_long : table_cells ≤ length den
