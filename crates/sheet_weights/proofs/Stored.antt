-- Where the two buffers hold a part of a table, the weights printed from them are the table's in the part's rows: a row has
-- zeros beside the part's columns, and cells past a part's row and past its last row are zero, so they have no line. Both lists
-- are written as one concatenation over cells to compare them.
use mathlib.Core.Path.{◌≡◌, refl, sym, ap, ap₂, ◌∙◌}
use mathlib.Core.List.{List, [], ◌∷◌, ◌++◌, append_assoc, append-nil}
use Prim.Native.Nat.{ℕ, zero, suc, ◌+◌, ◌*◌, ◌/◌, ◌%◌, ◌<◌, ◌≤◌}
use native.Mathlib.Nat.{mul-suc}
use native.Mathlib.Omega.{arith}
use lib.IntN.{ℤ, pos}
use lib.ListN.{length, get_or}
use Rattle.base_exact.specs.Rational
use Rattle.base_exact.specs.Rational.{ℚ, den, int}
use Rattle.base_exact.specs.Order.{is_zero}
use Rattle.base_exact.proofs.Decide.{cond_true}
use Rattle.base_exact.proofs.Order.{zero_test}
use Rattle.base_exact.proofs.Tabulate.{get_d_tab}
use Rattle.spec_spline.specs.Table.{Row, Table, entry, row, cell, stored, row_cells, table_cells, numerators, denominators}
use Rattle.spec_spline.specs.Listing.{Weight, listed, row_weights, table_weights}
use Rattle.spec_sheet.specs.Printout.{weight_lines}
use Rattle.sheet_weights.specs.Printed.{stored_weight, stored_weights}
use Rattle.spec_sheet.proofs.Printout.{weight_lines_append, weight_lines-none}

-- f 0 ++ f 1 ++ .. ++ f (n - 1)
concat : {A : Type 0} → ℕ → (ℕ → List A) → List A
concat zero f = []
concat (suc n) f = concat n f ++ f n

module _ {A : Type 0} where
  concat_ext : (n : ℕ) {f g : ℕ → List A} → ((i : ℕ) → i < n → f i ≡ g i) → concat n f ≡ concat n g
  unfolding concat
  concat_ext zero h = refl
  concat_ext (suc n) h = ap₂ ◌++◌ (concat_ext n (λ i l. h i (omega arith))) (h n (omega arith))

  concat-nothing : (n : ℕ) (f : ℕ → List A) → ((i : ℕ) → f i ≡ []) → concat n f ≡ []
  unfolding concat
  concat-nothing zero f h = refl
  concat-nothing (suc n) f h = ap₂ ◌++◌ (concat-nothing n f h) (h n)

  concat_cons : (n : ℕ) (f : ℕ → List A) → concat (suc n) f ≡ f 0 ++ concat n (λ i. f (suc i))
  unfolding concat
  concat_cons zero f = sym (append-nil (f 0))
  concat_cons (suc n) f = ap (λ t. t ++ f (suc n)) (concat_cons n f) ∙ append_assoc (f 0) (concat n (λ i. f (suc i))) (f (suc n))

  concat-add : (m n : ℕ) (f : ℕ → List A) → concat (m + n) f ≡ concat m f ++ concat n (λ i. f (m + i))
  unfolding concat
  concat-add m zero f = ap (λ k. concat k f) (let e : m + 0 ≡ m = omega arith in e) ∙ sym (append-nil (concat m f))
  concat-add m (suc n) f =
      ap (λ k. concat k f) (let e : m + suc n ≡ suc (m + n) = omega arith in e)
      ∙ ap (λ t. t ++ f (m + n)) (concat-add m n f)
      ∙ append_assoc (concat m f) (concat n (λ i. f (m + i))) (f (m + n))

  -- m rows of n cells
  concat-rows : (n m : ℕ) (f : ℕ → List A) → concat (n * m) f ≡ concat m (λ i. concat n (λ j. f (n * i + j)))
  unfolding concat
  concat-rows n zero f = ap (λ k. concat k f) (let e : n * 0 ≡ 0 = omega arith in e)
  concat-rows n (suc m) f = ap (λ k. concat k f) (mul-suc n m) ∙ concat-add (n * m) n f ∙ ap (λ t. t ++ concat n (λ j. f (n * m + j))) (concat-rows n m f)

-- ---- the table's weights, cell by cell
zero-listed : (r c : ℕ) → listed r c (int (pos 0)) ≡ []
zero-listed r c = cond_true _ _ (zero_test refl)

row-cells : (r c m : ℕ) (qs : Row) → length qs ≤ m → row_weights r c qs ≡ concat m (λ j. listed r (c + j) (entry qs j))
unfolding row_weights
row-cells r c m [] h = sym (concat-nothing m _ (λ j. zero-listed r (c + j)))
row-cells r c zero (q ∷ qs) h = absurd (omega arith)
row-cells r c (suc m) (q ∷ qs) h =
    ap₂ ◌++◌ (ap (λ k. listed r k q) (let e : c ≡ c + 0 = omega arith in e))
    (row-cells r (suc c) m qs (omega arith)
    ∙ concat_ext m (λ j l. ap (λ k. listed r k (entry qs j)) (let e : suc c + j ≡ c + suc j = omega arith in e)))
    ∙ sym (concat_cons m (λ j. listed r (c + j) (entry (q ∷ qs) j)))

table-rows : (r : ℕ) (t : Table) → table_weights r t ≡ concat (length t) (λ i. row_weights (r + i) 0 (row t i))
unfolding table_weights concat
table-rows r [] = refl
table-rows r (qs ∷ t) =
    ap₂ ◌++◌ (ap (λ k. row_weights k 0 qs) (let e : r ≡ r + 0 = omega arith in e))
    (table-rows (suc r) t
    ∙ concat_ext (length t) (λ i l. ap (λ k. row_weights k 0 (row t i)) (let e : suc r + i ≡ r + suc i = omega arith in e)))
    ∙ sym (concat_cons (length t) (λ i. row_weights (r + i) 0 (row (qs ∷ t) i)))

-- a row with zeros before column c, and from there on the entries of another
row_from : (r c : ℕ) (qs us : Row) → ((j : ℕ) → j < c → entry qs j ≡ int (pos 0)) → ((j : ℕ) → entry qs (c + j) ≡ entry us j)
    → row_weights r 0 qs ≡ row_weights r c us
row_from r c qs us before same =
    let m = length qs + length us in
    row-cells r 0 (c + m) qs (omega arith)
    ∙ concat-add c m (λ j. listed r (0 + j) (entry qs j))
    ∙ ap₂ ◌++◌
    (concat_ext c (λ j l. ap (listed r (0 + j)) (before j l) ∙ zero-listed r (0 + j)) ∙ concat-nothing c (λ _. []) (λ _. refl))
    (concat_ext m (λ j l. ap₂ (listed r) (let e : 0 + (c + j) ≡ c + j = omega arith in e) (same j)))
    ∙ sym (row-cells r c m us (omega arith))

-- ---- the buffers' weights, cell by cell
module _ (r c : ℕ) where
  stored-cells : (k : ℕ) (num den : List ℤ) → stored_weights r c k num den ≡ concat k (λ j. stored_weight r c j (get_or num j (pos 0)) (get_or den j (pos 0)))
  unfolding stored_weights concat
  stored-cells zero num den = refl
  stored-cells (suc k) num den = ap (λ t. t ++ stored_weight r c k (get_or num k (pos 0)) (get_or den k (pos 0))) (stored-cells k num den)

  weight-listed : (k : ℕ) (q : ℚ) → stored_weight r c k q.num (pos (den q)) ≡ listed (r + k / row_cells) (c + k % row_cells) q
  unfolding stored_weight is_zero
  weight-listed k q = refl

module _ (u : Table) (num den : List ℤ) where
  numerator_cell : (k : ℕ) → k < table_cells → get_or (numerators u num) k (pos 0) ≡ (stored u k).num
  unfolding numerators
  numerator_cell k h = get_d_tab table_cells (λ k. (stored u k).num) _ k (pos 0) h

  denominator_cell : (k : ℕ) → k < table_cells → get_or (denominators u den) k (pos 0) ≡ pos (Rational.den (stored u k))
  unfolding denominators
  denominator_cell k h = get_d_tab table_cells (λ k. pos (Rational.den (stored u k))) _ k (pos 0) h

  module _ (r c : ℕ) where
    abbrev at_cell : ℕ → List Weight
    at_cell k = stored_weight r c k (get_or (numerators u num) k (pos 0)) (get_or (denominators u den) k (pos 0))

    stored-listed : (k : ℕ) → k < table_cells → at_cell k ≡ listed (r + k / row_cells) (c + k % row_cells) (stored u k)
    stored-listed k h = ap₂ (stored_weight r c k) (numerator_cell k h) (denominator_cell k h) ∙ weight-listed r c k (stored u k)

    -- row i of the cells
    row_listed : (i : ℕ) → i < row_cells → length (row u i) ≤ row_cells → concat row_cells (λ j. at_cell (row_cells * i + j)) ≡ row_weights (r + i) c (row u i)
    row_listed i h w = concat_ext row_cells each ∙ sym (row-cells (r + i) c row_cells (row u i) w)
      where
        each : (j : ℕ) → j < row_cells → at_cell (row_cells * i + j) ≡ listed (r + i) (c + j) (entry (row u i) j)
        each j l =
            let quotient : (row_cells * i + j) / row_cells ≡ i = omega arith in
            let remainder : (row_cells * i + j) % row_cells ≡ j = omega arith in
            stored-listed (row_cells * i + j) (omega arith) ∙ ap₂ (λ a b. listed (r + a) (c + b) (cell u a b)) quotient remainder

-- ---- a part of a table

-- What table t has in its rows from r on and its columns from c on is table u, which fits the buffers, and zeros stand before
-- column c.
pub record Holds (t : Table) (r c : ℕ) (u : Table) : Type 0 where
  pub few : length u ≤ row_cells
  pub narrow : (i : ℕ) → i < length u → length (row u i) ≤ row_cells
  pub same : (i j : ℕ) → i < length u → cell t (r + i) (c + j) ≡ cell u i j
  pub zero-before : (i j : ℕ) → i < length u → j < c → cell t (r + i) j ≡ int (pos 0)

-- The non-zero weights of the first k rows.
pub first_rows : ℕ → Table → List Weight
first_rows k t = concat k (λ i. row_weights i 0 (row t i))

pub rows_none : (t : Table) → weight_lines (first_rows 0 t) ≡ []
unfolding first_rows concat
rows_none t = weight_lines-none

pub rows_all : (t : Table) → first_rows (length t) t ≡ table_weights 0 t
unfolding first_rows
rows_all t = concat_ext (length t) (λ i l. ap (λ k. row_weights k 0 (row t i)) (let e : i ≡ 0 + i = omega arith in e)) ∙ sym (table-rows 0 t)

-- the lines of the rows before a part, then those printed from the buffers that hold the part, are those of the rows up to its end
pub rows_more : (t : Table) (r c : ℕ) (u : Table) → Holds t r c u → (num den : List ℤ)
    → weight_lines (first_rows (r + length u) t) ≡ weight_lines (first_rows r t)
    ++ weight_lines (stored_weights r c (row_cells * length u) (numerators u num) (denominators u den))
unfolding first_rows
rows_more t r c u h num den =
    ap weight_lines
    (concat-add r (length u) (λ i. row_weights i 0 (row t i))
    ∙ ap (λ ws. first_rows r t ++ ws)
    (concat_ext (length u) (λ i l. row_from (r + i) c (row t (r + i)) (row u i) (λ j. h.zero-before i j l) (λ j. h.same i j l)
    ∙ sym (row_listed u num den r c i (omega (arith, h.few)) (h.narrow i l)))
    ∙ sym (stored-cells r c (row_cells * length u) (numerators u num) (denominators u den) ∙ concat-rows row_cells (length u) (at_cell u num den r c))))
    ∙ weight_lines_append (first_rows r t) (stored_weights r c (row_cells * length u) (numerators u num) (denominators u den))
