-- Tables: entries, rows and cells past the ends, the lower right of a table, the identity, and a table in a buffer, read back:
-- cell 72·i + c holds the number taken of the entry in row i and column c.
use mathlib.Core.Path.{◌≡◌, refl, sym, ◌∙◌, ap}
use mathlib.Core.Bool.{cond}
use mathlib.Core.Logic.{◌≢◌}
use mathlib.Core.List.{List, [], ◌++◌, map}
use Prim.Native.Nat.{ℕ, zero, suc, ◌+◌, ◌*◌, ◌/◌, ◌%◌, ◌<◌, ◌≤◌}
use native.Mathlib.Omega.{arith}
use native.Mathlib.Decide.{dec_lt}
use borrow.Author.Tests.{eq-eqb, ne_eqb}
use lib.Dec.{eqb}
use lib.IntN.{ℤ, pos}
use lib.ListN.{length, get_or, drop, get_or-eq_default, get_or-map}
use lib.Seq.{get_or-drop}
use Rattle.base_exact.specs.Rational.{ℚ, int}
use Rattle.base_exact.specs.Tabulate.{tab}
use Rattle.base_exact.proofs.Decide.{cond_true, cond_false}
use Rattle.base_exact.proofs.Tabulate.{tab_length, tab_get_d, get_d_tab}
use Rattle.spec_spline.specs.Table.{Row, Table, entry, row, cell, identity, row_cells, table_cells, stored}

-- ---- past the ends

pub entry_past : (r : Row) (c : ℕ) → length r ≤ c → entry r c ≡ int (pos 0)
entry_past r c h = get_or-eq_default r (int (pos 0)) h

pub row-past : (t : Table) (i : ℕ) → length t ≤ i → row t i ≡ []
row-past t i h = get_or-eq_default t [] h

pub cell-past : (t : Table) (i c : ℕ) → length t ≤ i → cell t i c ≡ int (pos 0)
cell-past t i c h = ap (λ r. entry r c) (row-past t i h)

-- ---- the rows and columns from some row and some column on

drop-empty : (n : ℕ) → ◌≡◌ {A = Row} (drop n []) []
drop-empty zero = refl
drop-empty (suc n) = refl

pub cell-drop : (rows columns : ℕ) (t : Table) (i c : ℕ) → cell (map (drop columns) (drop rows t)) i c ≡ cell t (rows + i) (columns + c)
cell-drop rows columns t i c =
    ap (λ r. entry (get_or (map (drop columns) (drop rows t)) i r) c) (sym (drop-empty columns))
    ∙ ap (λ r. entry r c) (get_or-map (drop columns) (drop rows t) i [] ∙ ap (drop columns) (get_or-drop rows t i []))
    ∙ get_or-drop columns (row t (rows + i)) c (int (pos 0))

-- ---- the identity

pub identity-rows : (n : ℕ) → length (identity n) ≡ n
unfolding identity
identity-rows n = tab_length n _

identity-row : (n i : ℕ) → i < n → row (identity n) i ≡ tab n (λ j. cond (eqb i j) (int (pos 1)) (int (pos 0)))
unfolding identity
identity-row n i h = tab_get_d n _ i [] h

pub identity_wide : (n i : ℕ) → i < n → length (row (identity n) i) ≡ n
identity_wide n i h = ap length (identity-row n i h) ∙ tab_length n _

identity-cell : (n i c : ℕ) → i < n → c < n → cell (identity n) i c ≡ cond (eqb i c) (int (pos 1)) (int (pos 0))
identity-cell n i c h k = ap (λ r. entry r c) (identity-row n i h) ∙ tab_get_d n _ c (int (pos 0)) k

pub identity_on : (n i : ℕ) → i < n → cell (identity n) i i ≡ int (pos 1)
identity_on n i h = identity-cell n i i h h ∙ cond_true (int (pos 1)) (int (pos 0)) (eq-eqb i i refl)

-- outside, and off the diagonal
pub identity_low : (n i c : ℕ) → n ≤ i → cell (identity n) i c ≡ int (pos 0)
identity_low n i c h = cell-past (identity n) i c (rw (identity-rows n) h)

pub identity_off : (n i c : ℕ) → i ≢ c → cell (identity n) i c ≡ int (pos 0)
identity_off n i c h = go (dec_lt i n) (dec_lt c n)
  where
    go : Dec (i < n) → Dec (c < n) → cell (identity n) i c ≡ int (pos 0)
    go (no k) d = identity_low n i c (omega arith)
    go (yes k) (no l) = entry_past (row (identity n) i) c (rw (identity_wide n i k) (omega arith))
    go (yes k) (yes l) = identity-cell n i c k l ∙ cond_false (int (pos 1)) (int (pos 0)) (ne_eqb i c h)

-- ---- a table in a buffer

stored_at : (t : Table) (i c : ℕ) → c < row_cells → stored t (row_cells * i + c) ≡ cell t i c
stored_at t i c h =
    ap (λ n. cell t n ((row_cells * i + c) % row_cells)) (let e : (row_cells * i + c) / row_cells ≡ i = omega arith in e)
    ∙ ap (λ n. cell t i n) (let e : (row_cells * i + c) % row_cells ≡ c = omega arith in e)

-- f takes the number that a cell holds of its fraction
pub laid_cell : (f : ℚ → ℤ) (t : Table) (rest : List ℤ) (i c : ℕ) → i < row_cells → c < row_cells
    → get_or (tab table_cells (λ k. f (stored t k)) ++ rest) (row_cells * i + c) (pos 0) ≡ f (cell t i c)
laid_cell f t rest i c h l = get_d_tab table_cells (λ k. f (stored t k)) rest (row_cells * i + c) (pos 0) (omega arith) ∙ ap f (stored_at t i c l)
