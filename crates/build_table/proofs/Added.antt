-- Rows of the identity after those of a table, in one of the buffers.
use mathlib.Core.Path.{◌≡◌, sym, ◌∙◌, ap}
use mathlib.Core.Bool.{false}
use mathlib.Core.Logic.{◌≢◌}
use mathlib.Core.List.{List, [], ◌++◌, append-nil}
use Prim.Native.Nat.{ℕ, ◌+◌, ◌-◌, ◌*◌, ◌%◌, ◌/◌, ◌<◌, ◌≤◌}
use native.Mathlib.Omega.{arith}
use native.Mathlib.Decide.{dec_lt, ℕ_discrete}
use lib.IntN.{ℤ, pos}
use lib.ListN.{length, get_or, take, drop, length-append, length-take, length-drop, take-append-drop, drop_of_length-le, get_or-append}
use lib.Seq.{get_or-take, get_or-drop, get_or-append-add}
use Rattle.base_exact.specs.Rational.{den, int}
use Rattle.base_exact.proofs.Rational.{int_num, int-den}
use Rattle.base_exact.proofs.Tabulate.{tab_ext}
use Rattle.spec_spline.specs.Table.{Table, entry, row, cell, identity, row_cells, table_cells, numerators, denominators}
use Rattle.spec_spline.proofs.Table.{cell-past, identity-rows, identity_on, identity_off}
use Rattle.build_cells.specs.Region.{marked}
use Rattle.build_cells.proofs.Region.{diagonal, diagonal_yes, diagonal_off, diagonal-after, marked_length, marked_on, marked_off}
use Rattle.build_cells.proofs.Buffer.{laid_by, laid-reads, numerator, numerators-laid}

-- all of a list
pub take_whole : {A : Type 0} (n : ℕ) (xs : List A) → length xs ≤ n → take n xs ≡ xs
take_whole n xs h = sym (append-nil (take n xs)) ∙ ap (λ ys. take n xs ++ ys) (sym (drop_of_length-le xs {i = n} h)) ∙ take-append-drop n xs

-- ---- the rows of the identity from one column on
module _ (t : Table) (column n m : ℕ) (wide : column + n ≤ m) where
  abbrev pub units : Table
  units = take n (drop column (identity m))

  pub units_length : length units ≡ n
  units_length = omega (arith, length-take n (drop column (identity m)), length-drop column (identity m), identity-rows m)

  pub unit_row : (d : ℕ) → d < n → row units d ≡ row (identity m) (column + d)
  unit_row d h = get_or-take n (drop column (identity m)) d [] h ∙ get_or-drop column (identity m) d []

  -- a cell of the table with them
  pub cell-before : (i c : ℕ) → i < length t → cell (t ++ units) i c ≡ cell t i c
  cell-before i c h = ap (λ r. entry r c) (get_or-append t units [] i h)

  pub cell-added : (i c d : ℕ) → i ≡ length t + d → d < n → cell (t ++ units) i c ≡ cell (identity m) (column + d) c
  cell-added i c d e h = ap (λ k. cell (t ++ units) k c) e ∙ ap (λ r. entry r c) (get_or-append-add t units d []) ∙ ap (λ r. entry r c) (unit_row d h)

  pub cell-after : (i c : ℕ) → length t + n ≤ i → cell (t ++ units) i c ≡ int (pos 0)
  cell-after i c h = cell-past (t ++ units) i c (omega (arith, length-append t units, units_length))

  -- its denominators are those of the table without them: 1 in every new cell
  den-kept : (i c : ℕ) → den (cell (t ++ units) i c) ≡ den (cell t i c)
  den-kept i c = go (dec_lt i (length t)) (dec_lt i (length t + n))
    where
      one : (d : ℕ) → Dec (column + d ≡ c) → d < n → den (cell (identity m) (column + d) c) ≡ 1
      one d (yes e) h = ap (λ k. den (cell (identity m) (column + d) k)) (sym e) ∙ ap den (identity_on m (column + d) (omega arith)) ∙ int-den (pos 1)
      one d (no e) h = ap den (identity_off m (column + d) c e) ∙ int-den (pos 0)

      none : length t ≤ i → 1 ≡ den (cell t i c)
      none h = sym (ap den (cell-past t i c h) ∙ int-den (pos 0))

      go : Dec (i < length t) → Dec (i < length t + n) → den (cell (t ++ units) i c) ≡ den (cell t i c)
      go (yes h) b = ap den (cell-before i c h)
      go (no h) (yes l) =
          ap den (cell-added i c (i - length t) (omega arith) (omega arith))
          ∙ one (i - length t) (ℕ_discrete (column + (i - length t)) c) (omega arith)
          ∙ none (omega arith)
      go (no h) (no l) = ap den (cell-after i c (omega arith)) ∙ int-den (pos 0) ∙ none (omega arith)

  pub denominators-kept : (b : List ℤ) → denominators (t ++ units) b ≡ denominators t b
  unfolding denominators
  denominators-kept b = ap (λ xs. xs ++ drop table_cells b) (tab_ext table_cells (λ k h. ap pos (den-kept (k / row_cells) (k % row_cells))))

-- ---- the numerators, marked from the first of their cells on
module _ (t : Table) (rows column n m : ℕ) (wide : column + n ≤ m) (size : length t ≡ rows) (some : 0 < n) (low : rows + n ≤ row_cells) (narrow : column + n ≤ row_cells)
    (xs : List ℤ) (long : table_cells ≤ length xs) (is : xs ≡ numerators t xs) where
  abbrev start : ℕ
  start = 72 * rows + column

  abbrev made : List ℤ
  made = take start xs ++ marked n (drop start xs)

  front : length (take start xs) ≡ start
  front = omega (arith, length-take start xs)

  read-before : (k : ℕ) → k < start → get_or made k (pos 0) ≡ get_or xs k (pos 0)
  read-before k h = get_or-append (take start xs) (marked n (drop start xs)) (pos 0) k (omega (arith, front)) ∙ get_or-take start xs k (pos 0) h

  read_from : (k : ℕ) → start ≤ k → get_or made k (pos 0) ≡ get_or (marked n (drop start xs)) (k - start) (pos 0)
  read_from k h =
      ap (λ i. get_or made i (pos 0)) (let z : k ≡ length (take start xs) + (k - start) = omega (arith, front) in z)
      ∙ get_or-append-add (take start xs) (marked n (drop start xs)) (k - start) (pos 0)

  read_kept : (k : ℕ) → start ≤ k → diagonal n (k - start) ≡ false → get_or made k (pos 0) ≡ get_or xs k (pos 0)
  read_kept k h e =
      read_from k h
      ∙ marked_off n (drop start xs) (k - start) e
      ∙ get_or-drop start xs (k - start) (pos 0)
      ∙ ap (λ i. get_or xs i (pos 0)) (let z : start + (k - start) ≡ k = omega arith in z)

  read-marked : (k : ℕ) → start ≤ k → k < table_cells → (k - start) % 73 ≡ 0 → (k - start) / 73 < n → get_or made k (pos 0) ≡ pos 1
  read-marked k h l e q = read_from k h ∙ marked_on n (drop start xs) (k - start) (omega (arith, length-drop start xs)) (diagonal_yes n (k - start) e q)

  -- where a cell lies
  data Place (i c : ℕ) : Type 0 where
    before : i < rows → Place i c
    on : rows ≤ i → i < rows + n → c + rows ≡ column + i → Place i c
    beside : rows ≤ i → i < rows + n → c + rows ≢ column + i → Place i c
    after : rows + n ≤ i → Place i c

  place : (i c : ℕ) → Place i c
  place i c = go (dec_lt i rows) (dec_lt i (rows + n)) (ℕ_discrete (c + rows) (column + i))
    where
      go : Dec (i < rows) → Dec (i < rows + n) → Dec (c + rows ≡ column + i) → Place i c
      go (yes a) b e = before a
      go (no a) (yes b) (yes e) = on (omega arith) b e
      go (no a) (yes b) (no e) = beside (omega arith) b e
      go (no a) (no b) e = after (omega arith)

  -- off the diagonal the cell keeps its zero
  kept : (i c : ℕ) → i < row_cells → c < row_cells → rows ≤ i → (c + rows ≡ column + i → i < rows + n → ⊥) → get_or made (72 * i + c) (pos 0) ≡ numerator (int (pos 0))
  kept i c h l a off = go (dec_lt (72 * i + c) start) ∙ laid-reads numerator t (is ∙ numerators-laid t xs) i c h l ∙ ap numerator (cell-past t i c (omega (arith, size)))
    where
      away : start ≤ 72 * i + c → Dec ((72 * i + c - start) % 73 ≡ 0) → Dec ((72 * i + c - start) / 73 < n) → diagonal n (72 * i + c - start) ≡ false
      away b (no e) q = diagonal_off n (72 * i + c - start) e
      away b (yes e) (no q) = diagonal-after n (72 * i + c - start) (omega arith)
      away b (yes e) (yes q) = absurd (off (omega arith) (omega arith))

      go : Dec (72 * i + c < start) → get_or made (72 * i + c) (pos 0) ≡ get_or xs (72 * i + c) (pos 0)
      go (yes b) = read-before (72 * i + c) b
      go (no b) = read_kept (72 * i + c) (omega arith) (away (omega arith) (ℕ_discrete ((72 * i + c - start) % 73) 0) (dec_lt ((72 * i + c - start) / 73) n))

  cells : (i c : ℕ) → i < row_cells → c < row_cells → Place i c → get_or made (72 * i + c) (pos 0) ≡ numerator (cell (t ++ units t column n m wide) i c)
  cells i c h l (before a) =
      read-before (72 * i + c) (omega arith)
      ∙ laid-reads numerator t (is ∙ numerators-laid t xs) i c h l
      ∙ ap numerator (sym (cell-before t column n m wide i c (omega (arith, size))))
  cells i c h l (on a b e) =
      read-marked (72 * i + c) (omega arith) (omega arith) (omega arith) (omega arith)
      ∙ sym (int_num (pos 1))
      ∙ ap numerator (sym (cell-added t column n m wide i c (i - rows) (omega (arith, size)) (omega arith)
      ∙ ap (cell (identity m) (column + (i - rows))) (let z : c ≡ column + (i - rows) = omega arith in z)
      ∙ identity_on m (column + (i - rows)) (omega arith)))
  cells i c h l (beside a b e) =
      kept i c h l a (λ z w. e z)
      ∙ ap numerator (sym (cell-added t column n m wide i c (i - rows) (omega (arith, size)) (omega arith) ∙ identity_off m (column + (i - rows)) c (λ z. e (omega arith))))
  cells i c h l (after a) = kept i c h l (omega arith) (λ z w. omega arith) ∙ ap numerator (sym (cell-after t column n m wide i c (omega (arith, size))))

  made_length : length made ≡ length xs
  made_length = length-append (take start xs) (marked n (drop start xs)) ∙ omega (arith, front, marked_length n (drop start xs), length-drop start xs)

  off_table : (k : ℕ) → table_cells ≤ k → Dec ((k - start) % 73 ≡ 0) → diagonal n (k - start) ≡ false
  off_table k h (yes e) = diagonal-after n (k - start) (omega arith)
  off_table k h (no e) = diagonal_off n (k - start) e

  pub rows-added : made ≡ numerators (t ++ units t column n m wide) xs
  rows-added =
      laid_by numerator (t ++ units t column n m wide) xs made long made_length (λ i c h l. cells i c h l (place i c))
      (λ k h. read_kept k (omega arith) (off_table k h (ℕ_discrete ((k - start) % 73) 0)))
      ∙ sym (numerators-laid (t ++ units t column n m wide) xs)
