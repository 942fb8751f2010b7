-- The rows in use 0/1, as all others are, and then 1 at 73 i = 72 i + i for each i below n: the identity. Assumes nothing.
use borrow.Author.Rules.{rules}
use mathlib.Core.Path.{◌≡◌, sym, ◌∙◌, ap}
use mathlib.Core.Bool.{false}
use mathlib.Core.Logic.{◌≢◌}
use mathlib.Core.List.{List}
use Prim.Native.Nat.{ℕ, ◌+◌, ◌*◌, ◌%◌, ◌<◌, ◌≤◌}
use native.Mathlib.Decide.{dec_lt, ℕ_discrete}
use native.Mathlib.Omega.{arith}
use lib.IntN.{ℤ, pos}
use lib.ListN.{length, get_or}
use Rattle.base_exact.specs.Rational.{den, int}
use Rattle.base_exact.proofs.Rational.{int_num, int-den}
use Rattle.spec_spline.specs.Table.{cell, identity, row_cells, table_cells, numerators, denominators}
use Rattle.spec_spline.proofs.Table.{identity_low, identity_off, identity_on}
use Rattle.build_cells.specs.Region.{filled, marked}
use Rattle.build_cells.proofs.Region.{filled_length, filled-inside, filled-after, diagonal, diagonal_yes, diagonal_off, diagonal-after, marked_length, marked_on, marked_off}
use Rattle.build_cells.proofs.Buffer.{laid_by, numerator, denominator, numerators-laid, denominators-laid}
use Rattle.build_table.proofs.identity_over.Statement.{statement}
use Rattle.build_table.proofs.identity_over.Tie as tie

-- an entry of the identity: on the diagonal, or zero
data Unit-entry (n i c : ℕ) : Type 0 where
  on : i ≡ c → i < n → Unit-entry n i c
  off : i ≢ c → Unit-entry n i c
  low : i ≡ c → n ≤ i → Unit-entry n i c

unit-entry : (n i c : ℕ) → Unit-entry n i c
unit-entry n i c = go (ℕ_discrete i c) (dec_lt i n)
  where
    go : Dec (i ≡ c) → Dec (i < n) → Unit-entry n i c
    go (yes e) (yes l) = on e l
    go (yes e) (no l) = low e (omega arith)
    go (no e) d = off e

-- v in all cells of the table from a row on
abbrev ClearIn : ℤ → ℕ → List ℤ → Type 0
ClearIn v used xs = (k : ℕ) → 72 * used ≤ k → k < table_cells → get_or xs k (pos 0) ≡ v

-- and after the rows before it have been filled in every cell of the table
cleared-cells : (v : ℤ) (used : ℕ) (xs : List ℤ) → used ≤ row_cells → table_cells ≤ length xs → ClearIn v used xs → (k : ℕ) → k < table_cells
    → get_or (filled 0 (72 * used) v xs) k (pos 0) ≡ v
cleared-cells v used xs few h clear k l = go (dec_lt k (72 * used))
  where
    go : Dec (k < 72 * used) → get_or (filled 0 (72 * used) v xs) k (pos 0) ≡ v
    go (yes b) = filled-inside 0 (72 * used) v xs k (omega arith) b (omega arith)
    go (no b) = filled-after 0 (72 * used) v xs k (omega arith) ∙ clear k (omega arith) l

-- the numerators
module _ (n used : ℕ) (xs : List ℤ) (small : n ≤ row_cells) (few : used ≤ row_cells) (h : table_cells ≤ length xs) (clear : ClearIn (pos 0) used xs) where
  zeros : List ℤ
  zeros = filled 0 (72 * used) (pos 0) xs

  zeros_at : (i c : ℕ) → i < row_cells → c < row_cells → cell (identity n) i c ≡ int (pos 0) → get_or zeros (72 * i + c) (pos 0) ≡ (cell (identity n) i c).num
  unfolding zeros
  zeros_at i c k l z = cleared-cells (pos 0) used xs few h clear (72 * i + c) (omega arith) ∙ sym (int_num (pos 0)) ∙ ap numerator (sym z)

  num_cells : (i c : ℕ) → i < row_cells → c < row_cells → Unit-entry n i c → get_or (marked n zeros) (72 * i + c) (pos 0) ≡ (cell (identity n) i c).num
  unfolding zeros
  num_cells i c k l (on e b) =
      marked_on n zeros (72 * i + c) (omega (arith, filled_length 0 (72 * used) (pos 0) xs)) (diagonal_yes n (72 * i + c) (omega arith) (omega arith))
      ∙ sym (int_num (pos 1))
      ∙ ap numerator (sym (identity_on n i b))
      ∙ ap (λ m. (cell (identity n) i m).num) e
  num_cells i c k l (off e) = marked_off n zeros (72 * i + c) (diagonal_off n (72 * i + c) (λ z. omega arith)) ∙ zeros_at i c k l (identity_off n i c e)
  num_cells i c k l (low e b) = marked_off n zeros (72 * i + c) (diagonal-after n (72 * i + c) (omega arith)) ∙ zeros_at i c k l (identity_low n i c b)

  num_past : (k : ℕ) → table_cells ≤ k → get_or (marked n zeros) k (pos 0) ≡ get_or xs k (pos 0)
  unfolding zeros
  num_past k l = marked_off n zeros k (off_table (ℕ_discrete (k % 73) 0)) ∙ filled-after 0 (72 * used) (pos 0) xs k (omega arith)
    where
      off_table : Dec (k % 73 ≡ 0) → diagonal n k ≡ false
      off_table (yes z) = diagonal-after n k (omega arith)
      off_table (no z) = diagonal_off n k z

  num_is : marked n zeros ≡ numerators (identity n) xs
  unfolding zeros
  num_is =
      laid_by numerator (identity n) xs (marked n zeros) h (marked_length n zeros ∙ filled_length 0 (72 * used) (pos 0) xs) (λ i c k l. num_cells i c k l (unit-entry n i c)) num_past
      ∙ sym (numerators-laid (identity n) xs)

-- the denominators
den-one : (n i c : ℕ) → Unit-entry n i c → pos 1 ≡ pos (den (cell (identity n) i c))
den-one n i c (on e l) = ap pos (sym (int-den (pos 1))) ∙ ap denominator (sym (identity_on n i l)) ∙ ap (λ m. pos (den (cell (identity n) i m))) e
den-one n i c (off e) = ap pos (sym (int-den (pos 0))) ∙ ap denominator (sym (identity_off n i c e))
den-one n i c (low e l) = ap pos (sym (int-den (pos 0))) ∙ ap denominator (sym (identity_low n i c l))

den_is : (n used : ℕ) (xs : List ℤ) → used ≤ row_cells → table_cells ≤ length xs → ClearIn (pos 1) used xs → filled 0 (72 * used) (pos 1) xs ≡ denominators (identity n) xs
den_is n used xs few h clear =
    laid_by denominator (identity n) xs (filled 0 (72 * used) (pos 1) xs) h (filled_length 0 (72 * used) (pos 1) xs)
    (λ i c k l. cleared-cells (pos 1) used xs few h clear (72 * i + c) (omega arith) ∙ den-one n i c (unit-entry n i c))
    (λ k l. filled-after 0 (72 * used) (pos 1) xs k (omega arith))
    ∙ sym (denominators-laid (identity n) xs)

returns : tie.Need-returns
unfolding zeros
returns c =
    let s = c.before.before.before.before.before.before.before.before in
    let cleared = c.before.before.before.before.before.clear_rows.ensures in
    let a = s.args in
    let clear = s.requires.1.1 in (
      c.before.mark_diagonal.ensures ∙ ap (marked a.n) cleared.0 ∙ num_is a.n a.used a.num.now (omega arith) (omega arith) (omega arith) clear.zeros,
      cleared.1 ∙ den_is a.n a.used a.den.now (omega arith) (omega arith) clear.ones,
    )

pub identity_over_spec : {M : Type 1} → statement M
identity_over_spec = tie.close (tie.spec (λ c κs. search rules) (λ c κs. search rules) (λ c. search rules) (λ c. search rules) returns)
