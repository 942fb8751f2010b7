-- The cells of a row after l take those of the next row, and the last row becomes 0/1: the table without row l.
-- Assumes nothing.
use borrow.Author.Rules.{rules}
use mathlib.Core.Path.{◌≡◌, sym, ◌∙◌, ap}
use mathlib.Core.List.{List, ◌++◌}
use Prim.Native.Nat.{ℕ, suc, ◌+◌, ◌-◌, ◌*◌, ◌<◌, ◌≤◌}
use native.Mathlib.Decide.{dec_lt}
use native.Mathlib.Omega.{arith}
use lib.IntN.{ℤ, pos}
use lib.ListN.{length, get_or, take, drop}
use Rattle.base_exact.specs.Rational.{ℚ, int}
use Rattle.base_exact.proofs.Rational.{int_num, int-den}
use Rattle.spec_spline.specs.Table.{Table, entry, cell, row_cells, table_cells}
use Rattle.spec_spline.proofs.Table.{cell-past}
use Rattle.build_cells.specs.Region.{filled, moved}
use Rattle.build_cells.proofs.Region.{filled_length, filled-inside, filled-before, filled-after, moved_length, moved_inside, moved_before, moved-after}
use Rattle.build_cells.proofs.Tables.{row-without-before, row-without_from}
use Rattle.build_cells.proofs.Buffer.{laid, laid_by, laid-reads, numerator, denominator, numerators-laid, denominators-laid, holds_num, holds-den}
use Rattle.build_table.proofs.drop_row.Statement.{statement}
use Rattle.build_table.proofs.drop_row.Tie as tie

-- one buffer: v is what an unused cell holds, and e the start of the last row
module _ (f : ℚ → ℤ) (v : ℤ) (unused : v ≡ f (int (pos 0))) (t : Table) (l rows : ℕ) (size : length t ≡ rows) (below : l < rows) (few : rows ≤ row_cells)
    (xs : List ℤ) (long : table_cells ≤ length xs) (is : xs ≡ laid f t xs) where
  abbrev e : ℕ
  e = 72 * (rows - 1)

  abbrev shifted : List ℤ
  shifted = moved (72 * l) e xs

  abbrev cleared : List ℤ
  cleared = filled e (e + 72) v shifted

  abbrev without : Table
  without = take l t ++ drop (suc l) t

  -- where a row lies: before l, from l up to the last, the last, and after it
  data Place (i : ℕ) : Type 0 where
    before : i < l → Place i
    between : l ≤ i → i < rows - 1 → Place i
    last : i ≡ rows - 1 → Place i
    after : rows ≤ i → Place i

  place : (i : ℕ) → Place i
  place i = go (dec_lt i l) (dec_lt i (rows - 1)) (dec_lt i rows)
    where
      go : Dec (i < l) → Dec (i < rows - 1) → Dec (i < rows) → Place i
      go (yes p) q r = before p
      go (no p) (yes q) r = between (omega arith) q
      go (no p) (no q) (yes r) = last (omega arith)
      go (no p) (no q) (no r) = after (omega arith)

  cells : (i c : ℕ) → i < row_cells → c < row_cells → Place i → get_or cleared (72 * i + c) (pos 0) ≡ f (cell without i c)
  cells i c h k (before p) =
      filled-before e (e + 72) v shifted (72 * i + c) (omega arith)
      ∙ moved_before (72 * l) e xs (72 * i + c) (omega arith)
      ∙ laid-reads f t is i c h k
      ∙ ap (λ r. f (entry r c)) (sym (row-without-before t l i (omega arith) p))
  cells i c h k (between p q) =
      filled-before e (e + 72) v shifted (72 * i + c) (omega arith)
      ∙ moved_inside (72 * l) e xs (72 * i + c) (omega arith) (omega arith) (omega arith)
      ∙ ap (λ n. get_or xs n (pos 0)) (let z : 72 * i + c + 72 ≡ 72 * suc i + c = omega arith in z)
      ∙ laid-reads f t is (suc i) c (omega arith) k
      ∙ ap (λ r. f (entry r c)) (sym (row-without_from t l i (omega arith) p))
  cells i c h k (last p) =
      filled-inside e (e + 72) v shifted (72 * i + c) (omega arith) (omega arith) (omega (arith, moved_length (72 * l) e xs))
      ∙ unused
      ∙ ap f (sym (cell-past t (suc i) c (omega arith)))
      ∙ ap (λ r. f (entry r c)) (sym (row-without_from t l i (omega arith) (omega arith)))
  cells i c h k (after p) =
      filled-after e (e + 72) v shifted (72 * i + c) (omega arith)
      ∙ moved-after (72 * l) e xs (72 * i + c) (omega arith)
      ∙ laid-reads f t is i c h k
      ∙ ap f (cell-past t i c (omega arith) ∙ sym (cell-past t (suc i) c (omega arith)))
      ∙ ap (λ r. f (entry r c)) (sym (row-without_from t l i (omega arith) (omega arith)))

  past : (k : ℕ) → table_cells ≤ k → get_or cleared k (pos 0) ≡ get_or xs k (pos 0)
  past k h = filled-after e (e + 72) v shifted k (omega arith) ∙ moved-after (72 * l) e xs k (omega arith)

  dropped : cleared ≡ laid f without xs
  dropped = laid_by f without xs cleared long (filled_length e (e + 72) v shifted ∙ moved_length (72 * l) e xs) (λ i c h k. cells i c h k (place i)) past

returns : tie.Need-returns
returns c t h size =
    let m = c.before.before.before.before.before.before.before in
    let s = m.before.before.before in
    let a = s.args in
    let moves = m.move_up.ensures in
    let clears = c.before.before.clear.ensures in
    let start = 72 * (a.rows - 1) in (
      clears.0
          ∙ ap (filled start (start + 72) (pos 0)) moves.0
          ∙ dropped numerator (pos 0) (sym (int_num (pos 0))) t a.l a.rows size s.requires.0 s.requires.1.0 a.num.now s.requires.1.1.0 (holds_num h)
          ∙ sym (numerators-laid _ _),
      clears.1
          ∙ ap (filled start (start + 72) (pos 1)) moves.1
          ∙ dropped denominator (pos 1) (ap pos (sym (int-den (pos 0)))) t a.l a.rows size s.requires.0 s.requires.1.0 a.den.now s.requires.1.1.1 (holds-den h)
          ∙ sym (denominators-laid _ _),
    )

pub drop_row_spec : {M : Type 1} → statement M
drop_row_spec = tie.close (tie.spec (λ c. search rules) (λ c. search rules) (λ c. search rules) (λ c κs. search rules) (λ c. search rules)
    (λ c κs. search rules) (λ c. search rules) (λ c. search rules) returns)
