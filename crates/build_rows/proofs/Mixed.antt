-- A row that is written over by its new entries in one of the buffers.
use mathlib.Core.Path.{◌≡◌, sym, ◌∙◌, ap}
use mathlib.Core.Logic.{◌≢◌}
use mathlib.Core.List.{List, []}
use Prim.Native.Nat.{ℕ, ◌+◌, ◌*◌, ◌<◌, ◌≤◌}
use native.Mathlib.Omega.{arith}
use native.Mathlib.Decide.{dec_lt, ℕ_discrete}
use lib.IntN.{ℤ, pos}
use lib.ListN.{length, get_or, set}
use lib.Seq.{get_or-set_same, get_or-set_other}
use Rattle.base_exact.specs.Rational.{ℚ, int}
use Rattle.base_exact.specs.Tabulate.{tab}
use Rattle.base_exact.proofs.Tabulate.{tab_length, tab_get_d}
use Rattle.spec_spline.specs.Table.{Table, entry, row, cell, row_cells, table_cells}
use Rattle.spec_spline.proofs.Table.{entry_past}
use Rattle.build_cells.proofs.Region.{Written}
use Rattle.build_cells.proofs.Buffer.{laid, laid_by, laid-reads}

-- g gives the new entries of row i
module _ (f : ℚ → ℤ) (t : Table) (i columns : ℕ) (g : ℕ → ℚ) (b xs : List ℤ) (long : table_cells ≤ length b) (is : b ≡ laid f t b)
    (inside : i < length t) (low : i < row_cells) (wide : length (row t i) ≡ columns) (few : columns ≤ row_cells)
    (written : Written b xs (72 * i) (72 * i + columns))
    (new : (c : ℕ) → c < columns → get_or xs (72 * i + c) (pos 0) ≡ f (g c)) where
  abbrev made : Table
  made = set t i (tab columns g)

  made_other : (k c : ℕ) → k ≢ i → cell made k c ≡ cell t k c
  made_other k c h = ap (λ r. entry r c) (get_or-set_other t i k (tab columns g) [] h)

  made_row : row made i ≡ tab columns g
  made_row = get_or-set_same t i (tab columns g) [] inside

  in_row : (c : ℕ) → c < row_cells → Dec (c < columns) → get_or xs (72 * i + c) (pos 0) ≡ f (cell made i c)
  in_row c h (yes l) = new c l ∙ ap f (sym (ap (λ r. entry r c) made_row ∙ tab_get_d columns g c (int (pos 0)) l))
  in_row c h (no l) =
      written.after (72 * i + c) (omega arith)
      ∙ laid-reads f t is i c low h
      ∙ ap f (entry_past (row t i) c (omega arith) ∙ sym (ap (λ r. entry r c) made_row ∙ entry_past (tab columns g) c (omega (arith, tab_length columns g))))

  cells : (k c : ℕ) → k < row_cells → c < row_cells → Dec (k < i) → Dec (k ≡ i) → get_or xs (72 * k + c) (pos 0) ≡ f (cell made k c)
  cells k c h l d (yes e) = ap (λ n. get_or xs (72 * n + c) (pos 0)) e ∙ in_row c l (dec_lt c columns) ∙ ap (λ n. f (cell made n c)) (sym e)
  cells k c h l (yes d) (no e) = written.before (72 * k + c) (omega arith) ∙ laid-reads f t is k c h l ∙ ap f (sym (made_other k c e))
  cells k c h l (no d) (no e) = written.after (72 * k + c) (omega arith) ∙ laid-reads f t is k c h l ∙ ap f (sym (made_other k c e))

  pub row_laid : xs ≡ laid f made b
  row_laid = laid_by f made b xs long written.long (λ k c h l. cells k c h l (dec_lt k i) (ℕ_discrete k i)) (λ k h. written.after k (omega arith))
