-- The two lent buffers seen as a table: reading a cell, and a buffer that is the table's because each of its cells is.
-- A law is stated once, for any number f that a cell holds of its fraction; the buffers are its numerator and denominator.
use mathlib.Core.Path.{◌≡◌, refl, sym, ◌∙◌, ap, subst}
use mathlib.Core.Bool.{true}
use mathlib.Core.List.{List, [], ◌++◌}
use Prim.Native.Nat.{ℕ, ◌+◌, ◌-◌, ◌*◌, ◌/◌, ◌%◌, ◌<◌, ◌≤◌}
use native.Mathlib.Omega.{arith}
use native.Mathlib.Decide.{dec_lt}
use lib.IntN.{ℤ, pos}
use lib.ListN.{length, get_or, drop, length-drop}
use lib.Seq.{ext_get_or, get_or-drop}
use Rattle.base_exact.specs.Rational.{ℚ, den, int}
use Rattle.base_exact.specs.Tabulate.{tab}
use Rattle.base_exact.proofs.Tabulate.{get_d_tab, get_d_past-tab, length_tab, drop-tab}
use Rattle.base_exact.proofs.Rational.{int_num, int-den}
use Rattle.base_fraction.specs.Size.{fits}
use Rattle.base_fraction.specs.Machine.{fraction}
use Rattle.spec_spline.specs.Table.{Table, cell, stored, row_cells, table_cells, numerators, denominators}
use Rattle.spec_spline.proofs.Table.{laid_cell, cell-past}
use Rattle.build_cells.specs.Held.{Holds, Kept, ClearFrom}
use Rattle.build_cells.specs.Region.{filled}
use Rattle.build_cells.proofs.Region.{Written, filled_length, filled-inside, filled-after}

-- ---- a buffer with what f takes of each fraction of the table

unfoldable pub laid : (ℚ → ℤ) → Table → List ℤ → List ℤ
laid f t b = tab table_cells (λ k. f (stored t k)) ++ drop table_cells b

abbrev pub numerator : ℚ → ℤ
numerator q = q.num

abbrev pub denominator : ℚ → ℤ
denominator q = pos (den q)

pub numerators-laid : (t : Table) (b : List ℤ) → numerators t b ≡ laid numerator t b
unfolding numerators laid
numerators-laid t b = refl

pub denominators-laid : (t : Table) (b : List ℤ) → denominators t b ≡ laid denominator t b
unfolding denominators laid
denominators-laid t b = refl

module _ (f : ℚ → ℤ) where
  pub laid_length : (t : Table) (b : List ℤ) → table_cells ≤ length b → length (laid f t b) ≡ length b
  unfolding laid
  laid_length t b h = length_tab table_cells _ b h

  pub laid-stored : (t : Table) (b : List ℤ) (k : ℕ) → k < table_cells → get_or (laid f t b) k (pos 0) ≡ f (stored t k)
  unfolding laid
  laid-stored t b k h = get_d_tab table_cells _ (drop table_cells b) k (pos 0) h

  -- a cell of a buffer that is the table's
  pub laid-reads : (t : Table) {b : List ℤ} → b ≡ laid f t b → (i c : ℕ) → i < row_cells → c < row_cells → get_or b (72 * i + c) (pos 0) ≡ f (cell t i c)
  unfolding laid
  laid-reads t {b} is i c h l = ap (λ (xs : List ℤ). get_or xs (72 * i + c) (pos 0)) is ∙ laid_cell f t (drop table_cells b) i c h l

  pub laid-past : (t : Table) (b : List ℤ) (k : ℕ) → table_cells ≤ k → get_or (laid f t b) k (pos 0) ≡ get_or b k (pos 0)
  unfolding laid
  laid-past t b k h = get_d_past-tab table_cells (λ j. f (stored t j)) b k (pos 0) h

  pub drop-laid : (t : Table) (b : List ℤ) → drop table_cells (laid f t b) ≡ drop table_cells b
  unfolding laid
  drop-laid t b = drop-tab table_cells _ (drop table_cells b)

  -- a table laid over another leaves nothing of it
  pub laid-again : (t s : Table) (b : List ℤ) → laid f t (laid f s b) ≡ laid f t b
  unfolding laid
  laid-again t s b = ap (λ r. tab table_cells (λ k. f (stored t k)) ++ r) (drop-tab table_cells _ (drop table_cells b))

  -- a buffer whose every cell is the table's, and what lies past them as before, is the table's
  pub laid_by : (t : Table) (b xs : List ℤ) → table_cells ≤ length b → length xs ≡ length b
      → ((i c : ℕ) → i < row_cells → c < row_cells → get_or xs (72 * i + c) (pos 0) ≡ f (cell t i c))
      → ((k : ℕ) → table_cells ≤ k → get_or xs k (pos 0) ≡ get_or b k (pos 0))
      → xs ≡ laid f t b
  laid_by t b xs long same cells past = ext_get_or (pos 0) xs (laid f t b) (same ∙ sym (laid_length t b long)) (λ k h. at k (dec_lt k table_cells))
    where
      at : (k : ℕ) → Dec (k < table_cells) → get_or xs k (pos 0) ≡ get_or (laid f t b) k (pos 0)
      at k (yes h) =
          ap (λ n. get_or xs n (pos 0)) (let e : k ≡ 72 * (k / 72) + k % 72 = omega arith in e)
          ∙ cells (k / 72) (k % 72) (omega arith) (omega arith)
          ∙ sym (laid-stored t b k h)
      at k (no h) = past k (omega arith) ∙ sym (laid-past t b k (omega arith))

pub numerators-again : (t s : Table) (b : List ℤ) → numerators t (numerators s b) ≡ numerators t b
unfolding numerators laid
numerators-again t s b = laid-again numerator t s b

pub denominators-again : (t s : Table) (b : List ℤ) → denominators t (denominators s b) ≡ denominators t b
unfolding denominators laid
denominators-again t s b = laid-again denominator t s b

-- ---- a buffer that keeps its length and what lies past the table

pub kept_by : (b xs : List ℤ) → length xs ≡ length b → ((k : ℕ) → table_cells ≤ k → get_or xs k (pos 0) ≡ get_or b k (pos 0)) → Kept b xs
kept_by b xs same past = record {
  long = same;
  rest = ext_get_or (pos 0) (drop table_cells xs) (drop table_cells b) (length-drop table_cells xs ∙ ap (λ n. n - table_cells) same ∙ sym (length-drop table_cells b))
      (λ k h. get_or-drop table_cells xs k (pos 0) ∙ past (table_cells + k) (omega arith) ∙ sym (get_or-drop table_cells b k (pos 0)));
}

pub written-kept : {b xs : List ℤ} {from to : ℕ} → to ≤ table_cells → Written b xs from to → Kept b xs
written-kept {b} {xs} h w = kept_by b xs w.long (λ k l. w.after k (omega arith))

pub kept-laid : (f : ℚ → ℤ) (t : Table) (b : List ℤ) → table_cells ≤ length b → Kept b (laid f t b)
kept-laid f t b h = record { long = laid_length f t b h; rest = drop-laid f t b }

pub kept-numerators : (t : Table) (b : List ℤ) → table_cells ≤ length b → Kept b (numerators t b)
kept-numerators t b h = subst (Kept b) (sym (numerators-laid t b)) (kept-laid numerator t b h)

pub kept-denominators : (t : Table) (b : List ℤ) → table_cells ≤ length b → Kept b (denominators t b)
kept-denominators t b h = subst (Kept b) (sym (denominators-laid t b)) (kept-laid denominator t b h)

pub kept_then : {a b d : List ℤ} → Kept a b → Kept b d → Kept a d
kept_then p q = record { long = q.long ∙ p.long; rest = q.rest ∙ p.rest }

-- ---- buffers that hold a table

pub holds_num : {num den : List ℤ} {t : Table} → Holds num den t → num ≡ laid numerator t num
holds_num {num} {t = t} h = h.num_is ∙ numerators-laid t num

pub holds-den : {num den : List ℤ} {t : Table} → Holds num den t → den ≡ laid denominator t den
holds-den {den = den} {t = t} h = h.den_is ∙ denominators-laid t den

-- the fraction in a cell
pub holds-cell : {num den : List ℤ} {t : Table} → Holds num den t → (i c : ℕ) → i < row_cells → c < row_cells
    → record { num = get_or num (72 * i + c) (pos 0); den = get_or den (72 * i + c) (pos 0) } ≡ fraction (cell t i c)
unfolding fraction
holds-cell {t = t} h i c k l = λ z. record {
  num = laid-reads numerator t (holds_num h) i c k l z;
  den = laid-reads denominator t (holds-den h) i c k l z;
}

-- buffers that a computation left, where the table that it put there fits
pub holds-left : (num den : List ℤ) {num' den' : List ℤ} (t : Table) → table_cells ≤ length num → table_cells ≤ length den → num' ≡ numerators t num → den' ≡ denominators t den
    → ((i c : ℕ) → fits (cell t i c) ≡ true) → Holds num' den' t
holds-left num den {num'} {den'} t n d p q fit = record {
  num_long = omega (arith, ap length num_laid, laid_length numerator t num n);
  den_long = omega (arith, ap length den-laid, laid_length denominator t den d);
  num_is = num_laid ∙ sym (numerators-laid t num' ∙ ap (laid numerator t) num_laid ∙ laid-again numerator t t num);
  den_is = den-laid ∙ sym (denominators-laid t den' ∙ ap (laid denominator t) den-laid ∙ laid-again denominator t t den);
  fit = fit;
}
  where
    num_laid : num' ≡ laid numerator t num
    num_laid = p ∙ numerators-laid t num

    den-laid : den' ≡ laid denominator t den
    den-laid = q ∙ denominators-laid t den

-- ---- the rows past a table are clear

laid_clear : (f : ℚ → ℤ) (v : ℤ) → f (int (pos 0)) ≡ v → (t : Table) (b xs : List ℤ) (rows : ℕ) → length t ≤ rows → xs ≡ laid f t b
    → (k : ℕ) → row_cells * rows ≤ k → k < table_cells → get_or xs k (pos 0) ≡ v
laid_clear f v unused t b xs rows h e k l m =
    ap (λ (ys : List ℤ). get_or ys k (pos 0)) e ∙ laid-stored f t b k m ∙ ap f (cell-past t (k / row_cells) (k % row_cells) (omega arith)) ∙ unused

pub clear_past : (t : Table) (num den num' den' : List ℤ) (rows : ℕ) → length t ≤ rows → num' ≡ numerators t num → den' ≡ denominators t den → ClearFrom num' den' rows
clear_past t num den num' den' rows h p q = record {
  zeros = laid_clear numerator (pos 0) (int_num (pos 0)) t num num' rows h (p ∙ numerators-laid t num);
  ones = laid_clear denominator (pos 1) (ap pos (int-den (pos 0))) t den den' rows h (q ∙ denominators-laid t den);
}

-- ---- a cleared buffer: no table

cleared : (f : ℚ → ℤ) (v : ℤ) → v ≡ f (int (pos 0)) → (b xs : List ℤ) → table_cells ≤ length b → Kept b xs → filled 0 table_cells v xs ≡ laid f [] b
unfolding laid
cleared f v unused b xs long kept =
    laid_by f [] xs (filled 0 table_cells v xs) (omega (arith, kept.long)) (filled_length 0 table_cells v xs)
    (λ i c h k. filled-inside 0 table_cells v xs (72 * i + c) (omega arith) (omega arith) (omega (arith, kept.long)) ∙ unused)
    (λ k h. filled-after 0 table_cells v xs k h)
    ∙ ap (λ r. tab table_cells (λ k. f (stored [] k)) ++ r) kept.rest

pub numerators_cleared : (b xs : List ℤ) → table_cells ≤ length b → Kept b xs → filled 0 table_cells (pos 0) xs ≡ numerators [] b
numerators_cleared b xs long kept = cleared numerator (pos 0) (sym (int_num (pos 0))) b xs long kept ∙ sym (numerators-laid [] b)

pub denominators_cleared : (b xs : List ℤ) → table_cells ≤ length b → Kept b xs → filled 0 table_cells (pos 1) xs ≡ denominators [] b
denominators_cleared b xs long kept = cleared denominator (pos 1) (ap pos (sym (int-den (pos 0)))) b xs long kept ∙ sym (denominators-laid [] b)
