-- The terms of a column, row by row: what the buffers hold for a row, and what one row more does to the terms.
use mathlib.Core.Path.{◌≡◌, refl, sym, ◌∙◌, ap}
use mathlib.Core.Logic.{◌≢◌}
use mathlib.Core.Bool.{true, false, not}
use mathlib.Core.List.{List}
use mathlib.Core.Option
use mathlib.Core.Option.{some}
use Prim.Native.Nat.{ℕ, suc, ◌+◌, ◌*◌, ◌<◌, ◌≤◌}
use native.Mathlib.Omega.{arith}
use native.Mathlib.Numerals.{add-one}
use borrow.Author.Tests.{ne_eqb}
use lib.Dec.{eqb}
use lib.IntN.{ℤ, pos, nat_abs, ◌+ℤ◌, ◌*ℤ◌}
use lib.ListN.{get_or}
use lib.Signed.{le_z}
use Rattle.base_exact.specs.Rational
use Rattle.base_exact.specs.Order.{is_zero}
use Rattle.base_exact.proofs.Decide.{cond_true, cond_false}
use Rattle.base_exact.proofs.Integer.{abs-zero, abs-add, +-zero}
use Rattle.base_fraction.specs.Machine.{fraction}
use Rattle.spec_spline.specs.Table.{Table, cell, row_cells}
use Rattle.spec_spline.specs.Reading.{best, least, greatest, preferred, has_weight, term_sum, term, rounded, fine}
use Rattle.spec_spline.proofs.Reading.{best-skips, best_takes}
use Rattle.build_cells.specs.Held.{Holds}
use Rattle.build_cells.proofs.Buffer.{holds-cell}
use Rattle.curve_ordinates.specs.Ordinates.{known, given, terms_of, Added, ordinate_limit}
use Rattle.curve_ordinates.specs.declared.Terms.{Terms}
use Rattle.curve_ordinates.proofs.Best.{given-known, known-best}

-- ---- one cell of the buffers

module _ {num den : List ℤ} {t : Table} (h : Holds num den t) (i c : ℕ) (k : i < row_cells) (l : c < row_cells) where
  pub cell_num : get_or num (72 * i + c) (pos 0) ≡ (cell t i c).num
  unfolding fraction
  cell_num = ap (λ f. f.num) (holds-cell h i c k l)

  pub cell-den : get_or den (72 * i + c) (pos 0) ≡ pos (Rational.den (cell t i c))
  unfolding fraction
  cell-den = ap (λ f. f.den) (holds-cell h i c k l)

-- ---- whether a row has weight on a column
pub weightless : (t : Table) (c i : ℕ) → (cell t i c).num ≡ pos 0 → has_weight t c i ≡ false
unfolding is_zero
weightless t c i e = ap (λ z. not (eqb (nat_abs z) 0)) e

pub weighted : (t : Table) (c i : ℕ) → (cell t i c).num ≢ pos 0 → has_weight t c i ≡ true
unfolding is_zero
weighted t c i h = ap not (ne_eqb (nat_abs (cell t i c).num) 0 (λ e. h (abs-zero _ e)))

-- ---- one row more

module _ (t : Table) (a : ℕ → ℤ) (c : ℕ) where
  pub terms_none : record { some = false; sum = pos 0; least = pos 0; greatest = pos 0 } ≡ terms_of t a c 0
  unfolding terms_of term_sum best
  terms_none = refl

  pub terms_skip : (n : ℕ) → has_weight t c n ≡ false → terms_of t a c n ≡ terms_of t a c (suc n)
  unfolding terms_of term_sum
  terms_skip n e = λ z. record {
    some = ap known (sym (best-skips le_z (has_weight t c) a n e)) z;
    sum = sym (ap (λ x. term_sum t a c n +ℤ x) (cond_false (term (cell t n c) (a n)) (pos 0) e) ∙ +-zero (term_sum t a c n)) z;
    least = ap (λ o. Option.get_or o (pos 0)) (sym (best-skips le_z (has_weight t c) a n e)) z;
    greatest = ap (λ o. Option.get_or o (pos 0)) (sym (best-skips (λ y x. le_z x y) (has_weight t c) a n e)) z;
  }

  pub terms_more : (n : ℕ) (before after : Terms) → has_weight t c n ≡ true → before ≡ terms_of t a c n
      → Added before (a n) (cell t n c).num (pos (Rational.den (cell t n c))) after → after ≡ terms_of t a c (suc n)
  unfolding terms_of term_sum term
  terms_more n before after e b m = λ z. record {
    some = (m.is_some ∙ sym (ap known (best_takes le_z (has_weight t c) a n e))) z;
    sum = (m.is_sum ∙ ap (λ x. x.sum +ℤ term (cell t n c) (a n)) b
        ∙ sym (ap (λ x. term_sum t a c n +ℤ x) (cond_true (term (cell t n c) (a n)) (pos 0) e))) z;
    least = (m.is_least ∙ ap (λ x. preferred le_z (given x.some x.least) (a n)) b
        ∙ ap (λ o. preferred le_z o (a n)) (given-known (least n (has_weight t c) a))
        ∙ sym (ap (λ o. Option.get_or o (pos 0)) (best_takes le_z (has_weight t c) a n e))) z;
    greatest = (m.is_greatest ∙ ap (λ x. preferred (λ y w. le_z w y) (given x.some x.greatest) (a n)) b
        ∙ ap (λ k. preferred (λ y w. le_z w y) (given k (Option.get_or (greatest n (has_weight t c) a) (pos 0))) (a n))
        (known-best le_z (λ y w. le_z w y) (has_weight t c) a n)
        ∙ ap (λ o. preferred (λ y w. le_z w y) o (a n)) (given-known (greatest n (has_weight t c) a))
        ∙ sym (ap (λ o. Option.get_or o (pos 0)) (best_takes (λ y x. le_z x y) (has_weight t c) a n e))) z;
  }

-- ---- the first rows of the buffers

module _ (num den : List ℤ) (a : ℕ → ℤ) (c : ℕ) where
  pub record Gathered (all : Terms) (i : ℕ) : Type 0 where
    pub is : (t : Table) → Holds num den t → all ≡ terms_of t a c i
    pub small : nat_abs all.sum ≤ i * ordinate_limit

  pub gathered_none : Gathered (record { some = false; sum = pos 0; least = pos 0; greatest = pos 0 }) 0
  gathered_none = record { is = λ t h. terms_none t a c; small = omega arith }

  module _ (i : ℕ) (k : i < row_cells) (l : c < row_cells) (all : Terms) (g : Gathered all i) where
    -- a cell of 0
    pub gathered_skip : get_or num (72 * i + c) (pos 0) ≡ pos 0 → Gathered all (i + 1)
    gathered_skip e = record {
      is = λ t h. g.is t h ∙ terms_skip t a c i (weightless t c i (sym (cell_num h i c k l) ∙ e)) ∙ ap (terms_of t a c) (sym (add-one i));
      small = omega (arith, g.small);
    }

    -- a cell of another number
    pub gathered_more : (after : Terms) → get_or num (72 * i + c) (pos 0) ≢ pos 0
        → Added all (a i) (get_or num (72 * i + c) (pos 0)) (get_or den (72 * i + c) (pos 0)) after → Gathered after (i + 1)
    gathered_more after e m = record {
      is = λ t h. terms_more t a c i all after (weighted t c i (λ z. e (cell_num h i c k l ∙ z))) (g.is t h)
          (rw (cell_num h i c k l, cell-den h i c k l) at m) ∙ ap (terms_of t a c) (sym (add-one i));
      small = rw m.is_sum (omega (
        arith,
        g.small,
        m.small,
        abs-add all.sum (rounded (fine (a i) *ℤ get_or num (72 * i + c) (pos 0)) (nat_abs (get_or den (72 * i + c) (pos 0)))),
      ));
    }
