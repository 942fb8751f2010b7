-- The machine's tests of one entry, taken one by one, and the tests of the definitions, which join them by `||`. A test
-- of order is its flag, as `simp to_z-of_z at c.if1.taken` leaves it.
use mathlib.Core.Path.{◌≡◌, refl, sym, ◌∙◌, ap, ap₂}
use mathlib.Core.Bool.{Bool, true, false, not, ◌&&◌, ◌||◌, and-false, or-true}
use Prim.Native.Nat.{ℕ, zero, suc, ◌+◌, ◌-◌, ◌<◌, ◌≤◌}
use native.Mathlib.Omega.{arith}
use native.Mathlib.Numerals.{add-one}
use borrow.Author.Tests.{le-leb, lt-leb, eqb-true, eqb-false, eq-eqb, ne_eqb}
use mir.Syntax.{w32}
use mir.Val.{SFits, of_z}
use lib.Dec.{eqb, ltb}
use lib.IntN.{ℤ, pos, negsuc, ◌-ℤ◌}
use lib.ListN.{length}
use lib.Signed.{lt_z, le_z}
use Rattle.base_exact.proofs.Word.{le_z_not_lt_z, sfits_abs, of_z_inj}
use Rattle.spec_spline.specs.Space.{Space, segments, lengths_fit, break, degree_entry, order, is_discontinuity, starts_part, part_end, bad_break, span_too_long, bad_degree, bad_order, too_many_segments}
use Rattle.base_outcome.specs.Tests.{between}
use Rattle.spec_spline.proofs.Space.{is-discontinuity, is_no_discontinuity}

-- ---- a number out of its range

not_and_not : (a b : Bool) → not (not a && not b) ≡ (a || b)
not_and_not true b = refl
not_and_not false true = refl
not_and_not false false = refl

-- not between two bounds: below the one or above the other
pub outside : (low high z : ℤ) → not (between low high z) ≡ (lt_z z low || lt_z high z)
outside low high z = ap₂ (λ a b. not (a && b)) (le_z_not_lt_z z low) (le_z_not_lt_z high z) ∙ not_and_not (lt_z z low) (lt_z high z)

-- ---- the lengths, one test after the other

eqb_shift : (a b : ℕ) → 1 ≤ b → eqb a (b - 1) ≡ eqb (a + 1) b
eqb_shift a b h = go (eqb a (b - 1)) refl
  where
    go : (t : Bool) → eqb a (b - 1) ≡ t → t ≡ eqb (a + 1) b
    go true e = sym (eq-eqb (a + 1) b (omega (arith, eqb-true a (b - 1) e)))
    go false e = sym (ne_eqb (a + 1) b (λ z. eqb-false a (b - 1) e (omega arith)))

module _ (s : Space) where
  pub no_segment : segments s < 1 → false ≡ lengths_fit s
  unfolding lengths_fit
  no_segment h = sym (simp (lt-leb 1 (segments s) h))

  pub many_segments : 48 < segments s → false ≡ lengths_fit s
  unfolding lengths_fit
  many_segments h = sym (simp (lt-leb (segments s) 48 h, and-false))

  pub wrong_breaks : (length s.breaks ≡ segments s + 1 → ⊥) → false ≡ lengths_fit s
  unfolding lengths_fit
  wrong_breaks h = sym (simp (ne_eqb (length s.breaks) (segments s + 1) h, and-false))

  pub orders_left : 1 ≤ segments s → segments s ≤ 48 → length s.breaks ≡ segments s + 1 → eqb (length s.orders) (segments s - 1) ≡ lengths_fit s
  unfolding lengths_fit
  orders_left h k e = eqb_shift (length s.orders) (segments s) h ∙ sym (simp (le-leb 1 (segments s) h, le-leb (segments s) 48 k, eq-eqb (length s.breaks) (segments s + 1) e))

-- ---- the tests of an entry, one by one

module _ (s : Space) where
  pub break-zero : bad_break s zero ≡ (lt_z (break s zero) (negsuc 9999) || lt_z (pos 10000) (break s zero))
  unfolding bad_break
  break-zero = outside (negsuc 9999) (pos 10000) (break s zero)

  pub break_suc : (i : ℕ) → bad_break s (suc i) ≡ ((lt_z (break s (suc i)) (negsuc 9999) || lt_z (pos 10000) (break s (suc i))) || le_z (break s (suc i)) (break s i))
  unfolding bad_break
  break_suc i = ap (λ t. t || le_z (break s (suc i)) (break s i)) (outside (negsuc 9999) (pos 10000) (break s (suc i)))

  pub bad-break_low : (i : ℕ) → lt_z (break s i) (negsuc 9999) ≡ true → true ≡ bad_break s i
  bad-break_low zero e = sym (break-zero ∙ simp e)
  bad-break_low (suc i) e = sym (break_suc i ∙ simp e)

  pub bad-break-high : (i : ℕ) → lt_z (pos 10000) (break s i) ≡ true → true ≡ bad_break s i
  bad-break-high zero e = sym (break-zero ∙ simp (e, or-true))
  bad-break-high (suc i) e = sym (break_suc i ∙ simp (e, or-true))

  -- the first in its range
  pub good-break-first : (i : ℕ) → i ≡ 0 → lt_z (break s i) (negsuc 9999) ≡ false → lt_z (pos 10000) (break s i) ≡ false → false ≡ bad_break s i
  good-break-first zero z e f = sym (break-zero ∙ simp (e, f))
  good-break-first (suc i) z e f = absurd (omega arith)

  -- a later one in its range, against the one before
  pub break_rises : (i : ℕ) → (i ≡ 0 → ⊥) → lt_z (break s i) (negsuc 9999) ≡ false → lt_z (pos 10000) (break s i) ≡ false → le_z (break s i) (break s (i - 1)) ≡ bad_break s i
  break_rises zero z e f = absurd (z refl)
  break_rises (suc i) z e f = ap (λ k. le_z (break s (suc i)) (break s k)) (let h : suc i - 1 ≡ i = omega arith in h) ∙ sym (break_suc i ∙ simp (e, f))

  pub degree_tests : (i : ℕ) → bad_degree s i ≡ (lt_z (degree_entry s i) (pos 1) || lt_z (pos 5) (degree_entry s i))
  unfolding bad_degree
  degree_tests i = outside (pos 1) (pos 5) (degree_entry s i)

  pub bad-degree_low : (i : ℕ) → lt_z (degree_entry s i) (pos 1) ≡ true → true ≡ bad_degree s i
  bad-degree_low i e = sym (degree_tests i ∙ simp e)

  pub degree-high : (i : ℕ) → lt_z (degree_entry s i) (pos 1) ≡ false → lt_z (pos 5) (degree_entry s i) ≡ bad_degree s i
  degree-high i e = sym (degree_tests i ∙ simp e)

  pub order_tests : (i : ℕ) → bad_order s i ≡ (((lt_z (order s i) (negsuc 0) || lt_z (pos 2) (order s i)) || le_z (degree_entry s i) (order s i)) || le_z (degree_entry s (suc i)) (order s i))
  unfolding bad_order
  order_tests i = ap (λ t. t || le_z (degree_entry s i) (order s i) || le_z (degree_entry s (suc i)) (order s i)) (outside (negsuc 0) (pos 2) (order s i))

  pub bad-order_low : (i : ℕ) → lt_z (order s i) (negsuc 0) ≡ true → true ≡ bad_order s i
  bad-order_low i e = sym (order_tests i ∙ simp e)

  pub bad-order-high : (i : ℕ) → lt_z (pos 2) (order s i) ≡ true → true ≡ bad_order s i
  bad-order-high i e = sym (order_tests i ∙ simp (e, or-true))

  -- against the degree on the left
  pub bad-order-left : (i : ℕ) → le_z (degree_entry s i) (order s i) ≡ true → true ≡ bad_order s i
  bad-order-left i e = sym (order_tests i ∙ simp (e, or-true))

  -- and where that and the range hold, against the degree on the right
  pub order-right : (i : ℕ) → lt_z (order s i) (negsuc 0) ≡ false → lt_z (pos 2) (order s i) ≡ false → le_z (degree_entry s i) (order s i) ≡ false → le_z (degree_entry s (i + 1)) (order s i) ≡ bad_order s i
  order-right i e f g = ap (λ k. le_z (degree_entry s k) (order s i)) (add-one i) ∙ sym (order_tests i ∙ simp (e, f, g))

-- ---- the tests of a part

module _ (s : Space) where
  -- the order of join i compared with -1, by its bits
  pub discontinuity_test : (i : ℕ) → SFits w32 (order s i) → eqb (of_z w32 (order s i)) (of_z w32 (negsuc 0)) ≡ is_discontinuity s i
  discontinuity_test i f = go (eqb (of_z w32 (order s i)) (of_z w32 (negsuc 0))) refl
    where
      go : (b : Bool) → eqb (of_z w32 (order s i)) (of_z w32 (negsuc 0)) ≡ b → b ≡ is_discontinuity s i
      go true e = sym (is-discontinuity s i (of_z_inj w32 (order s i) (negsuc 0) f (sfits_abs (omega arith)) (eqb-true _ _ e)))
      go false e = sym (is_no_discontinuity s i (λ z. eqb-false _ _ e (ap (of_z w32) z)))

  pub starts-part-zero : (i : ℕ) → i ≡ 0 → true ≡ starts_part s i
  unfolding starts_part
  starts-part-zero zero e = refl
  starts-part-zero (suc i) e = absurd (omega arith)

  pub starts-part-later : (i : ℕ) → (i ≡ 0 → ⊥) → is_discontinuity s (i - 1) ≡ starts_part s i
  unfolding starts_part
  starts-part-later zero e = absurd (e refl)
  starts-part-later (suc i) e = ap (is_discontinuity s) (let h : suc i - 1 ≡ i = omega arith in h)

  -- a segment that starts no part
  pub no_part_no_span : (i : ℕ) → starts_part s i ≡ false → false ≡ span_too_long s i
  unfolding span_too_long
  no_part_no_span i e = sym (ap (λ t. t && lt_z (pos 2000) (break s (part_end s i) -ℤ break s i)) e)

  pub no_part_not_long : (i : ℕ) → starts_part s i ≡ false → false ≡ too_many_segments s i
  unfolding too_many_segments
  no_part_not_long i e = sym (ap (λ t. t && ltb 12 (part_end s i - i)) e)

  -- and one that does
  pub span-test : (i : ℕ) → starts_part s i ≡ true → span_too_long s i ≡ lt_z (pos 2000) (break s (part_end s i) -ℤ break s i)
  unfolding span_too_long
  span-test i e = ap (λ t. t && lt_z (pos 2000) (break s (part_end s i) -ℤ break s i)) e

  pub part-test : (i : ℕ) → starts_part s i ≡ true → too_many_segments s i ≡ ltb 12 (part_end s i - i)
  unfolding too_many_segments
  part-test i e = ap (λ t. t && ltb 12 (part_end s i - i)) e
