-- What an entry that breaks no rule is, as facts of order, and back. The definitions test by flags; the laws of legal
-- lists and of the machine's arithmetic want the order.
use mathlib.Core.Path.{◌≡◌, refl, sym, ◌∙◌}
use mathlib.Core.Bool.{Bool, true, false}
use Prim.Native.Nat.{ℕ, zero, suc, ◌-◌, ◌≤◌}
use borrow.Author.Tests.{ltb-false, le-ltb}
use lib.IntN.{ℤ, pos, negsuc, nat_abs, ◌-ℤ◌}
use lib.Signed.{lt_z, ◌≤ℤ◌, ◌<ℤ◌}
use Rattle.base_exact.proofs.Decide.{or-false}
use Rattle.base_exact.proofs.Integer.{abs_le_in, abs_le_out}
use Rattle.base_exact.proofs.Word.{lt_z_false, le_z_false, not_lt_test, not_le_test}
use Rattle.spec_spline.specs.Space.{Space, break, degree_entry, order, starts_part, part_end, bad_break, span_too_long, bad_degree, bad_order, too_many_segments}
use Rattle.build_space.proofs.Tests.{break-zero, break_suc, degree_tests, order_tests, no_part_no_span, no_part_not_long, span-test, part-test}

-- the range of a breakpoint, by its size
size_of : (x : ℤ) → lt_z x (negsuc 9999) ≡ false → lt_z (pos 10000) x ≡ false → nat_abs x ≤ 10000
size_of x e f = abs_le_in x 10000 (lt_z_false x (negsuc 9999) e) (lt_z_false (pos 10000) x f)

module _ (s : Space) where
  pub good-break-size : (i : ℕ) → bad_break s i ≡ false → nat_abs (break s i) ≤ 10000
  good-break-size zero e = let p = or-false _ _ (sym (break-zero s) ∙ e) in size_of (break s zero) p.0 p.1
  good-break-size (suc i) e = let p = or-false _ _ (or-false _ _ (sym (break_suc s i) ∙ e)).0 in size_of (break s (suc i)) p.0 p.1

  pub break-good-first : nat_abs (break s zero) ≤ 10000 → bad_break s zero ≡ false
  break-good-first h = break-zero s ∙ simp (not_lt_test (abs_le_out (break s zero) 10000 h).0, not_lt_test (abs_le_out (break s zero) 10000 h).1)

  pub break-good : (i : ℕ) → nat_abs (break s (suc i)) ≤ 10000 → break s i <ℤ break s (suc i) → bad_break s (suc i) ≡ false
  break-good i h k = break_suc s i ∙ simp (not_lt_test (abs_le_out (break s (suc i)) 10000 h).0, not_lt_test (abs_le_out (break s (suc i)) 10000 h).1, not_le_test k)

  pub good-degree_low : (i : ℕ) → bad_degree s i ≡ false → pos 1 ≤ℤ degree_entry s i
  good-degree_low i e = lt_z_false (degree_entry s i) (pos 1) (or-false (lt_z (degree_entry s i) (pos 1)) (lt_z (pos 5) (degree_entry s i)) (sym (degree_tests s i) ∙ e)).0

  pub good-degree-high : (i : ℕ) → bad_degree s i ≡ false → degree_entry s i ≤ℤ pos 5
  good-degree-high i e = lt_z_false (pos 5) (degree_entry s i) (or-false (lt_z (degree_entry s i) (pos 1)) (lt_z (pos 5) (degree_entry s i)) (sym (degree_tests s i) ∙ e)).1

  pub degree-good : (i : ℕ) → pos 1 ≤ℤ degree_entry s i → degree_entry s i ≤ℤ pos 5 → bad_degree s i ≡ false
  degree-good i h k = degree_tests s i ∙ simp (not_lt_test h, not_lt_test k)

  pub record GoodOrder (i : ℕ) : Type 0 where
    pub low : negsuc 0 ≤ℤ order s i
    pub high : order s i ≤ℤ pos 2
    pub left : order s i <ℤ degree_entry s i
    pub right : order s i <ℤ degree_entry s (suc i)

  pub good-order : (i : ℕ) → bad_order s i ≡ false → GoodOrder i
  good-order i e =
      let p = or-false _ _ (sym (order_tests s i) ∙ e) in
      let q = or-false _ _ p.0 in
      let r = or-false _ _ q.0 in
      record {
        low = lt_z_false (order s i) (negsuc 0) r.0;
        high = lt_z_false (pos 2) (order s i) r.1;
        left = le_z_false (degree_entry s i) (order s i) q.1;
        right = le_z_false (degree_entry s (suc i)) (order s i) p.1;
      }

  pub order-good : (i : ℕ) → GoodOrder i → bad_order s i ≡ false
  order-good i h = order_tests s i ∙ simp (not_lt_test h.low, not_lt_test h.high, not_le_test h.left, not_le_test h.right)

  -- ---- parts

  pub good-span : (i : ℕ) → span_too_long s i ≡ false → starts_part s i ≡ true → (break s (part_end s i) -ℤ break s i) ≤ℤ pos 2000
  good-span i e t = lt_z_false (pos 2000) (break s (part_end s i) -ℤ break s i) (sym (span-test s i t) ∙ e)

  pub good-part : (i : ℕ) → too_many_segments s i ≡ false → starts_part s i ≡ true → part_end s i - i ≤ 12
  good-part i e t = ltb-false 12 (part_end s i - i) (sym (part-test s i t) ∙ e)

  pub span-good : (i : ℕ) → (starts_part s i ≡ true → (break s (part_end s i) -ℤ break s i) ≤ℤ pos 2000) → span_too_long s i ≡ false
  span-good i h = go (starts_part s i) refl
    where
      go : (b : Bool) → starts_part s i ≡ b → span_too_long s i ≡ false
      go true e = span-test s i e ∙ not_lt_test (h e)
      go false e = sym (no_part_no_span s i e)

  pub part-good : (i : ℕ) → (starts_part s i ≡ true → part_end s i - i ≤ 12) → too_many_segments s i ≡ false
  part-good i h = go (starts_part s i) refl
    where
      go : (b : Bool) → starts_part s i ≡ b → too_many_segments s i ≡ false
      go true e = part-test s i e ∙ le-ltb 12 (part_end s i - i) (h e)
      go false e = sym (no_part_not_long s i e)
