-- The few facts of a legal space that these laws rest on, in one record: lengths and degrees of the segments, and at each
-- join the count of its conditions and, where it has any, the length of its two segments together.
use mathlib.Core.Path.{◌≡◌, sym, ◌∙◌, ap}
use mathlib.Core.Logic.{◌⊎◌, inl, inr}
use mathlib.Core.Bool.{false, not, ◌&&◌, ◌||◌}
use Prim.Native.Nat.{ℕ, zero, suc, ◌+◌, ◌-◌, ◌<◌, ◌≤◌}
use native.Mathlib.Omega.{arith}
use native.Mathlib.Nat.{eq-or-lt_of_le}
use borrow.Author.Tests.{ne_eqb}
use lib.IntN.{ℤ, pos, negsuc, ◌+ℤ◌, ◌-ℤ◌, neg_ℤ, nat_abs}
use lib.Signed.{le_z, lt_z, ◌≤ℤ◌, ◌<ℤ◌}
use Rattle.base_exact.proofs.Decide.{true_not_false, or-false}
use Rattle.base_exact.proofs.Integer.{up, dn, ext, bal_+, bal_neg, ≤_in, ≤_out, <_out, ≤-refl, <-≤, rises}
use Rattle.base_exact.proofs.Word.{lt_z_false, is_pos}
use Rattle.spec_spline.specs.Space.{Space, segments, break, degree_entry, order, span_limit, degree_limit, starts_part, part_end, span_too_long, bad_degree, bad_order, degree, width, condition_count}
use Rattle.base_outcome.specs.Tests.{between}
use Rattle.spec_spline.proofs.Space.{between_inverts}
use Rattle.spec_spline.proofs.Parts.{Ends, part-ends, InPart, segment_in_part}
use Rattle.spec_spline.proofs.Legal.{Checked, Legal, legal as legal-numbers, good-break_rises}
use Rattle.theorems_stages.specs.Counts.{full_count}

-- What is used of a legal space.
pub record Limits (s : Space) : Type 0 where
  pub legal : Legal s
  pub few_conditions : (j : ℕ) → j < segments s - 1 → condition_count s j ≤ full_count
  pub low_degree : (i : ℕ) → i < segments s → degree s i ≤ degree_limit
  pub count_is_order : (j : ℕ) → j < segments s - 1 → order s j +ℤ pos 1 ≡ pos (condition_count s j)
  pub neighbours : (j : ℕ) → j < segments s - 1 → 0 < condition_count s j → width s j + width s (suc j) ≤ span_limit

-- a count and a degree from the tests
count-size : (o : ℤ) → not (between (neg_ℤ (pos 1)) (pos 2) o) ≡ false → nat_abs (o +ℤ pos 1) ≤ full_count
count-size o e = let h = between_inverts (negsuc 0) (pos 2) o e in go o (≤_out (negsuc 0) o h.0) (≤_out o (pos 2) h.1)
  where
    go : (o : ℤ) → up (negsuc 0) + dn o ≤ dn (negsuc 0) + up o → up o + dn (pos 2) ≤ dn o + up (pos 2) → nat_abs (o +ℤ pos 1) ≤ full_count
    go (pos n) a b = omega arith
    go (negsuc zero) a b = omega arith
    go (negsuc (suc n)) a b = absurd (omega arith)

order-counts : (o : ℤ) → not (between (neg_ℤ (pos 1)) (pos 2) o) ≡ false → o +ℤ pos 1 ≡ pos (nat_abs (o +ℤ pos 1))
order-counts o e = is_pos (o +ℤ pos 1) (≤_in (pos 0) (o +ℤ pos 1) (omega (arith, bal_+ o (pos 1), ≤_out (negsuc 0) o (between_inverts (negsuc 0) (pos 2) o e).0)))

degree-size : (d : ℤ) → not (between (pos 1) (pos degree_limit) d) ≡ false → nat_abs d ≤ degree_limit
degree-size d e = let h = between_inverts (pos 1) (pos degree_limit) d e in go d (≤_out (pos 1) d h.0) (≤_out d (pos degree_limit) h.1)
  where
    go : (d : ℤ) → up (pos 1) + dn d ≤ dn (pos 1) + up d → up d + dn (pos degree_limit) ≤ dn d + up (pos degree_limit) → nat_abs d ≤ degree_limit
    go (pos n) a b = omega arith
    go (negsuc n) a b = absurd (omega arith)

-- the distance of two breakpoints that rise
distance : (x y : ℤ) → up x + dn y < dn x + up y → nat_abs (y -ℤ x) + up x + dn y ≡ dn x + up y
distance x y h = let e = is_pos (y -ℤ x) (≤_in (pos 0) (y -ℤ x) (omega (arith, bal_+ y (neg_ℤ x), bal_neg x))) in omega (arith, bal_+ y (neg_ℤ x), bal_neg x, ap up e, ap dn e)

module _ (s : Space) (c : Checked s) where
  step_rises : (i : ℕ) → i < segments s → break s i <ℤ break s (suc i)
  step_rises i h = good-break_rises s i (c.breaks (suc i) (omega arith))

  mono : (i n : ℕ) → i ≤ n → n ≤ segments s → break s i ≤ℤ break s n
  mono i n h k = go (eq-or-lt_of_le h)
    where
      go : (i ≡ n) ⊎ (i < n) → break s i ≤ℤ break s n
      go (inl z) = rw z (≤-refl (break s n))
      go (inr l) = <-≤ (break s i) (break s n) (rises (break s) (segments s) step_rises i n l k)

  -- the two segments of a join that has conditions lie in one part
  joined : (j : ℕ) → j < segments s - 1 → 0 < condition_count s j → (x : InPart s j) → suc j < part_end s x.start
  unfolding starts_part
  joined j h m x = go (eq-or-lt_of_le x.to)
    where
      ends : Ends s x.start (part_end s x.start)
      ends = part-ends s x.start (omega (arith, x.from))

      go : (suc j ≡ part_end s x.start) ⊎ (suc j < part_end s x.start) → suc j < part_end s x.start
      go (inl z) = absurd (true_not_false (ap (starts_part s) z ∙ ends.boundary.starts (omega arith)) (ne_eqb (condition_count s j) 0 (λ e. omega arith)))
      go (inr l) = l

  -- and so within its span
  within-span : (j : ℕ) → j < segments s - 1 → 0 < condition_count s j → width s j + width s (suc j) ≤ span_limit
  unfolding span_too_long
  within-span j h m = among (segment_in_part s j (omega arith))
    where
      go : (o x y z e : ℤ) → up o + dn x ≤ dn o + up x → up x + dn y < dn x + up y → up y + dn z < dn y + up z → up z + dn e ≤ dn z + up e
          → up (e -ℤ o) + dn (pos span_limit) ≤ dn (e -ℤ o) + up (pos span_limit) → nat_abs (y -ℤ x) + nat_abs (z -ℤ y) ≤ span_limit
      go o x y z e a b c d g = omega (arith, bal_+ e (neg_ℤ o), bal_neg o, distance x y b, distance y z c)

      among : InPart s j → width s j + width s (suc j) ≤ span_limit
      among p =
          let end = part_end s p.start in
          let last = (part-ends s p.start (omega (arith, p.from))).boundary.within in
          let a = ≤_out _ _ (mono p.start j p.from (omega arith)) in
          let b = ≤_out _ _ (mono (suc (suc j)) end (joined j h m p) last) in
          let x = <_out _ _ (step_rises j (omega arith)) in
          let y = <_out _ _ (step_rises (suc j) (omega arith)) in
          let short = sym (ap (λ t. t && lt_z (pos span_limit) (break s end -ℤ break s p.start)) p.starts) ∙ c.spans p.start (omega (arith, p.from)) in
          let g = ≤_out _ _ (lt_z_false (pos span_limit) (break s end -ℤ break s p.start) short) in
          go (break s p.start) (break s j) (break s (suc j)) (break s (suc (suc j))) (break s end) a x y b g

  pub limits : Limits s
  unfolding bad_degree bad_order
  limits = record {
    legal = legal-numbers s c;
    few_conditions = λ j h. count-size (order s j) (test j h);
    low_degree = λ i h. degree-size (degree_entry s i) (c.degrees i h);
    count_is_order = λ j h. order-counts (order s j) (test j h);
    neighbours = within-span;
  }
    where
      test : (j : ℕ) → j < segments s - 1 → not (between (neg_ℤ (pos 1)) (pos 2) (order s j)) ≡ false
      test j h =
          (or-false (not (between (neg_ℤ (pos 1)) (pos 2) (order s j))) (le_z (degree_entry s j) (order s j))
          (or-false (not (between (neg_ℤ (pos 1)) (pos 2) (order s j)) || le_z (degree_entry s j) (order s j)) (le_z (degree_entry s (suc j)) (order s j))
          (c.orders j h)).0).0

-- ---- orders and counts of conditions

-- three conditions are those of order 2
pub third_order : (o : ℤ) → o +ℤ pos 1 ≡ pos full_count → o ≡ pos 2
third_order o e = ext o (pos 2) (omega (arith, bal_+ o (pos 1), ap up e, ap dn e))
