-- The triangle in an array of six: what a stage in place has done after its first stores, and what is left after some stages.
use mathlib.Core.Path.{◌≡◌, refl, ◌∙◌, ap, ap₂}
use mathlib.Core.Logic.{◌⊎◌, inl, inr}
use mathlib.Core.List.{List}
use Prim.Native.Nat.{ℕ, zero, suc, ◌+◌, ◌-◌, ◌<◌, ◌≤◌}
use native.Mathlib.Omega.{arith}
use native.Mathlib.Numerals.{add-one}
use lib.IntN.{ℤ, pos, nat_abs}
use lib.ListN.{length, get_or, set, length-set}
use lib.Seq.{get_or-set_same, get_or-set_other}
use Rattle.base_exact.proofs.Decide.{le_or_lt}
use Rattle.spec_spline.specs.Reading.{blend, triangle}
use Rattle.curve_ordinates.specs.Ordinates.{Bounded, ordinate_limit}
use Rattle.curve_ordinates.proofs.Columns.{bounded_set}

-- number k of a list
abbrev at : List ℤ → ℕ → ℤ
at o k = get_or o k (pos 0)

-- ---- one stage: below k the blends of the old numbers, from k on the old numbers
module _ (d : ℕ) (u : ℤ) (o : List ℤ) where
  pub record Staged (r : List ℤ) (k : ℕ) : Type 0 where
    pub long : length r ≡ 6
    pub before : (j : ℕ) → j < k → at r j ≡ blend d u (at o j) (at o (suc j))
    pub after : (j : ℕ) → k ≤ j → at r j ≡ at o j
    pub bounded : Bounded r

  pub staged_more : (r : List ℤ) (k : ℕ) (v : ℤ) → Staged r k → k < 6 → v ≡ blend d u (at r k) (at r (k + 1)) → nat_abs v ≤ ordinate_limit
      → Staged (set r k v) (k + 1)
  staged_more r k v s h e l = record {
    long = length-set r k v ∙ s.long;
    before = λ j a. place j a (le_or_lt k j);
    after = λ j a. get_or-set_other r k j v (pos 0) (omega arith) ∙ s.after j (omega arith);
    bounded = bounded_set r k v s.bounded l (rw s.long h);
  }
    where
      new : v ≡ blend d u (at o k) (at o (suc k))
      new = e ∙ ap₂ (blend d u) (s.after k (omega arith)) (s.after (k + 1) (omega arith) ∙ ap (at o) (add-one k))

      place : (j : ℕ) → j < k + 1 → (k ≤ j) ⊎ (j < k) → at (set r k v) j ≡ blend d u (at o j) (at o (suc j))
      place j a (inl b) = rw (let z : j ≡ k = omega arith in z) (get_or-set_same r k v (pos 0) (rw s.long h) ∙ new)
      place j a (inr b) = get_or-set_other r k j v (pos 0) (omega arith) ∙ s.before j b

-- ---- all stages: after n of p stages the first p - n numbers and one more are those of the triangle
module _ (d : ℕ) (u : ℤ) (o : List ℤ) where
  pub record Triangled (r : List ℤ) (n left : ℕ) : Type 0 where
    pub numbers : (k : ℕ) → k ≤ left → at r k ≡ triangle d u (at o) n k
    pub bounded : Bounded r

  pub triangled_none : (left : ℕ) → Bounded o → Triangled o 0 left
  unfolding triangle
  triangled_none left b = record { numbers = λ k h. refl; bounded = b }

  pub triangled_more : (r r' : List ℤ) (n left : ℕ) → Triangled r n left → 0 < left
      → ((k : ℕ) → k < left → at r' k ≡ blend d u (at r k) (at r (suc k))) → Bounded r' → Triangled r' (suc n) (left - 1)
  unfolding triangle
  triangled_more r r' n left t h s b = record {
    numbers = λ k l. s k (omega arith) ∙ ap₂ (blend d u) (t.numbers k (omega arith)) (t.numbers (suc k) (omega arith));
    bounded = b;
  }

-- ---- numbers that agree up to p
pub triangle_ext : (d : ℕ) (u : ℤ) (f g : ℕ → ℤ) (p : ℕ) → ((k : ℕ) → k ≤ p → f k ≡ g k) → (n k : ℕ) → k + n ≤ p
    → triangle d u f n k ≡ triangle d u g n k
unfolding triangle
triangle_ext d u f g p h zero k l = h k (omega arith)
triangle_ext d u f g p h (suc n) k l =
    ap₂ (blend d u) (triangle_ext d u f g p h n k (omega arith)) (triangle_ext d u f g p h n (suc k) (omega arith))
