-- The least and the greatest number among those that pass a test: it is one of them, and it is at or below, or at or above,
-- all of them. One argument serves both: the number that a total order prefers.
use mathlib.Core.Path.{◌≡◌, refl, ◌∙◌, ap}
use mathlib.Core.Bool.{Bool, true, false, cond}
use mathlib.Core.Option.{some, none}
use Prim.Native.Nat.{ℕ, zero, suc, ◌<◌}
use native.Mathlib.Omega.{arith}
use lib.IntN.{ℤ}
use lib.Signed.{le_z, ◌≤ℤ◌}
use Rattle.base_exact.proofs.Decide.{below_suc, true_not_false, cond_true, cond_false}
use Rattle.base_exact.proofs.Integer as Z
use Rattle.base_exact.proofs.Word.{le_z_true, le_z_false, le_test}
use Rattle.spec_spline.specs.Reading.{preferred, best}
use Rattle.spec_spline.proofs.Reading.{best-skips, best_takes}

-- m is one of the numbers a i with i below n that pass, and it is preferred to them all.
pub record Best (prefers : ℤ → ℤ → Bool) (passes : ℕ → Bool) (a : ℕ → ℤ) (n : ℕ) (m : ℤ) : Type 0 where
  pub index : ℕ
  pub below : index < n
  pub passing : passes index ≡ true
  pub is : a index ≡ m
  pub over : (k : ℕ) → k < n → passes k ≡ true → prefers m (a k) ≡ true

-- What the search ends with.
data Sought (prefers : ℤ → ℤ → Bool) (passes : ℕ → Bool) (a : ℕ → ℤ) (n : ℕ) : Type 0 where
  at : (m : ℤ) → Best prefers passes a n m → best prefers n passes a ≡ some m → Sought prefers passes a n
  nowhere : ((k : ℕ) → k < n → passes k ≡ false) → best prefers n passes a ≡ none → Sought prefers passes a n

-- A total order, as a test.
record TotalOrder (prefers : ℤ → ℤ → Bool) : Type 0 where
  itself : (x : ℤ) → prefers x x ≡ true
  chain : (x y z : ℤ) → prefers x y ≡ true → prefers y z ≡ true → prefers x z ≡ true
  other : (x y : ℤ) → prefers x y ≡ false → prefers y x ≡ true

module _ (prefers : ℤ → ℤ → Bool) (order : TotalOrder prefers) (passes : ℕ → Bool) (a : ℕ → ℤ) where
  seek : (n : ℕ) → Sought prefers passes a n
  unfolding best
  seek zero = nowhere (λ k h. absurd (omega arith)) refl
  seek (suc n) = go (seek n) (passes n) refl
    where
      go : Sought prefers passes a n → (b : Bool) → passes n ≡ b → Sought prefers passes a (suc n)
      go (at m B e) false t = at m
          (record {
            index = B.index;
            below = omega (arith, B.below);
            passing = B.passing;
            is = B.is;
            over = below_suc (λ k. passes k ≡ true → prefers m (a k) ≡ true) B.over (λ p. absurd (true_not_false p t));
          }) (best-skips prefers passes a n t ∙ e)
      go (nowhere h e) false t = nowhere (below_suc (λ k. passes k ≡ false) h t) (best-skips prefers passes a n t ∙ e)
      go (nowhere h e) true t = at (a n)
          (record {
            index = n;
            below = omega arith;
            passing = t;
            is = refl;
            over = below_suc (λ k. passes k ≡ true → prefers (a n) (a k) ≡ true) (λ k l p. absurd (true_not_false p (h k l))) (λ p. order.itself (a n));
          }) (best_takes prefers passes a n t ∙ ap (λ o. some (preferred prefers o (a n))) e)
      go (at m B e) true t = choose (prefers m (a n)) refl
        where
          found : (v : ℤ) → cond (prefers m (a n)) m (a n) ≡ v → best prefers (suc n) passes a ≡ some v
          found v c = best_takes prefers passes a n t ∙ ap (λ o. some (preferred prefers o (a n))) e ∙ ap some c

          choose : (b : Bool) → prefers m (a n) ≡ b → Sought prefers passes a (suc n)
          choose true p = at m
              (record {
                index = B.index;
                below = omega (arith, B.below);
                passing = B.passing;
                is = B.is;
                over = below_suc (λ k. passes k ≡ true → prefers m (a k) ≡ true) B.over (λ q. p);
              }) (found m (cond_true m (a n) p))
          choose false p = at (a n)
              (record {
                index = n;
                below = omega arith;
                passing = t;
                is = refl;
                over = below_suc (λ k. passes k ≡ true → prefers (a n) (a k) ≡ true) (λ k l q. order.chain (a n) m (a k) (order.other m (a n) p) (B.over k l q)) (λ q. order.itself (a n));
              }) (found (a n) (cond_false m (a n) p))

rising : TotalOrder le_z
rising = record {
  itself = λ x. le_test (Z.≤-refl x);
  chain = λ x y z p q. le_test (Z.≤_trans x y z (le_z_true x y p) (le_z_true y z q));
  other = λ x y p. le_test (Z.<-≤ y x (le_z_false x y p));
}

falling : TotalOrder (λ y z. le_z z y)
falling = record {
  itself = λ x. le_test (Z.≤-refl x);
  chain = λ x y z p q. le_test (Z.≤_trans z y x (le_z_true z y q) (le_z_true y x p));
  other = λ x y p. le_test (Z.<-≤ x y (le_z_false y x p));
}

-- ---- where one passes there is one

-- The number found.
pub record Extreme (prefers : ℤ → ℤ → Bool) (passes : ℕ → Bool) (a : ℕ → ℤ) (n : ℕ) : Type 0 where
  pub value : ℤ
  pub found : best prefers n passes a ≡ some value
  pub is_best : Best prefers passes a n value

extreme : (prefers : ℤ → ℤ → Bool) (passes : ℕ → Bool) (a : ℕ → ℤ) (n i : ℕ) → i < n → passes i ≡ true → Sought prefers passes a n → Extreme prefers passes a n
extreme prefers passes a n i h p (at m B e) = record { value = m; found = e; is_best = B }
extreme prefers passes a n i h p (nowhere f e) = absurd (true_not_false p (f i h))

module _ (passes : ℕ → Bool) (a : ℕ → ℤ) (n : ℕ) where
  pub least_exists : (i : ℕ) → i < n → passes i ≡ true → Extreme le_z passes a n
  least_exists i h p = extreme le_z passes a n i h p (seek le_z rising passes a n)

  pub greatest_exists : (i : ℕ) → i < n → passes i ≡ true → Extreme (λ y z. le_z z y) passes a n
  greatest_exists i h p = extreme (λ y z. le_z z y) passes a n i h p (seek (λ y z. le_z z y) falling passes a n)

  pub least_le : {m : ℤ} → Best le_z passes a n m → (k : ℕ) → k < n → passes k ≡ true → m ≤ℤ a k
  least_le {m} B k h p = le_z_true m (a k) (B.over k h p)

  pub le_greatest : {m : ℤ} → Best (λ y z. le_z z y) passes a n m → (k : ℕ) → k < n → passes k ≡ true → a k ≤ℤ m
  le_greatest {m} B k h p = le_z_true (a k) m (B.over k h p)
