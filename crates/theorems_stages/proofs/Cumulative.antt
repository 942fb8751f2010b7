-- The weights on an ordinate summed up to a row: zero up to the first row with weight, one past the last, and strictly
-- between in between. The partial sums of a step's jumps are differences of these sums.
use mathlib.Core.Path.{◌≡◌, refl, sym, ◌∙◌, ap, subst}
use mathlib.Core.Logic.{◌⊎◌, inl, inr}
use mathlib.Core.List.{[], ◌∷◌}
use Prim.Native.Nat.{ℕ, suc, ◌+◌, ◌-◌, ◌<◌, ◌≤◌}
use native.Mathlib.Omega.{arith}
use lib.IntN.{pos}
use Rattle.base_exact.specs.Rational.{ℚ, ◌+ᵠ◌, -ᵠ◌, ◌-ᵠ◌, int}
use Rattle.base_exact.specs.Order.{◌<ᵠ◌}
use Rattle.base_exact.specs.Sum.{sum}
use Rattle.base_exact.proofs.Decide.{le_or_lt}
use Rattle.base_exact.proofs.Ring.{ring, by_eq}
use Rattle.base_exact.proofs.Rational.{ℚ-ring, readsℚ}
use Rattle.base_exact.proofs.Order.{<-≤_trans}
use Rattle.base_exact.proofs.Sum.{sum-zero, sum-last, sum_past, sum-split, sum-place_le}
use Rattle.theorems_stages.proofs.Support.{Support, support_nn}

-- The weights of a column, from row low to row high, that sum to one.
pub record Weighed (rows : ℕ) (v : ℕ → ℚ) (low high : ℕ) : Type 0 where
  pub support : Support v low high
  pub one : sum rows v ≡ int (pos 1)
  pub past : (i : ℕ) → rows ≤ i → v i ≡ int (pos 0)

module _ {rows : ℕ} {v : ℕ → ℚ} {low high : ℕ} (W : Weighed rows v low high) where
  abbrev S : Support v low high
  S = W.support

  pub sum-none : (n : ℕ) → n ≤ low → sum n v ≡ int (pos 0)
  sum-none n h = sum-zero n (λ i k. S.below i (omega arith))

  -- from any place past the last row with weight
  pub sum_all : (n : ℕ) → high < n → sum n v ≡ int (pos 1)
  sum_all n h = go (le_or_lt n rows)
    where
      go : (n ≤ rows) ⊎ (rows < n) → sum n v ≡ int (pos 1)
      go (inl k) = sym (sum_past n rows v k (λ i a b. S.above i (omega arith))) ∙ W.one
      go (inr k) = sum_past rows n v (omega arith) (λ i a b. W.past i a) ∙ W.one

  pub sum_some : (n : ℕ) → low ≤ high → low < n → int (pos 0) <ᵠ sum n v
  sum_some n o h = <-≤_trans (S.positive low (omega arith) o) (sum-place_le n low {f = v} h (λ i k. support_nn S i))

  pub sum-rest : (n : ℕ) → low ≤ high → n ≤ high → int (pos 0) <ᵠ int (pos 1) -ᵠ sum n v
  sum-rest n o h = subst (λ t. int (pos 0) <ᵠ t) rest (<-≤_trans (subst (λ i. int (pos 0) <ᵠ v i) (let z : high ≡ n + (high - n) = omega arith in z) (S.positive high o (omega arith)))
      (sum-place_le (suc (high - n)) (high - n) {f = λ i. v (n + i)} (omega arith) (λ i k. support_nn S (n + i))))
    where
      rest : sum (suc (high - n)) (λ i. v (n + i)) ≡ int (pos 1) -ᵠ sum n v
      rest = ring ℚ-ring (sum n v ∷ sum (suc (high - n)) (λ i. v (n + i)) ∷ []) (search readsℚ depth 20) (search readsℚ depth 20) refl
          ∙ ap (λ t. t -ᵠ sum n v) (sym (sum-split n (suc (high - n)) v) ∙ sum_all (n + suc (high - n)) (omega arith))

  -- two rows with weight, and three
  first_two : int (pos 0) +ᵠ v low +ᵠ v (suc low) ≡ sum (suc (suc low)) v
  first_two = ap (λ q. q +ᵠ v low +ᵠ v (suc low)) (sym (sum-none low (omega arith))) ∙ ap (λ q. q +ᵠ v (suc low)) (sym (sum-last low v)) ∙ sym (sum-last (suc low) v)

  pub first_of_two : high ≡ suc low → v low ≡ int (pos 1) -ᵠ v (suc low)
  first_of_two e = by_eq ℚ-ring (int (pos 1)) total (ring ℚ-ring (v low ∷ v (suc low) ∷ []) (search readsℚ depth 20) (search readsℚ depth 20) refl)
    where
      total : int (pos 0) +ᵠ v low +ᵠ v (suc low) ≡ int (pos 1)
      total = first_two ∙ sum_all (suc (suc low)) (omega arith)

  pub middle_of_three : high ≡ suc (suc low) → v (suc low) ≡ int (pos 1) -ᵠ v low -ᵠ v (suc (suc low))
  middle_of_three e = by_eq ℚ-ring (int (pos 1)) total (ring ℚ-ring (v low ∷ v (suc low) ∷ v (suc (suc low)) ∷ []) (search readsℚ depth 20) (search readsℚ depth 20) refl)
    where
      total : int (pos 0) +ᵠ v low +ᵠ v (suc low) +ᵠ v (suc (suc low)) ≡ int (pos 1)
      total =
          ap (λ q. q +ᵠ v (suc (suc low))) first_two
          ∙ sym (sum-last (suc (suc low)) v)
          ∙ sum_all (suc (suc (suc low))) (omega arith)
