-- The factors of a step that answers: 1 up to the first row with a jump, 0 from the last one on, strictly between 0 and 1 in
-- between. And which rows these are, from where the jumps are zero.
use mathlib.Core.Path.{◌≡◌, refl, ◌∙◌}
use mathlib.Core.Logic.{◌≢◌, ◌⊎◌, inl, inr}
use mathlib.Core.List.{[], ◌∷◌}
use Prim.Native.Nat.{ℕ, ◌<◌, ◌≤◌}
use native.Mathlib.Omega.{arith}
use lib.IntN.{pos, negsuc}
use Rattle.base_exact.specs.Rational.{ℚ, -ᵠ◌, ◌-ᵠ◌, int}
use Rattle.base_exact.specs.Order.{Nn}
use Rattle.base_exact.specs.Sum.{sum}
use Rattle.base_exact.proofs.Decide.{le_or_lt}
use Rattle.base_exact.proofs.Ring.{ring, by_eq}
use Rattle.base_exact.proofs.Rational.{ℚ-ring, readsℚ, int_nonzero}
use Rattle.base_exact.proofs.Order.{nn_pos}
use Rattle.base_exact.proofs.Sum.{sum-last}
use Rattle.theorems_weights.proofs.NullSpace.{Jumps, last-factor, one_up_to, factor_nonzero}
use Rattle.theorems_stages.proofs.Support.{Mixing}

module _ {n f l : ℕ} {J w : ℕ → ℚ} (G : Jumps n f l J w) where
  not_one : (i : ℕ) → f < i → int (pos 1) -ᵠ w i ≢ int (pos 0)
  not_one i h e = go (le_or_lt l i)
    where
      go : (l ≤ i) ⊎ (i < l) → ⊥
      go (inl k) = int_nonzero 0 (by_eq ℚ-ring (int (pos 1)) e (by_eq ℚ-ring (int (pos 1)) (last-factor G i k) (ring ℚ-ring (w i ∷ []) (search readsℚ depth 20) (search readsℚ depth 20) refl)))
      go (inr k) = let b = G.below in G.part i h (omega arith)
          (by_eq ℚ-ring (-ᵠ J i) e (by_eq ℚ-ring (int (negsuc 0)) (G.weight i (omega arith) ∙ sum-last i J)
          (ring ℚ-ring (w i ∷ J i ∷ sum i J ∷ []) (search readsℚ depth 20) (search readsℚ depth 20) refl)))

  pub factors-mix : ((i : ℕ) → Nn (w i)) → ((i : ℕ) → Nn (int (pos 1) -ᵠ w i)) → Mixing f l w
  factors-mix nn rest = record {
    full = one_up_to G;
    none = last-factor G;
    some = λ i h. nn_pos (nn i) (factor_nonzero G i h);
    rest = λ i h. nn_pos (rest i) (not_one i h);
  }

  -- the rows from the first to the last that are not zero
  pub first_is : (r : ℕ) → ((i : ℕ) → i < r → J i ≡ int (pos 0)) → J r ≢ int (pos 0) → f ≡ r
  first_is r zeros here = go (le_or_lt f r) (le_or_lt r f)
    where
      go : (f ≤ r) ⊎ (r < f) → (r ≤ f) ⊎ (f < r) → f ≡ r
      go (inr a) b = absurd (here (G.before r a).0)
      go (inl a) (inr b) = absurd (G.jump f (omega arith) (let o = G.ordered in omega arith) (zeros f b))
      go (inl a) (inl b) = omega arith

  pub last_is : (r : ℕ) → ((i : ℕ) → r < i → J i ≡ int (pos 0)) → J r ≢ int (pos 0) → l ≡ r
  last_is r zeros here = go (le_or_lt l r) (le_or_lt r l)
    where
      go : (l ≤ r) ⊎ (r < l) → (r ≤ l) ⊎ (l < r) → l ≡ r
      go (inr a) b = absurd (G.jump l (let o = G.ordered in omega arith) (omega arith) (zeros l a))
      go (inl a) (inr b) = absurd (here (G.after r b).0)
      go (inl a) (inl b) = omega arith
