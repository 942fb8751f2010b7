-- One step undone, on functions: coefficients that are worked out row by row, the share of the row before subtracted and the rest
-- divided by the factor, are the coefficients of the new rows that NullSpace finds; and the jumps leave no choice of the factors.
use mathlib.Core.Path.{◌≡◌, refl, sym, ◌∙◌}
use mathlib.Core.Logic.{◌⊎◌, inl, inr}
use mathlib.Core.List.{[], ◌∷◌}
use Prim.Native.Nat.{ℕ, zero, suc, ◌<◌, ◌≤◌}
use native.Mathlib.Omega.{arith}
use lib.IntN.{pos, negsuc}
use Rattle.base_exact.specs.Rational.{ℚ, ◌+ᵠ◌, ◌*ᵠ◌, -ᵠ◌, ◌-ᵠ◌, int}
use Rattle.base_exact.specs.Sum.{sum}
use Rattle.base_exact.proofs.Decide.{le_or_lt}
use Rattle.base_exact.proofs.Ring.{ring, by_eq}
use Rattle.base_exact.proofs.Rational.{ℚ-ring, readsℚ, mul_cancel}
use Rattle.theorems_weights.proofs.NullSpace.{Jumps, lifted, lifted_at_one, lifted_at_zero, one_up_to, last-factor, coefficient, coefficient_lifts, factor_nonzero}

module _ {n f l : ℕ} {J w : ℕ → ℚ} (G : Jumps n f l J w) where
  module _ (x : ℕ → ℚ) (annihilated : sum n (λ j. x j *ᵠ J j) ≡ int (pos 0)) (d : ℕ → ℚ)
      (low : (i : ℕ) → i ≤ f → d i ≡ x i)
      (next : (i : ℕ) → f ≤ i → suc i < l → w (suc i) *ᵠ d (suc i) ≡ x (suc i) -ᵠ (int (pos 1) -ᵠ w (suc i)) *ᵠ d i)
      (high : (i : ℕ) → l ≤ i → d i ≡ x (suc i)) where
    abbrev pub c : ℕ → ℚ
    c = coefficient G x annihilated

    lifts : (j : ℕ) → j < n → lifted w c j ≡ x j
    lifts = coefficient_lifts G x annihilated

    up_to_f : (i : ℕ) → i ≤ f → c (suc i) ≡ d i
    up_to_f i h = let o = G.ordered in let b = G.below in sym (lifted_at_one w c i (one_up_to G i h)) ∙ lifts i (omega arith) ∙ sym (low i h)

    from_l : (i : ℕ) → l ≤ i → suc i < n → c (suc i) ≡ d i
    from_l i h k = sym (lifted_at_zero w c (suc i) (last-factor G (suc i) (omega arith))) ∙ lifts (suc i) k ∙ sym (high i h)

    between : (i : ℕ) → f ≤ i → i < l → c (suc i) ≡ d i
    unfolding lifted
    between zero h k = up_to_f zero (omega arith)
    between (suc i) h k = go (λ p. between i p (omega arith)) (le_or_lt (suc i) f)
      where
        go : (f ≤ i → c (suc i) ≡ d i) → (suc i ≤ f) ⊎ (f < suc i) → c (suc (suc i)) ≡ d (suc i)
        go ih (inl p) = up_to_f (suc i) p
        go ih (inr p) = let b = G.below in
            mul_cancel (factor_nonzero G (suc i) k)
            (by_eq ℚ-ring (int (pos 1)) (lifts (suc i) (omega arith)) (by_eq ℚ-ring (int (negsuc 0)) (next i (omega arith) k) (by_eq ℚ-ring (int (negsuc 0) +ᵠ w (suc i)) (ih (omega arith))
            (ring ℚ-ring (w (suc i) ∷ c (suc (suc i)) ∷ c (suc i) ∷ x (suc i) ∷ d (suc i) ∷ d i ∷ []) (search readsℚ depth 30) (search readsℚ depth 30) refl))))

    -- they are the coefficients of the new rows
    pub undone_is : (i : ℕ) → suc i < n → c (suc i) ≡ d i
    undone_is i h = go (le_or_lt i f) (le_or_lt l i)
      where
        go : (i ≤ f) ⊎ (f < i) → (l ≤ i) ⊎ (i < l) → c (suc i) ≡ d i
        go (inl p) q = up_to_f i p
        go (inr p) (inl q) = from_l i q h
        go (inr p) (inr q) = between i (omega arith) q

-- ---- two lists of factors for the same jumps

module _ {n : ℕ} {J : ℕ → ℚ} where
  first_at_most : {f l f' l' : ℕ} {w w' : ℕ → ℚ} → Jumps n f l J w → Jumps n f' l' J w' → f ≤ f'
  first_at_most {f} {f' = f'} G H = go (le_or_lt f f')
    where
      go : (f ≤ f') ⊎ (f' < f) → f ≤ f'
      go (inl h) = h
      go (inr h) = let o = H.ordered in absurd (H.jump f' (omega arith) (omega arith) (G.before f' h).0)

  last_at_most : {f l f' l' : ℕ} {w w' : ℕ → ℚ} → Jumps n f l J w → Jumps n f' l' J w' → l ≤ l'
  last_at_most {l = l} {l' = l'} G H = go (le_or_lt l l')
    where
      go : (l ≤ l') ⊎ (l' < l) → l ≤ l'
      go (inl h) = h
      go (inr h) = let o = G.ordered in absurd (G.jump l (omega arith) (omega arith) (H.after l h).0)

  pub factors-agree : {f l f' l' : ℕ} {w w' : ℕ → ℚ} → Jumps n f l J w → Jumps n f' l' J w' → (j : ℕ) → j < n → w j ≡ w' j
  factors-agree {f} {l} {f'} {l'} {w} {w'} G H j h =
      go (first_at_most G H) (first_at_most H G) (last_at_most G H) (last_at_most H G) (le_or_lt f j) (le_or_lt j l)
    where
      go : f ≤ f' → f' ≤ f → l ≤ l' → l' ≤ l → (f ≤ j) ⊎ (j < f) → (j ≤ l) ⊎ (l < j) → w j ≡ w' j
      go a b c d (inr p) q = (G.before j p).1 ∙ sym (H.before j (omega arith)).1
      go a b c d (inl p) (inr q) = (G.after j q).1 ∙ sym (H.after j (omega arith)).1
      go a b c d (inl p) (inl q) = mul_cancel (G.jump j p q) (G.weight j h ∙ sym (H.weight j h))
