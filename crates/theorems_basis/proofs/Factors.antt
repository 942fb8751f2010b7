-- The factors of a step, from jumps whose partial sums alternate: each sum divided by its jump. They are exact, nothing is tested
-- for its size, and they meet what NullSpace asks of a step.
use mathlib.Core.Path.{◌≡◌, refl, sym, ◌∙◌, ap, subst}
use mathlib.Core.Logic.{◌⊎◌, inl, inr}
use mathlib.Core.Bool.{cond}
use mathlib.Core.List.{[]}
use Prim.Native.Nat.{ℕ, suc, ◌<◌, ◌≤◌}
use native.Mathlib.Omega.{arith}
use lib.Dec.{leb, ltb, le→leb, lt→ltb}
use lib.Arith.{lt→nleb, le→nltb}
use lib.IntN.{pos}
use Rattle.base_exact.specs.Rational.{ℚ, ◌+ᵠ◌, ◌*ᵠ◌, -ᵠ◌, ◌-ᵠ◌, ◌/ᵠ◌, int}
use Rattle.base_exact.specs.Order.{Nn}
use Rattle.base_exact.specs.Sum.{sum}
use Rattle.base_exact.proofs.Decide.{le_or_lt, holds_true, fails_false, cond_true, cond_false}
use Rattle.base_exact.proofs.Ring.{ring}
use Rattle.base_exact.proofs.Rational.{ℚ-ring, readsℚ, one-mul, zero-mul, zero-add, div_mul}
use Rattle.base_exact.proofs.Order.{nn_int, le_nn, pos_nn, <-≤}
use Rattle.base_exact.proofs.Sum.{sum-last}
use Rattle.theorems_weights.proofs.NullSpace.{Jumps}
use Rattle.theorems_stages.proofs.Alternating.{Alternates, jump-before, jump-after, jump-inside, quotient-above, quotient-below}

-- 1 up to f, 0 from l on, and between them the sum of the jumps up to a row divided by its jump.
pub factor : (f l : ℕ) → (ℕ → ℚ) → ℕ → ℚ
factor f l J i = cond (leb i f) (int (pos 1)) (cond (ltb i l) (sum (suc i) J /ᵠ J i) (int (pos 0)))

module _ (f l : ℕ) (J : ℕ → ℚ) (A : Alternates f l (λ n. sum n J)) (spread : f < l) where
  up_to : (i : ℕ) → i ≤ f → factor f l J i ≡ int (pos 1)
  unfolding factor
  up_to i h = cond_true _ _ (holds_true (leb i f) (le→leb i f h))

  between : (i : ℕ) → f < i → i < l → factor f l J i ≡ sum (suc i) J /ᵠ J i
  unfolding factor
  between i h k = cond_false _ _ (fails_false (leb i f) (lt→nleb i f h)) ∙ cond_true _ _ (holds_true (ltb i l) (lt→ltb i l k))

  from : (i : ℕ) → l ≤ i → factor f l J i ≡ int (pos 0)
  unfolding factor
  from i h = cond_false _ _ (fails_false (leb i f) (lt→nleb i f (omega arith))) ∙ cond_false _ _ (fails_false (ltb i l) (le→nltb i l h))

  -- where a row stands
  data Where (i : ℕ) : Type 0 where
    low : i ≤ f → Where i
    middle : f < i → i < l → Where i
    high : l ≤ i → Where i

  find : (i : ℕ) → Where i
  find i = go (le_or_lt i f) (le_or_lt l i)
    where
      go : (i ≤ f) ⊎ (f < i) → (l ≤ i) ⊎ (i < l) → Where i
      go (inl h) k = low h
      go (inr h) (inl k) = high k
      go (inr h) (inr k) = middle h k

  -- a factor times its jump is the sum up to there
  weight : (i : ℕ) → factor f l J i *ᵠ J i ≡ sum (suc i) J
  weight i = go (find i)
    where
      go : Where i → factor f l J i *ᵠ J i ≡ sum (suc i) J
      go (low h) = ap (λ q. q *ᵠ J i) (up_to i h) ∙ one-mul (J i) ∙ sym (sum-last i J ∙ ap (λ q. q +ᵠ J i) (A.before i h) ∙ zero-add (J i))
      go (middle h k) = ap (λ q. q *ᵠ J i) (between i h k) ∙ div_mul (sum (suc i) J) (J i) (jump-inside f l J A spread i (omega arith) (omega arith))
      go (high h) = ap (λ q. q *ᵠ J i) (from i h) ∙ zero-mul (J i) ∙ sym (A.after (suc i) (omega arith))

  pub factor-jumps : (n : ℕ) → l < n → Jumps n f l J (factor f l J)
  factor-jumps n h = record {
    ordered = spread;
    below = h;
    before = λ i k. (jump-before f l J A i k, up_to i (omega arith));
    after = λ i k. (jump-after f l J A i k, from i (omega arith));
    at_first = up_to f (omega arith);
    at_last = from l (omega arith);
    jump = jump-inside f l J A spread;
    part = A.part;
    whole = A.after (suc l) (omega arith);
    weight = λ i k. weight i;
  }

  pub factor_not_negative : (i : ℕ) → Nn (factor f l J i)
  factor_not_negative i = go (find i)
    where
      go : Where i → Nn (factor f l J i)
      go (low h) = subst Nn (sym (up_to i h)) (nn_int 1)
      go (middle h k) = subst Nn (sym (between i h k)) (pos_nn (quotient-above f l J A i h k))
      go (high h) = subst Nn (sym (from i h)) (nn_int 0)

  pub factor_at_most_one : (i : ℕ) → Nn (int (pos 1) -ᵠ factor f l J i)
  factor_at_most_one i = go (find i)
    where
      rest : {p : ℚ} (q : ℚ) → p ≡ q → Nn (int (pos 1) -ᵠ q) → Nn (int (pos 1) -ᵠ p)
      rest q e h = subst (λ t. Nn (int (pos 1) -ᵠ t)) (sym e) h

      go : Where i → Nn (int (pos 1) -ᵠ factor f l J i)
      go (low h) = rest (int (pos 1)) (up_to i h) (subst Nn (ring ℚ-ring [] (search readsℚ) (search readsℚ) refl) (nn_int 0))
      go (middle h k) = rest (sum (suc i) J /ᵠ J i) (between i h k) (le_nn (<-≤ (quotient-below f l J A i h k)))
      go (high h) = rest (int (pos 0)) (from i h) (subst Nn (ring ℚ-ring [] (search readsℚ) (search readsℚ) refl) (nn_int 1))
