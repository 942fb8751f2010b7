-- The factors of a step on all rows: 1 before f, the computed ones from f to l, 0 after l. With jumps that sum to zero they
-- meet the hypotheses of NullSpace, and they lie between 0 and 1.
use mathlib.Core.Path.{◌≡◌, refl, sym, ◌∙◌, ap, ap₂, subst}
use mathlib.Core.Logic.{◌≢◌, ◌⊎◌, inl, inr}
use mathlib.Core.Bool.{cond}
use mathlib.Core.List.{List, [], ◌∷◌}
use Prim.Native.Nat.{ℕ, zero, suc, ◌+◌, ◌-◌, ◌<◌, ◌≤◌}
use native.Mathlib.Omega.{arith}
use native.Mathlib.Nat.{eq-or-lt_of_le}
use lib.Dec.{ltb, lt→ltb}
use lib.Arith.{le→nltb}
use lib.IntN.{pos}
use Rattle.base_exact.specs.Rational.{ℚ, ◌+ᵠ◌, ◌*ᵠ◌, -ᵠ◌, ◌-ᵠ◌, int, ◌/ᵠ◌}
use Rattle.base_exact.specs.Order.{Nn}
use Rattle.base_exact.specs.Sum.{sum}
use Rattle.base_exact.proofs.Decide.{le_or_lt, holds_true, fails_false, cond_true, cond_false}
use Rattle.base_exact.proofs.Ring.{ring}
use Rattle.base_exact.proofs.Rational.{ℚ-ring, readsℚ, mul-zero, zero-mul, div_mul, mul_nonzero, int_nonzero}
use Rattle.base_exact.proofs.Order.{nn_int, le_nn, pos_nn, <-≤, ltᵠ_true, pos_nonzero}
use Rattle.base_exact.proofs.Sum.{sum-zero, sum_ext, sum_past, sum-skip}
use Rattle.spec_spline.specs.Table.{entry}
use Rattle.spec_spline.specs.Step.{jump, partial_sum}
use Rattle.spec_spline.proofs.Answers.{Spans, Factored, Factors}
use Rattle.theorems_weights.proofs.NullSpace.{Jumps}

-- The factor of row i: 1 before f, the computed ones from f to l, 0 after l.
pub extended : List ℚ → ℕ → ℕ → ℚ
extended ws f i = cond (ltb i f) (int (pos 1)) (entry ws (i - f))

pub extended-before : (ws : List ℚ) (f i : ℕ) → i < f → extended ws f i ≡ int (pos 1)
unfolding extended
extended-before ws f i h = cond_true (int (pos 1)) (entry ws (i - f)) (holds_true (ltb i f) (lt→ltb i f h))

pub extended_from : (ws : List ℚ) (f i : ℕ) → f ≤ i → extended ws f i ≡ entry ws (i - f)
unfolding extended
extended_from ws f i h = cond_false (int (pos 1)) (entry ws (i - f)) (fails_false (ltb i f) (le→nltb i f h))

-- Where a row stands.
data Where (f l i : ℕ) : Type 0 where
  before : i < f → Where f l i
  at_f : i ≡ f → Where f l i
  between : f < i → i < l → Where f l i
  at_l : f < i → i ≡ l → Where f l i
  after : l < i → Where f l i

find : (f l i : ℕ) → f ≤ l → Where f l i
find f l i o = go (le_or_lt f i)
  where
    right : f < i → (i ≤ l) ⊎ (l < i) → Where f l i
    right h (inr k) = after k
    right h (inl k) = end h (eq-or-lt_of_le k)
      where
        end : f < i → (i ≡ l) ⊎ (i < l) → Where f l i
        end h (inl e) = at_l h e
        end h (inr k) = between h k

    middle : (f ≡ i) ⊎ (f < i) → Where f l i
    middle (inl e) = at_f (sym e)
    middle (inr h) = right h (le_or_lt i l)

    go : (f ≤ i) ⊎ (i < f) → Where f l i
    go (inr h) = before h
    go (inl h) = middle (eq-or-lt_of_le h)

module _ (js ws : List ℚ) (f l n : ℕ) (J : ℕ → ℚ) (same : (i : ℕ) → entry js i ≡ J i) (below : l < n) (S : Spans js f l) (F : Factors js f l ws) (zero-sum : sum n J ≡ int (pos 0)) where
  J-before : (j : ℕ) → j < f → J j ≡ int (pos 0)
  J-before j h = sym (same j) ∙ S.before j h

  J-after : (j : ℕ) → l < j → J j ≡ int (pos 0)
  J-after j h = sym (same j) ∙ S.after j h

  J-inside : (j : ℕ) → f ≤ j → j ≤ l → J j ≢ int (pos 0)
  J-inside j h k e = S.inside j h k (same j ∙ e)

  -- the jumps up to l sum to zero
  whole : sum (suc l) J ≡ int (pos 0)
  whole = sym (sum_past (suc l) n J below (λ i h k. J-after i h)) ∙ zero-sum

  -- so there are two non-zero jumps at least
  spread : f < l
  unfolding sum
  spread = go (eq-or-lt_of_le S.ordered)
    where
      go : (f ≡ l) ⊎ (f < l) → f < l
      go (inl e) =
          absurd (J-inside l S.ordered (omega arith)
          (sym (ap (λ t. t +ᵠ J l) (sum-zero l (λ i h. J-before i (omega arith))) ∙ ring ℚ-ring (J l ∷ []) (search readsℚ) (search readsℚ) refl) ∙ whole))
      go (inr h) = h

  abbrev pub w : ℕ → ℚ
  w i = extended ws f i

  w_first : w f ≡ int (pos 1)
  w_first = extended_from ws f f (omega arith) ∙ ap (entry ws) (let z : f - f ≡ 0 = omega arith in z) ∙ F.at_first

  w_after : (i : ℕ) → l ≤ i → w i ≡ int (pos 0)
  w_after i h = let o = spread in extended_from ws f i (omega arith) ∙ F.past (i - f) (omega arith) (omega arith)

  proper : (i : ℕ) → f < i → i < l → Factored (partial_sum js f i) (entry js i) (w i)
  proper i h k = subst (Factored (partial_sum js f i) (entry js i)) (sym (extended_from ws f i (omega arith))) (F.inside i h k)

  partial_is : (i : ℕ) → f ≤ i → partial_sum js f i ≡ sum (suc i) J
  unfolding partial_sum
  partial_is i h = sum_ext (suc i - f) (λ d k. same (f + d)) ∙ sym (sum-skip f (suc i - f) J J-before) ∙ ap (λ n. sum n J) (let z : f + (suc i - f) ≡ suc i = omega arith in z)

  -- the identity behind the step
  weight : (j : ℕ) → j < n → w j *ᵠ J j ≡ sum (suc j) J
  unfolding sum
  weight j h = go (find f l j S.ordered)
    where
      go : Where f l j → w j *ᵠ J j ≡ sum (suc j) J
      go (before k) = ap (λ t. w j *ᵠ t) (J-before j k) ∙ mul-zero (w j) ∙ sym (sum-zero (suc j) (λ i r. J-before i (omega arith)))
      go (at_f e) = ap (λ t. t *ᵠ J j) (ap w e ∙ w_first) ∙ ring ℚ-ring (J j ∷ []) (search readsℚ) (search readsℚ) refl ∙ ap (λ t. t +ᵠ J j) (sym (sum-zero j (λ i r. J-before i (omega arith))))
      go (between p q) = let P = proper j p q in
          ap (λ t. t *ᵠ J j) (P.quotient ∙ ap₂ ◌/ᵠ◌ (partial_is j (omega arith)) (same j)) ∙ div_mul (sum (suc j) J) (J j) (J-inside j (omega arith) (omega arith))
      go (at_l p e) = ap (λ t. t *ᵠ J j) (w_after j (omega arith)) ∙ zero-mul (J j) ∙ sym (ap (λ k. sum (suc k) J) e ∙ whole)
      go (after p) = ap (λ t. t *ᵠ J j) (w_after j (omega arith)) ∙ zero-mul (J j) ∙ sym (sum_past (suc l) (suc j) J (omega arith) (λ i r s. J-after i r) ∙ whole)

  w_not_zero : (i : ℕ) → f ≤ i → i < l → w i ≢ int (pos 0)
  w_not_zero i h k = go (eq-or-lt_of_le h)
    where
      go : (f ≡ i) ⊎ (f < i) → w i ≢ int (pos 0)
      go (inl e) z = int_nonzero 0 (sym w_first ∙ ap w e ∙ z)
      go (inr p) z = pos_nonzero (ltᵠ_true (int (pos 0)) (w i) (proper i p k).above_zero) z

  part : (j : ℕ) → f < j → j ≤ l → sum j J ≢ int (pos 0)
  part zero h k z = omega arith
  part (suc i) h k z = mul_nonzero (w_not_zero i (omega arith) (omega arith)) (J-inside i (omega arith) (omega arith)) (weight i (omega arith) ∙ z)

  pub null_space : Jumps n f l J w
  null_space = record {
    ordered = spread;
    below = below;
    before = λ j h. (J-before j h, extended-before ws f j h);
    after = λ j h. (J-after j h, w_after j (omega arith));
    at_first = w_first;
    at_last = w_after l (omega arith);
    jump = J-inside;
    part = part;
    whole = whole;
    weight = weight;
  }

  pub w_not_negative : (i : ℕ) → Nn (w i)
  w_not_negative i = go (find f l i S.ordered)
    where
      one : w i ≡ int (pos 1) → Nn (w i)
      one e = subst Nn (sym e) (nn_int 1)

      none : w i ≡ int (pos 0) → Nn (w i)
      none e = subst Nn (sym e) (nn_int 0)

      go : Where f l i → Nn (w i)
      go (before h) = one (extended-before ws f i h)
      go (at_f e) = one (ap w e ∙ w_first)
      go (between p q) = pos_nn (ltᵠ_true (int (pos 0)) (w i) (proper i p q).above_zero)
      go (at_l p e) = none (w_after i (omega arith))
      go (after p) = none (w_after i (omega arith))

  pub w_at_most_one : (i : ℕ) → Nn (int (pos 1) -ᵠ w i)
  w_at_most_one i = go (find f l i S.ordered)
    where
      one : w i ≡ int (pos 1) → Nn (int (pos 1) -ᵠ w i)
      one e = subst Nn (ring ℚ-ring [] (search readsℚ) (search readsℚ) refl ∙ ap (λ t. int (pos 1) -ᵠ t) (sym e)) (nn_int 0)

      none : w i ≡ int (pos 0) → Nn (int (pos 1) -ᵠ w i)
      none e = subst Nn (ring ℚ-ring [] (search readsℚ) (search readsℚ) refl ∙ ap (λ t. int (pos 1) -ᵠ t) (sym e)) (nn_int 1)

      go : Where f l i → Nn (int (pos 1) -ᵠ w i)
      go (before h) = one (extended-before ws f i h)
      go (at_f e) = one (ap w e ∙ w_first)
      go (between p q) = le_nn (<-≤ (ltᵠ_true (w i) (int (pos 1)) (proper i p q).below_one))
      go (at_l p e) = none (w_after i (omega arith))
      go (after p) = none (w_after i (omega arith))
