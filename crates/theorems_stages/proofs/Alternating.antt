-- Numbers whose partial sums are zero up to f and past l, and change their sign at each place between: each such number from
-- f to l is not zero, and the sum up to it divided by it lies strictly between 0 and 1. That is the shape that a step needs.
use mathlib.Core.Path.{◌≡◌, refl, sym, ◌∙◌, ap, ap₂, subst}
use mathlib.Core.Logic.{◌≢◌, ◌⊎◌, inl, inr}
use mathlib.Core.List.{[], ◌∷◌}
use Prim.Native.Nat.{ℕ, zero, suc, ◌+◌, ◌<◌, ◌≤◌}
use native.Mathlib.Omega.{arith}
use native.Mathlib.Nat.{eq-or-lt_of_le}
use lib.IntN.{pos}
use Rattle.base_exact.specs.Rational.{ℚ, ◌+ᵠ◌, ◌*ᵠ◌, -ᵠ◌, ◌-ᵠ◌, ◌/ᵠ◌, int}
use Rattle.base_exact.specs.Order.{◌<ᵠ◌, Nn}
use Rattle.base_exact.specs.Sum.{sum}
use Rattle.base_exact.proofs.Ring.{ring, by_eq}
use Rattle.base_exact.proofs.Rational.{ℚ-ring, readsℚ, div_mul, mul_cancel, mul_comm, mul_assoc, zero-mul, mul-zero, add-zero}
use Rattle.base_exact.proofs.Order.{nn_mul, nn_total, pos_nonzero, pos_add, pos_mul, lt_by, *_cancel_<, <-irrefl}
use Rattle.base_exact.proofs.Sum.{sum-last}

-- S is zero up to f and past l, not zero between, and changes its sign at each place.
pub record Alternates (f l : ℕ) (S : ℕ → ℚ) : Type 0 where
  pub before : (n : ℕ) → n ≤ f → S n ≡ int (pos 0)
  pub after : (n : ℕ) → l < n → S n ≡ int (pos 0)
  pub part : (n : ℕ) → f < n → n ≤ l → S n ≢ int (pos 0)
  pub turns : (n : ℕ) → f < n → n < l → int (pos 0) <ᵠ -ᵠ (S n *ᵠ S (suc n))

square_nn : (q : ℚ) → Nn (q *ᵠ q)
square_nn q = go (nn_total q)
  where
    go : Nn q ⊎ Nn (-ᵠ q) → Nn (q *ᵠ q)
    go (inl h) = nn_mul h h
    go (inr h) = subst Nn (ring ℚ-ring (q ∷ []) (search readsℚ depth 20) (search readsℚ depth 20) refl) (nn_mul h h)

-- A positive multiple of S alternates where S does.
pub alternates_scaled : {f l : ℕ} {S H : ℕ → ℚ} (g : ℚ) → int (pos 0) <ᵠ g → ((n : ℕ) → g *ᵠ S n ≡ H n) → Alternates f l H → Alternates f l S
alternates_scaled {f} {l} {S} {H} g p e A = record {
  before = λ n h. zero n (A.before n h);
  after = λ n h. zero n (A.after n h);
  part = λ n h k z. A.part n h k (sym (e n) ∙ ap (λ t. g *ᵠ t) z ∙ mul-zero g);
  turns = λ n h k. *_cancel_< (square_nn g) (subst (λ t. t <ᵠ -ᵠ (S n *ᵠ S (suc n)) *ᵠ (g *ᵠ g)) (sym (zero-mul (g *ᵠ g))) (subst (λ t. int (pos 0) <ᵠ t) (turned n) (A.turns n h k)));
}
  where
    zero : (n : ℕ) → H n ≡ int (pos 0) → S n ≡ int (pos 0)
    zero n z = mul_cancel (pos_nonzero p) (mul_comm (S n) g ∙ e n ∙ z ∙ sym (zero-mul g))

    turned : (n : ℕ) → -ᵠ (H n *ᵠ H (suc n)) ≡ -ᵠ (S n *ᵠ S (suc n)) *ᵠ (g *ᵠ g)
    turned n = ap₂ (λ x y. -ᵠ (x *ᵠ y)) (sym (e n)) (sym (e (suc n))) ∙ ring ℚ-ring (g ∷ S n ∷ S (suc n) ∷ []) (search readsℚ depth 20) (search readsℚ depth 20) refl

-- At most three numbers, the last positive and the signs changing, alternate.
module _ (f k : ℕ) (H : ℕ → ℚ) (few : k ≤ 2) (zero-before : (n : ℕ) → n ≤ f → H n ≡ int (pos 0)) (zero-after : (n : ℕ) → suc (f + k) < n → H n ≡ int (pos 0))
    (last : int (pos 0) <ᵠ H (suc (f + k))) (second : 0 < k → int (pos 0) <ᵠ -ᵠ H (f + k)) (first : k ≡ 2 → int (pos 0) <ᵠ H (suc f)) where
  -- which of them
  data Place (n : ℕ) : Type 0 where
    at_last : n ≡ suc (f + k) → Place n
    at_second : 0 < k → n ≡ f + k → Place n
    at_first : k ≡ 2 → n ≡ suc f → Place n

  place : (n : ℕ) → f < n → n ≤ suc (f + k) → Place n
  place n x y = go (eq-or-lt_of_le y)
    where
      inner : (n ≡ f + k) ⊎ (n < f + k) → Place n
      inner (inl z) = at_second (omega arith) z
      inner (inr z) = at_first (omega arith) (omega arith)

      go : (n ≡ suc (f + k)) ⊎ (n < suc (f + k)) → Place n
      go (inl z) = at_last z
      go (inr z) = inner (eq-or-lt_of_le (let w : n ≤ f + k = omega arith in w))

  not_zero : (n : ℕ) → Place n → H n ≢ int (pos 0)
  not_zero n (at_last z) e = pos_nonzero last (ap H (sym z) ∙ e)
  not_zero n (at_second p z) e = pos_nonzero (second p) (ap (λ q. -ᵠ q) (ap H (sym z) ∙ e) ∙ ring ℚ-ring [] (search readsℚ depth 20) (search readsℚ depth 20) refl)
  not_zero n (at_first p z) e = pos_nonzero (first p) (ap H (sym z) ∙ e)

  changes : (n : ℕ) → n < suc (f + k) → Place n → int (pos 0) <ᵠ -ᵠ (H n *ᵠ H (suc n))
  changes n y (at_last z) = absurd (omega arith)
  changes n y (at_second p z) = subst (λ q. int (pos 0) <ᵠ q) (ap₂ (λ i j. -ᵠ H i *ᵠ H j) (sym z) (ap suc (sym z)) ∙ out (H n) (H (suc n))) (pos_mul (second p) last)
    where
      out : (p q : ℚ) → -ᵠ p *ᵠ q ≡ -ᵠ (p *ᵠ q)
      out p q = ring ℚ-ring (p ∷ q ∷ []) (search readsℚ depth 20) (search readsℚ depth 20) refl
  changes n y (at_first p z) =
      subst (λ q. int (pos 0) <ᵠ q) (ap₂ (λ i j. H i *ᵠ (-ᵠ H j)) (sym z) (let w : f + k ≡ suc n = omega arith in w) ∙ out (H n) (H (suc n)))
      (pos_mul (first p) (second (omega arith)))
    where
      out : (p q : ℚ) → p *ᵠ (-ᵠ q) ≡ -ᵠ (p *ᵠ q)
      out p q = ring ℚ-ring (p ∷ q ∷ []) (search readsℚ depth 20) (search readsℚ depth 20) refl

  pub signs_alternate : Alternates f (suc (f + k)) H
  signs_alternate = record { before = zero-before; after = zero-after; part = λ n x y. not_zero n (place n x y); turns = λ n x y. changes n y (place n x (omega arith)) }

module _ (f l : ℕ) (J : ℕ → ℚ) (A : Alternates f l (λ n. sum n J)) where
  difference : (i : ℕ) → J i ≡ sum (suc i) J -ᵠ sum i J
  difference i = ring ℚ-ring (J i ∷ sum i J ∷ []) (search readsℚ depth 20) (search readsℚ depth 20) refl ∙ ap (λ t. t -ᵠ sum i J) (sym (sum-last i J))

  zeros : (i : ℕ) → sum (suc i) J ≡ int (pos 0) → sum i J ≡ int (pos 0) → J i ≡ int (pos 0)
  zeros i p q = difference i ∙ ap₂ ◌-ᵠ◌ p q ∙ ring ℚ-ring [] (search readsℚ depth 20) (search readsℚ depth 20) refl

  pub jump-before : (i : ℕ) → i < f → J i ≡ int (pos 0)
  jump-before i h = zeros i (A.before (suc i) (omega arith)) (A.before i (omega arith))

  pub jump-after : (i : ℕ) → l < i → J i ≡ int (pos 0)
  jump-after i h = zeros i (A.after (suc i) (omega arith)) (A.after i (omega arith))

  -- the sum up to i times jump i, and the sum before i times it
  own_positive : (i : ℕ) → f < i → i < l → int (pos 0) <ᵠ sum (suc i) J *ᵠ J i
  own_positive i h k = subst (λ t. int (pos 0) <ᵠ t) (alg (sum i J) (sum (suc i) J) ∙ ap (λ t. sum (suc i) J *ᵠ t) (sym (difference i))) (pos_add (A.turns i h k) (square_nn (sum (suc i) J)))
    where
      alg : (s S : ℚ) → -ᵠ (s *ᵠ S) +ᵠ S *ᵠ S ≡ S *ᵠ (S -ᵠ s)
      alg s S = ring ℚ-ring (s ∷ S ∷ []) (search readsℚ depth 20) (search readsℚ depth 20) refl

  rest_positive : (i : ℕ) → f < i → i < l → int (pos 0) <ᵠ (J i -ᵠ sum (suc i) J) *ᵠ J i
  rest_positive i h k = subst (λ t. int (pos 0) <ᵠ t) (alg (sum i J) (sum (suc i) J) ∙ ap (λ t. (t -ᵠ sum (suc i) J) *ᵠ t) (sym (difference i))) (pos_add (A.turns i h k) (square_nn (sum i J)))
    where
      alg : (s S : ℚ) → -ᵠ (s *ᵠ S) +ᵠ s *ᵠ s ≡ (S -ᵠ s -ᵠ S) *ᵠ (S -ᵠ s)
      alg s S = ring ℚ-ring (s ∷ S ∷ []) (search readsℚ depth 20) (search readsℚ depth 20) refl

  pub jump-inside : f < l → (i : ℕ) → f ≤ i → i ≤ l → J i ≢ int (pos 0)
  jump-inside o i h k z = go (eq-or-lt_of_le h) (eq-or-lt_of_le k)
    where
      go : (f ≡ i) ⊎ (f < i) → (i ≡ l) ⊎ (i < l) → ⊥
      go (inl a) b = A.part (suc i) (omega arith) (omega arith) (sum-last i J ∙ ap₂ ◌+ᵠ◌ (A.before i (omega arith)) z ∙ add-zero _)
      go (inr a) (inl b) = A.part i (omega arith) (omega arith) (sym (add-zero (sum i J)) ∙ ap (λ t. sum i J +ᵠ t) (sym z) ∙ sym (sum-last i J) ∙ A.after (suc i) (omega arith))
      go (inr a) (inr b) = <-irrefl _ (subst (λ t. int (pos 0) <ᵠ t) (ap (λ t. sum (suc i) J *ᵠ t) z ∙ mul-zero _) (own_positive i a b))

  pub quotient-above : (i : ℕ) → f < i → i < l → int (pos 0) <ᵠ sum (suc i) J /ᵠ J i
  quotient-above i h k = *_cancel_< (square_nn (J i)) (subst (λ t. t <ᵠ sum (suc i) J /ᵠ J i *ᵠ (J i *ᵠ J i)) (sym (zero-mul (J i *ᵠ J i)))
      (subst (λ t. int (pos 0) <ᵠ t)
      (ap (λ t. t *ᵠ J i) (sym (div_mul (sum (suc i) J) (J i) (jump-inside (omega arith) i (omega arith) (omega arith)))) ∙ mul_assoc _ (J i) (J i))
      (own_positive i h k)))

  pub quotient-below : (i : ℕ) → f < i → i < l → sum (suc i) J /ᵠ J i <ᵠ int (pos 1)
  quotient-below i h k =
      *_cancel_< (square_nn (J i)) (lt_by (rest_positive i h k)
      (alg (sum (suc i) J) (J i) (sum (suc i) J /ᵠ J i) (div_mul (sum (suc i) J) (J i) (jump-inside (omega arith) i (omega arith) (omega arith)))))
    where
      alg : (S j w : ℚ) → w *ᵠ j ≡ S → (j -ᵠ S) *ᵠ j ≡ int (pos 1) *ᵠ (j *ᵠ j) -ᵠ w *ᵠ (j *ᵠ j)
      alg S j w e = by_eq ℚ-ring j e (ring ℚ-ring (S ∷ j ∷ w ∷ []) (search readsℚ depth 20) (search readsℚ depth 20) refl)
