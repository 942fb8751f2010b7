-- Finite differences: the signed binomials of the specification's conditions as the k-th difference of k + 1 numbers. Pascal's
-- rule makes a difference the difference of two lower ones; so it vanishes on equal numbers, and it is the recurrence by
-- which the published construction takes derivatives.
use mathlib.Core.Path.{◌≡◌, refl, sym, ◌∙◌, ap, ap₂}
use mathlib.Core.List.{[], ◌∷◌}
use Prim.Native.Nat.{ℕ, zero, suc, ◌-◌, ◌≤◌}
use native.Mathlib.Omega.{arith}
use lib.IntN.{pos}
use Rattle.base_exact.specs.Rational.{ℚ, ◌+ᵠ◌, ◌*ᵠ◌, -ᵠ◌, ◌-ᵠ◌, int}
use Rattle.base_exact.specs.Sum.{sum}
use Rattle.base_exact.proofs.Ring.{ring, reads}
use Rattle.base_exact.proofs.Rational.{ℚ-ring, readsℚ, add_comm, mul_assoc, int_neg, mul-zero}
use Rattle.base_exact.proofs.Sum.{sum_ext, sum_neg, sum-add, sum_mul, sum-zero}
use Rattle.spec_spline.specs.Conditions.{binomial, alternating}
use Rattle.theorems_weights.proofs.Pascal.{binomial_sum, binomial_sum_suc}

-- (-1)^(k-t) C(k, t).
unfoldable pub signed_binomial : ℕ → ℕ → ℚ
signed_binomial k t = int (pos (binomial k t)) *ᵠ int (alternating (k - t))

-- The k-th difference of x(0), .., x(k).
unfoldable pub difference : ℕ → (ℕ → ℚ) → ℚ
difference k x = sum (suc k) (λ t. signed_binomial k t *ᵠ x t)

pub alternating_suc : (n : ℕ) → int (alternating (suc n)) ≡ -ᵠ int (alternating n)
unfolding alternating
alternating_suc n = int_neg (alternating n)

pub difference_ext : (k : ℕ) {x y : ℕ → ℚ} → ((t : ℕ) → t ≤ k → x t ≡ y t) → difference k x ≡ difference k y
unfolding difference
difference_ext k h = sum_ext (suc k) (λ t l. ap (λ u. signed_binomial k t *ᵠ u) (h t (omega arith)))

-- the same sum, its terms put together otherwise
difference_is : (k : ℕ) (x : ℕ → ℚ) → difference k x ≡ binomial_sum k (λ t m. int (alternating m) *ᵠ x t)
unfolding difference signed_binomial
difference_is k x = sum_ext (suc k) (λ t h. mul_assoc (int (pos (binomial k t))) (int (alternating (k - t))) (x t))

-- Pascal's rule
pub difference_suc : (k : ℕ) (x : ℕ → ℚ) → difference (suc k) x ≡ difference k (λ t. x (suc t)) -ᵠ difference k x
unfolding difference signed_binomial
difference_suc k x =
    difference_is (suc k) x
    ∙ binomial_sum_suc k (λ t m. int (alternating m) *ᵠ x t)
    ∙ ap₂ ◌+ᵠ◌
    (sum_ext (suc k) (λ t h. ap (λ u. int (pos (binomial k t)) *ᵠ (u *ᵠ x t)) (alternating_suc (k - t))
    ∙ negated (int (pos (binomial k t))) (int (alternating (k - t))) (x t)) ∙ sum_neg (suc k) (λ t. signed_binomial k t *ᵠ x t))
    (sym (difference_is k (λ t. x (suc t))))
    ∙ add_comm (-ᵠ difference k x) (difference k (λ t. x (suc t)))
  where
    negated : (c a x : ℚ) → c *ᵠ (-ᵠ a *ᵠ x) ≡ -ᵠ (c *ᵠ a *ᵠ x)
    negated c a x = ring ℚ-ring (c ∷ a ∷ x ∷ []) (search reads depth 20) (search reads depth 20) refl

-- equal numbers have no differences
pub difference-constant : (k : ℕ) (c : ℚ) → difference (suc k) (λ t. c) ≡ int (pos 0)
difference-constant k c = difference_suc k (λ t. c) ∙ ring ℚ-ring (difference k (λ t. c) ∷ []) (search readsℚ) (search readsℚ) refl

pub difference-zero : (x : ℕ → ℚ) → difference 0 x ≡ x 0
unfolding difference sum signed_binomial binomial alternating
difference-zero x = ring ℚ-ring (x 0 ∷ []) (search readsℚ depth 20) (search readsℚ depth 20) refl

-- ---- linearity

pub difference-mix : (k : ℕ) (a : ℚ) (x y : ℕ → ℚ) → difference k (λ t. x t +ᵠ a *ᵠ y t) ≡ difference k x +ᵠ a *ᵠ difference k y
unfolding difference
difference-mix k a x y =
    sum_ext (suc k) (λ t h. distribute (signed_binomial k t) (x t) a (y t)) ∙ sum-add (suc k) (λ t. signed_binomial k t *ᵠ x t) (λ t. a *ᵠ (signed_binomial k t *ᵠ y t))
    ∙ ap (λ u. sum (suc k) (λ t. signed_binomial k t *ᵠ x t) +ᵠ u) (sum_mul (suc k) a (λ t. signed_binomial k t *ᵠ y t))
  where
    distribute : (b x a y : ℚ) → b *ᵠ (x +ᵠ a *ᵠ y) ≡ b *ᵠ x +ᵠ a *ᵠ (b *ᵠ y)
    distribute b x a y = ring ℚ-ring (b ∷ x ∷ a ∷ y ∷ []) (search reads depth 20) (search reads depth 20) refl

pub difference-none : (k : ℕ) {x : ℕ → ℚ} → ((t : ℕ) → t ≤ k → x t ≡ int (pos 0)) → difference k x ≡ int (pos 0)
unfolding difference
difference-none k h = sum-zero (suc k) (λ t l. ap (λ u. signed_binomial k t *ᵠ u) (h t (omega arith)) ∙ mul-zero (signed_binomial k t))

pub difference-sum : (k n : ℕ) (a : ℕ → ℚ) (x : ℕ → ℕ → ℚ) → sum n (λ i. a i *ᵠ difference k (x i)) ≡ difference k (λ t. sum n (λ i. a i *ᵠ x i t))
unfolding sum
difference-sum k zero a x = sym (difference-none k (λ t h. refl))
difference-sum k (suc n) a x = ap (λ u. u +ᵠ a n *ᵠ difference k (x n)) (difference-sum k n a x) ∙ sym (difference-mix k (a n) (λ t. sum n (λ i. a i *ᵠ x i t)) (x n))
