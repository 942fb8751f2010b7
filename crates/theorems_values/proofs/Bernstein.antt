-- The exact triangle and the specification's sum: n exact blends with factors α and β leave the sum of C(n, t)·β^t·α^(n - t)
-- times number t (Pascal's rule), and dividing both factors by D divides it by D^n. Nothing is rounded here.
use mathlib.Core.Path.{◌≡◌, refl, sym, ◌∙◌, ap, ap₂}
use mathlib.Core.Logic.{◌≢◌}
use mathlib.Core.List.{[], ◌∷◌}
use Prim.Native.Nat.{ℕ, zero, suc, ◌+◌, ◌-◌}
use native.Mathlib.Omega.{arith}
use lib.IntN.{pos}
use Rattle.base_exact.specs.Rational.{ℚ, int, inv, ◌+ᵠ◌, ◌*ᵠ◌}
use Rattle.base_exact.specs.Sum.{sum}
use Rattle.base_exact.proofs.Ring.{ring, reads}
use Rattle.base_exact.proofs.Rational.{ℚ-ring, readsℚ, mul_nonzero, int_nonzero, inv_mul, inv_unique, mul-one}
use Rattle.base_exact.proofs.Sum.{sum_ext, sum_mul}
use Rattle.spec_spline.specs.Conditions.{binomial}
use Rattle.spec_spline.specs.ExactCurve.{power}
use Rattle.theorems_weights.proofs.Pascal.{binomial_sum, binomial_sum_suc}

-- ---- powers

pub power_nonzero : (q : ℚ) (n : ℕ) → q ≢ int (pos 0) → power q n ≢ int (pos 0)
unfolding power
power_nonzero q zero h = int_nonzero 0
power_nonzero q (suc n) h = mul_nonzero (power_nonzero q n h) h

pub power-inv : (q : ℚ) (n : ℕ) → q ≢ int (pos 0) → power (inv q) n ≡ inv (power q n)
unfolding power
power-inv q zero h = inv_unique (int (pos 1)) (int (pos 1)) (mul-one (int (pos 1)))
power-inv q (suc n) h = ap (λ t. t *ᵠ inv q) (power-inv q n h) ∙ sym (inv_mul (power q n) q (power_nonzero q n h) h)

-- ---- the sum

-- C(n, t)·β^t·α^(n - t).
unfoldable pub bernstein : ℚ → ℚ → ℕ → ℕ → ℚ
bernstein α β n t = int (pos (binomial n t)) *ᵠ power β t *ᵠ power α (n - t)

-- The sum of these times x(t), for t = 0 to n.
unfoldable pub bernstein_sum : ℚ → ℚ → ℕ → (ℕ → ℚ) → ℚ
bernstein_sum α β n x = sum (suc n) (λ t. bernstein α β n t *ᵠ x t)

module _ (α β : ℚ) where
  -- the same sum, its terms put together otherwise
  bernstein_sum_is : (n : ℕ) (x : ℕ → ℚ) → bernstein_sum α β n x ≡ binomial_sum n (λ t m. power β t *ᵠ power α m *ᵠ x t)
  unfolding bernstein_sum bernstein
  bernstein_sum_is n x = sum_ext (suc n) (λ t h. ring ℚ-ring (int (pos (binomial n t)) ∷ power β t ∷ power α (n - t) ∷ x t ∷ []) (search reads depth 20) (search reads depth 20) refl)

  -- one more degree: the two neighbouring sums, blended
  pub bernstein_sum_suc : (n : ℕ) (x : ℕ → ℚ) → bernstein_sum α β (suc n) x ≡ α *ᵠ bernstein_sum α β n x +ᵠ β *ᵠ bernstein_sum α β n (λ t. x (suc t))
  unfolding bernstein_sum bernstein power
  bernstein_sum_suc n x =
      bernstein_sum_is (suc n) x
      ∙ binomial_sum_suc n (λ t m. power β t *ᵠ power α m *ᵠ x t)
      ∙ ap₂ ◌+ᵠ◌
      (sum_ext (suc n) (λ t h. left (int (pos (binomial n t))) (power β t) (power α (n - t)) (x t)) ∙ sum_mul (suc n) α (λ t. bernstein α β n t *ᵠ x t))
      (sum_ext (suc n) (λ t h. right (int (pos (binomial n t))) (power β t) (power α (n - t)) (x (suc t))) ∙ sum_mul (suc n) β (λ t. bernstein α β n t *ᵠ x (suc t)))
    where
      left : (c b a x : ℚ) → c *ᵠ (b *ᵠ (a *ᵠ α) *ᵠ x) ≡ α *ᵠ (c *ᵠ b *ᵠ a *ᵠ x)
      left c b a x = ring ℚ-ring (α ∷ c ∷ b ∷ a ∷ x ∷ []) (search reads depth 20) (search reads depth 20) refl

      right : (c b a x : ℚ) → c *ᵠ (b *ᵠ β *ᵠ a *ᵠ x) ≡ β *ᵠ (c *ᵠ b *ᵠ a *ᵠ x)
      right c b a x = ring ℚ-ring (β ∷ c ∷ b ∷ a ∷ x ∷ []) (search reads depth 20) (search reads depth 20) refl

  pub bernstein_sum_ext : (n : ℕ) {x y : ℕ → ℚ} → ((t : ℕ) → x t ≡ y t) → bernstein_sum α β n x ≡ bernstein_sum α β n y
  unfolding bernstein_sum
  bernstein_sum_ext n h = sum_ext (suc n) (λ t l. ap (λ u. bernstein α β n t *ᵠ u) (h t))

  bernstein_sum_zero : (x : ℕ → ℚ) → bernstein_sum α β 0 x ≡ x 0
  unfolding bernstein_sum bernstein binomial power sum
  bernstein_sum_zero x = ring ℚ-ring (x 0 ∷ []) (search readsℚ depth 20) (search readsℚ depth 20) refl

-- ---- the triangle

-- Number k after n exact blends of the numbers e 0, e 1, ..
unfoldable pub exact_triangle : ℚ → ℚ → (ℕ → ℚ) → ℕ → ℕ → ℚ
exact_triangle α β e zero k = e k
exact_triangle α β e (suc n) k = α *ᵠ exact_triangle α β e n k +ᵠ β *ᵠ exact_triangle α β e n (suc k)

-- with the factors 1 and 0 it is the first of its numbers, with 0 and 1 the last
pub triangle-first : (e : ℕ → ℚ) (n k : ℕ) → exact_triangle (int (pos 1)) (int (pos 0)) e n k ≡ e k
unfolding exact_triangle
triangle-first e zero k = refl
triangle-first e (suc n) k =
    first (exact_triangle (int (pos 1)) (int (pos 0)) e n k) (exact_triangle (int (pos 1)) (int (pos 0)) e n (suc k)) ∙ triangle-first e n k
  where
    first : (x y : ℚ) → int (pos 1) *ᵠ x +ᵠ int (pos 0) *ᵠ y ≡ x
    first x y = ring ℚ-ring (x ∷ y ∷ []) (search readsℚ) (search readsℚ) refl

pub triangle-last : (e : ℕ → ℚ) (n k : ℕ) → exact_triangle (int (pos 0)) (int (pos 1)) e n k ≡ e (n + k)
unfolding exact_triangle
triangle-last e zero k = ap e (let z : k ≡ 0 + k = omega arith in z)
triangle-last e (suc n) k =
    second (exact_triangle (int (pos 0)) (int (pos 1)) e n k) (exact_triangle (int (pos 0)) (int (pos 1)) e n (suc k))
    ∙ triangle-last e n (suc k) ∙ ap e (let z : n + suc k ≡ suc n + k = omega arith in z)
  where
    second : (x y : ℚ) → int (pos 0) *ᵠ x +ᵠ int (pos 1) *ᵠ y ≡ y
    second x y = ring ℚ-ring (x ∷ y ∷ []) (search readsℚ) (search readsℚ) refl

pub triangle_is_sum : (α β : ℚ) (e : ℕ → ℚ) (n k : ℕ) → exact_triangle α β e n k ≡ bernstein_sum α β n (λ t. e (k + t))
unfolding exact_triangle
triangle_is_sum α β e zero k = ap e (let z : k ≡ k + 0 = omega arith in z) ∙ sym (bernstein_sum_zero α β (λ t. e (k + t)))
triangle_is_sum α β e (suc n) k =
    ap₂ (λ a b. α *ᵠ a +ᵠ β *ᵠ b) (triangle_is_sum α β e n k)
    (triangle_is_sum α β e n (suc k) ∙ bernstein_sum_ext α β n (λ t. ap e (let z : suc k + t ≡ k + suc t = omega arith in z)))
    ∙ sym (bernstein_sum_suc α β n (λ t. e (k + t)))

-- a common factor of α and β comes out
pub triangle-scale : (α β δ : ℚ) (e : ℕ → ℚ) (n k : ℕ) → exact_triangle (α *ᵠ δ) (β *ᵠ δ) e n k ≡ exact_triangle α β e n k *ᵠ power δ n
unfolding exact_triangle power
triangle-scale α β δ e zero k = sym (mul-one (e k))
triangle-scale α β δ e (suc n) k =
    ap₂ (λ a b. α *ᵠ δ *ᵠ a +ᵠ β *ᵠ δ *ᵠ b) (triangle-scale α β δ e n k) (triangle-scale α β δ e n (suc k))
    ∙ ring ℚ-ring (α ∷ β ∷ δ ∷ exact_triangle α β e n k ∷ exact_triangle α β e n (suc k) ∷ power δ n ∷ []) (search reads depth 20) (search reads depth 20) refl
