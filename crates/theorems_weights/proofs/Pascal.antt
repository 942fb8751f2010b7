-- Pascal's rule for a sum over the binomials: the one for n + 1 is that for n with one more of the second kind, plus that
-- for n with one more of the first. Differences, the triangle and the Bernstein form are such sums.
use mathlib.Core.Path.{◌≡◌, refl, sym, ◌∙◌, ap, ap₂}
use mathlib.Core.List.{[], ◌∷◌}
use Prim.Native.Nat.{ℕ, zero, suc, ◌+◌, ◌-◌, ◌<◌}
use native.Mathlib.Omega.{arith}
use lib.IntN.{pos}
use Rattle.base_exact.specs.Rational.{ℚ, int, ◌+ᵠ◌, ◌*ᵠ◌}
use Rattle.base_exact.specs.Sum.{sum}
use Rattle.base_exact.proofs.Ring.{ring, reads}
use Rattle.base_exact.proofs.Rational.{ℚ-ring, int-add, add_mul, add-zero, zero-mul}
use Rattle.base_exact.proofs.Sum.{sum_ext, sum-add, sum-front, sum-last}
use Rattle.spec_spline.specs.Conditions.{binomial}

-- The sum of C(n, t)·g(t, n - t) for t = 0 to n.
abbrev pub binomial_sum : ℕ → (ℕ → ℕ → ℚ) → ℚ
binomial_sum n g = sum (suc n) (λ t. int (pos (binomial n t)) *ᵠ g t (n - t))

binomial-above : (k t : ℕ) → k < t → binomial k t ≡ 0
unfolding binomial
binomial-above k zero h = absurd (omega arith)
binomial-above zero (suc t) h = refl
binomial-above (suc k) (suc t) h = ap₂ ◌+◌ (binomial-above k t (omega arith)) (binomial-above k (suc t) (omega arith))

module _ (n : ℕ) (g : ℕ → ℕ → ℚ) where
  -- what Pascal's rule takes from the same place, and nothing at n + 1
  carry : ℕ → ℚ
  carry t = int (pos (binomial n t)) *ᵠ g t (suc n - t)

  carry-first : int (pos (binomial (suc n) 0)) *ᵠ g 0 (suc n - 0) ≡ carry 0
  unfolding carry binomial
  carry-first = refl

  carry-last : carry (suc n) ≡ int (pos 0)
  unfolding carry
  carry-last = ap (λ m. int (pos m) *ᵠ g (suc n) (suc n - suc n)) (binomial-above n (suc n) (omega arith)) ∙ zero-mul _

  carried-sum : sum (suc (suc n)) carry ≡ binomial_sum n (λ t m. g t (suc m))
  unfolding carry
  carried-sum = sum-last (suc n) carry
      ∙ ap₂ ◌+ᵠ◌ (sum_ext (suc n) (λ t h. ap (λ m. int (pos (binomial n t)) *ᵠ g t m) (let e : suc n - t ≡ suc (n - t) = omega arith in e))) carry-last
      ∙ add-zero _

  pascal : (t : ℕ) → int (pos (binomial (suc n) (suc t))) *ᵠ g (suc t) (suc n - suc t) ≡ int (pos (binomial n t)) *ᵠ g (suc t) (n - t) +ᵠ carry (suc t)
  unfolding carry binomial
  pascal t = ap (λ c. c *ᵠ g (suc t) (suc n - suc t)) (int-add (pos (binomial n t)) (pos (binomial n (suc t))))
      ∙ add_mul (int (pos (binomial n t))) (int (pos (binomial n (suc t)))) (g (suc t) (suc n - suc t))
      ∙ ap (λ m. int (pos (binomial n t)) *ᵠ g (suc t) m +ᵠ int (pos (binomial n (suc t))) *ᵠ g (suc t) (suc n - suc t)) (let e : suc n - suc t ≡ n - t = omega arith in e)

  pub binomial_sum_suc : binomial_sum (suc n) g ≡ binomial_sum n (λ t m. g t (suc m)) +ᵠ binomial_sum n (λ t m. g (suc t) m)
  binomial_sum_suc =
      sum-front (suc n) (λ t. int (pos (binomial (suc n) t)) *ᵠ g t (suc n - t))
      ∙ ap₂ ◌+ᵠ◌ carry-first (sum_ext (suc n) (λ t h. pascal t) ∙ sum-add (suc n) (λ t. int (pos (binomial n t)) *ᵠ g (suc t) (n - t)) (λ t. carry (suc t)))
      ∙ swap (carry 0) (binomial_sum n (λ t m. g (suc t) m)) (sum (suc n) (λ t. carry (suc t)))
      ∙ ap (λ u. u +ᵠ binomial_sum n (λ t m. g (suc t) m)) (sym (sum-front (suc n) carry) ∙ carried-sum)
    where
      swap : (a b c : ℚ) → a +ᵠ (b +ᵠ c) ≡ (a +ᵠ c) +ᵠ b
      swap a b c = ring ℚ-ring (a ∷ b ∷ c ∷ []) (search reads) (search reads) refl
