-- Binomials with their signs, and the sizes of scales and binomials.
use mathlib.Core.Path.{◌≡◌, refl, ◌∙◌, ap}
use mathlib.Core.Logic.{◌≢◌}
use Prim.Native.Nat.{ℕ, zero, suc, ◌-◌, ◌*◌, ◌^◌, ◌%◌, ◌≤◌}
use native.Mathlib.Omega.{arith}
use native.Mathlib.Nat.{mul-one, mul-le-mul, one-le-pow, pow-le-pow_left, pow-le-pow_right, two-pow-succ, le_trans}
use lib.IntN.{ℤ, pos, negsuc, ◌*ℤ◌, neg_ℤ, nat_abs}
use Rattle.base_exact.proofs.Integer.{abs_mul}
use Rattle.spec_spline.specs.Conditions.{falling, binomial, alternating, scale}
use Rattle.spec_spline.proofs.Conditions.{alternating-abs}

pub alternating_even : (n : ℕ) → n % 2 ≡ 0 → alternating n ≡ pos 1
unfolding alternating
alternating_even zero h = refl
alternating_even (suc zero) h = absurd (omega arith)
alternating_even (suc (suc n)) h = ap (λ z. neg_ℤ (neg_ℤ z)) (alternating_even n (omega arith))

pub alternating_odd : (n : ℕ) → n % 2 ≢ 0 → alternating n ≡ negsuc 0
unfolding alternating
alternating_odd zero h = absurd (omega arith)
alternating_odd (suc n) h = ap neg_ℤ (alternating_even n (omega arith))

-- The binomial with the sign of (-1)^(k - t).
abbrev pub signed_binomial : ℕ → ℕ → ℤ
signed_binomial k t = pos (binomial k t) *ℤ alternating (k - t)

pub signed-binomial-abs : (k t : ℕ) → nat_abs (signed_binomial k t) ≡ binomial k t
signed-binomial-abs k t = abs_mul (pos (binomial k t)) (alternating (k - t)) ∙ ap (λ n. binomial k t * n) (alternating-abs (k - t)) ∙ mul-one (binomial k t)

-- No scale is above F(5, 2) times the square of the longest span.
abbrev pub scale_limit : ℕ
scale_limit = 20 * 2000 ^ 2

falling_le : (p k : ℕ) → p ≤ 5 → k ≤ 2 → falling p k ≤ 20
unfolding falling
falling_le p zero h l = omega arith
falling_le p (suc zero) h l = omega arith
falling_le p (suc (suc zero)) h l = omega (arith, mul-le-mul {n₁ = 1 * (p - 0)} {m₁ = p - 1} {n₂ = 5} {m₂ = 4} (omega arith) (omega arith))
falling_le p (suc (suc (suc k))) h l = absurd (omega arith)

power_le : (n k : ℕ) → n ≤ 2000 → k ≤ 2 → n ^ k ≤ 2000 ^ 2
power_le n k h l = le_trans (pow-le-pow_left h k) (pow-le-pow_right {n = 2000} (omega arith) l)

pub scale_le : (p k n : ℕ) → p ≤ 5 → k ≤ 2 → n ≤ 2000 → scale p k n ≤ scale_limit
scale_le p k n h l m = mul-le-mul (falling_le p k h l) (power_le n k m l)

pub binomial_le : (k t : ℕ) → binomial k t ≤ 2 ^ k
unfolding binomial
binomial_le zero zero = omega arith
binomial_le (suc k) zero = one-le-pow (suc k) 2 (omega arith)
binomial_le zero (suc t) = omega arith
binomial_le (suc k) (suc t) = omega (arith, two-pow-succ k, binomial_le k t, binomial_le k (suc t))

pub signed-binomial_le : (k t : ℕ) → k ≤ 2 → nat_abs (signed_binomial k t) ≤ 4
signed-binomial_le k t h = rw (signed-binomial-abs k t) (le_trans (binomial_le k t) (pow-le-pow_right {n = 2} (omega arith) h))
