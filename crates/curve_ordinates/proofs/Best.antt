-- The best of some numbers, the least or the greatest: of two, of one more, and that it is as small in size as they are.
use mathlib.Core.Path.{◌≡◌, refl, sym, ◌∙◌, ap}
use mathlib.Core.Bool.{Bool, true, false, cond}
use mathlib.Core.Option.{Option, some, none, get_or}
use Prim.Native.Nat.{ℕ, zero, suc, ◌≤◌}
use native.Mathlib.Omega.{arith}
use lib.IntN.{ℤ, pos, nat_abs}
use Rattle.base_exact.proofs.Decide.{cond_true, cond_false}
use Rattle.spec_spline.specs.Reading.{best, preferred}
use Rattle.spec_spline.proofs.Reading.{best-skips, best_takes}
use Rattle.curve_ordinates.specs.Ordinates.{known, given}

-- ---- the better of two

module _ (prefers : ℤ → ℤ → Bool) {known : Bool} (a b : ℤ) where
  pub preferred_unknown : known ≡ false → preferred prefers (given known a) b ≡ b
  preferred_unknown e = ap (λ t. preferred prefers (given t a) b) e

  pub preferred-first : known ≡ true → prefers a b ≡ true → preferred prefers (given known a) b ≡ a
  preferred-first e p = ap (λ t. preferred prefers (given t a) b) e ∙ cond_true a b p

  pub preferred-second : known ≡ true → prefers a b ≡ false → preferred prefers (given known a) b ≡ b
  preferred-second e p = ap (λ t. preferred prefers (given t a) b) e ∙ cond_false a b p

-- ---- one number more

-- the flag and the number give back what is known
pub given-known : (o : Option ℤ) → given (known o) (get_or o (pos 0)) ≡ o
given-known none = refl
given-known (some z) = refl

-- there is a best one whatever is preferred, where an index passes
pub known-best : (p q : ℤ → ℤ → Bool) (passes : ℕ → Bool) (a : ℕ → ℤ) (n : ℕ) → known (best p n passes a) ≡ known (best q n passes a)
unfolding best
known-best p q passes a zero = refl
known-best p q passes a (suc n) = go (passes n) refl (known-best p q passes a n)
  where
    go : (b : Bool) → passes n ≡ b → known (best p n passes a) ≡ known (best q n passes a)
        → known (best p (suc n) passes a) ≡ known (best q (suc n) passes a)
    go true e ih = ap known (best_takes p passes a n e) ∙ sym (ap known (best_takes q passes a n e))
    go false e ih = ap known (best-skips p passes a n e) ∙ ih ∙ sym (ap known (best-skips q passes a n e))

-- ---- the best of numbers within a bound is within it, also where there is none
pub best-small : (prefers : ℤ → ℤ → Bool) (passes : ℕ → Bool) (a : ℕ → ℤ) (k : ℕ) → ((i : ℕ) → nat_abs (a i) ≤ k) → (n : ℕ)
    → nat_abs (get_or (best prefers n passes a) (pos 0)) ≤ k
unfolding best
best-small prefers passes a k h zero = omega arith
best-small prefers passes a k h (suc n) = go (passes n) refl (best-small prefers passes a k h n)
  where
    chosen : (o : Option ℤ) → nat_abs (get_or o (pos 0)) ≤ k → nat_abs (preferred prefers o (a n)) ≤ k
    chosen none l = h n
    chosen (some y) l = elim (prefers y (a n)) as (λ b. nat_abs (cond b y (a n)) ≤ k) [ true ↦ l | false ↦ h n ]

    go : (b : Bool) → passes n ≡ b → nat_abs (get_or (best prefers n passes a) (pos 0)) ≤ k
        → nat_abs (get_or (best prefers (suc n) passes a) (pos 0)) ≤ k
    go true e ih = rw (best_takes prefers passes a n e) (chosen (best prefers n passes a) ih)
    go false e ih = rw (best-skips prefers passes a n e) ih
