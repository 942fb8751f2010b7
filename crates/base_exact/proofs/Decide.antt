-- Case distinctions: two natural numbers compared, a Boolean's value against its truth, and what a conditional then is.
use mathlib.Core.Path.{◌≡◌, refl, ap, subst}
use mathlib.Core.Logic.{◌⊎◌, inl, inr}
use mathlib.Core.Bool.{Bool, true, false, not, cond, ◌&&◌, ◌||◌}
use Prim.Native.Nat.{ℕ, suc, ◌<◌, ◌≤◌}
use native.Mathlib.Omega.{arith}
use native.Mathlib.Nat.{eq-or-lt_of_le}
use lib.Dec.{T, leb, leb→le, nleb→lt}
pub use borrow.Author.Tests.{not-true, not-false}

pub le_or_lt : (a b : ℕ) → (a ≤ b) ⊎ (b < a)
le_or_lt a b = go (leb a b) (leb→le a b) (nleb→lt a b)
  where
    go : (c : Bool) → (T c → a ≤ b) → (T (not c) → b < a) → (a ≤ b) ⊎ (b < a)
    go true p q = inl (p tt)
    go false p q = inr (q tt)

-- two constructors that are told apart: `clash cc`, where an equation between them is at hand
pub clash : {A : Type 0} → ◌≡◌ {A = ℕ} 0 1 → A
clash z = absurd (omega arith)

-- what holds of the numbers below n and of n
pub below_suc : {n : ℕ} (P : ℕ → Type 0) → ((k : ℕ) → k < n → P k) → P n → (k : ℕ) → k < suc n → P k
below_suc {n} P h p k l = go (eq-or-lt_of_le l)
  where
    go : (suc k ≡ suc n) ⊎ (suc k < suc n) → P k
    go (inl e) = subst P (let z : n ≡ k = omega arith in z) p
    go (inr m) = h k (omega arith)

-- ---- a value and its truth
pub true_holds : {b : Bool} → b ≡ true → T b
true_holds e = rw e tt

pub false_fails : {b : Bool} → b ≡ false → ¬ T b
false_fails e t = rw e at t

pub true_not_false : {b : Bool} → b ≡ true → b ≡ false → ⊥
true_not_false p q = false_fails q (true_holds p)

pub holds_true : (b : Bool) → T b → b ≡ true
holds_true true t = refl
holds_true false t = absurd t

pub fails_false : (b : Bool) → T (not b) → b ≡ false
fails_false true t = absurd t
fails_false false t = refl

pub refuted_false : (b : Bool) → ¬ T b → b ≡ false
refuted_false true f = absurd (f tt)
refuted_false false f = refl

-- ---- connectives and conditionals
pub and-true : (a b : Bool) → (a && b) ≡ true → (a ≡ true) × (b ≡ true)
and-true true b e = (refl, e)
and-true false b e = absurd (true_not_false e refl)

pub and-false : (b : Bool) → (b && false) ≡ false
and-false true = refl
and-false false = refl

pub or-false : (a b : Bool) → (a || b) ≡ false → (a ≡ false) × (b ≡ false)
or-false true b e = absurd (true_not_false refl e)
or-false false b e = (refl, e)

pub cond_true : {A : Type 0} {b : Bool} (x y : A) → b ≡ true → cond b x y ≡ x
cond_true x y e = ap (λ c. cond c x y) e

pub cond_false : {A : Type 0} {b : Bool} (x y : A) → b ≡ false → cond b x y ≡ y
cond_false x y e = ap (λ c. cond c x y) e
