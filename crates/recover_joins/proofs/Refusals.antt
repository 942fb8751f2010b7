-- What the machine's answer tells of the sum of coefficients times jumps: that it is zero, or the code of the refusal.
use mathlib.Core.Path.{◌≡◌, refl, ap}
use Prim.Native.Nat.{ℕ}
use native.Mathlib.Omega.{arith}
use Rattle.std.specs.Prelude.{Ok, Err}
use Rattle.base_outcome.specs.Outcome.{Outcome, answer, refusal}
use Rattle.recover_balance.specs.Machine.{balance_of}

-- refused with this code
pub record RefusedBy {A : Type 0} (code : ℕ) (o : Outcome A) : Type 0 where
  pub place : ℕ
  pub refuses : o ≡ refusal code place

pub told_zero : (o : Outcome (Unit {0})) → Ok tt ≡ balance_of o → o ≡ answer tt
unfolding balance_of
told_zero (answer u) e = refl
told_zero (refusal code place) e = absurd (let z : ◌≡◌ {A = ℕ} 0 1 = cc in omega arith)

pub told_refused : (o : Outcome (Unit {0})) {code : ℕ} → Err code ≡ balance_of o → RefusedBy code o
unfolding balance_of
told_refused (answer u) e = absurd (let z : ◌≡◌ {A = ℕ} 0 1 = cc in omega arith)
told_refused (refusal q place) {code} e = record { place = place; refuses = ap (λ n. refusal n place) (let z : q ≡ code = cc in z) }
