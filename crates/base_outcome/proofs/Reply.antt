-- From what a call answers by a count back to the outcome that it tells: a count comes from an answer, a refusal from that refusal.
use mathlib.Core.Path.{◌≡◌, refl, ap₂}
use Prim.Native.Nat.{ℕ}
use Rattle.base_exact.proofs.Decide.{clash}
use Rattle.base_outcome.specs.Outcome.{Outcome, answer, refusal, with_answer}

-- an answer that counts n
pub record Counted {A : Type 0} (count_of : A → ℕ) (o : Outcome A) (n : ℕ) : Type 0 where
  pub result : A
  pub is : o ≡ answer result
  pub count : n ≡ count_of result

module _ {A : Type 0} (count_of : A → ℕ) where
  pub count_inverts : (o : Outcome A) {n : ℕ} → answer n ≡ with_answer count_of o → Counted count_of o n
  count_inverts (answer a) {n} e = record { result = a; is = refl; count = let z : n ≡ count_of a = cc in z }
  count_inverts (refusal code place) e = absurd (clash cc)

  pub refused_inverts : (o : Outcome A) {code place : ℕ} → refusal code place ≡ with_answer count_of o → o ≡ refusal code place
  refused_inverts (answer a) e = absurd (clash cc)
  refused_inverts (refusal c p) {code} {place} e = ap₂ refusal (let x : c ≡ code = cc in x) (let y : p ≡ place = cc in y)
