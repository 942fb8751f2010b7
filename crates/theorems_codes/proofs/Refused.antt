-- Which refusals an outcome can have, made up from those of its tests.
use mathlib.Core.Path.{◌≡◌, refl, subst}
use mathlib.Core.Bool.{Bool, true, false, cond}
use mathlib.Core.Option.{Option, some, none}
use Prim.Native.Nat.{ℕ, ◌<◌}
use Rattle.base_outcome.specs.Outcome.{Outcome, refusal, refuse, capped, with_answer}
use Rattle.base_outcome.specs.Tests.{refuse_first}
use Rattle.base_outcome.specs.Search.{first}
use Rattle.base_outcome.proofs.Outcome.{RefusedAs, with_refuses}
use Rattle.base_outcome.proofs.Search.{first_some_inverts}

module _ (P : ℕ → ℕ → Type 0) where
  -- a refusal by itself
  pub refuse_as : {A : Type 0} (n i : ℕ) → P n (capped i) → RefusedAs {A = A} P (refuse n i)
  refuse_as n i h code place e = let c : n ≡ code = cc in let p : capped i ≡ place = cc in subst (λ k. P k place) c (subst (λ k. P n k) p h)

  -- one of two outcomes
  pub cond_as : {A : Type 0} (b : Bool) (x y : Outcome A) → RefusedAs P x → RefusedAs P y → RefusedAs P (cond b x y)
  cond_as true x y h k = h
  cond_as false x y h k = k

  -- the refusal at an index found, before the rest
  pub option_as : {A : Type 0} (n : ℕ) (o : Option ℕ) (rest : Outcome A) → ((i : ℕ) → o ≡ some i → P n (capped i)) → RefusedAs P rest → RefusedAs P (refuse_first n o rest)
  option_as n none rest h k = k
  option_as n (some i) rest h k = refuse_as n i (h i refl)

  pub first_as : {A : Type 0} (n m : ℕ) (test : ℕ → Bool) (rest : Outcome A) → ((i : ℕ) → i < m → P n (capped i)) → RefusedAs P rest → RefusedAs P (refuse_first n (first m test) rest)
  first_as n m test rest h k = option_as n (first m test) rest (λ i e. h i (first_some_inverts test m e).below) k

  -- an answer that is changed
  pub with_as : {A B : Type 0} (f : A → B) (o : Outcome A) → RefusedAs P o → RefusedAs P (with_answer f o)
  with_as f o h code place e = h code place (with_refuses f o e)

-- what is allowed here is allowed there
pub more_as : {A : Type 0} (P Q : ℕ → ℕ → Type 0) (o : Outcome A) → ((code place : ℕ) → P code place → Q code place) → RefusedAs P o → RefusedAs Q o
more_as P Q o h k code place e = h code place (k code place e)
