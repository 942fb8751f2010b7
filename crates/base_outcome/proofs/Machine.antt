-- The machine's form of an answer, and the outcome or the search that it stands for.
use mathlib.Core.Path.{◌≡◌, refl, sym, ◌∙◌, ap, ap₂}
use mathlib.Core.Bool.{Bool, true, false}
use mathlib.Core.Option as math
use mathlib.Core.Option.{some, none}
use Prim.Native.Nat.{ℕ, ◌<◌, ◌≤◌}
use native.Mathlib.Omega.{arith}
use mathlib.Core.List.{List}
use lib.ListN.{length, get_or}
use Rattle.std.specs.List.{AllWithin, HoldsAt}
use Rattle.base_exact.proofs.Decide.{clash}
use Rattle.base_outcome.specs.Outcome.{Outcome, answer, refusal, capped, ◌then◌}
use Rattle.base_outcome.specs.Search.{first}
use Rattle.base_outcome.specs.Tests.{refuse_first}
use Rattle.base_outcome.proofs.Search.{first_at, first-none}
use Rattle.std.specs.Prelude.{Option, Some, None, MatchOption, Result, Err}
use Rattle.base_outcome.specs.Machine.{reply, passed, found}
use Rattle.base_outcome.specs.declared.Refusal.{Refusal}

-- ---- a search

pub found_none : (test : ℕ → Bool) (n : ℕ) → ((k : ℕ) → k < n → test k ≡ false) → None ≡ found (first n test)
unfolding found
found_none test n h = sym (ap found (first-none test n h))

pub found_at : (test : ℕ → Bool) (n i : ℕ) → i < n → test i ≡ true → ((k : ℕ) → k < i → test k ≡ false) → Some i ≡ found (first n test)
unfolding found
found_at test n i h t before = sym (ap found (first_at test n i h t before))

pub found_some_inverts : (o : math.Option ℕ) {i : ℕ} → found o ≡ Some i → o ≡ some i
unfolding found
found_some_inverts (some k) e = cc
found_some_inverts none e = clash cc

pub found-none_inverts : (o : math.Option ℕ) → found o ≡ None → o ≡ none
unfolding found
found-none_inverts (some k) e = clash cc
found-none_inverts none e = refl

-- what `find` over the indices below n answers, by the law `first_from_Range` of std
pub found_by_find : (test : ℕ → Bool) (n : ℕ) (r : Option ℕ) → MatchOption r ((k : ℕ) → 0 ≤ k → k < n → test k ≡ false)
    (λ i. (0 ≤ i) × (i < n) × (test i ≡ true) × ((k : ℕ) → 0 ≤ k → k < i → test k ≡ false)) → r ≡ found (first n test)
found_by_find test n None h = found_none test n (λ k l. h k (omega arith) l)
found_by_find test n (Some i) (h0, h1, h2, h3) = found_at test n i h1 h2 (λ k l. h3 k (omega arith) l)

-- what `position` over a list answers, by the law `IsFirst-from_position` of std
pub found_by_position : {X : Type 0} (test : X → Bool) (xs : List X) (d : X) (r : Option ℕ)
    → MatchOption r (AllWithin (λ x. test x ≡ false) xs 0 (length xs))
    (λ i. (i < length xs) × HoldsAt (λ x. test x ≡ true) xs i × AllWithin (λ x. test x ≡ false) xs 0 i)
    → r ≡ found (first (length xs) (λ i. test (get_or xs i d)))
found_by_position test xs d None h = found_none (λ i. test (get_or xs i d)) (length xs) (λ k l. h k d (omega arith) l)
found_by_position test xs d (Some i) (l, t, before) =
    found_at (λ i. test (get_or xs i d)) (length xs) i l (t d) (λ k m. before k d (omega arith) m)

-- ---- the refusal at what a search found, as a call answers it: it is passed, or it stops what follows

module _ {A : Type 0} (code : ℕ) where
  pub first_passes : (o : math.Option ℕ) (rest : Outcome A) → answer (tt {0}) ≡ refuse_first code o (answer (tt {0})) → refuse_first code o rest ≡ rest
  first_passes (some i) rest e = clash cc
  first_passes none rest e = refl

  -- before what always answers, it is what a check tells
  pub first_passed : (o : math.Option ℕ) (rest : Outcome A) → passed rest ≡ answer (tt {0})
      → refuse_first code o (answer (tt {0})) ≡ passed (refuse_first code o rest)
  unfolding passed
  first_passed (some i) rest e = refl
  first_passed none rest e = sym e

  pub first_stops : (o : math.Option ℕ) (rest : Outcome A) {n place : ℕ} → refusal n place ≡ refuse_first code o (answer (tt {0}))
      → refuse_first code o rest ≡ refusal n place
  first_stops (some i) rest {n} {place} e = ap₂ refusal (let x : code ≡ n = cc in x) (let y : capped i ≡ place = cc in y)
  first_stops none rest e = clash cc

-- ---- an outcome

module _ {A : Type 0} where
  pub record Answered (o : Outcome A) : Type 0 where
    pub given : A
    pub is : o ≡ answer given

  pub passed_answers : (o : Outcome A) → answer tt ≡ passed o → Answered o
  unfolding passed
  passed_answers (answer a) e = record { given = a; is = refl }
  passed_answers (refusal code place) e = clash cc

  pub passed_refuses : (o : Outcome A) {code place : ℕ} → refusal code place ≡ passed o → o ≡ refusal code place
  unfolding passed
  passed_refuses (answer a) e = clash cc
  passed_refuses (refusal n p) e = cc

  pub answer_passed : (o : Outcome A) {a : A} → o ≡ answer a → answer tt ≡ passed o
  unfolding passed
  answer_passed o e = sym (ap passed e)

  pub refusal_passed : (o : Outcome A) {code place : ℕ} → o ≡ refusal code place → refusal code place ≡ passed o
  unfolding passed
  refusal_passed o e = sym (ap passed e)

-- a check tells all of an outcome without an answer of its own
pub passed_unit : (o : Outcome (Unit {0})) → passed o ≡ o
unfolding passed
passed_unit (answer a) = refl
passed_unit (refusal code place) = refl

-- a last step that always answers changes nothing in what a check tells
pub passed_then : {A B : Type 0} (o : Outcome A) (f : A → B) → passed (o then λ a. answer (f a)) ≡ passed o
unfolding passed
passed_then (answer a) f = refl
passed_then (refusal code place) f = refl

-- ---- what a `?` passes on

-- the result r of a `?` at the refusal e, as the law `err_from_is_err_and` of std gives it
abbrev pub PassedOn : {T : Type 0} → Result T Refusal → Refusal → Type 0
PassedOn r e = (y : Refusal) × (r ≡ Err y) × (y ≡ e)

module _ {T : Type 0} {r : Result T Refusal} {e : Refusal} (h : PassedOn r e) where
  pub passed_on : reply r ≡ refusal e.code e.place
  passed_on = ap reply (h.1 ∙ ap Err h.2)

module _ {A : Type 0} {r : Result (Unit {0}) Refusal} {e : Refusal} (h : PassedOn r e) (o : Outcome A) where
  -- of a check
  pub refused_on : o ≡ refusal e.code e.place → reply r ≡ passed o
  refused_on s = passed_on h ∙ refusal_passed o s
