-- What a call of the specification ends with: an answer, or a refusal with its code and place.
-- § 3; the steps of a computation are chained so that the first refusal is the one that counts.
use Rattle.std.specs.Prelude.{List, [], ◌∷◌, ◌++◌, ℕ, zero, suc, min}

-- An answer, or the code and the place of the specification's table.
pub data Outcome (A : Type 0) : Type 0 where
  answer : A → Outcome A
  refusal : ℕ → ℕ → Outcome A

-- A place is an unsigned 32-bit number; "4,294,967,295, the largest place, also stands for anything larger" (§ 3).
abbrev pub largest_place : ℕ
largest_place = 4294967295

-- The place as it is given.
unfoldable pub capped : ℕ → ℕ
capped n = min n largest_place

-- The refusal with this code at this place.
abbrev pub refuse : {A : Type 0} → ℕ → ℕ → Outcome A
refuse code place = refusal code (capped place)

-- First the one, and then, where it answers, the other with that answer.
infixl 20 ◌then◌
abbrev pub ◌then◌ : {A B : Type 0} → Outcome A → (A → Outcome B) → Outcome B
answer a then f = f a
refusal code place then f = refusal code place

-- The answer, changed by a function; a refusal stays.
abbrev pub with_answer : {A B : Type 0} → (A → B) → Outcome A → Outcome B
with_answer f (answer a) = answer (f a)
with_answer f (refusal code place) = refusal code place

-- f 0, f 1, .., f (n - 1) in this order: the list of their answers, or the first refusal.
unfoldable pub collect : {A : Type 0} → ℕ → (ℕ → Outcome A) → Outcome (List A)
collect zero f = answer []
collect (suc n) f = collect n f then λ xs. f n then λ x. answer (xs ++ (x ∷ []))

-- a changed by f 0, f 1, .., f (n - 1) in this order, up to the first refusal.
unfoldable pub repeat : {A : Type 0} → ℕ → (ℕ → A → Outcome A) → A → Outcome A
repeat zero f a = answer a
repeat (suc n) f a = repeat n f a then f n
