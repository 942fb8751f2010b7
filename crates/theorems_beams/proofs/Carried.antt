-- Outcomes that follow one another: an outcome carried to another place and kind of answer, through chains, collections and
-- repetitions. A step on a part of a table and the same step on the whole table end so.
use mathlib.Core.Path.{◌≡◌, refl, sym, ◌∙◌, ap, ap₂}
use mathlib.Core.List.{List, [], ◌∷◌, ◌++◌, append-nil, append_assoc}
use Prim.Native.Nat.{ℕ, zero, suc, ◌+◌, ◌<◌}
use native.Mathlib.Omega.{arith}
use native.Mathlib.Nat.{add-zero, add-suc}
use Rattle.base_exact.specs.Tabulate.{tab}
use Rattle.base_exact.proofs.Tabulate.{tab_snoc}
use Rattle.base_outcome.specs.Outcome.{Outcome, answer, refusal, capped, ◌then◌, collect, repeat}
use Rattle.base_outcome.proofs.Outcome.{answer_unique, answer_not_refusal, then_assoc, then_answers, collect-answers, repeat-keeps}
use Rattle.theorems_beams.specs.Sections.{later}

-- The outcome with its answer changed by f and its place by ρ.
abbrev pub carried : {A B : Type 0} → (ℕ → ℕ) → (A → B) → Outcome A → Outcome B
carried ρ f (answer a) = answer (f a)
carried ρ f (refusal code place) = refusal code (ρ place)

pub carried_ext : {A B : Type 0} (ρ : ℕ → ℕ) {f g : A → B} (o : Outcome A) → ((a : A) → f a ≡ g a) → carried ρ f o ≡ carried ρ g o
carried_ext ρ (answer a) h = ap answer (h a)
carried_ext ρ (refusal code place) h = refl

-- ---- an outcome that is carried to the beam's place

pub carried_later : {A B : Type 0} (n : ℕ) (f : A → B) (o : Outcome A) → carried (λ p. capped (n + p)) f o ≡ (later n o then λ a. answer (f a))
carried_later n f (answer a) = refl
carried_later n f (refusal code place) = refl

-- a place that is capped, counted over the beam
pub capped-later : (n j : ℕ) → capped (n + capped j) ≡ capped (n + j)
unfolding capped
capped-later n j = omega arith

-- ---- two outcomes joined, the second one later
module _ {A B C : Type 0} (n : ℕ) (g : A → B → C) where
  abbrev pub joined : Outcome A → Outcome B → Outcome C
  joined o o' = o then λ a. later n o' then λ b. answer (g a b)

  pub joined-answers : {o : Outcome A} {o' : Outcome B} {a : A} {b : B} → o ≡ answer a → o' ≡ answer b → joined o o' ≡ answer (g a b)
  joined-answers e h = ap₂ joined e h

  pub joined-refuses : {o : Outcome A} {o' : Outcome B} {a : A} {code place : ℕ} → o ≡ answer a → o' ≡ refusal code place → joined o o' ≡ refusal code (capped (n + place))
  joined-refuses e h = ap₂ joined e h

  -- what an answer tells
  pub record Joined (o : Outcome A) (o' : Outcome B) (c : C) : Type 0 where
    pub one : A
    pub other : B
    pub answers : o ≡ answer one
    pub other_answers : o' ≡ answer other
    pub together : g one other ≡ c

  pub joined_inverts : (o : Outcome A) (o' : Outcome B) {c : C} → joined o o' ≡ answer c → Joined o o' c
  joined_inverts (answer a) (answer b) e = record { one = a; other = b; answers = refl; other_answers = refl; together = answer_unique refl e }
  joined_inverts (answer a) (refusal code place) e = absurd (answer_not_refusal e refl)
  joined_inverts (refusal code place) o' e = absurd (answer_not_refusal e refl)

-- ---- chains, collections, repetitions
pub then_itself : {A : Type 0} (o : Outcome A) → (o then λ a. answer a) ≡ o
then_itself (answer a) = refl
then_itself (refusal code place) = refl

module _ (ρ : ℕ → ℕ) where
  pub carried_then : {A A' B B' : Type 0} (f : A → A') (g : B → B') (o : Outcome A) {o' : Outcome A'} (k : A → Outcome B) (k' : A' → Outcome B')
      → o' ≡ carried ρ f o → ((a : A) → o ≡ answer a → k' (f a) ≡ carried ρ g (k a)) → (o' then k') ≡ carried ρ g (o then k)
  carried_then f g (answer a) k k' e h = ap (λ x. x then k') e ∙ h a refl
  carried_then f g (refusal code place) k k' e h = ap (λ x. x then k') e

  -- F changes each element of a list by f
  module _ {A B : Type 0} (f : A → B) (F : List A → List B) (more : (xs : List A) (x : A) → F (xs ++ (x ∷ [])) ≡ F xs ++ (f x ∷ [])) where
    pub carried-collect : (n : ℕ) (h : ℕ → Outcome A) (h' : ℕ → Outcome B) → F [] ≡ [] → ((i : ℕ) → i < n → h' i ≡ carried ρ f (h i)) → collect n h' ≡ carried ρ F (collect n h)
    unfolding collect
    carried-collect zero h h' none e = ap answer (sym none)
    carried-collect (suc n) h h' none e =
        carried_then F F (collect n h) (λ xs. h n then λ x. answer (xs ++ (x ∷ []))) (λ xs. h' n then λ x. answer (xs ++ (x ∷ [])))
        (carried-collect n h h' none (λ i l. e i (omega arith)))
        (λ xs p. carried_then f F (h n) (λ x. answer (xs ++ (x ∷ []))) (λ x. answer (F xs ++ (x ∷ []))) (e n (omega arith)) (λ x q. ap answer (sym (more xs x))))

  -- a collection between p answers and q answers that are all z
  module _ {A : Type 0} (z : A) (p q n : ℕ) (h h' : ℕ → Outcome A) where
    abbrev pub framed : ℕ → List A → List A
    framed q xs = tab p (λ _. z) ++ xs ++ tab q (λ _. z)

    framed_front : (k : ℕ) → ((i : ℕ) → i < p → h' i ≡ answer z) → ((i : ℕ) → i < k → h' (p + i) ≡ carried ρ (λ x. x) (h i)) → collect (p + k) h' ≡ carried ρ (λ xs. tab p (λ _. z) ++ xs) (collect k h)
    unfolding collect
    framed_front zero before inside = ap (λ m. collect m h') (add-zero p) ∙ collect-answers p h' (λ _. z) before ∙ ap answer (sym (append-nil (tab p (λ _. z))))
    framed_front (suc k) before inside =
        ap (λ m. collect m h') (add-suc p k)
        ∙ carried_then (λ xs. tab p (λ _. z) ++ xs) (λ xs. tab p (λ _. z) ++ xs) (collect k h) (λ xs. h k then λ x. answer (xs ++ (x ∷ []))) (λ xs. h' (p + k) then λ x. answer (xs ++ (x ∷ [])))
        (framed_front k before (λ i l. inside i (omega arith)))
        (λ xs e. carried_then (λ x. x) (λ xs. tab p (λ _. z) ++ xs) (h k) (λ x. answer (xs ++ (x ∷ []))) (λ x. answer (tab p (λ _. z) ++ xs ++ (x ∷ []))) (inside k (omega arith))
        (λ x q. ap answer (append_assoc (tab p (λ _. z)) xs (x ∷ []))))

    pub framed_collect : (q : ℕ) → ((i : ℕ) → i < p → h' i ≡ answer z) → ((i : ℕ) → i < n → h' (p + i) ≡ carried ρ (λ x. x) (h i)) → ((i : ℕ) → i < q → h' (p + n + i) ≡ answer z)
        → collect (p + n + q) h' ≡ carried ρ (framed q) (collect n h)
    unfolding collect tab
    framed_collect zero before inside after = ap (λ m. collect m h') (add-zero (p + n)) ∙ framed_front n before inside ∙ trailing (collect n h)
      where
        trailing : (o : Outcome (List A)) → carried ρ (λ xs. tab p (λ _. z) ++ xs) o ≡ carried ρ (framed 0) o
        trailing (answer xs) = ap answer (sym (append-nil (tab p (λ _. z) ++ xs)))
        trailing (refusal code place) = refl
    framed_collect (suc q) before inside after =
        ap (λ m. collect m h') (add-suc (p + n) q)
        ∙ carried_then (framed q) (framed (suc q)) (collect n h) answer (λ xs. h' (p + n + q) then λ x. answer (xs ++ (x ∷ [])))
        (framed_collect q before inside (λ i l. after i (omega arith)))
        (λ xs e. then_answers (λ x. answer (framed q xs ++ (x ∷ []))) (after q (omega arith)) ∙ ap answer (longer xs))
        ∙ ap (carried ρ (framed (suc q))) (then_itself (collect n h))
      where
        longer : (xs : List A) → framed q xs ++ (z ∷ []) ≡ framed (suc q) xs
        longer xs = append_assoc (tab p (λ _. z) ++ xs) (tab q (λ _. z)) (z ∷ []) ∙ ap (λ ys. tab p (λ _. z) ++ xs ++ ys) (sym (tab_snoc q (λ _. z)))

  -- a repetition whose steps correspond as long as P holds, which they keep
  pub carried-repeat : {A B : Type 0} (P : A → Type 0) (g : A → B) (n : ℕ) (f : ℕ → A → Outcome A) (f' : ℕ → B → Outcome B) (a : A) → P a
      → ((i : ℕ) (b c : A) → i < n → P b → f i b ≡ answer c → P c)
      → ((i : ℕ) (b : A) → i < n → P b → f' i (g b) ≡ carried ρ g (f i b))
      → repeat n f' (g a) ≡ carried ρ g (repeat n f a)
  unfolding repeat
  carried-repeat P g zero f f' a start keeps same = refl
  carried-repeat P g (suc n) f f' a start keeps same =
      carried_then g g (repeat n f a) (f n) (f' n) (carried-repeat P g n f f' a start (λ i b c l. keeps i b c (omega arith)) (λ i b l. same i b (omega arith)))
      (λ b e. same n b (omega arith) (repeat-keeps (λ _ x. P x) n f a start (λ i b c l. keeps i b c (omega arith)) b e))

-- ---- a repetition in two stretches
module _ {A : Type 0} where
  pub repeat_ext : (n : ℕ) (f g : ℕ → A → Outcome A) (a : A) → ((i : ℕ) (b : A) → i < n → f i b ≡ g i b) → repeat n f a ≡ repeat n g a
  unfolding repeat
  repeat_ext zero f g a h = refl
  repeat_ext (suc n) f g a h = ap (λ o. o then f n) (repeat_ext n f g a (λ i b l. h i b (omega arith))) ∙ last (repeat n g a)
    where
      last : (o : Outcome A) → (o then f n) ≡ (o then g n)
      last (answer b) = h n b (omega arith)
      last (refusal code place) = refl

  pub repeat-add : (m n : ℕ) (f : ℕ → A → Outcome A) (a : A) → repeat (m + n) f a ≡ (repeat m f a then λ b. repeat n (λ i. f (m + i)) b)
  unfolding repeat
  repeat-add m zero f a = ap (λ k. repeat k f a) (add-zero m) ∙ sym (then_itself (repeat m f a))
  repeat-add m (suc n) f a = ap (λ k. repeat k f a) (add-suc m n) ∙ ap (λ o. o then f (m + n)) (repeat-add m n f a) ∙ then_assoc (repeat m f a) (λ b. repeat n (λ i. f (m + i)) b) (f (m + n))
