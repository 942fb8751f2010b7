-- Laws of outcomes: what a chain, a collection and a repetition answer or refuse, from their parts (for a loop that goes
-- through them) and back (for a theorem that is given the whole). They know nothing of splines.
use mathlib.Core.Path.{◌≡◌, refl, sym, ◌∙◌, ap}
use mathlib.Core.Logic.{◌⊎◌, inl, inr}
use mathlib.Core.List.{List, [], ◌∷◌, ◌++◌}
use Prim.Native.Nat.{ℕ, zero, suc, ◌<◌, ◌≤◌}
use native.Mathlib.Omega.{arith}
use native.Mathlib.Nat.{eq-or-lt_of_le}
use lib.ListN.{length, get_or, length-append, get_or-append}
use lib.Seq.{get_or_at}
use Rattle.base_exact.specs.Tabulate.{tab}
use Rattle.base_exact.proofs.Tabulate.{tab_snoc}
use Rattle.base_exact.proofs.Decide.{clash}
use Rattle.base_outcome.specs.Outcome.{Outcome, answer, refusal, largest_place, capped, ◌then◌, with_answer, collect, repeat}

-- ---- one outcome

-- an outcome with two answers has one, and none that refuses answers
pub answer_unique : {A : Type 0} {o : Outcome A} {a b : A} → o ≡ answer a → o ≡ answer b → a ≡ b
answer_unique p q = cc

pub answer_not_refusal : {A : Type 0} {o : Outcome A} {a : A} {code place : ℕ} → o ≡ answer a → o ≡ refusal code place → ⊥
answer_not_refusal p q = clash cc

-- a place that fits a byte stays
pub capped_small : (n : ℕ) → n ≤ largest_place → capped n ≡ n
unfolding capped
capped_small n h = omega arith

-- ---- a chain of two

module _ {A B : Type 0} where
  pub then_answers : {o : Outcome A} {a : A} (f : A → Outcome B) → o ≡ answer a → (o then f) ≡ f a
  then_answers f e = ap (λ o. o then f) e

  pub then_refuses : {o : Outcome A} {code place : ℕ} (f : A → Outcome B) → o ≡ refusal code place → (o then f) ≡ refusal code place
  then_refuses f e = ap (λ o. o then f) e

  -- a chain that answers: the first part's answer leads to the second's
  pub record Chained (o : Outcome A) (f : A → Outcome B) (b : B) : Type 0 where
    pub middle : A
    pub before : o ≡ answer middle
    pub after : f middle ≡ answer b

  pub then_inverts : (o : Outcome A) (f : A → Outcome B) {b : B} → (o then f) ≡ answer b → Chained o f b
  then_inverts (answer a) f e = record { middle = a; before = refl; after = e }
  then_inverts (refusal code place) f e = absurd (answer_not_refusal e refl)

  -- a chain that refuses: the first part refuses, or it answers and the second part refuses
  pub data Broken (o : Outcome A) (f : A → Outcome B) (code place : ℕ) : Type 0 where
    first-refuses : o ≡ refusal code place → Broken o f code place
    second-refuses : (a : A) → o ≡ answer a → f a ≡ refusal code place → Broken o f code place

  pub then_breaks : (o : Outcome A) (f : A → Outcome B) {code place : ℕ} → (o then f) ≡ refusal code place → Broken o f code place
  then_breaks (answer a) f e = second-refuses a refl e
  then_breaks (refusal code place) f e = first-refuses (cc)

-- a chain of three, bracketed either way
pub then_assoc : {A B C : Type 0} (o : Outcome A) (f : A → Outcome B) (g : B → Outcome C) → ((o then f) then g) ≡ (o then λ a. f a then g)
then_assoc (answer a) f g = refl
then_assoc (refusal code place) f g = refl

-- ---- a changed answer

module _ {A B : Type 0} where
  -- an answer that a function has changed: what it was before
  pub record Changed (f : A → B) (o : Outcome A) (b : B) : Type 0 where
    pub before : A
    pub answers : o ≡ answer before
    pub changed : f before ≡ b

  pub with_inverts : (f : A → B) (o : Outcome A) {b : B} → with_answer f o ≡ answer b → Changed f o b
  with_inverts f (answer a) e = record { before = a; answers = refl; changed = answer_unique refl e }
  with_inverts f (refusal code place) e = absurd (answer_not_refusal e refl)

  pub with_refuses : (f : A → B) (o : Outcome A) {code place : ℕ} → with_answer f o ≡ refusal code place → o ≡ refusal code place
  with_refuses f (answer a) e = absurd (answer_not_refusal refl e)
  with_refuses f (refusal code place) e = cc

-- ---- a collection

module _ {A : Type 0} where
  pub collect-none : (f : ℕ → Outcome A) → collect 0 f ≡ answer []
  unfolding collect
  collect-none f = refl

  -- one answer more at the end
  pub collect_more : (n : ℕ) (f : ℕ → Outcome A) {xs : List A} {x : A} → collect n f ≡ answer xs → f n ≡ answer x → collect (suc n) f ≡ answer (xs ++ (x ∷ []))
  unfolding collect
  collect_more n f {xs} {x} p q = then_answers (λ ys. f n then λ y. answer (ys ++ (y ∷ []))) p ∙ then_answers (λ y. answer (xs ++ (y ∷ []))) q

  -- all places answer
  pub collect-answers : (n : ℕ) (f : ℕ → Outcome A) (g : ℕ → A) → ((i : ℕ) → i < n → f i ≡ answer (g i)) → collect n f ≡ answer (tab n g)
  unfolding collect tab
  collect-answers zero f g h = refl
  collect-answers (suc n) f g h = collect_more n f (collect-answers n f g (λ i k. h i (omega arith))) (h n (omega arith)) ∙ ap answer (sym (tab_snoc n g))

  -- the first that refuses ends it
  pub collect-ends : (n : ℕ) (f : ℕ → Outcome A) {xs : List A} {code place : ℕ} → collect n f ≡ answer xs → f n ≡ refusal code place → collect (suc n) f ≡ refusal code place
  unfolding collect
  collect-ends n f {xs} p q = then_answers (λ ys. f n then λ y. answer (ys ++ (y ∷ []))) p ∙ then_refuses (λ y. answer (xs ++ (y ∷ []))) q

  -- and a refusal stays
  pub collect_stays : (m n : ℕ) (f : ℕ → Outcome A) {code place : ℕ} → m ≤ n → collect m f ≡ refusal code place → collect n f ≡ refusal code place
  unfolding collect
  collect_stays m zero f h e = ap (λ k. collect k f) (let z : 0 ≡ m = omega arith in z) ∙ e
  collect_stays m (suc n) f {code} {place} h e = go (λ l. collect_stays m n f l e) (eq-or-lt_of_le h)
    where
      go : (m ≤ n → collect n f ≡ refusal code place) → (m ≡ suc n) ⊎ (m < suc n) → collect (suc n) f ≡ refusal code place
      go ih (inl z) = ap (λ k. collect k f) (sym z) ∙ e
      go ih (inr l) = then_refuses (λ ys. f n then λ y. answer (ys ++ (y ∷ []))) (ih (omega arith))

  pub collect_stops : (n i : ℕ) (f : ℕ → Outcome A) (g : ℕ → A) {code place : ℕ} → i < n → ((k : ℕ) → k < i → f k ≡ answer (g k)) → f i ≡ refusal code place → collect n f ≡ refusal code place
  collect_stops n i f g h before e = collect_stays (suc i) n f h (collect-ends i f (collect-answers i f g before) e)

  -- what an answer tells: as many elements as places, and each place's answer is its element
  pub record Collected (n : ℕ) (f : ℕ → Outcome A) (xs : List A) : Type 0 where
    pub size : length xs ≡ n
    pub at : (i : ℕ) → i < n → (d : A) → f i ≡ answer (get_or xs i d)

  pub collect_inverts : (n : ℕ) (f : ℕ → Outcome A) {xs : List A} → collect n f ≡ answer xs → Collected n f xs
  unfolding collect
  collect_inverts zero f {xs} e = record { size = ap length (answer_unique {a = xs} {b = []} e refl); at = λ i h d. absurd (omega arith) }
  collect_inverts (suc n) f {xs} e = go (then_inverts (collect n f) (λ ys. f n then λ y. answer (ys ++ (y ∷ []))) e) (λ ys p. collect_inverts n f p)
    where
      go : Chained (collect n f) (λ ys. f n then λ y. answer (ys ++ (y ∷ []))) xs → ((ys : List A) → collect n f ≡ answer ys → Collected n f ys) → Collected (suc n) f xs
      go c ih = ends c.middle (ih c.middle c.before) (then_inverts (f n) (λ y. answer (c.middle ++ (y ∷ []))) c.after)
        where
          ends : (ys : List A) → Collected n f ys → Chained (f n) (λ y. answer (ys ++ (y ∷ []))) xs → Collected (suc n) f xs
          ends ys h d = record {
            size = ap length (sym whole) ∙ length-append ys (d.middle ∷ []) ∙ omega (arith, h.size);
            at = λ i l z. place i z (eq-or-lt_of_le l);
          }
            where
              whole : ys ++ (d.middle ∷ []) ≡ xs
              whole = answer_unique refl d.after

              place : (i : ℕ) (z : A) → (suc i ≡ suc n) ⊎ (suc i < suc n) → f i ≡ answer (get_or xs i z)
              place i z (inl k) = ap f (let t : i ≡ n = omega arith in t) ∙ d.before ∙ ap answer (sym (ap (λ l. get_or l i z) (sym whole) ∙ get_or_at ys d.middle [] z i (h.size ∙ omega arith)))
              place i z (inr k) = h.at i (omega arith) z ∙ ap answer (sym (ap (λ l. get_or l i z) (sym whole) ∙ get_or-append ys (d.middle ∷ []) z i (rw h.size (omega arith))))

  -- what a refusal tells: the first place that refuses, and that all before it answer
  pub record Stopped (n : ℕ) (f : ℕ → Outcome A) (code place : ℕ) : Type 0 where
    pub index : ℕ
    pub below : index < n
    pub collected : List A
    pub before : collect index f ≡ answer collected
    pub refuses : f index ≡ refusal code place

  pub collect-refuses : (n : ℕ) (f : ℕ → Outcome A) {code place : ℕ} → collect n f ≡ refusal code place → Stopped n f code place
  unfolding collect
  collect-refuses zero f e = absurd (answer_not_refusal refl e)
  collect-refuses (suc n) f {code} {place} e = go (λ p. collect-refuses n f p) (then_breaks (collect n f) (λ ys. f n then λ y. answer (ys ++ (y ∷ []))) e)
    where
      go : (collect n f ≡ refusal code place → Stopped n f code place) → Broken (collect n f) (λ ys. f n then λ y. answer (ys ++ (y ∷ []))) code place → Stopped (suc n) f code place
      go ih (first-refuses p) = let s = ih p in record { index = s.index; below = omega (arith, s.below); collected = s.collected; before = s.before; refuses = s.refuses }
      go ih (second-refuses ys p q) = at_end (then_breaks (f n) (λ y. answer (ys ++ (y ∷ []))) q)
        where
          at_end : Broken (f n) (λ y. answer (ys ++ (y ∷ []))) code place → Stopped (suc n) f code place
          at_end (first-refuses r) = record { index = n; below = omega arith; collected = ys; before = p; refuses = r }
          at_end (second-refuses y r t) = absurd (answer_not_refusal refl t)

-- ---- a repetition

module _ {A : Type 0} where
  -- one step more
  pub repeat_more : (n : ℕ) (f : ℕ → A → Outcome A) (a : A) {b : A} → repeat n f a ≡ answer b → repeat (suc n) f a ≡ f n b
  unfolding repeat
  repeat_more n f a e = then_answers (f n) e

  -- a refusal stays
  pub repeat_stays : (m n : ℕ) (f : ℕ → A → Outcome A) (a : A) {code place : ℕ} → m ≤ n → repeat m f a ≡ refusal code place → repeat n f a ≡ refusal code place
  unfolding repeat
  repeat_stays m zero f a h e = ap (λ k. repeat k f a) (let z : 0 ≡ m = omega arith in z) ∙ e
  repeat_stays m (suc n) f a {code} {place} h e = go (λ l. repeat_stays m n f a l e) (eq-or-lt_of_le h)
    where
      go : (m ≤ n → repeat n f a ≡ refusal code place) → (m ≡ suc n) ⊎ (m < suc n) → repeat (suc n) f a ≡ refusal code place
      go ih (inl z) = ap (λ k. repeat k f a) (sym z) ∙ e
      go ih (inr l) = then_refuses (f n) (ih (omega arith))

  -- a step that refuses is the end
  pub repeat_stops : (n i : ℕ) (f : ℕ → A → Outcome A) (a : A) {b : A} {code place : ℕ} → i < n → repeat i f a ≡ answer b → f i b ≡ refusal code place → repeat n f a ≡ refusal code place
  repeat_stops n i f a h p e = repeat_stays (suc i) n f a h (repeat_more i f a p ∙ e)

  -- what holds at first and is kept by each step that answers holds of the answer
  pub repeat-keeps : (P : ℕ → A → Type 0) (n : ℕ) (f : ℕ → A → Outcome A) (a : A) → P 0 a
      → ((i : ℕ) (b c : A) → i < n → P i b → f i b ≡ answer c → P (suc i) c)
      → (c : A) → repeat n f a ≡ answer c → P n c
  unfolding repeat
  repeat-keeps P zero f a start steps c e = rw (answer_unique e refl) start
  repeat-keeps P (suc n) f a start steps c e = let s = then_inverts (repeat n f a) (f n) e in
      steps n s.middle c (omega arith) (repeat-keeps P n f a start (λ i b d h. steps i b d (omega arith)) s.middle s.before) s.after

  -- what a refusal tells: the first step that refuses
  pub record Halted (n : ℕ) (f : ℕ → A → Outcome A) (a : A) (code place : ℕ) : Type 0 where
    pub index : ℕ
    pub below : index < n
    pub reached : A
    pub before : repeat index f a ≡ answer reached
    pub refuses : f index reached ≡ refusal code place

  pub repeat-refuses : (n : ℕ) (f : ℕ → A → Outcome A) (a : A) {code place : ℕ} → repeat n f a ≡ refusal code place → Halted n f a code place
  unfolding repeat
  repeat-refuses zero f a e = absurd (answer_not_refusal refl e)
  repeat-refuses (suc n) f a {code} {place} e = go (λ p. repeat-refuses n f a p) (then_breaks (repeat n f a) (f n) e)
    where
      go : (repeat n f a ≡ refusal code place → Halted n f a code place) → Broken (repeat n f a) (f n) code place → Halted (suc n) f a code place
      go ih (first-refuses p) = let s = ih p in record { index = s.index; below = omega (arith, s.below); reached = s.reached; before = s.before; refuses = s.refuses }
      go ih (second-refuses b p q) = record { index = n; below = omega arith; reached = b; before = p; refuses = q }

-- ---- which refusals can come

-- every refusal of the outcome is one that P allows
abbrev pub RefusedAs : {A : Type 0} → (ℕ → ℕ → Type 0) → Outcome A → Type 0
RefusedAs P o = (code place : ℕ) → o ≡ refusal code place → P code place

module _ (P : ℕ → ℕ → Type 0) where
  pub answer_refused : {A : Type 0} (a : A) → RefusedAs P (answer a)
  answer_refused a code place e = absurd (answer_not_refusal refl e)

  pub then_refused : {A B : Type 0} (o : Outcome A) (f : A → Outcome B) → RefusedAs P o → ((a : A) → o ≡ answer a → RefusedAs P (f a)) → RefusedAs P (o then f)
  then_refused o f h k code place e = go (then_breaks o f e)
    where
      go : Broken o f code place → P code place
      go (first-refuses p) = h code place p
      go (second-refuses a p q) = k a p code place q

  pub collect_refused : {A : Type 0} (n : ℕ) (f : ℕ → Outcome A) → ((i : ℕ) → i < n → RefusedAs P (f i)) → RefusedAs P (collect n f)
  collect_refused n f h code place e = let s = collect-refuses n f e in h s.index s.below code place s.refuses

  pub repeat_refused : {A : Type 0} (n : ℕ) (f : ℕ → A → Outcome A) (a : A) → ((i : ℕ) (b : A) → i < n → repeat i f a ≡ answer b → RefusedAs P (f i b)) → RefusedAs P (repeat n f a)
  repeat_refused n f a h code place e = let s = repeat-refuses n f a e in h s.index s.reached s.below s.before code place s.refuses
