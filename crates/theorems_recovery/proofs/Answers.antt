-- What the parts of a step that is undone tell by their answers and refusals: the sum is zero or not, each new coefficient is the
-- quotient that the definition says, and the refusals are 19 and 20, at the join.
use mathlib.Core.Path.{◌≡◌, refl, sym, ◌∙◌, ap, subst}
use mathlib.Core.Logic.{◌≢◌, ◌⊎◌, inl, inr}
use mathlib.Core.Bool.{Bool, true, false, cond}
use mathlib.Core.List.{List, [], ◌∷◌, ◌++◌}
use Prim.Native.Nat.{ℕ, zero, suc, ◌+◌, ◌-◌, ◌<◌}
use native.Mathlib.Omega.{arith}
use native.Mathlib.Nat.{eq-or-lt_of_le}
use lib.IntN.{pos}
use lib.ListN.{length, take, drop, length-append, get_or-append}
use lib.Seq.{get_or_at}
use Rattle.base_exact.specs.Rational.{ℚ, int, ◌+ᵠ◌, ◌*ᵠ◌, ◌-ᵠ◌, ◌/ᵠ◌}
use Rattle.base_exact.specs.Order.{is_zero}
use Rattle.base_exact.specs.Sum.{sum}
use Rattle.base_exact.proofs.Decide.{not-false}
use Rattle.base_exact.proofs.Rational.{mul-zero, add-zero}
use Rattle.base_exact.proofs.Order.{is_zero_true, is_zero_false}
use Rattle.base_fraction.specs.Size.{fits}
use Rattle.base_outcome.specs.Outcome.{Outcome, answer, refusal, refuse, capped, ◌then◌}
use Rattle.spec_spline.specs.Table.{entry}
use Rattle.spec_spline.specs.Step.{Span, jumps_at}
use Rattle.base_outcome.proofs.Outcome.{answer_unique, answer_not_refusal, Chained, then_inverts, Broken, first-refuses, second-refuses, then_breaks, RefusedAs, answer_refused, then_refused}
use Rattle.spec_calls.specs.Recovery.{fitted, jump_sum, balanced, undone_coefficient, undone_row, undone_rows, undone}

-- ---- a fraction under the size limit

pub sized-answers : (j : ℕ) (q : ℚ) {p : ℚ} → fitted j q ≡ answer p → p ≡ q
unfolding fitted
sized-answers j q {p} e = go (fits q) e
  where
    go : (b : Bool) → cond b (answer q) (refuse 20 j) ≡ answer p → p ≡ q
    go true e = answer_unique e refl
    go false e = absurd (answer_not_refusal e refl)

-- row n's product, added to the sum so far
abbrev pub added : ℕ → List ℚ → List ℚ → ℕ → ℚ → Outcome ℚ
added j js cs n s = cond (jumps_at js n) (fitted j (entry cs n *ᵠ entry js n) then λ p. fitted j (s +ᵠ p)) (answer s)

-- the zero test
abbrev pub zero_tested : ℕ → ℚ → Outcome (Unit {0})
zero_tested j s = cond (is_zero s) (answer tt) (refuse 19 j)

-- ---- the refusals, by a property of code 20 at the join
module _ (P : ℕ → ℕ → Type 0) (j : ℕ) (too_large : P 20 (capped j)) where
  sized_refused_as : (q : ℚ) → RefusedAs P (fitted j q)
  unfolding fitted
  sized_refused_as q code place e = go (fits q) e
    where
      go : (b : Bool) → cond b (answer q) (refuse 20 j) ≡ refusal code place → P code place
      go true e = absurd (answer_not_refusal refl e)
      go false e = let n : ◌≡◌ {A = ℕ} 20 code = cc in let p : capped j ≡ place = cc in subst (λ m. P m place) n (subst (P 20) p too_large)

  module _ (js cs : List ℚ) where
    added_refused_as : (n : ℕ) (s : ℚ) → RefusedAs P (added j js cs n s)
    added_refused_as n s = go (jumps_at js n)
      where
        product : ℚ
        product = entry cs n *ᵠ entry js n

        go : (b : Bool) → RefusedAs P (cond b (fitted j product then λ p. fitted j (s +ᵠ p)) (answer s))
        go true = then_refused P (fitted j product) (λ p. fitted j (s +ᵠ p)) (sized_refused_as product) (λ p h. sized_refused_as (s +ᵠ p))
        go false = answer_refused P s

    pub sum_refused_as : (n : ℕ) → RefusedAs P (jump_sum j js cs n)
    unfolding jump_sum
    sum_refused_as zero = answer_refused P (int (pos 0))
    sum_refused_as (suc n) = then_refused P (jump_sum j js cs n) (added j js cs n) (sum_refused_as n) (λ s h. added_refused_as n s)

    -- and of code 19 there
    pub balanced_refused_as : P 19 (capped j) → RefusedAs P (balanced j js cs)
    unfolding balanced
    balanced_refused_as not_zero = then_refused P (jump_sum j js cs (length js)) (zero_tested j) (sum_refused_as (length js)) (λ s h. tested (is_zero s))
      where
        tested : (b : Bool) → RefusedAs {A = Unit {0}} P (cond b (answer tt) (refuse 19 j))
        tested true = answer_refused P tt
        tested false = λ code place e. let n : ◌≡◌ {A = ℕ} 19 code = cc in let p : capped j ≡ place = cc in subst (λ m. P m place) n (subst (P 19) p not_zero)

  module _ (ws cs : List ℚ) (f : ℕ) where
    row_refused_as : (n : ℕ) (ds : List ℚ) → RefusedAs P (undone_row j ws cs f n ds)
    unfolding undone_coefficient
    row_refused_as zero ds = answer_refused P (entry cs f)
    row_refused_as (suc n) ds =
        then_refused P (fitted j share) (λ x. fitted j (c -ᵠ x) then quotient) (sized_refused_as share)
        (λ x h. then_refused P (fitted j (c -ᵠ x)) quotient (sized_refused_as (c -ᵠ x)) (λ d k. sized_refused_as (d /ᵠ w)))
      where
        w : ℚ
        w = entry ws (suc n)

        c : ℚ
        c = entry cs (f + suc n)

        share : ℚ
        share = (int (pos 1) -ᵠ w) *ᵠ entry ds n

        quotient : ℚ → Outcome ℚ
        quotient d = fitted j (d /ᵠ w)

    rows_refused_as : (n : ℕ) → RefusedAs P (undone_rows j ws cs f n)
    unfolding undone_rows
    rows_refused_as zero = answer_refused P []
    rows_refused_as (suc n) = then_refused P (undone_rows j ws cs f n) (λ xs. undone_row j ws cs f n xs then λ d. answer (xs ++ (d ∷ []))) (rows_refused_as n)
        (λ xs h. then_refused P (undone_row j ws cs f n xs) (λ d. answer (xs ++ (d ∷ []))) (row_refused_as n xs) (λ d k. answer_refused P (xs ++ (d ∷ []))))

  pub undone_refused_as : (g : Span) (ws cs : List ℚ) → RefusedAs P (undone j g ws cs)
  unfolding undone
  undone_refused_as g ws cs = then_refused P (undone_rows j ws cs g.f (g.l - g.f)) (λ ds. answer (take g.f cs ++ (ds ++ drop (suc g.l) cs))) (rows_refused_as ws cs g.f (g.l - g.f))
      (λ ds h. answer_refused P (take g.f cs ++ (ds ++ drop (suc g.l) cs)))

-- The refusal is code 20.
abbrev pub Twenty : ℕ → ℕ → Type 0
Twenty code place = code ≡ 20

pub sum_refused : (j : ℕ) (js cs : List ℚ) (n : ℕ) → RefusedAs Twenty (jump_sum j js cs n)
sum_refused j = sum_refused_as Twenty j refl

pub undone-refuses_20 : (j : ℕ) (g : Span) (ws cs : List ℚ) → RefusedAs Twenty (undone j g ws cs)
undone-refuses_20 j = undone_refused_as Twenty j refl

-- ---- the sum of coefficients times jumps

module _ (j : ℕ) (js cs : List ℚ) where
  term : ℕ → ℚ
  term i = entry cs i *ᵠ entry js i

  added_is : (n : ℕ) (s : ℚ) {q : ℚ} → added j js cs n s ≡ answer q → q ≡ s +ᵠ term n
  unfolding term
  added_is n s {q} e = go (jumps_at js n) refl e
    where
      go : (b : Bool) → jumps_at js n ≡ b → cond b (fitted j (term n) then λ p. fitted j (s +ᵠ p)) (answer s) ≡ answer q → q ≡ s +ᵠ term n
      go true h e = let c = then_inverts (fitted j (term n)) (λ p. fitted j (s +ᵠ p)) e in sized-answers j (s +ᵠ c.middle) c.after ∙ ap (λ p. s +ᵠ p) (sized-answers j (term n) c.before)
      go false h e = answer_unique e refl ∙ sym (ap (λ t. s +ᵠ t) (ap (λ t. entry cs n *ᵠ t) (is_zero_true (entry js n) (not-false _ h)) ∙ mul-zero (entry cs n)) ∙ add-zero s)

  sum_is : (n : ℕ) {s : ℚ} → jump_sum j js cs n ≡ answer s → s ≡ sum n (λ i. entry cs i *ᵠ entry js i)
  unfolding jump_sum sum term
  sum_is zero e = answer_unique e refl
  sum_is (suc n) {s} e = let c = then_inverts (jump_sum j js cs n) (added j js cs n) e in
      added_is n c.middle c.after ∙ ap (λ t. t +ᵠ entry cs n *ᵠ entry js n) (sum_is n c.before)

  -- an answer: the sum is zero
  pub balanced-zero : {u : Unit {0}} → balanced j js cs ≡ answer u → sum (length js) (λ i. entry cs i *ᵠ entry js i) ≡ int (pos 0)
  unfolding balanced
  balanced-zero {u} e = let c = then_inverts (jump_sum j js cs (length js)) (zero_tested j) e in
      sym (sum_is (length js) c.before) ∙ go c.middle (is_zero c.middle) refl c.after
    where
      go : (s : ℚ) (b : Bool) → is_zero s ≡ b → cond b (answer tt) (refuse 19 j) ≡ answer u → s ≡ int (pos 0)
      go s true h e = is_zero_true s h
      go s false h e = absurd (answer_not_refusal e refl)

  -- code 19: it is not
  pub balanced_not : {place : ℕ} → balanced j js cs ≡ refusal 19 place → sum (length js) (λ i. entry cs i *ᵠ entry js i) ≢ int (pos 0)
  unfolding balanced
  balanced_not {place} e = go (then_breaks (jump_sum j js cs (length js)) (zero_tested j) e)
    where
      tested : (s : ℚ) (b : Bool) → is_zero s ≡ b → ◌≡◌ {A = Outcome (Unit {0})} (cond b (answer tt) (refuse 19 j)) (refusal 19 place) → s ≢ int (pos 0)
      tested s true h e = absurd (answer_not_refusal refl e)
      tested s false h e = is_zero_false s h

      go : Broken (jump_sum j js cs (length js)) (zero_tested j) 19 place → sum (length js) (λ i. entry cs i *ᵠ entry js i) ≢ int (pos 0)
      go (first-refuses p) z = let q : ◌≡◌ {A = ℕ} 19 20 = sum_refused j js cs (length js) 19 place p in omega arith
      go (second-refuses s p q) z = tested s (is_zero s) refl q (sum_is (length js) p ∙ z)

-- ---- the rows' new coefficients

module _ (j : ℕ) (ws cs : List ℚ) (f : ℕ) where
  code_is : (w c before : ℚ) {d : ℚ} → undone_coefficient j w c before ≡ answer d → d ≡ (c -ᵠ (int (pos 1) -ᵠ w) *ᵠ before) /ᵠ w
  unfolding undone_coefficient
  code_is w c before e =
      let a = then_inverts (fitted j ((int (pos 1) -ᵠ w) *ᵠ before)) (λ share. fitted j (c -ᵠ share) then λ d. fitted j (d /ᵠ w)) e in
      let b = then_inverts (fitted j (c -ᵠ a.middle)) (λ d. fitted j (d /ᵠ w)) a.after in
      sized-answers j (b.middle /ᵠ w) b.after
      ∙ ap (λ d. d /ᵠ w) (sized-answers j (c -ᵠ a.middle) b.before ∙ ap (λ share. c -ᵠ share) (sized-answers j ((int (pos 1) -ᵠ w) *ᵠ before) a.before))

  -- The coefficients of n rows from row f on.
  pub record Undone (n : ℕ) (ds : List ℚ) : Type 0 where
    pub size : length ds ≡ n
    pub at_first : 0 < n → entry ds 0 ≡ entry cs f
    pub next : (i : ℕ) → suc i < n → entry ds (suc i) ≡ (entry cs (f + suc i) -ᵠ (int (pos 1) -ᵠ entry ws (suc i)) *ᵠ entry ds i) /ᵠ entry ws (suc i)

  one_more : (n : ℕ) (ds : List ℚ) (d : ℚ) → Undone n ds → undone_row j ws cs f n ds ≡ answer d → Undone (suc n) (ds ++ (d ∷ []))
  one_more n ds d U e = record { size = length-append ds (d ∷ []) ∙ omega (arith, U.size); at_first = λ h. first n refl; next = λ i h. later i (eq-or-lt_of_le h) }
    where
      before : (i : ℕ) → i < n → entry (ds ++ (d ∷ [])) i ≡ entry ds i
      before i h = get_or-append ds (d ∷ []) (int (pos 0)) i (rw U.size h)

      here : (i : ℕ) → i ≡ n → entry (ds ++ (d ∷ [])) i ≡ d
      here i h = get_or_at ds d [] (int (pos 0)) i (U.size ∙ sym h)

      first : (m : ℕ) → m ≡ n → entry (ds ++ (d ∷ [])) 0 ≡ entry cs f
      first zero z = here 0 z ∙ answer_unique (ap (λ k. undone_row j ws cs f k ds) z ∙ e) refl
      first (suc m) z = before 0 (omega arith) ∙ U.at_first (omega arith)

      new : (i : ℕ) → suc i ≡ n → d ≡ (entry cs (f + suc i) -ᵠ (int (pos 1) -ᵠ entry ws (suc i)) *ᵠ entry ds i) /ᵠ entry ws (suc i)
      new i z = code_is (entry ws (suc i)) (entry cs (f + suc i)) (entry ds i) (ap (λ k. undone_row j ws cs f k ds) z ∙ e)

      later : (i : ℕ) → (suc (suc i) ≡ suc n) ⊎ (suc (suc i) < suc n)
          → entry (ds ++ (d ∷ [])) (suc i) ≡ (entry cs (f + suc i) -ᵠ (int (pos 1) -ᵠ entry ws (suc i)) *ᵠ entry (ds ++ (d ∷ [])) i) /ᵠ entry ws (suc i)
      later i (inl z) = here (suc i) (omega arith) ∙ new i (omega arith) ∙ ap (λ t. (entry cs (f + suc i) -ᵠ (int (pos 1) -ᵠ entry ws (suc i)) *ᵠ t) /ᵠ entry ws (suc i)) (sym (before i (omega arith)))
      later i (inr h) =
          before (suc i) (omega arith) ∙ U.next i (omega arith)
          ∙ ap (λ t. (entry cs (f + suc i) -ᵠ (int (pos 1) -ᵠ entry ws (suc i)) *ᵠ t) /ᵠ entry ws (suc i)) (sym (before i (omega arith)))

  pub rows-undone : (n : ℕ) {ds : List ℚ} → undone_rows j ws cs f n ≡ answer ds → Undone n ds
  unfolding undone_rows
  rows-undone zero {ds} e = rw (answer_unique {a = ds} {b = []} e refl) (record { size = refl; at_first = λ h. absurd (omega arith); next = λ i h. absurd (omega arith) })
  rows-undone (suc n) {ds} e = go (then_inverts (undone_rows j ws cs f n) (λ xs. undone_row j ws cs f n xs then λ d. answer (xs ++ (d ∷ []))) e) (λ p. rows-undone n p)
    where
      go : (c : Chained (undone_rows j ws cs f n) (λ xs. undone_row j ws cs f n xs then λ d. answer (xs ++ (d ∷ []))) ds)
          → (undone_rows j ws cs f n ≡ answer c.middle → Undone n c.middle) → Undone (suc n) ds
      go c ih = let d = then_inverts (undone_row j ws cs f n c.middle) (λ d. answer (c.middle ++ (d ∷ []))) c.after in
          subst (Undone (suc n)) (answer_unique refl d.after) (one_more n c.middle d.middle (ih c.before) d.before)
