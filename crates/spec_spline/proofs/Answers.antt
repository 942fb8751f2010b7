-- What an answer of a part of a step tells: that the jumps fit, that the span has no zero inside, and that the factors are
-- quotients that fit and lie from 0 to 1. A caller that is given the answer uses them.
use mathlib.Core.Path.{◌≡◌, refl, sym, ◌∙◌, ap, ap₂, subst}
use mathlib.Core.Logic.{◌≢◌, ◌⊎◌, inl, inr}
use mathlib.Core.Bool.{Bool, true, false, cond, ◌&&◌}
use mathlib.Core.List.{List, [], ◌∷◌, ◌++◌}
use mathlib.Core.Option.{Option, some, none}
use Prim.Native.Nat.{ℕ, zero, suc, ◌+◌, ◌-◌, ◌<◌, ◌≤◌}
use native.Mathlib.Omega.{arith}
use native.Mathlib.Nat.{eq-or-lt_of_le}
use lib.IntN.{pos}
use lib.ListN.{length, length-append, get_or-append}
use lib.Seq.{get_or_at}
use Rattle.base_exact.specs.Rational.{ℚ, int, ◌+ᵠ◌, ◌*ᵠ◌, ◌/ᵠ◌}
use Rattle.base_exact.specs.Order.{is_zero, leᵠ, ltᵠ}
use Rattle.base_exact.proofs.Decide.{le_or_lt, true_not_false, not-true, not-false, and-true}
use Rattle.base_exact.proofs.Order.{≤-refl, <-≤, zero<one, ltᵠ_true, le_test, is_zero_true, is_zero_false}
use Rattle.base_fraction.specs.Size.{fits}
use Rattle.base_fraction.proofs.Size.{int-fits}
use Rattle.base_outcome.specs.Outcome.{Outcome, answer, refuse, collect}
use Rattle.base_outcome.specs.Search.{first, last, found}
use Rattle.spec_spline.specs.Conditions.{Entry}
use Rattle.spec_spline.specs.Table.{Row, Table, entry, row}
use Rattle.spec_spline.specs.Step.{count, add_products, jump, jumps, jumps_at, Span, zero_between, span_of, span, partial_sum, quotient_factor, factor, factors}
use Rattle.base_outcome.proofs.Outcome.{answer_unique, answer_not_refusal, Chained, then_inverts, Collected, collect_inverts}
use Rattle.base_outcome.proofs.Search.{First, Last, first_some_inverts, last_some_inverts, first-none_inverts}
use Rattle.spec_spline.proofs.Table.{entry_past}
use Rattle.spec_spline.proofs.Step.{count-answers, one_more, products_none, products_split, tested, quotient_tested}

-- ---- a jump

-- what fits at first fits at the end
products_fit : (j : ℕ) (r : Row) (s : ℚ) (es : List Entry) {q : ℚ} → fits s ≡ true → add_products j r s es ≡ answer q → fits q ≡ true
products_fit j r s [] h e = ap fits (answer_unique e (products_none j r s)) ∙ h
products_fit j r s (e ∷ es) {q} h k =
    let c = then_inverts (one_more j r s e) (λ t. add_products j r t es) (sym (products_split j r s e es) ∙ k) in
    let d = then_inverts (count j (entry r e.column *ᵠ int e.condition)) (λ p. count j (s +ᵠ p)) c.before in
    let a = count-answers j (s +ᵠ d.middle) d.after in
    products_fit j r c.middle es (ap fits a.0 ∙ a.1) c.after

pub jump_fits : (j : ℕ) (κ : List Entry) (r : Row) {q : ℚ} → jump j κ r ≡ answer q → fits q ≡ true
jump_fits j κ r e = products_fit j r (int (pos 0)) κ (int-fits (pos 0) (omega arith)) e

-- ---- the jumps of a table
module _ (j : ℕ) (κ : List Entry) (t : Table) {qs : List ℚ} (e : jumps j κ t ≡ answer qs) where
  pub jumps_length : length qs ≡ length t
  jumps_length = (collect_inverts (length t) (λ i. jump j κ (row t i)) e).size

  pub jumps_fit : (i : ℕ) → fits (entry qs i) ≡ true
  jumps_fit i = go (le_or_lt (length t) i)
    where
      go : (length t ≤ i) ⊎ (i < length t) → fits (entry qs i) ≡ true
      go (inl h) = ap fits (entry_past qs _ (omega (arith, jumps_length, h))) ∙ int-fits (pos 0) (omega arith)
      go (inr h) = jump_fits j κ (row t i) ((collect_inverts (length t) (λ i. jump j κ (row t i)) e).at i h (int (pos 0)))

-- ---- a factor
pub record Factored (s q w : ℚ) : Type 0 where
  pub sum_fits : fits s ≡ true
  pub factor-fits : fits w ≡ true
  pub quotient : w ≡ s /ᵠ q
  pub above_zero : ltᵠ (int (pos 0)) w ≡ true
  pub below_one : ltᵠ w (int (pos 1)) ≡ true

pub factor-answers : (j : ℕ) (s q : ℚ) {w : ℚ} → quotient_factor j s q ≡ answer w → Factored s q w
unfolding quotient_factor
factor-answers j s q {w} e =
    let c = then_inverts (count j s) (quotient_tested j q) e in
    let d = then_inverts (count j (c.middle /ᵠ q)) (tested j) c.after in
    let a = count-answers j s c.before in
    let b = count-answers j (c.middle /ᵠ q) d.before in
    let z : d.middle ≡ s /ᵠ q = b.0 ∙ ap (λ t. t /ᵠ q) a.0 in
    go d.middle (ltᵠ (int (pos 0)) d.middle && ltᵠ d.middle (int (pos 1))) a.1 (ap fits b.0 ∙ b.1) z refl d.after
  where
    go : (v : ℚ) (b : Bool) → fits s ≡ true → fits v ≡ true → v ≡ s /ᵠ q → (ltᵠ (int (pos 0)) v && ltᵠ v (int (pos 1))) ≡ b → cond b (answer v) (refuse 9 j) ≡ answer w → Factored s q w
    go v true h k z t e =
        let same : v ≡ w = answer_unique refl e in
        let u = and-true (ltᵠ (int (pos 0)) v) (ltᵠ v (int (pos 1))) t in
        subst (Factored s q) same (record { sum_fits = h; factor-fits = k; quotient = z; above_zero = u.0; below_one = u.1 })
    go v false h k z t e = absurd (answer_not_refusal e refl)

-- ---- the span: no jump before f or after l, and none that is zero between them
pub record Spans (js : List ℚ) (f l : ℕ) : Type 0 where
  pub ordered : f ≤ l
  pub below : l < length js
  pub before : (j : ℕ) → j < f → entry js j ≡ int (pos 0)
  pub after : (j : ℕ) → l < j → entry js j ≡ int (pos 0)
  pub inside : (j : ℕ) → f ≤ j → j ≤ l → entry js j ≢ int (pos 0)

spans : (js : List ℚ) (f l : ℕ) → First (jumps_at js) (length js) f → Last (jumps_at js) (length js) l → zero_between js f l ≡ false → Spans js f l
spans js f l p q z = record {
  ordered = ordered (le_or_lt f l);
  below = q.below;
  before = λ j h. is_zero_true (entry js j) (not-false _ (p.before j h));
  after = λ j h. past j h (le_or_lt (length js) j);
  inside = λ j h k. within j h (eq-or-lt_of_le k);
}
  where
    ordered : (f ≤ l) ⊎ (l < f) → f ≤ l
    ordered (inl h) = h
    ordered (inr h) = absurd (true_not_false p.meets (q.after f h p.below))

    past : (j : ℕ) → l < j → (length js ≤ j) ⊎ (j < length js) → entry js j ≡ int (pos 0)
    past j h (inl k) = entry_past js j k
    past j h (inr k) = is_zero_true (entry js j) (not-false _ (q.after j h k))

    no_zero : (o : Option ℕ) → found o ≡ false → o ≡ none
    no_zero none e = refl
    no_zero (some i) e = absurd (true_not_false refl e)

    within : (j : ℕ) → f ≤ j → (j ≡ l) ⊎ (j < l) → entry js j ≢ int (pos 0)
    within j h (inl k) = rw k (is_zero_false (entry js l) (not-true _ q.meets))
    within j h (inr k) = is_zero_false (entry js j) (rw (let e : f + (j - f) ≡ j = omega arith in e) at
        (first-none_inverts (λ d. is_zero (entry js (f + d))) (l - f) (no_zero _ z) (j - f) (omega arith)))

pub span_inverts : (j : ℕ) (js : List ℚ) {g : Span} → span j js ≡ answer g → Spans js g.f g.l
unfolding span
span_inverts j js {g} e = go (first (length js) (jumps_at js)) (last (length js) (jumps_at js)) refl refl e
  where
    ends : (f l : ℕ) → First (jumps_at js) (length js) f → Last (jumps_at js) (length js) l
        → (b : Bool) → zero_between js f l ≡ b → cond b (refuse 9 j) (answer (record { f = f; l = l })) ≡ answer g → Spans js g.f g.l
    ends f l p q true z h = absurd (answer_not_refusal h refl)
    ends f l p q false z h = subst (λ (x : Span). Spans js x.f x.l) (answer_unique refl h) (spans js f l p q z)

    go : (a b : Option ℕ) → first (length js) (jumps_at js) ≡ a → last (length js) (jumps_at js) ≡ b → span_of j js a b ≡ answer g → Spans js g.f g.l
    go none b p q h = absurd (answer_not_refusal h refl)
    go (some f) none p q h = absurd (answer_not_refusal h refl)
    go (some f) (some l) p q h = ends f l (first_some_inverts (jumps_at js) (length js) p) (last_some_inverts (jumps_at js) (length js) q) (zero_between js f l) refl h

-- ---- the factors of a span: 1, those of the rows strictly between f and l, and 0 from there on
pub record Factors (js : List ℚ) (f l : ℕ) (ws : List ℚ) : Type 0 where
  pub at_first : entry ws 0 ≡ int (pos 1)
  pub inside : (i : ℕ) → f < i → i < l → Factored (partial_sum js f i) (entry js i) (entry ws (i - f))
  pub past : (d : ℕ) → 0 < d → l - f ≤ d → entry ws d ≡ int (pos 0)

framed : List ℚ → List ℚ
framed us = int (pos 1) ∷ (us ++ (int (pos 0) ∷ []))

framed_inside : (us : List ℚ) (d : ℕ) → d < length us → entry (framed us) (suc d) ≡ entry us d
unfolding framed
framed_inside us d h = get_or-append us (int (pos 0) ∷ []) (int (pos 0)) d h

framed_past : (us : List ℚ) (d : ℕ) → length us ≤ d → entry (framed us) (suc d) ≡ int (pos 0)
unfolding framed
framed_past us d h = go (eq-or-lt_of_le h)
  where
    go : (length us ≡ d) ⊎ (length us < d) → entry (us ++ (int (pos 0) ∷ [])) d ≡ int (pos 0)
    go (inl e) = get_or_at us (int (pos 0)) [] (int (pos 0)) d e
    go (inr k) = entry_past (us ++ (int (pos 0) ∷ [])) _ (simp length-append (omega arith))

pub factors_inverts : (j : ℕ) (js : List ℚ) (g : Span) {ws : List ℚ} → factors j js g ≡ answer ws → Factors js g.f g.l ws
unfolding factors framed
factors_inverts j js g {ws} e = record { at_first = ap (λ u. entry u 0) (sym whole); inside = inside; past = past }
  where
    f : ℕ
    f = g.f

    l : ℕ
    l = g.l

    inner : ℕ → Outcome ℚ
    inner d = factor j js f (f + 1 + d)

    c : Chained (collect (l - f - 1) inner) (λ us. answer (framed us)) ws
    c = then_inverts (collect (l - f - 1) inner) (λ us. answer (framed us)) e

    us : List ℚ
    us = c.middle

    whole : framed us ≡ ws
    whole = answer_unique refl c.after

    parts : Collected (l - f - 1) inner us
    parts = collect_inverts (l - f - 1) inner c.before

    past : (d : ℕ) → 0 < d → l - f ≤ d → entry ws d ≡ int (pos 0)
    past d h k = ap₂ entry (sym whole) (let z : d ≡ suc (d - 1) = omega arith in z) ∙ framed_past us (d - 1) (rw parts.size (omega arith))

    inside : (i : ℕ) → f < i → i < l → Factored (partial_sum js f i) (entry js i) (entry ws (i - f))
    inside i h k = subst (Factored (partial_sum js f i) (entry js i)) (sym value) (factor-answers j (partial_sum js f i) (entry js i) answered)
      where
        value : entry ws (i - f) ≡ entry us (i - f - 1)
        value = ap₂ entry (sym whole) (let z : i - f ≡ suc (i - f - 1) = omega arith in z) ∙ framed_inside us (i - f - 1) (rw parts.size (omega arith))

        answered : factor j js f i ≡ answer (entry us (i - f - 1))
        answered = ap (factor j js f) (let z : i ≡ f + 1 + (i - f - 1) = omega arith in z) ∙ parts.at (i - f - 1) (omega arith) (int (pos 0))

-- a factor that fits, from 0 to 1
pub record FromZeroToOne (w : ℚ) : Type 0 where
  pub fit : fits w ≡ true
  pub low : leᵠ (int (pos 0)) w ≡ true
  pub high : leᵠ w (int (pos 1)) ≡ true

zero-factor : FromZeroToOne (int (pos 0))
zero-factor = record { fit = int-fits (pos 0) (omega arith); low = le_test (≤-refl (int (pos 0))); high = le_test (<-≤ zero<one) }

one_factor : FromZeroToOne (int (pos 1))
one_factor = record { fit = int-fits (pos 1) (omega arith); low = le_test (<-≤ zero<one); high = le_test (≤-refl (int (pos 1))) }

inner_factor : {s q w : ℚ} → Factored s q w → FromZeroToOne w
inner_factor {w = w} h = record {
  fit = h.factor-fits;
  low = le_test (<-≤ (ltᵠ_true (int (pos 0)) w h.above_zero));
  high = le_test (<-≤ (ltᵠ_true w (int (pos 1)) h.below_one));
}

pub factors_unit : (j : ℕ) (js : List ℚ) (g : Span) {ws : List ℚ} → factors j js g ≡ answer ws → (i : ℕ) → FromZeroToOne (entry ws i)
factors_unit j js g {ws} e = at
  where
    F : Factors js g.f g.l ws
    F = factors_inverts j js g e

    at : (i : ℕ) → FromZeroToOne (entry ws i)
    at zero = subst FromZeroToOne (sym F.at_first) one_factor
    at (suc d) = go (le_or_lt (g.l - g.f) (suc d))
      where
        go : (g.l - g.f ≤ suc d) ⊎ (suc d < g.l - g.f) → FromZeroToOne (entry ws (suc d))
        go (inl h) = subst FromZeroToOne (sym (F.past (suc d) (omega arith) h)) zero-factor
        go (inr h) = subst (λ k. FromZeroToOne (entry ws k)) (let z : g.f + suc d - g.f ≡ suc d = omega arith in z) (inner_factor (F.inside (g.f + suc d) (omega arith) (omega arith)))
