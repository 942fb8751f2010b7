-- The refusals of a step and of its parts: code 8 or code 9, at the step's join and nowhere else.
use mathlib.Core.Path.{◌≡◌, refl, sym, ◌∙◌, subst}
use mathlib.Core.Logic.{◌⊎◌, inl, inr}
use mathlib.Core.Bool.{Bool, true, false, cond, ◌&&◌}
use mathlib.Core.List.{List, [], ◌∷◌, ◌++◌}
use mathlib.Core.Option.{Option, some, none}
use Prim.Native.Nat.{ℕ, suc, ◌+◌, ◌-◌}
use lib.IntN.{pos}
use lib.ListN.{length, take, drop}
use Rattle.base_exact.specs.Rational.{ℚ, int, ◌+ᵠ◌, ◌-ᵠ◌, ◌*ᵠ◌, ◌/ᵠ◌}
use Rattle.base_exact.specs.Order.{ltᵠ}
use Rattle.base_fraction.specs.Size.{fits}
use Rattle.base_outcome.specs.Outcome.{Outcome, answer, refusal, refuse, capped, ◌then◌, collect}
use Rattle.base_outcome.specs.Search.{first, last}
use Rattle.spec_spline.specs.Conditions.{Entry}
use Rattle.spec_spline.specs.Table.{Row, Table, entry, row}
use Rattle.spec_spline.specs.Step.{count, add_products, jump, jumps, jumps_at, Span, zero_between, span_of, span, partial_sum, quotient_factor, factor, factors, new_entry, new_row, new_rows, step}
use Rattle.spec_spline.proofs.Planned.{mixed, step_in_order}
use Rattle.base_outcome.proofs.Outcome.{answer_not_refusal, RefusedAs, answer_refused, then_refused, collect_refused}
use Rattle.spec_spline.proofs.Step.{one_more, products_none, products_split, tested, quotient_tested}

-- ---- the two refusals, at join j

abbrev pub Eight : ℕ → ℕ → ℕ → Type 0
Eight j code place = (code ≡ 8) × (place ≡ capped j)

abbrev pub Nine : ℕ → ℕ → ℕ → Type 0
Nine j code place = (code ≡ 9) × (place ≡ capped j)

abbrev pub EightOrNine : ℕ → ℕ → ℕ → Type 0
EightOrNine j code place = ((code ≡ 8) ⊎ (code ≡ 9)) × (place ≡ capped j)

refuse_is : {A : Type 0} (n j : ℕ) {code place : ℕ} → ◌≡◌ {A = Outcome A} (refuse n j) (refusal code place) → (code ≡ n) × (place ≡ capped j)
refuse_is n j e = (cc, cc)

either_8 : {A : Type 0} (j : ℕ) (o : Outcome A) → RefusedAs (Eight j) o → RefusedAs (EightOrNine j) o
either_8 j o h code place e = let r = h code place e in (inl r.0, r.1)

either_9 : {A : Type 0} (j : ℕ) (o : Outcome A) → RefusedAs (Nine j) o → RefusedAs (EightOrNine j) o
either_9 j o h code place e = let r = h code place e in (inr r.0, r.1)

-- ---- a counted fraction, and the jumps

pub count-refuses_8 : (j : ℕ) (q : ℚ) → RefusedAs (Eight j) (count j q)
unfolding count
count-refuses_8 j q code place e = go (fits q) e
  where
    go : (b : Bool) → cond b (answer q) (refuse 8 j) ≡ refusal code place → Eight j code place
    go true e = absurd (answer_not_refusal refl e)
    go false e = refuse_is 8 j e

products_refuse_8 : (j : ℕ) (r : Row) (s : ℚ) (es : List Entry) → RefusedAs (Eight j) (add_products j r s es)
products_refuse_8 j r s [] code place e = answer_refused (Eight j) s code place (sym (products_none j r s) ∙ e)
products_refuse_8 j r s (e ∷ es) code place k =
    then_refused (Eight j) (one_more j r s e) (λ t. add_products j r t es)
    (then_refused (Eight j) (count j (entry r e.column *ᵠ int e.condition)) (λ p. count j (s +ᵠ p)) (count-refuses_8 j (entry r e.column *ᵠ int e.condition))
    (λ p h. count-refuses_8 j (s +ᵠ p)))
    (λ t h. products_refuse_8 j r t es)
    code
    place
    (sym (products_split j r s e es) ∙ k)

pub jump-refuses_8 : (j : ℕ) (κ : List Entry) (r : Row) → RefusedAs (Eight j) (jump j κ r)
jump-refuses_8 j κ r = products_refuse_8 j r (int (pos 0)) κ

pub jumps-refuse_8 : (j : ℕ) (κ : List Entry) (t : Table) → RefusedAs (Eight j) (jumps j κ t)
jumps-refuse_8 j κ t = collect_refused (Eight j) (length t) (λ i. jump j κ (row t i)) (λ i h. jump-refuses_8 j κ (row t i))

-- ---- the span and its factors

pub span-refuses_9 : (j : ℕ) (js : List ℚ) → RefusedAs (Nine j) (span j js)
unfolding span
span-refuses_9 j js code place e = go (first (length js) (jumps_at js)) (last (length js) (jumps_at js)) e
  where
    ends : (f l : ℕ) (b : Bool) → cond b (refuse {A = Span} 9 j) (answer (record { f = f; l = l })) ≡ refusal code place → Nine j code place
    ends f l true h = refuse_is 9 j h
    ends f l false h = absurd (answer_not_refusal refl h)

    go : (a b : Option ℕ) → span_of j js a b ≡ refusal code place → Nine j code place
    go none b h = refuse_is 9 j h
    go (some f) none h = refuse_is 9 j h
    go (some f) (some l) h = ends f l (zero_between js f l) h

pub factor-refuses : (j : ℕ) (s q : ℚ) → RefusedAs (EightOrNine j) (quotient_factor j s q)
unfolding quotient_factor
factor-refuses j s q = then_refused (EightOrNine j) (count j s) (quotient_tested j q) (either_8 j (count j s) (count-refuses_8 j s))
    (λ a h. then_refused (EightOrNine j) (count j (a /ᵠ q)) (tested j) (either_8 j (count j (a /ᵠ q)) (count-refuses_8 j (a /ᵠ q))) (λ w k. outside w))
  where
    outside : (w : ℚ) → RefusedAs (EightOrNine j) (tested j w)
    outside w code place e = go (ltᵠ (int (pos 0)) w && ltᵠ w (int (pos 1))) e
      where
        go : (b : Bool) → cond b (answer w) (refuse 9 j) ≡ refusal code place → EightOrNine j code place
        go true e = absurd (answer_not_refusal refl e)
        go false e = let r = refuse_is 9 j e in (inr r.0, r.1)

pub factors-refuse : (j : ℕ) (js : List ℚ) (g : Span) → RefusedAs (EightOrNine j) (factors j js g)
unfolding factors
factors-refuse j js g = then_refused (EightOrNine j) (collect (g.l - g.f - 1) (λ d. factor j js g.f (g.f + 1 + d))) (λ ws. answer (int (pos 1) ∷ (ws ++ (int (pos 0) ∷ []))))
    (collect_refused (EightOrNine j) (g.l - g.f - 1) (λ d. factor j js g.f (g.f + 1 + d)) (λ d h. factor-refuses j (partial_sum js g.f (g.f + 1 + d)) (entry js (g.f + 1 + d))))
    (λ ws h. answer_refused (EightOrNine j) (int (pos 1) ∷ (ws ++ (int (pos 0) ∷ []))))

-- ---- the new rows

new_entry-refuses_8 : (j : ℕ) (w v x y : ℚ) → RefusedAs (Eight j) (new_entry j w v x y)
unfolding new_entry
new_entry-refuses_8 j w v x y = then_refused (Eight j) (count j (w *ᵠ x)) (λ p. count j ((int (pos 1) -ᵠ v) *ᵠ y) then λ q. count j (p +ᵠ q)) (count-refuses_8 j (w *ᵠ x))
    (λ p h. then_refused (Eight j) (count j ((int (pos 1) -ᵠ v) *ᵠ y)) (λ q. count j (p +ᵠ q)) (count-refuses_8 j ((int (pos 1) -ᵠ v) *ᵠ y)) (λ q k. count-refuses_8 j (p +ᵠ q)))

pub new_row-refuses_8 : (j : ℕ) (w v : ℚ) (r r' : Row) → RefusedAs (Eight j) (new_row j w v r r')
new_row-refuses_8 j w v r r' = collect_refused (Eight j) (length r) (λ c. new_entry j w v (entry r c) (entry r' c)) (λ c h. new_entry-refuses_8 j w v (entry r c) (entry r' c))

pub new_rows-refuse_8 : (j : ℕ) (g : Span) (ws : List ℚ) (t : Table) → RefusedAs (Eight j) (new_rows j g ws t)
unfolding new_rows
new_rows-refuse_8 j g ws t = collect_refused (Eight j) (g.l - g.f) (λ d. new_row j (entry ws d) (entry ws (suc d)) (row t (g.f + d)) (row t (g.f + suc d)))
    (λ d h. new_row-refuses_8 j (entry ws d) (entry ws (suc d)) (row t (g.f + d)) (row t (g.f + suc d)))

-- ---- the step

pub mixed_refuses : (j : ℕ) (t : Table) (js : List ℚ) (g : Span) → RefusedAs (EightOrNine j) (mixed j t js g)
mixed_refuses j t js g = then_refused (EightOrNine j) (factors j js g) (λ ws. new_rows j g ws t then λ rs. answer (whole rs)) (factors-refuse j js g)
    (λ ws h. then_refused (EightOrNine j) (new_rows j g ws t) (λ rs. answer (whole rs)) (either_8 j (new_rows j g ws t) (new_rows-refuse_8 j g ws t)) (λ rs k. answer_refused (EightOrNine j) (whole rs)))
  where
    whole : Table → Table
    whole rs = take g.f t ++ (rs ++ drop (suc g.l) t)

pub step-refuses : (j : ℕ) (κ : List Entry) (t : Table) → RefusedAs (EightOrNine j) (step j κ t)
step-refuses j κ t = subst (RefusedAs (EightOrNine j)) (sym (step_in_order j κ t))
    (then_refused (EightOrNine j) (jumps j κ t) (λ js. span j js then λ g. mixed j t js g) (either_8 j (jumps j κ t) (jumps-refuse_8 j κ t))
    (λ js h. then_refused (EightOrNine j) (span j js) (λ g. mixed j t js g) (either_9 j (span j js) (span-refuses_9 j js)) (λ g k. mixed_refuses j t js g)))
