-- Laws of one step of the build, from its parts: what a counted fraction, a jump, a factor and the span answer or refuse
-- where the fractions in them fit or not. A loop that goes through the parts uses them.
use mathlib.Core.Path.{◌≡◌, refl, sym, ◌∙◌, ap, ap₂}
use mathlib.Core.Bool.{Bool, true, false, cond, ◌&&◌}
use mathlib.Core.List.{List, [], ◌∷◌}
use mathlib.Core.Option.{some, none}
use Prim.Native.Nat.{ℕ, suc, ◌+◌, ◌-◌, ◌<◌}
use native.Mathlib.Omega.{arith}
use lib.IntN.{pos}
use lib.ListN.{length}
use Rattle.base_exact.specs.Rational.{ℚ, int, ◌+ᵠ◌, ◌*ᵠ◌, ◌/ᵠ◌}
use Rattle.base_exact.specs.Order.{ltᵠ}
use Rattle.base_exact.specs.Sum.{sum}
use Rattle.base_exact.proofs.Rational.{add_comm, add-zero}
use Rattle.base_exact.proofs.Sum.{sum-last}
use Rattle.base_fraction.specs.Size.{fits}
use Rattle.base_outcome.specs.Outcome.{Outcome, answer, refusal, refuse, ◌then◌}
use Rattle.base_outcome.specs.Search.{first, last}
use Rattle.spec_spline.specs.Conditions.{Entry}
use Rattle.spec_spline.specs.Table.{Row, entry}
use Rattle.spec_spline.specs.Step.{count, add_products, jumps_at, zero_between, span_of, span, partial_sum, quotient_factor}
use Rattle.base_outcome.proofs.Outcome.{answer_unique, answer_not_refusal, then_answers, then_refuses, then_assoc}

-- ---- a counted fraction

pub count_fits : (j : ℕ) (q : ℚ) → fits q ≡ true → count j q ≡ answer q
unfolding count
count_fits j q e = ap (λ b. cond b (answer q) (refuse 8 j)) e

pub count_large : (j : ℕ) (q : ℚ) → fits q ≡ false → count j q ≡ refuse 8 j
unfolding count
count_large j q e = ap (λ b. cond b (answer q) (refuse 8 j)) e

-- what was answered is what was counted, and it fits
pub count-answers : (j : ℕ) (q : ℚ) {p : ℚ} → count j q ≡ answer p → (p ≡ q) × (fits q ≡ true)
unfolding count
count-answers j q {p} e = go (fits q) refl e
  where
    go : (b : Bool) → fits q ≡ b → cond b (answer q) (refuse 8 j) ≡ answer p → (p ≡ q) × (fits q ≡ true)
    go true f e = (answer_unique e refl, f)
    go false f e = absurd (answer_not_refusal e refl)

-- ---- a jump, product by product
module _ (j : ℕ) (r : Row) where
  -- a product that is counted, and its partial sum
  abbrev pub one_more : ℚ → Entry → Outcome ℚ
  one_more s e = count j (entry r e.column *ᵠ int e.condition) then λ p. count j (s +ᵠ p)

  pub products_none : (s : ℚ) → add_products j r s [] ≡ answer s
  unfolding add_products
  products_none s = refl

  pub products_split : (s : ℚ) (e : Entry) (es : List Entry) → add_products j r s (e ∷ es) ≡ (one_more s e then λ t. add_products j r t es)
  unfolding add_products
  products_split s e es = sym (then_assoc (count j (entry r e.column *ᵠ int e.condition)) (λ p. count j (s +ᵠ p)) (λ t. add_products j r t es))

  pub products_more : (s : ℚ) (e : Entry) (es : List Entry) {t : ℚ} → one_more s e ≡ answer t → add_products j r s (e ∷ es) ≡ add_products j r t es
  products_more s e es h = products_split s e es ∙ then_answers (λ t. add_products j r t es) h

  pub products_refused : (s : ℚ) (e : Entry) (es : List Entry) {code place : ℕ} → one_more s e ≡ refusal code place → add_products j r s (e ∷ es) ≡ refusal code place
  products_refused s e es h = products_split s e es ∙ then_refuses (λ t. add_products j r t es) h

-- ---- a factor, from the partial sum s and the jump q: what ends it, and its answer

-- the test of a quotient
abbrev pub tested : ℕ → ℚ → Outcome ℚ
tested j w = cond (ltᵠ (int (pos 0)) w && ltᵠ w (int (pos 1))) (answer w) (refuse 9 j)

-- what follows a partial sum that was counted
abbrev pub quotient_tested : ℕ → ℚ → ℚ → Outcome ℚ
quotient_tested j q s = count j (s /ᵠ q) then tested j

module _ (j : ℕ) (s q : ℚ) where
  pub factor-sum_large : fits s ≡ false → quotient_factor j s q ≡ refuse 8 j
  unfolding quotient_factor
  factor-sum_large e = then_refuses (quotient_tested j q) (count_large j s e)

  pub factor_large : fits s ≡ true → fits (s /ᵠ q) ≡ false → quotient_factor j s q ≡ refuse 8 j
  unfolding quotient_factor
  factor_large e f = then_answers (quotient_tested j q) (count_fits j s e) ∙ then_refuses (tested j) (count_large j (s /ᵠ q) f)

  factor-tested : fits s ≡ true → fits (s /ᵠ q) ≡ true → quotient_factor j s q ≡ tested j (s /ᵠ q)
  unfolding quotient_factor
  factor-tested e f = then_answers (quotient_tested j q) (count_fits j s e) ∙ then_answers (tested j) (count_fits j (s /ᵠ q) f)

  pub factor-outside : fits s ≡ true → fits (s /ᵠ q) ≡ true → (ltᵠ (int (pos 0)) (s /ᵠ q) && ltᵠ (s /ᵠ q) (int (pos 1))) ≡ false → quotient_factor j s q ≡ refuse 9 j
  factor-outside e f t = factor-tested e f ∙ ap (λ b. cond b (answer (s /ᵠ q)) (refuse 9 j)) t

  pub factor-inside : fits s ≡ true → fits (s /ᵠ q) ≡ true → (ltᵠ (int (pos 0)) (s /ᵠ q) && ltᵠ (s /ᵠ q) (int (pos 1))) ≡ true → quotient_factor j s q ≡ answer (s /ᵠ q)
  factor-inside e f t = factor-tested e f ∙ ap (λ b. cond b (answer (s /ᵠ q)) (refuse 9 j)) t

-- ---- the span, from what the two searches found
module _ (j : ℕ) (js : List ℚ) where
  pub span_nowhere : first (length js) (jumps_at js) ≡ none → span j js ≡ refuse 9 j
  unfolding span
  span_nowhere e = ap (λ o. span_of j js o (last (length js) (jumps_at js))) e

  pub span-endless : {f : ℕ} → first (length js) (jumps_at js) ≡ some f → last (length js) (jumps_at js) ≡ none → span j js ≡ refuse 9 j
  unfolding span
  span-endless e h = ap₂ (span_of j js) e h

  pub span-broken : {f l : ℕ} → first (length js) (jumps_at js) ≡ some f → last (length js) (jumps_at js) ≡ some l → zero_between js f l ≡ true → span j js ≡ refuse 9 j
  unfolding span
  span-broken {f} {l} e h z = ap₂ (span_of j js) e h ∙ ap (λ b. cond b (refuse 9 j) (answer (record { f = f; l = l }))) z

  pub span-whole : {f l : ℕ} → first (length js) (jumps_at js) ≡ some f → last (length js) (jumps_at js) ≡ some l → zero_between js f l ≡ false → span j js ≡ answer (record { f = f; l = l })
  unfolding span
  span-whole {f} {l} e h z = ap₂ (span_of j js) e h ∙ ap (λ b. cond b (refuse 9 j) (answer (record { f = f; l = l }))) z

-- ---- partial sums, running
module _ (js : List ℚ) (f : ℕ) where
  pub partial_first : partial_sum js f f ≡ entry js f
  unfolding partial_sum sum
  partial_first =
      ap (λ n. sum n (λ d. entry js (f + d))) (let e : suc f - f ≡ suc 0 = omega arith in e)
      ∙ add_comm (int (pos 0)) (entry js (f + 0))
      ∙ add-zero (entry js (f + 0))
      ∙ ap (λ k. entry js k) (let e : f + 0 ≡ f = omega arith in e)

  pub partial_more : (i : ℕ) → f < i → partial_sum js f i ≡ partial_sum js f (i - 1) +ᵠ entry js i
  unfolding partial_sum
  partial_more i h =
      ap (λ n. sum n (λ d. entry js (f + d))) (let e : suc i - f ≡ suc (suc (i - 1) - f) = omega arith in e)
      ∙ sum-last (suc (i - 1) - f) (λ d. entry js (f + d))
      ∙ ap (λ k. sum (suc (i - 1) - f) (λ d. entry js (f + d)) +ᵠ entry js k) (let e : f + (suc (i - 1) - f) ≡ i = omega arith in e)
