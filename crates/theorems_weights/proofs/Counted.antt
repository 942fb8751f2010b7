-- The build refuses with the first test of its list that fails: each part of a step, and so the step and the build, is
-- its exact result judged by its tests in order.
use mathlib.Core.Path.{◌≡◌, refl, sym, ◌∙◌, ap, ap₂, subst}
use mathlib.Core.Logic.{◌⊎◌, inl, inr}
use mathlib.Core.Bool.{Bool, true, false, cond, not, ◌&&◌}
use mathlib.Core.List.{List, [], ◌∷◌, ◌++◌}
use mathlib.Core.Option.{Option, some, none, get_or}
use Prim.Native.Nat.{ℕ, zero, suc, ◌+◌, ◌-◌}
use native.Mathlib.Omega.{arith}
use lib.IntN.{pos}
use lib.ListN.{length, take, drop}
use Rattle.base_exact.specs.Rational.{ℚ, int, ◌+ᵠ◌, ◌*ᵠ◌, ◌-ᵠ◌, ◌/ᵠ◌}
use Rattle.base_exact.specs.Tabulate.{tab}
use Rattle.base_exact.proofs.Decide.{and-true, true_not_false}
use Rattle.base_exact.proofs.Rational.{add-zero, zero-add, add_assoc}
use Rattle.base_exact.proofs.Tabulate.{tab_snoc}
use Rattle.base_outcome.specs.Outcome.{Outcome, answer, refusal, refuse, capped, ◌then◌, collect, repeat}
use Rattle.base_outcome.specs.Search.{first, last, found}
use Rattle.spec_spline.specs.Space.{Space, segments, column_count, condition_count, checked}
use Rattle.spec_spline.specs.Conditions.{Entry, conditions}
use Rattle.spec_spline.specs.Table.{Row, Table, entry, row, cell, identity}
use Rattle.spec_spline.specs.Step.{count, add_products, jumps, jumps_at, Span, zero_between, span_of, span, partial_sum, quotient_factor, factor, factors, new_entry, new_rows, step}
use Rattle.spec_spline.specs.Build.{order_steps, join_steps, weights, space_weights}
use Rattle.spec_published.specs.Published.{for}
use Rattle.spec_spline.specs.Piecewise.{pairing}
use Rattle.base_outcome.proofs.Outcome.{then_answers, then_breaks, Broken, first-refuses, second-refuses, answer_not_refusal}
use Rattle.spec_spline.proofs.Planned.{step_in_order}
use Rattle.spec_spline.proofs.Legal.{checked_inverts, checked_codes}
use Rattle.base_outcome.proofs.Search.{first_some_inverts, last-none_inverts}
use Rattle.theorems_weights.specs.Counted.{Test, counted, shaped, passes, code_of, join_of, joined, jump_tests, exact_jumps, first_jump, last_jump, shape_test}
use Rattle.theorems_weights.specs.Counted.{quotient, factor_tests, inner_rows, inner_row, exact_factors, entry_tests, row_tests, exact_row, step_tests, exact_step}
use Rattle.theorems_weights.specs.Counted.{exact_orders, exact_joins, build_tests, exact_weights, all_pass, FirstFailure, RefusedByFirstFailure}
use Rattle.theorems_weights.specs.Counted.{FirstFailureRefuses, PassingIsAccepted, FirstTooLarge, EightIsFirstTooLarge, FirstMisshapen}
use Rattle.theorems_weights.specs.Counted.{NineIsFirstMisshapen}

-- An outcome behind tests: the first that fails refuses.
judged : {A : Type 0} → List Test → Outcome A → Outcome A
judged [] o = o
judged (t ∷ ts) o = cond (passes t) (judged ts o) (refuse (code_of t) (join_of t))

judged_append : {A : Type 0} (xs ys : List Test) (o : Outcome A) → judged (xs ++ ys) o ≡ judged xs (judged ys o)
unfolding judged
judged_append [] ys o = refl
judged_append (t ∷ xs) ys o = ap (λ u. cond (passes t) u (refuse (code_of t) (join_of t))) (judged_append xs ys o)

judged_then : {A B : Type 0} (xs : List Test) (o : Outcome A) (f : A → Outcome B) → (judged xs o then f) ≡ judged xs (o then f)
unfolding judged
judged_then [] o f = refl
judged_then (t ∷ xs) o f = go (passes t) ∙ ap (λ u. cond (passes t) u (refuse (code_of t) (join_of t))) (judged_then xs o f)
  where
    go : (b : Bool) → (cond b (judged xs o) (refuse (code_of t) (join_of t)) then f) ≡ cond b (judged xs o then f) (refuse (code_of t) (join_of t))
    go true = refl
    go false = refl

-- o is this answer behind these tests
record Judged {A : Type 0} (o : Outcome A) (tests : List Test) (a : A) : Type 0 where
  is : o ≡ judged tests (answer a)

-- a chain of two
chained : {A B : Type 0} {o : Outcome A} {xs ys : List Test} {a : A} {b : B} (f : A → Outcome B) → Judged o xs a → Judged (f a) ys b → Judged (o then f) (xs ++ ys) b
chained {xs = xs} {ys = ys} {a = a} {b = b} f p q = record { is = ap (λ u. u then f) p.is ∙ judged_then xs (answer a) f ∙ ap (judged xs) q.is ∙ sym (judged_append xs ys (answer b)) }

-- a chain that ends with a function of the answer
finished : {A B : Type 0} {o : Outcome A} {xs : List Test} {a : A} (g : A → B) → Judged o xs a → Judged (o then λ x. answer (g x)) xs (g a)
finished {xs = xs} {a = a} g p = record { is = ap (λ u. u then λ x. answer (g x)) p.is ∙ judged_then xs (answer a) (λ x. answer (g x)) }

-- the same answer, the same outcome
renamed : {A : Type 0} {o : Outcome A} {xs : List Test} {a b : A} → a ≡ b → Judged o xs a → Judged o xs b
renamed {o = o} {xs = xs} e p = subst (Judged o xs) e p

collect_judged : {A : Type 0} (n : ℕ) {f : ℕ → Outcome A} {ts : ℕ → List Test} {g : ℕ → A} → ((i : ℕ) → Judged (f i) (ts i) (g i)) → Judged (collect n f) (joined n ts) (tab n g)
unfolding collect joined tab judged
collect_judged zero h = record { is = refl }
collect_judged (suc n) {f} {ts} {g} h = renamed (sym (tab_snoc n g)) (chained (λ xs. f n then λ x. answer (xs ++ (x ∷ []))) (collect_judged n h) (finished (λ x. tab n g ++ (x ∷ [])) (h n)))

repeat_judged : {A : Type 0} (n : ℕ) {f : ℕ → A → Outcome A} {ts : ℕ → A → List Test} {g : ℕ → A → A} (a : A) → ((i : ℕ) (b : A) → Judged (f i b) (ts i b) (g i b))
    → Judged (repeat n f a) (joined n (λ i. ts i (for i g a))) (for n g a)
unfolding repeat joined for judged
repeat_judged zero a h = record { is = refl }
repeat_judged (suc n) {f} {ts} {g} a h = chained (f n) (repeat_judged n a h) (h n (for n g a))

-- ---- the parts of a step

count_judged : (j : ℕ) (q : ℚ) → Judged (count j q) (counted j q ∷ []) q
unfolding count judged
count_judged j q = record { is = refl }

add_products_judged : (j : ℕ) (r : Row) (s : ℚ) (κ : List Entry) → Judged (add_products j r s κ) (jump_tests j r s κ) (s +ᵠ pairing r κ)
unfolding add_products jump_tests pairing judged
add_products_judged j r s [] = record { is = ap answer (sym (add-zero s)) }
add_products_judged j r s (e ∷ es) =
    let p = entry r e.column *ᵠ int e.condition in
    renamed (add_assoc s p (pairing r es))
    (chained (λ p. count j (s +ᵠ p) then λ t. add_products j r t es) (count_judged j p)
    (chained (λ t. add_products j r t es) (count_judged j (s +ᵠ p)) (add_products_judged j r (s +ᵠ p) es)))

jumps_judged : (j : ℕ) (κ : List Entry) (t : Table) → Judged (jumps j κ t) (joined (length t) (λ i. jump_tests j (row t i) (int (pos 0)) κ)) (exact_jumps κ t)
unfolding exact_jumps
jumps_judged j κ t = collect_judged (length t) (λ i. renamed (zero-add (pairing (row t i) κ)) (add_products_judged j (row t i) (int (pos 0)) κ))

span_judged : (j : ℕ) (js : List ℚ) → Judged (span j js) (shape_test j js ∷ []) (record { f = first_jump js; l = last_jump js })
unfolding span shape_test first_jump last_jump judged
span_judged j js = record { is = go (first (length js) (jumps_at js)) (last (length js) (jumps_at js)) refl refl }
  where
    swapped : (z : Bool) (x y : Outcome Span) → cond z y x ≡ cond (not z) x y
    swapped true x y = refl
    swapped false x y = refl

    go : (a b : Option ℕ) → first (length js) (jumps_at js) ≡ a → last (length js) (jumps_at js) ≡ b
        → span_of j js a b ≡ cond (found a && not (zero_between js (get_or a 0) (get_or b 0))) (answer (record { f = get_or a 0; l = get_or b 0 })) (refuse 9 j)
    go none b p q = refl
    go (some f) none p q = let s = first_some_inverts (jumps_at js) (length js) p in absurd (true_not_false s.meets (last-none_inverts (jumps_at js) (length js) q f s.below))
    go (some f) (some l) p q = swapped (zero_between js f l) (answer (record { f = f; l = l })) (refuse 9 j)

factor_judged : (j : ℕ) (js : List ℚ) (i : ℕ) → Judged (factor j js (first_jump js) i) (factor_tests j js i) (quotient js i)
unfolding quotient_factor factor_tests quotient judged
factor_judged j js i = chained _ (count_judged j (partial_sum js (first_jump js) i)) (chained _ (count_judged j (partial_sum js (first_jump js) i /ᵠ entry js i)) (record { is = refl }))

factors_judged : (j : ℕ) (js : List ℚ) → Judged (factors j js (record { f = first_jump js; l = last_jump js })) (joined (inner_rows js) (λ d. factor_tests j js (inner_row js d))) (exact_factors js)
unfolding factors inner_rows inner_row exact_factors
factors_judged j js = finished (λ ws. int (pos 1) ∷ (ws ++ (int (pos 0) ∷ []))) (collect_judged (inner_rows js) (λ d. factor_judged j js (inner_row js d)))

new_entry_judged : (j : ℕ) (w v x y : ℚ) → Judged (new_entry j w v x y) (entry_tests j w v x y) (w *ᵠ x +ᵠ (int (pos 1) -ᵠ v) *ᵠ y)
unfolding new_entry entry_tests
new_entry_judged j w v x y = chained _ (count_judged j (w *ᵠ x)) (chained _ (count_judged j ((int (pos 1) -ᵠ v) *ᵠ y)) (count_judged j (w *ᵠ x +ᵠ (int (pos 1) -ᵠ v) *ᵠ y)))

new_rows_judged : (j : ℕ) (js ws : List ℚ) (t : Table)
    → Judged (new_rows j (record { f = first_jump js; l = last_jump js }) ws t) (joined (last_jump js - first_jump js) (row_tests j js ws t))
    (tab (last_jump js - first_jump js) (exact_row js ws t))
unfolding new_rows row_tests exact_row
new_rows_judged j js ws t =
    collect_judged (last_jump js - first_jump js)
    (λ d. collect_judged (length (row t (first_jump js + d)))
    (λ c. new_entry_judged j (entry ws d) (entry ws (suc d)) (cell t (first_jump js + d) c) (cell t (first_jump js + suc d) c)))

step_judged : (j : ℕ) (κ : List Entry) (t : Table) → Judged (step j κ t) (step_tests j κ t) (exact_step κ t)
unfolding step_tests exact_step
step_judged j κ t =
    let js = exact_jumps κ t in
    subst (λ o. Judged o (step_tests j κ t) (exact_step κ t)) (sym (step_in_order j κ t))
    (chained _ (jumps_judged j κ t)
    (chained _ (span_judged j js)
    (chained _ (factors_judged j js) (finished (λ rs. take (first_jump js) t ++ (rs ++ drop (suc (last_jump js)) t)) (new_rows_judged j js (exact_factors js) t)))))

-- ---- the build

orders_judged : (s : Space) (j n : ℕ) (t : Table) → Judged (order_steps s j n t) (joined n (λ k. step_tests j (conditions s j k) (exact_orders s j k t))) (exact_orders s j n t)
unfolding order_steps exact_orders
orders_judged s j n t = repeat_judged n t (λ k b. step_judged j (conditions s j k) b)

weights_judged : (s : Space) → Judged (weights s) (build_tests s) (exact_weights s)
unfolding weights join_steps build_tests exact_weights exact_joins
weights_judged s = repeat_judged (segments s - 1) (identity (column_count s)) (λ j b. orders_judged s j (condition_count s j) b)

-- ---- the first failure

-- tests that pass leave the outcome
judged_pass : {A : Type 0} (xs : List Test) (o : Outcome A) → all_pass xs ≡ true → judged xs o ≡ o
unfolding judged all_pass
judged_pass [] o h = refl
judged_pass (t ∷ xs) o h = let b = and-true (passes t) (all_pass xs) h in ap (λ c. cond c (judged xs o) (refuse (code_of t) (join_of t))) b.0 ∙ judged_pass xs o b.1

judged_fail : {A : Type 0} (xs : List Test) (o : Outcome A) {code place : ℕ} → FirstFailure xs code place → judged xs o ≡ refusal code place
unfolding judged
judged_fail xs o F = ap (λ ys. judged ys o) F.parts ∙ judged_append F.before (F.failing ∷ F.after) o ∙ judged_pass F.before _ F.passed
    ∙ ap (λ c. cond c (judged F.after o) (refuse (code_of F.failing) (join_of F.failing))) F.fails ∙ ap₂ refusal (sym F.code_is) (sym F.place_is)

judged_refuses : {A : Type 0} (xs : List Test) (a : A) {code place : ℕ} → judged xs (answer a) ≡ refusal code place → FirstFailure xs code place
unfolding judged all_pass
judged_refuses [] a h = absurd (answer_not_refusal refl h)
judged_refuses (t ∷ xs) a {code} {place} h = go (passes t) refl h (λ e. judged_refuses xs a e)
  where
    go : (b : Bool) → passes t ≡ b → cond b (judged xs (answer a)) (refuse (code_of t) (join_of t)) ≡ refusal code place
        → (judged xs (answer a) ≡ refusal code place → FirstFailure xs code place) → FirstFailure (t ∷ xs) code place
    go true p e ih = let F = ih e in record {
      before = t ∷ F.before;
      failing = F.failing;
      after = F.after;
      parts = ap (λ l. t ∷ l) F.parts;
      passed = ap (λ b. b && all_pass F.before) p ∙ F.passed;
      fails = F.fails;
      code_is = F.code_is;
      place_is = F.place_is;
    }
    go false p e ih = record { before = []; failing = t; after = xs; parts = refl; passed = refl; fails = p; code_is = cc; place_is = cc }

-- ---- one step by itself

-- a step that refuses does so by its first test that fails
pub step-refuses : (j : ℕ) (κ : List Entry) (t : Table) {code place : ℕ} → step j κ t ≡ refusal code place → FirstFailure (step_tests j κ t) code place
step-refuses j κ t e = judged_refuses (step_tests j κ t) (exact_step κ t) (sym (step_judged j κ t).is ∙ e)

-- a step whose tests all pass answers
pub step-passes : (j : ℕ) (κ : List Entry) (t : Table) → all_pass (step_tests j κ t) ≡ true → step j κ t ≡ answer (exact_step κ t)
step-passes j κ t h = (step_judged j κ t).is ∙ judged_pass (step_tests j κ t) (answer (exact_step κ t)) h

-- ---- the statements

pub passing_is_accepted : PassingIsAccepted
unfolding space_weights
passing_is_accepted s c h = then_answers weights c ∙ (weights_judged s).is ∙ judged_pass (build_tests s) (answer (exact_weights s)) h

pub first_failure_refuses : FirstFailureRefuses
unfolding space_weights
first_failure_refuses s code place c F = then_answers weights c ∙ (weights_judged s).is ∙ judged_fail (build_tests s) (answer (exact_weights s)) F

pub refused_by_first_failure : RefusedByFirstFailure
unfolding space_weights
refused_by_first_failure s code place e = go (then_breaks (checked s) weights e)
  where
    go : Broken (checked s) weights code place → (checked s ≡ refusal code place) ⊎ ((checked s ≡ answer s) × FirstFailure (build_tests s) code place)
    go (first-refuses p) = inl p
    go (second-refuses s' p q) = let same = (checked_inverts s p).0 in
        inr (p ∙ ap answer (sym same), judged_refuses (build_tests s) (exact_weights s) (sym (weights_judged s).is ∙ ap weights same ∙ q))

pub eight_is_first_too_large : EightIsFirstTooLarge
eight_is_first_too_large s place e = go (refused_by_first_failure s 8 place e)
  where
    counted-fails : (F : FirstFailure (build_tests s) 8 place) (t : Test) → F.failing ≡ t → FirstTooLarge s place
    counted-fails F (counted join q) p = record {
      before = F.before;
      join = join;
      fraction = q;
      after = F.after;
      parts = F.parts ∙ ap (λ t. F.before ++ (t ∷ F.after)) p;
      passed = F.passed;
      too_large = ap passes (sym p) ∙ F.fails;
      place_is = F.place_is ∙ ap (λ t. capped (join_of t)) p;
    }
    counted-fails F (shaped join b) p = absurd (omega (arith, F.code_is ∙ ap code_of p))

    go : (checked s ≡ refusal 8 place) ⊎ ((checked s ≡ answer s) × FirstFailure (build_tests s) 8 place) → FirstTooLarge s place
    go (inl c) = absurd (true_not_false refl (checked_codes s c))
    go (inr F) = counted-fails F.1 F.1.failing refl

pub nine_is_first_misshapen : NineIsFirstMisshapen
nine_is_first_misshapen s place e = go (refused_by_first_failure s 9 place e)
  where
    shaped_fails : (F : FirstFailure (build_tests s) 9 place) (t : Test) → F.failing ≡ t → FirstMisshapen s place
    shaped_fails F (counted join q) p = absurd (omega (arith, F.code_is ∙ ap code_of p))
    shaped_fails F (shaped join b) p = record {
      before = F.before;
      join = join;
      after = F.after;
      parts = F.parts ∙ ap (λ t. F.before ++ (t ∷ F.after)) (p ∙ ap (shaped join) (ap passes (sym p) ∙ F.fails));
      passed = F.passed;
      place_is = F.place_is ∙ ap (λ t. capped (join_of t)) p;
    }

    go : (checked s ≡ refusal 9 place) ⊎ ((checked s ≡ answer s) × FirstFailure (build_tests s) 9 place) → FirstMisshapen s place
    go (inl c) = absurd (true_not_false refl (checked_codes s c))
    go (inr F) = shaped_fails F.1 F.1.failing refl
