-- Rows that no condition of a step touches stay as they are: a step on a table with such rows at its end is the step on the
-- table without them, and then those rows. So the rows of later segments need not be in the buffers before their join comes.
use mathlib.Core.Path.{◌≡◌, refl, sym, ◌∙◌, ap, ap₂}
use mathlib.Core.Logic.{◌⊎◌, inl, inr}
use mathlib.Core.Bool.{Bool, false, not, cond}
use mathlib.Core.Option.{Option, some, none}
use mathlib.Core.List.{List, [], ◌∷◌, ◌++◌, append_assoc}
use Prim.Native.Nat.{ℕ, zero, suc, ◌+◌, ◌-◌, ◌<◌, ◌≤◌}
use native.Mathlib.Omega.{arith}
use lib.IntN.{pos}
use lib.ListN.{length, take, drop, length-append, get_or-append}
use lib.Seq.{get_or-drop, get_or-append-add}
use Rattle.base_exact.specs.Rational.{ℚ, int, ◌+ᵠ◌, ◌*ᵠ◌}
use Rattle.base_exact.specs.Order.{is_zero}
use Rattle.base_exact.specs.Tabulate.{tab}
use Rattle.base_exact.proofs.Decide.{le_or_lt}
use Rattle.base_exact.proofs.Order.{zero_test}
use Rattle.base_exact.proofs.Rational.{add-zero, zero-mul}
use Rattle.base_exact.proofs.Sum.{sum_ext}
use Rattle.base_exact.proofs.Tabulate.{tab_length, tab_get_d}
use Rattle.base_fraction.proofs.Size.{int-fits}
use Rattle.base_outcome.specs.Outcome.{Outcome, answer, refusal, refuse, ◌then◌, with_answer, collect, repeat}
use Rattle.base_outcome.specs.Search.{first, last, found}
use Rattle.spec_spline.specs.Space.{Space, degree, first_column}
use Rattle.spec_spline.specs.Conditions.{Entry, conditions}
use Rattle.spec_spline.specs.Table.{Row, Table, entry, row, identity}
use Rattle.spec_spline.specs.Step.{Span, count, jump, jumps, jumps_at, zero_between, span_of, span, partial_sum, factor, quotient_factor, factors, new_row, new_rows}
use Rattle.spec_spline.specs.Step.{step, Planned, plan_over, plan_from, planned, rows_renewed}
use Rattle.base_outcome.proofs.Outcome.{then_answers, then_refuses, collect-answers, collect_stops, collect_inverts, collect-refuses, repeat-keeps}
use Rattle.base_outcome.proofs.Search.{Searched, search_first, first-none, first_at, first_ext, Last, SearchedBack, search_last, last_none, last_at}
use Rattle.spec_spline.proofs.Step.{count_fits, products_none, products_more}
use Rattle.spec_spline.specs.Build.{order_steps}
use Rattle.spec_spline.proofs.Table.{entry_past, identity_off}
use Rattle.spec_spline.proofs.Answers.{jumps_length}
use Rattle.build_space.proofs.Bounds.{first-column-next}
use Rattle.build_step.proofs.Plan.{step-planned, Works, plan_works}
use Rattle.build_conditions.specs.Terms.{column_of}
use Rattle.build_conditions.proofs.Terms.{conditions_length, column-left, column-right}

-- ---- lists

collect_ext : {A : Type 0} (n : ℕ) {f g : ℕ → Outcome A} → ((i : ℕ) → i < n → f i ≡ g i) → collect n f ≡ collect n g
unfolding collect
collect_ext zero h = refl
collect_ext {A} (suc n) {f} {g} h = ap₂ (λ (o : Outcome (List A)) (p : Outcome A). o then λ xs. p then λ x. answer (xs ++ (x ∷ []))) (collect_ext n (λ i l. h i (omega arith))) (h n (omega arith))

take_within : {A : Type 0} (n : ℕ) (xs ys : List A) → n ≤ length xs → take n (xs ++ ys) ≡ take n xs
take_within zero xs ys h = refl
take_within (suc n) [] ys h = absurd (omega arith)
take_within (suc n) (x ∷ xs) ys h = ap (λ zs. x ∷ zs) (take_within n xs ys (omega arith))

drop-within : {A : Type 0} (n : ℕ) (xs ys : List A) → n ≤ length xs → drop n (xs ++ ys) ≡ drop n xs ++ ys
drop-within zero xs ys h = refl
drop-within (suc n) [] ys h = absurd (omega arith)
drop-within (suc n) (x ∷ xs) ys h = drop-within n xs ys (omega arith)

-- elements made new among those at the front
pub spliced-within : {A : Type 0} (f l : ℕ) (xs ys rs : List A) → f ≤ l → l < length xs → take f (xs ++ ys) ++ (rs ++ drop (suc l) (xs ++ ys)) ≡ (take f xs ++ (rs ++ drop (suc l) xs)) ++ ys
spliced-within f l xs ys rs a h =
    ap₂ (λ us vs. us ++ (rs ++ vs)) (take_within f xs ys (omega arith)) (drop-within (suc l) xs ys h)
    ∙ ap (λ vs. take f xs ++ vs) (sym (append_assoc rs (drop (suc l) xs) ys))
    ∙ sym (append_assoc (take f xs) (rs ++ drop (suc l) xs) ys)

-- ---- turns that pass through a change of the state
pub repeat_through : {A : Type 0} (P : ℕ → A → Type 0) (n : ℕ) (f : ℕ → A → Outcome A) (h : A → A) (a : A) → P 0 a → ((k : ℕ) (b c : A) → k < n → P k b → f k b ≡ answer c → P (suc k) c)
    → ((k : ℕ) (b : A) → k < n → P k b → f k (h b) ≡ with_answer h (f k b)) → repeat n f (h a) ≡ with_answer h (repeat n f a)
unfolding repeat
repeat_through P zero f h a p keeps through = refl
repeat_through {A} P (suc n) f h a p keeps through =
    ap (λ (o : Outcome A). o then f n) (repeat_through P n f h a p (λ k b c l. keeps k b c (omega arith)) (λ k b l. through k b (omega arith)))
    ∙ go (repeat n f a) refl
  where
    go : (o : Outcome A) → repeat n f a ≡ o → (with_answer h o then f n) ≡ with_answer h (o then f n)
    go (answer b) e = through n b (omega arith) (repeat-keeps P n f a p (λ k b c l. keeps k b c (omega arith)) b e)
    go (refusal code place) e = refl

-- ---- searches past the last place that can meet the test
module _ (test other : ℕ → Bool) (same : (k : ℕ) → other k ≡ test k) (n m : ℕ) (within : n ≤ m) (none_after : (k : ℕ) → n ≤ k → test k ≡ false) where
  outside : (k : ℕ) → (n ≤ k) ⊎ (k < n) → ((k : ℕ) → k < n → test k ≡ false) → test k ≡ false
  outside k (inl a) h = none_after k a
  outside k (inr a) h = h k a

  first_longer : first m other ≡ first n test
  first_longer = go (search_first test n)
    where
      go : Searched test n → first m other ≡ first n test
      go (Searched.at i s e) = first_at other m i (omega (arith, s.below)) (same i ∙ s.meets) (λ k h. same k ∙ s.before k h) ∙ sym e
      go (Searched.nowhere h e) = first-none other m (λ k l. same k ∙ outside k (le_or_lt n k) h) ∙ sym e

  last_longer : last m other ≡ last n test
  last_longer = go (search_last test n)
    where
      later : (i k : ℕ) → Last test n i → i < k → (n ≤ k) ⊎ (k < n) → test k ≡ false
      later i k s l (inl a) = none_after k a
      later i k s l (inr a) = s.after k l a

      go : SearchedBack test n → last m other ≡ last n test
      go (SearchedBack.at i s e) = last_at other m i (omega (arith, s.below)) (same i ∙ s.meets) (λ k l h. same k ∙ later i k s l (le_or_lt n k)) ∙ sym e
      go (SearchedBack.nowhere h e) = last_none other m (λ k l. same k ∙ outside k (le_or_lt n k) h) ∙ sym e

-- ---- jumps with zeros after them: they span the same rows and give the same factors
module _ (j : ℕ) (js longer : List ℚ) (more : length js ≤ length longer) (same : (i : ℕ) → entry longer i ≡ entry js i) where
  tests : (k : ℕ) → jumps_at longer k ≡ jumps_at js k
  tests k = ap (λ q. not (is_zero q)) (same k)

  past : (k : ℕ) → length js ≤ k → jumps_at js k ≡ false
  past k h = ap not (zero_test (entry_past js k h))

  between : (f l : ℕ) → zero_between longer f l ≡ zero_between js f l
  between f l = ap found (first_ext (l - f) (λ d h. ap is_zero (same (f + d))))

  span_longer : span j longer ≡ span j js
  unfolding span
  span_longer =
      ap₂ (span_of j longer) (first_longer (jumps_at js) (jumps_at longer) tests (length js) (length longer) more past)
      (last_longer (jumps_at js) (jumps_at longer) tests (length js) (length longer) more past)
      ∙ go (first (length js) (jumps_at js)) (last (length js) (jumps_at js))
    where
      go : (f l : Option ℕ) → span_of j longer f l ≡ span_of j js f l
      go none l = refl
      go (some f) none = refl
      go (some f) (some l) = ap (λ b. cond b (refuse 9 j) (answer (record { f = f; l = l }))) (between f l)

  factors_longer : (g : Span) → factors j longer g ≡ factors j js g
  unfolding factors partial_sum
  factors_longer g = ap (λ (o : Outcome (List ℚ)). o then λ ws. answer (int (pos 1) ∷ (ws ++ (int (pos 0) ∷ [])))) (collect_ext (g.l - g.f - 1) (λ d h. at (g.f + 1 + d)))
    where
      at : (i : ℕ) → factor j longer g.f i ≡ factor j js g.f i
      at i = ap₂ (quotient_factor j) (sum_ext (suc i - g.f) (λ d h. same (g.f + d))) (same i)

-- ---- rows at the end of a table that no condition touches
module _ (j : ℕ) (κ : List Entry) (t later : Table) (idle : (i : ℕ) → i < length later → jump j κ (row later i) ≡ answer (int (pos 0))) where
  abbrev all : Table
  all = t ++ later

  size : length all ≡ length t + length later
  size = length-append t later

  row_before : (i : ℕ) → i < length t → row all i ≡ row t i
  row_before i h = get_or-append t later [] i h

  -- the jumps of the table without them, and zeros
  jump_at : {js : List ℚ} → jumps j κ t ≡ answer js → (i : ℕ) → i < length all → (length t ≤ i) ⊎ (i < length t) → jump j κ (row all i) ≡ answer (entry js i)
  jump_at {js} e i h (inl a) =
      ap (λ n. jump j κ (row all n)) (let z : i ≡ length t + (i - length t) = omega arith in z)
      ∙ ap (jump j κ) (get_or-append-add t later (i - length t) [])
      ∙ idle (i - length t) (omega (arith, size))
      ∙ ap answer (sym (entry_past js i (omega (arith, jumps_length j κ t e))))
  jump_at {js} e i h (inr a) = ap (jump j κ) (row_before i a) ∙ (collect_inverts (length t) (λ i. jump j κ (row t i)) e).at i a (int (pos 0))

  abbrev pub longer : List ℚ → List ℚ
  longer js = tab (length all) (entry js)

  jumps_all : {js : List ℚ} → jumps j κ t ≡ answer js → jumps j κ all ≡ answer (longer js)
  jumps_all {js} e = collect-answers (length all) (λ i. jump j κ (row all i)) (entry js) (λ i h. jump_at e i h (le_or_lt (length t) i))

  jumps_refused : {code place : ℕ} → jumps j κ t ≡ refusal code place → jumps j κ all ≡ refusal code place
  jumps_refused e =
      let s = collect-refuses (length t) (λ i. jump j κ (row t i)) e in
      let c = collect_inverts s.index (λ i. jump j κ (row t i)) s.before in
      collect_stops (length all) s.index (λ i. jump j κ (row all i)) (entry s.collected) (omega (arith, s.below, size))
      (λ k h. ap (jump j κ) (row_before k (omega (arith, s.below))) ∙ c.at k h (int (pos 0)))
      (ap (jump j κ) (row_before s.index s.below) ∙ s.refuses)

  pub same_entries : (js : List ℚ) → length js ≡ length t → (i : ℕ) → entry (longer js) i ≡ entry js i
  same_entries js n i = go (le_or_lt (length all) i)
    where
      go : (length all ≤ i) ⊎ (i < length all) → entry (longer js) i ≡ entry js i
      go (inl h) = entry_past (longer js) i (omega (arith, tab_length (length all) (entry js))) ∙ sym (entry_past js i (omega (arith, size)))
      go (inr h) = tab_get_d (length all) (entry js) i (int (pos 0)) h

  -- the new rows, and the table with one row less
  new-rows : (g : Span) (ws : List ℚ) → g.l < length t → new_rows j g ws all ≡ new_rows j g ws t
  unfolding new_rows
  new-rows g ws h = collect_ext (g.l - g.f) (λ d k. ap₂ (new_row j (entry ws d) (entry ws (suc d))) (row_before (g.f + d) (omega arith)) (row_before (g.f + suc d) (omega arith)))

  pub renewed_all : (g : Span) (ws : List ℚ) → g.f ≤ g.l → g.l < length t → rows_renewed j g ws all ≡ with_answer (λ u. u ++ later) (rows_renewed j g ws t)
  unfolding rows_renewed
  renewed_all g ws order below = ap (λ (o : Outcome Table). o then λ rs. answer (take g.f all ++ (rs ++ drop (suc g.l) all))) (new-rows g ws below) ∙ with_rows (new_rows j g ws t)
    where
      with_rows : (o : Outcome Table) → (o then λ rs. answer (take g.f all ++ (rs ++ drop (suc g.l) all))) ≡ with_answer (λ u. u ++ later)
          (o then λ rs. answer (take g.f t ++ (rs ++ drop (suc g.l) t)))
      with_rows (answer rs) = ap answer (spliced-within g.f g.l t later rs order below)
      with_rows (refusal code place) = refl

  -- the first half of the step, with zeros as their jumps
  abbrev pub with_zeros : Planned → Planned
  with_zeros p = record { jumps = longer p.jumps; span = p.span; factors = p.factors }

  pub planned_all : planned j κ all ≡ with_answer with_zeros (planned j κ t)
  unfolding planned plan_from plan_over
  planned_all = go (jumps j κ t) refl
    where
      rest : List ℚ → Span → Outcome Planned
      rest js g = factors j js g then λ ws. answer (record { jumps = js; span = g; factors = ws })

      go : (o : Outcome (List ℚ)) → jumps j κ t ≡ o → (jumps j κ all then λ js. span j js then rest js) ≡ with_answer with_zeros (o then λ js. span j js then rest js)
      go (refusal code place) e = then_refuses (λ js. span j js then rest js) (jumps_refused e)
      go (answer js) e =
          then_answers (λ js. span j js then rest js) (jumps_all e)
          ∙ ap (λ (o : Outcome Span). o then rest (longer js)) (span_longer j js (longer js) (omega (arith, tab_length (length all) (entry js), size, n)) (same_entries js n))
          ∙ spanned (span j js)
        where
          n : length js ≡ length t
          n = jumps_length j κ t e

          factored : (g : Span) (o : Outcome (List ℚ)) → (o then λ ws. answer (record { jumps = longer js; span = g; factors = ws })) ≡ with_answer with_zeros
              (o then λ ws. answer (record { jumps = js; span = g; factors = ws }))
          factored g (answer ws) = refl
          factored g (refusal code place) = refl

          spanned : (o : Outcome Span) → (o then rest (longer js)) ≡ with_answer with_zeros (o then rest js)
          spanned (refusal code place) = refl
          spanned (answer g) =
              ap (λ (o : Outcome (List ℚ)). o then λ ws. answer (record { jumps = longer js; span = g; factors = ws }))
              (factors_longer j js (longer js) (omega (arith, tab_length (length all) (entry js), size, n)) (same_entries js n) g)
              ∙ factored g (factors j js g)

  -- what follows the first half
  pub then_all : {B C : Type 0} (rest : Planned → Outcome C) (rest' : Planned → Outcome B) (h : B → C) → ((p : Planned) → Works j κ t p → rest (with_zeros p) ≡ with_answer h (rest' p))
      → (planned j κ all then rest) ≡ with_answer h (planned j κ t then rest')
  then_all {B} {C} rest rest' h same = ap (λ (o : Outcome Planned). o then rest) planned_all ∙ go (planned j κ t) refl
    where
      go : (o : Outcome Planned) → planned j κ t ≡ o → (with_answer with_zeros o then rest) ≡ with_answer h (o then rest')
      go (answer p) e = same p (plan_works j κ t e)
      go (refusal code place) e = refl

  pub step_all : step j κ all ≡ with_answer (λ u. u ++ later) (step j κ t)
  step_all =
      step-planned j κ all
      ∙ then_all (λ p. rows_renewed j p.span p.factors all) (λ p. rows_renewed j p.span p.factors t) (λ u. u ++ later)
      (λ p w. renewed_all p.span p.factors w.spans.ordered (omega (arith, w.spans.below, w.count)))
      ∙ ap (with_answer (λ u. u ++ later)) (sym (step-planned j κ t))

-- ---- a row whose entries under the conditions are zero
pub jump_idle : (j : ℕ) (κ : List Entry) (r : Row) → ((i : ℕ) → i < length κ → entry r (column_of κ i) ≡ int (pos 0)) → jump j κ r ≡ answer (int (pos 0))
jump_idle j [] r h = products_none j r (int (pos 0))
jump_idle j (e ∷ es) r h = products_more j r (int (pos 0)) e es nothing ∙ jump_idle j es r (λ i l. h (suc i) (omega arith))
  where
    zero-fits : count j (int (pos 0)) ≡ answer (int (pos 0))
    zero-fits = count_fits j (int (pos 0)) (int-fits (pos 0) (omega arith))

    nothing : (count j (entry r e.column *ᵠ int e.condition) then λ p. count j (int (pos 0) +ᵠ p)) ≡ answer (int (pos 0))
    nothing =
        then_answers (λ p. count j (int (pos 0) +ᵠ p)) (ap (λ q. count j (q *ᵠ int e.condition)) (h 0 (omega arith)) ∙ ap (count j) (zero-mul (int e.condition)) ∙ zero-fits)
        ∙ ap (count j) (add-zero (int (pos 0)))
        ∙ zero-fits

-- ---- all orders of a join
pub orders_all : (s : Space) (j n : ℕ) (t later : Table) → ((k : ℕ) → k < n → (i : ℕ) → i < length later → jump j (conditions s j k) (row later i) ≡ answer (int (pos 0)))
    → order_steps s j n (t ++ later) ≡ with_answer (λ u. u ++ later) (order_steps s j n t)
unfolding order_steps
orders_all s j n t later h = repeat_through (λ k u. Unit {0}) n (λ k. step j (conditions s j k)) (λ u. u ++ later) t tt (λ k u v l p e. tt) (λ k u l p. step_all j (conditions s j k) u later (h k l))

-- ---- the rows of the identity past both segments of a join

-- every condition's column is before them
column_low : (s : Space) (j k e : ℕ) → k < degree s j → k < degree s (suc j) → e < length (conditions s j k) → column_of (conditions s j k) e < first_column s (suc (suc j))
column_low s j k e left right h = go (le_or_lt e k)
  where
    go : (e ≤ k) ⊎ (k < e) → column_of (conditions s j k) e < first_column s (suc (suc j))
    go (inl l) = omega (arith, column-left s j k e l, first-column-next s j, first-column-next s (suc j))
    go (inr l) = omega (arith, column-right s j k e l (omega (arith, conditions_length s j k)), first-column-next s (suc j), conditions_length s j k)

pub row-idle : (s : Space) (j k columns i : ℕ) → k < degree s j → k < degree s (suc j)
    → jump j (conditions s j k) (row (drop (first_column s (suc (suc j))) (identity columns)) i) ≡ answer (int (pos 0))
row-idle s j k columns i left right = jump_idle j (conditions s j k) (row (drop c (identity columns)) i)
    (λ e h. ap (λ r. entry r (column_of (conditions s j k) e)) (get_or-drop c (identity columns) i [])
    ∙ identity_off columns (c + i) (column_of (conditions s j k) e) (λ z. omega (arith, column_low s j k e left right h)))
  where
    c : ℕ
    c = first_column s (suc (suc j))
