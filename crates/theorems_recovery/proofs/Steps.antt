-- A step that is undone keeps what the coefficients give: their combination of the rows. And code 19 comes where that combination
-- misses the step's condition.
use mathlib.Core.Path.{◌≡◌, refl, sym, ◌∙◌, ap, ap₂}
use mathlib.Core.Logic.{◌≢◌, ◌⊎◌, inl, inr}
use mathlib.Core.List.{List, ◌++◌}
use Prim.Native.Nat.{ℕ, suc, ◌+◌, ◌-◌, ◌<◌, ◌≤◌}
use native.Mathlib.Omega.{arith}
use native.Mathlib.Nat.{eq-or-lt_of_le}
use lib.IntN.{pos}
use lib.ListN.{length, take, drop}
use Rattle.base_exact.specs.Rational.{ℚ, int, ◌+ᵠ◌, ◌*ᵠ◌, ◌-ᵠ◌, ◌/ᵠ◌}
use Rattle.base_exact.specs.Sum.{sum}
use Rattle.base_exact.proofs.Rational.{mul_comm, div_mul}
use Rattle.base_exact.proofs.Sum.{sum_ext, sum_past}
use Rattle.base_outcome.specs.Outcome.{Outcome, answer, refusal, ◌then◌}
use Rattle.spec_spline.specs.Conditions.{Entry}
use Rattle.spec_spline.specs.Table.{Table, entry, cell}
use Rattle.spec_spline.specs.Step.{jumps, Span, planned, rows_renewed, step}
use Rattle.base_outcome.proofs.Outcome.{answer_unique, Chained, then_inverts, Broken, first-refuses, second-refuses, then_breaks}
use Rattle.base_outcome.proofs.Outcome.{then_answers, then_refuses, then_assoc, answer_not_refusal, RefusedAs, answer_refused, then_refused}
use Rattle.spec_spline.proofs.Refusals.{EightOrNine, step-refuses}
use Rattle.spec_spline.proofs.Stepped.{StepParts, step-parts, plan_answers, renewal_answers, step_spans, step-factors, span_below}
use Rattle.spec_spline.proofs.Splice.{spliced_length, spliced-before, spliced-inside, spliced-after}
use Rattle.spec_spline.proofs.Answers.{Spans}
use Rattle.theorems_weights.proofs.NullSpace.{Jumps, lifted, coefficient_lifts, factor_nonzero}
use Rattle.theorems_weights.proofs.Extended.{extended, extended_from, null_space}
use Rattle.theorems_weights.proofs.Stepped.{values, jumps_inverts, Stepped}
use Rattle.theorems_weights.proofs.Basis.{combined, combination_lifts}
use Rattle.spec_calls.specs.Recovery.{Combination, balanced, undone_rows, undone, recover_step}
use Rattle.theorems_recovery.proofs.Undoing.{c, undone_is, factors-agree}
use Rattle.theorems_recovery.proofs.Answers.{balanced-zero, balanced_not, Undone, rows-undone, Twenty, undone-refuses_20}

-- ---- the parts of a step

module _ (j : ℕ) (κ : List Entry) (r : Combination) where
  -- The intermediate results of a step that answers: the build's own, and those of the undoing.
  pub record Parts (r' : Combination) : Type 0 where
    pub has_step : step j κ r.table ≡ answer r'.table
    pub own : StepParts j κ r.table r'.table
    pub ds : List ℚ
    pub balance : sum (length own.js) (λ i. entry r.coefficients i *ᵠ entry own.js i) ≡ int (pos 0)
    pub has_rows : undone_rows j own.ws r.coefficients own.g.f (own.g.l - own.g.f) ≡ answer ds
    pub whole : take own.g.f r.coefficients ++ (ds ++ drop (suc own.g.l) r.coefficients) ≡ r'.coefficients

  -- what is left once the build has done its step
  abbrev pub undoing : Table → List ℚ → Span → List ℚ → Outcome Combination
  undoing t js g ws = balanced j js r.coefficients then λ _. undone j g ws r.coefficients then λ ds. answer (record { table = t; coefficients = ds })

  pub recover_done : {t : Table} → step j κ r.table ≡ answer t → (p : StepParts j κ r.table t) → recover_step j κ r ≡ undoing t p.js p.g p.ws
  unfolding recover_step
  recover_done {t} e p =
      then_answers _ (plan_answers p) ∙ then_answers _ (renewal_answers p)
      ∙ then_assoc (balanced j p.js r.coefficients) (λ _. undone j p.g p.ws r.coefficients) (λ ds. answer (record { table = t; coefficients = ds }))

  -- where the build refuses its step, so does this one
  recover_refused : {code place : ℕ} → step j κ r.table ≡ refusal code place → recover_step j κ r ≡ refusal code place
  unfolding step recover_step
  recover_refused {code} {place} h = go (then_breaks (planned j κ r.table) (λ p. rows_renewed j p.span p.factors r.table) h)
    where
      go : Broken (planned j κ r.table) (λ p. rows_renewed j p.span p.factors r.table) code place → recover_step j κ r ≡ refusal code place
      go (first-refuses q) = then_refuses _ q
      go (second-refuses p q k) = then_answers _ q ∙ then_refuses _ k

  -- a refusal is the build's, or one of the zero test and the undoing
  pub data RefusedIn (code place : ℕ) : Type 0 where
    in_step : step j κ r.table ≡ refusal code place → RefusedIn code place
    in_undoing : {t : Table} (p : StepParts j κ r.table t) → undoing t p.js p.g p.ws ≡ refusal code place → RefusedIn code place

  pub refused_in : {code place : ℕ} → recover_step j κ r ≡ refusal code place → RefusedIn code place
  refused_in {code} {place} e = go (step j κ r.table) refl
    where
      go : (o : Outcome Table) → step j κ r.table ≡ o → RefusedIn code place
      go (answer t) h = let p = step-parts j κ r.table h in in_undoing p (sym (recover_done h p) ∙ e)
      go (refusal c q) h = in_step (h ∙ ap (λ (o : Outcome Combination). o then λ x. answer x.table) (sym (recover_refused h) ∙ e))

  -- ---- a step that answers
  module _ (r' : Combination) where
    module _ (t : Table) (js : List ℚ) (g : Span) (ws : List ℚ) (e : undoing t js g ws ≡ answer r') where
      with_coefficients : List ℚ → Outcome Combination
      with_coefficients ds = answer (record { table = t; coefficients = ds })

      spliced : List ℚ → Outcome (List ℚ)
      spliced ds = answer (take g.f r.coefficients ++ (ds ++ drop (suc g.l) r.coefficients))

      tested : Chained (balanced j js r.coefficients) (λ _. undone j g ws r.coefficients then with_coefficients) r'
      unfolding with_coefficients
      tested = then_inverts (balanced j js r.coefficients) (λ _. undone j g ws r.coefficients then with_coefficients) e

      done : Chained (undone j g ws r.coefficients) with_coefficients r'
      done = then_inverts (undone j g ws r.coefficients) with_coefficients tested.after

      answered : ◌≡◌ {A = Combination} (record { table = t; coefficients = done.middle }) r'
      unfolding with_coefficients
      answered = answer_unique refl done.after

      new-rows : Chained (undone_rows j ws r.coefficients g.f (g.l - g.f)) spliced done.middle
      unfolding undone spliced
      new-rows = then_inverts (undone_rows j ws r.coefficients g.f (g.l - g.f)) spliced done.before

      all_rows : take g.f r.coefficients ++ (new-rows.middle ++ drop (suc g.l) r.coefficients) ≡ r'.coefficients
      unfolding spliced
      all_rows = answer_unique refl new-rows.after ∙ ap (λ q. q.coefficients) answered

    -- the build's own step answers
    step_of : recover_step j κ r ≡ answer r' → step j κ r.table ≡ answer r'.table
    step_of e = go (step j κ r.table) refl
      where
        go : (o : Outcome Table) → step j κ r.table ≡ o → step j κ r.table ≡ answer r'.table
        go (answer t) h = let p = step-parts j κ r.table h in h ∙ ap (λ q. answer q.table) (answered t p.js p.g p.ws (sym (recover_done h p) ∙ e))
        go (refusal c q) h = absurd (answer_not_refusal e (recover_refused h))

    pub parts_of : recover_step j κ r ≡ answer r' → Parts r'
    parts_of e = record {
      has_step = step_of e;
      own = p;
      ds = (new-rows r'.table p.js p.g p.ws left).middle;
      balance = balanced-zero j p.js r.coefficients (tested r'.table p.js p.g p.ws left).before;
      has_rows = (new-rows r'.table p.js p.g p.ws left).before;
      whole = all_rows r'.table p.js p.g p.ws left;
    }
      where
        p : StepParts j κ r.table r'.table
        p = step-parts j κ r.table (step_of e)

        left : undoing r'.table p.js p.g p.ws ≡ answer r'
        left = sym (recover_done (step_of e) p) ∙ e

  -- ---- code 19: the jumps, and that the sum is not zero
  pub record Unbalanced : Type 0 where
    pub js : List ℚ
    pub has_jumps : jumps j κ r.table ≡ answer js
    pub not_zero : sum (length js) (λ i. entry r.coefficients i *ᵠ entry js i) ≢ int (pos 0)

  pub unbalanced : (place : ℕ) → recover_step j κ r ≡ refusal 19 place → Unbalanced
  unbalanced place e = go (refused_in e)
    where
      not_the_build's : EightOrNine j 19 place → Unbalanced
      not_the_build's h = other h.0
        where
          other : (◌≡◌ {A = ℕ} 19 8) ⊎ (◌≡◌ {A = ℕ} 19 9) → Unbalanced
          other (inl z) = absurd (omega arith)
          other (inr z) = absurd (omega arith)

      rest : Table → Span → List ℚ → Unit {0} → Outcome Combination
      rest t g ws _ = undone j g ws r.coefficients then λ ds. answer (record { table = t; coefficients = ds })

      rest_refused : (t : Table) (g : Span) (ws : List ℚ) (u : Unit {0}) → RefusedAs Twenty (rest t g ws u)
      rest_refused t g ws u =
          then_refused Twenty (undone j g ws r.coefficients) _ (undone-refuses_20 j g ws r.coefficients)
          (λ ds h. answer_refused Twenty (record { table = t; coefficients = ds }))

      in_test : (t : Table) (p : StepParts j κ r.table t) → Broken (balanced j p.js r.coefficients) (rest t p.g p.ws) 19 place → Unbalanced
      in_test t p (first-refuses q) = record { js = p.js; has_jumps = p.has_jumps; not_zero = balanced_not j p.js r.coefficients q }
      in_test t p (second-refuses u q k) = let z = rest_refused t p.g p.ws u 19 place k in absurd (omega arith)

      go : RefusedIn 19 place → Unbalanced
      go (in_step q) = not_the_build's (step-refuses j κ r.table 19 place q)
      go (in_undoing {t} p q) = in_test t p (then_breaks (balanced j p.js r.coefficients) (rest t p.g p.ws) q)

-- ---- the combination

-- with the jumps in the place of the functional's values
pub sum_of_jumps : (j : ℕ) (κ : List Entry) (t : Table) (coefficients js : List ℚ) → jumps j κ t ≡ answer js
    → sum (length t) (λ i. entry coefficients i *ᵠ values κ t i) ≡ sum (length js) (λ i. entry coefficients i *ᵠ entry js i)
sum_of_jumps j κ t coefficients js e = let J = jumps_inverts j κ t e in
    sum_ext (length t) (λ i h. ap (λ q. entry coefficients i *ᵠ q) (sym (J.1 i))) ∙ ap (λ n. sum n (λ i. entry coefficients i *ᵠ entry js i)) (sym J.0)

-- one number less
pub numbers-less : {j : ℕ} {κ : List Entry} {r r' : Combination} → length r.coefficients ≡ length r.table → Parts j κ r r'
    → suc (length r'.coefficients) ≡ length r.coefficients
numbers-less {j} {r = r} count P =
    ap (λ u. suc (length u)) (sym P.whole)
    ∙ ap suc
    (spliced_length r.coefficients P.ds P.own.g.f (suc P.own.g.l) (omega (arith, s.ordered, span_below P.own, count)))
    ∙ omega (
      arith,
      s.ordered,
      span_below P.own,
      count,
      (rows-undone j P.own.ws r.coefficients P.own.g.f (P.own.g.l - P.own.g.f) P.has_rows).size,
    )
  where
    s : Spans P.own.js P.own.g.f P.own.g.l
    s = step_spans P.own

module _ (width j : ℕ) (κ : List Entry) (r r' : Combination) (count : length r.coefficients ≡ length r.table)
    (S : Stepped κ width r.table r'.table) (P : Parts j κ r r') where
  abbrev f : ℕ
  f = P.own.g.f

  abbrev l : ℕ
  l = P.own.g.l

  abbrev old : ℕ → ℚ
  old = entry r.coefficients

  abbrev new : ℕ → ℚ
  new = entry r'.coefficients

  -- the functional's values on the rows
  abbrev J : ℕ → ℚ
  J = values κ r.table

  zero-sum : sum (length r.table) J ≡ int (pos 0)
  zero-sum = sum_past (suc S.l) (length r.table) J S.null.below (λ i h k. (S.null.after i h).0) ∙ S.null.whole

  -- the factors of all rows, from the list of those that were worked out
  w : ℕ → ℚ
  w = extended P.own.ws f

  null : Jumps (length r.table) f l J w
  unfolding w
  null =
      null_space P.own.js P.own.ws f l (length r.table) J (jumps_inverts j κ r.table P.own.has_jumps).1 (span_below P.own)
      (step_spans P.own) (step-factors P.own) zero-sum

  annihilated : sum (length r.table) (λ i. old i *ᵠ J i) ≡ int (pos 0)
  annihilated = sum_of_jumps j κ r.table r.coefficients P.own.js P.own.has_jumps ∙ P.balance

  rows : Undone j P.own.ws r.coefficients f (l - f) P.ds
  rows = rows-undone j P.own.ws r.coefficients f (l - f) P.has_rows

  within : f ≤ length r.coefficients
  within = omega (arith, null.ordered, null.below, count)

  -- ---- the new coefficients, row by row

  pub coefficients_count : length r'.coefficients ≡ length r'.table
  coefficients_count = omega (arith, numbers-less count P, count, S.rows)

  at : (i : ℕ) (q : ℚ) → entry (take f r.coefficients ++ (P.ds ++ drop (suc l) r.coefficients)) i ≡ q → new i ≡ q
  at i q e = ap (λ u. entry u i) (sym P.whole) ∙ e

  before : (i : ℕ) → i < f → new i ≡ old i
  before i h = at i (old i) (spliced-before r.coefficients P.ds f (suc l) within i (int (pos 0)) h)

  inside : (i : ℕ) → f ≤ i → i < l → new i ≡ entry P.ds (i - f)
  inside i h k = at i (entry P.ds (i - f)) (spliced-inside r.coefficients P.ds f (suc l) within i (int (pos 0)) h (omega (arith, rows.size)))

  high : (i : ℕ) → l ≤ i → new i ≡ old (suc i)
  high i h =
      let o = null.ordered in
      at i (old (suc i)) (spliced-after r.coefficients P.ds f (suc l) within i (suc i) (int (pos 0)) (omega (arith, rows.size))
      (omega (arith, rows.size)))

  low : (i : ℕ) → i ≤ f → new i ≡ old i
  low i h = let o = null.ordered in go o (eq-or-lt_of_le h)
    where
      go : f < l → (i ≡ f) ⊎ (i < f) → new i ≡ old i
      go o (inl e) = inside i (omega arith) (omega arith) ∙ ap (entry P.ds) (let z : i - f ≡ 0 = omega arith in z) ∙ rows.at_first (omega arith)
          ∙ ap old (sym e)
      go o (inr k) = before i k

  next : (i : ℕ) → f ≤ i → suc i < l → w (suc i) *ᵠ new (suc i) ≡ old (suc i) -ᵠ (int (pos 1) -ᵠ w (suc i)) *ᵠ new i
  unfolding w
  next i h k =
      ap (λ q. w (suc i) *ᵠ q) quotient ∙ mul_comm _ _
      ∙ div_mul (old (suc i) -ᵠ (int (pos 1) -ᵠ w (suc i)) *ᵠ new i) (w (suc i)) (factor_nonzero null (suc i) k)
    where
      factor_is : entry P.own.ws (suc (i - f)) ≡ w (suc i)
      factor_is = ap (entry P.own.ws) (let z : suc (i - f) ≡ suc i - f = omega arith in z) ∙ sym (extended_from P.own.ws f (suc i) (omega arith))

      quotient : new (suc i) ≡ (old (suc i) -ᵠ (int (pos 1) -ᵠ w (suc i)) *ᵠ new i) /ᵠ w (suc i)
      quotient =
          inside (suc i) (omega arith) k ∙ ap (entry P.ds) (let z : suc i - f ≡ suc (i - f) = omega arith in z) ∙ rows.next (i - f) (omega arith)
          ∙ ap₂ (λ u v. (old (f + suc (i - f)) -ᵠ (int (pos 1) -ᵠ u) *ᵠ v) /ᵠ u) factor_is (sym (inside i h (omega arith)))
          ∙ ap (λ n. (old n -ᵠ (int (pos 1) -ᵠ w (suc i)) *ᵠ new i) /ᵠ w (suc i)) (let z : f + suc (i - f) ≡ suc i = omega arith in z)

  -- ---- what they give is what the old coefficients gave

  abbrev lifting : ℕ → ℚ
  lifting = c null old annihilated new low next high

  same_lifted : (i : ℕ) → i < length r.table → lifted S.w lifting i ≡ old i
  unfolding lifted
  same_lifted i h =
      ap (λ q. q *ᵠ lifting (suc i) +ᵠ (int (pos 1) -ᵠ q) *ᵠ lifting i) (factors-agree S.null null i h)
      ∙ coefficient_lifts null old annihilated i h

  pub combination-kept : (col : ℕ) → combined new r'.table col ≡ combined old r.table col
  combination-kept col =
      sum_ext (length r'.table)
      (λ i h. ap (λ q. q *ᵠ cell r'.table i col) (sym (undone_is null old annihilated new low next high i (omega (arith, S.rows)))))
      ∙ combination_lifts width κ r.table r'.table S lifting col
      ∙ sum_ext (length r.table) (λ i h. ap (λ q. q *ᵠ cell r.table i col) (same_lifted i h))
