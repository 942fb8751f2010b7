-- The jumps and the two halves of the build's step, then its undoing.
use borrow.Author.Rules.{rules}
use mathlib.Core.Path.{◌≡◌, refl, sym, ◌∙◌, ap, subst}
use mathlib.Core.List.{List}
use Prim.Native.Nat.{ℕ, ◌-◌, ◌<◌}
use native.Mathlib.Omega.{arith}
use lib.IntN.{ℤ}
use Rattle.std.proofs.lemmas.Result.{err_from_is_err_and}
use Rattle.std.specs.Prelude.{Option, Some, None, Result, Ok, Err}
use Rattle.std.specs.Result.{MatchResult, IsErrAnd}
use Rattle.base_exact.specs.Rational.{ℚ}
use Rattle.base_fraction.specs.Fractions.{fractions}
use Rattle.base_fraction.specs.declared.arrays.Fractions.{Fractions}
use Rattle.base_fraction.proofs.Answer.{reason_is}
use Rattle.base_outcome.specs.Outcome.{answer}
use Rattle.base_outcome.proofs.Outcome.{answer_unique, then_refuses}
use Rattle.spec_spline.specs.Conditions.{Entry}
use Rattle.spec_spline.specs.Table.{Table}
use Rattle.spec_spline.specs.Step.{Span, jumps, plan_from, planned, rows_renewed}
use Rattle.spec_spline.proofs.Answers.{jumps_length, jumps_fit}
use Rattle.spec_spline.proofs.Refusals.{step-refuses}
use Rattle.build_cells.specs.Held.{Shaped}
use Rattle.build_cells.specs.Left.{LeavesIf}
use Rattle.build_cells.proofs.Left.{kept_same}
use Rattle.build_jumps.proofs.Answers.{jumps_in_arrays, jumps_refused}
use Rattle.build_factors.specs.Machine.{code_of, Plans}
use Rattle.build_factors.specs.declared.RowFactors.{RowFactors}
use Rattle.build_factors.specs.declared.StepRefusal.{StepRefusal}
use Rattle.build_factors.proofs.Answers.{code_named}
use Rattle.build_factors.proofs.Quotients.{Ended}
use Rattle.build_rows.specs.Rows.{UnitFactors}
use Rattle.build_step.proofs.Plan.{step-planned, unplanned, Ready, plan_ready, plan_ended}
use Rattle.recover_rows.specs.Machine.{NonZero}
use Rattle.spec_calls.specs.Recovery.{recover_step, undoing}
use Rattle.recover_joins.specs.Leaves.{coefficients_of, Leaves}
use Rattle.recover_joins.proofs.Stepped.{leaves_unplanned, leaves_unmade, leaves_made}
use Rattle.recover_joins.proofs.Undone.{factors_nonzero}
use Rattle.recover_joins.proofs.recover_step.Goals as goal

-- what `map_err` was given, by what it made of it
mapped_ok : {A E E' : Type 0} (r : Result A E) {m : Result A E'} {x : A} (Q : E → E' → Type 0)
    → MatchResult r (λ y. m ≡ Ok y) (λ e. IsErrAnd m (Q e)) → m ≡ Ok x → r ≡ Ok x
mapped_ok {A} {E} {E'} (Ok y) {x = x} Q h k = ap Ok (let z : ◌≡◌ {A = Result A E'} (Ok y) (Ok x) = sym h ∙ k in let w : y ≡ x = cc in w)
mapped_ok (Err e) Q h k = absurd (subst (λ m. IsErrAnd m (Q e)) k h)

mapped_err : {A E E' : Type 0} (r : Result A E) {m : Result A E'} {x : E'} (Q : E → E' → Type 0)
    → MatchResult r (λ y. m ≡ Ok y) (λ e. IsErrAnd m (Q e)) → m ≡ Err x → (e : E) × (r ≡ Err e) × Q e x
mapped_err (Ok y) {x = x} Q h k = absurd (let w = sym h ∙ k in let z : ◌≡◌ {A = ℕ} 0 1 = cc in omega arith)
mapped_err (Err e) {x = x} Q h k = (e, refl, subst (λ m. IsErrAnd m (Q e)) k h)

-- a first half that is refused with this name
ended : (j : ℕ) (κ : List Entry) (t : Table) (ps : List ℚ) (num den : List ℤ) {reason : StepRefusal} → Ended (planned j κ t) reason
    → Leaves (recover_step j κ (record { table = t; coefficients = ps })) (Err (code_of reason)) num den num den
ended j κ t ps num den x =
    let q = step-refuses j κ t x.code x.place (step-planned j κ t ∙ then_refuses _ x.refuses) in
    leaves_unplanned j κ t ps num den num den x.refuses (ap Err (sym (ap code_of x.named) ∙ code_named q.0)) (kept_same num)
    (kept_same den)

-- the rows and factors, and what the undoing asks of them
module _ {j rows columns : ℕ} {κ : List Entry} {t : Table} (shaped : Shaped t rows columns) {plan : RowFactors}
    (w : Ready j κ t plan) where
  f_is : plan.f ≡ w.of.span.f
  f_is = ap (λ (x : Span). x.f) w.span_is

  l_is : plan.l ≡ w.of.span.l
  l_is = ap (λ (x : Span). x.l) w.span_is

  within : w.of.span.l < rows
  within = omega (arith, w.works.spans.below, w.works.count, shaped.row_count_lem)

  unit : UnitFactors plan.of
  unit = subst UnitFactors (sym w.factors_are) w.works.unit

  nonzero : NonZero plan.of (plan.l - plan.f)
  nonzero us e d below =
      factors_nonzero j w.of.jumps w.of.span w.of.factors w.works.has_factors
      (omega (arith, within, shaped.rows_fit)) us (sym w.factors_are ∙ e) d (omega (arith, below, f_is, l_is))

  -- the jumps are those of the plan
  jumps-same : {js : Fractions} {qs : List ℚ} → js ≡ fractions qs → jumps j κ t ≡ answer qs → js ≡ fractions w.of.jumps
  jumps-same is e = is ∙ ap fractions (answer_unique e w.works.has_jumps)

  -- what the second half leaves
  renewed : {r : Option (Unit {0})} (r' : Option (Unit {0})) (num den num' den' : List ℤ) → r ≡ r'
      → LeavesIf (rows_renewed j (record { f = plan.f; l = plan.l }) w.of.factors t) r num den num' den'
      → LeavesIf (rows_renewed j w.of.span w.of.factors t) r' num den num' den'
  renewed {r} r' num den num' den' e left =
      subst (λ r. LeavesIf (rows_renewed j w.of.span w.of.factors t) r num den num' den') e
      (subst (λ (x : Span). LeavesIf (rows_renewed j x w.of.factors t) r num den num' den') w.span_is left)

pub returns-in_err-js : goal.returns-in_err-js
returns-in_err-js c s j t ps is h shaped e n =
    let p = err_from_is_err_and c.from_residual.result c.from_residual.ensures.1 in
    let none = c.in_err-js.ensures.ok_part in
    rw (p.1, p.2, reason_is c.in_err-js.ensures.value none)
    (ended j _ t ps _ _ (unplanned j _ t (jumps_refused _ (sym none ∙ c.jumps.ensures s j t is h shaped.row_count_lem))))

pub plan_step-requires : goal.plan_step-requires
plan_step-requires c =
    let i = c.requires.fits in
    let k = c.requires.held in
    let js = jumps_in_arrays _ c.in_ok-js.js
    (sym c.in_ok-js.ensures.ok_part ∙ c.jumps.ensures i.space i.index k.table i.is k.holds k.shaped.row_count_lem) in
    record {
      few = k.shaped.rows_fit;
      jumps = record {
        of = js.of;
        is = js.is;
        fit = jumps_fit i.index _ k.table js.answers;
        count =
            jumps_length i.index _ k.table js.answers ∙ k.shaped.row_count_lem;
      };
    }

pub returns-in_err-plan : goal.returns-in_err-plan
returns-in_err-plan c s j t ps is h shaped e n =
    let p = err_from_is_err_and c.from_residual-in_err-plan.result c.from_residual-in_err-plan.ensures.1 in
    let js = jumps_in_arrays _ c.in_ok-js.js
    (sym c.in_ok-js.ensures.ok_part ∙ c.jumps.ensures s j t is h shaped.row_count_lem) in
    let m = mapped_err c.plan_step.result _ c.map_err.ensures.cases c.in_err-plan.was in
    let code : c.in_err-plan.field-0.0 ≡ code_of m.0 = let z = m.2 in search rules in
    let plans = subst (λ r. Plans (plan_from j js.of) r) m.1
    (c.plan_step.ensures js.of j js.is (jumps_length j _ t js.answers ∙ shaped.row_count_lem)) in
    rw (p.1, p.2, code) (ended j _ t ps _ _ (plan_ended j _ t js.answers m.0 plans))

pub renew_rows-requires : goal.renew_rows-requires
renew_rows-requires c =
    let i = c.requires.fits in
    let k = c.requires.held in
    let js = jumps_in_arrays _ c.in_ok-js.js
    (sym c.in_ok-js.ensures.ok_part ∙ c.jumps.ensures i.space i.index k.table i.is k.holds k.shaped.row_count_lem) in
    let plans = subst (λ r. Plans (plan_from i.index js.of) r)
    (mapped_ok c.plan_step.result _ c.map_err.ensures.cases c.in_ok-plan.was)
    (c.plan_step.ensures js.of i.index js.is (jumps_length i.index _ k.table js.answers ∙ k.shaped.row_count_lem)) in
    let w = plan_ready i.index _ k.table js.answers c.in_ok-plan.plan plans in
    record {
      ordered = omega (arith, f_is k.shaped w, l_is k.shaped w, w.works.spans.ordered);
      below = omega (arith, l_is k.shaped w, within k.shaped w);
      held = k;
      unit = unit k.shaped w;
    }

pub returns-in_err-ok_or : goal.returns-in_err-ok_or
returns-in_err-ok_or c s j t ps is h shaped e n =
    let p = err_from_is_err_and c.from_residual-in_err-ok_or.result c.from_residual-in_err-ok_or.ensures.1 in
    let none = c.in_err-ok_or.ensures.ok_part in
    let js = jumps_in_arrays _ c.in_ok-js.js (sym c.in_ok-js.ensures.ok_part ∙ c.jumps.ensures s j t is h shaped.row_count_lem) in
    let plans = subst (λ r. Plans (plan_from j js.of) r)
    (mapped_ok c.plan_step.result _ c.map_err.ensures.cases c.in_ok-plan.was)
    (c.plan_step.ensures js.of j js.is (jumps_length j _ t js.answers ∙ shaped.row_count_lem)) in
    let w = plan_ready j _ t js.answers c.in_ok-plan.plan plans in
    rw (p.1, p.2, reason_is c.in_err-ok_or.ensures.value none)
    (leaves_unmade j _ t ps _ _ _ _ w.answers
    (renewed shaped w None _ _ _ _ none (c.renew_rows.ensures t j w.of.factors h shaped w.factors_are)))

pub undo-requires : goal.undo-requires
undo-requires c =
    let i = c.requires.fits in
    let k = c.requires.held in
    let js = jumps_in_arrays _ c.in_ok-js.js
    (sym c.in_ok-js.ensures.ok_part ∙ c.jumps.ensures i.space i.index k.table i.is k.holds k.shaped.row_count_lem) in
    let plans = subst (λ r. Plans (plan_from i.index js.of) r)
    (mapped_ok c.plan_step.result _ c.map_err.ensures.cases c.in_ok-plan.was)
    (c.plan_step.ensures js.of i.index js.is (jumps_length i.index _ k.table js.answers ∙ k.shaped.row_count_lem)) in
    let w = plan_ready i.index _ k.table js.answers c.in_ok-plan.plan plans in
    record {
      few = k.shaped.rows_fit;
      jumps = record {
        of = w.of.jumps;
        is = jumps-same k.shaped w js.is js.answers;
        fit = w.works.fit;
        long =
            omega (arith, w.works.count, k.shaped.row_count_lem);
      };
      coefficients = c.requires.coefficients;
      ordered = omega (arith, f_is k.shaped w, l_is k.shaped w, w.works.spans.ordered);
      below = omega (arith, l_is k.shaped w, within k.shaped w);
      unit = unit k.shaped w;
      nonzero = nonzero k.shaped w;
    }

pub returns : goal.returns
returns c s j t ps is h shaped e n =
    let js = jumps_in_arrays _ c.in_ok-js.js (sym c.in_ok-js.ensures.ok_part ∙ c.jumps.ensures s j t is h shaped.row_count_lem) in
    let plans = subst (λ r. Plans (plan_from j js.of) r)
    (mapped_ok c.plan_step.result _ c.map_err.ensures.cases c.in_ok-plan.was)
    (c.plan_step.ensures js.of j js.is (jumps_length j _ t js.answers ∙ shaped.row_count_lem)) in
    let w = plan_ready j _ t js.answers c.in_ok-plan.plan plans in
    leaves_made j _ t ps _ _ _ _ w.answers h.num_long h.den_long
    (renewed shaped w (Some tt) _ _ _ _ c.in_ok-ok_or.ensures.ok_part (c.renew_rows.ensures t j w.of.factors h shaped w.factors_are))
    (c.undo.ensures j w.of.jumps w.of.factors ps (jumps-same shaped w js.is js.answers) w.factors_are e
    (w.works.count ∙ shaped.row_count_lem) n
    ∙ ap (λ (x : Span). coefficients_of (undoing j (record { jumps = w.of.jumps; span = x; factors = w.of.factors }) ps)) w.span_is)
