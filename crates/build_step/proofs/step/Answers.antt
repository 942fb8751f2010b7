-- The jumps, the first half of a step and, where it is answered, the second.
use mathlib.Core.Path.{sym, ◌∙◌, ap, subst}
use native.Mathlib.Omega.{arith}
use Rattle.std.proofs.lemmas.Result.{err_from_is_err_and}
use Rattle.spec_spline.specs.Step.{Span, rows_renewed}
use Rattle.spec_spline.proofs.Answers.{jumps_length, jumps_fit}
use Rattle.build_jumps.proofs.Answers.{jumps_in_arrays, jumps_refused}
use Rattle.base_fraction.proofs.Answer.{reason_is}
use Rattle.build_rows.specs.Rows.{UnitFactors}
use Rattle.build_cells.specs.Left.{LeavesIf}
use Rattle.build_step.proofs.Plan.{unplanned, plan_ready, plan_ended}
use Rattle.build_step.proofs.Leaving.{step-ended, step_renewed}
use Rattle.build_step.proofs.step.Goals as goal

pub returns-in_err-js : goal.returns-in_err-js
returns-in_err-js c s j t is h shaped =
    let p = err_from_is_err_and c.from_residual.result c.from_residual.ensures.1 in
    let none = c.in_err-js.ensures.ok_part in
    rw (p.1, p.2, reason_is c.in_err-js.ensures.value none)
    (step-ended j _ t _ _ (unplanned j _ t (jumps_refused _ (sym none ∙ c.jumps.ensures s j t is h shaped.row_count_lem))))

pub plan_step-requires : goal.plan_step-requires
plan_step-requires c =
    let i = c.requires.fits in
    let k = c.requires.held in
    let js = jumps_in_arrays _ c.in_ok-js.js
    (sym c.in_ok-js.ensures.ok_part ∙ c.jumps.ensures i.space i.index k.table i.is k.holds k.shaped.row_count_lem) in
    record {
      few = k.shaped.rows_fit;
      jumps = record {
        of = js.of;
        is = js.is;
        fit = jumps_fit i.index _ k.table js.answers;
        count =
            jumps_length i.index _ k.table js.answers ∙ k.shaped.row_count_lem;
      };
    }

pub returns-in_err-plan : goal.returns-in_err-plan
returns-in_err-plan c s j t is h shaped =
    let p = err_from_is_err_and c.from_residual-in_err-plan.result c.from_residual-in_err-plan.ensures.1 in
    let js = jumps_in_arrays _ c.in_ok-js.js (sym c.in_ok-js.ensures.ok_part ∙ c.jumps.ensures s j t is h shaped.row_count_lem) in
    let plans = c.in_err-plan.ensures js.of j js.is (jumps_length j _ t js.answers ∙ shaped.row_count_lem) in
    rw (p.1, p.2) (step-ended j _ t _ _ (plan_ended j _ t js.answers _ plans))

pub renew_rows-requires : goal.renew_rows-requires
renew_rows-requires c =
    let i = c.requires.fits in
    let k = c.requires.held in
    let js = jumps_in_arrays _ c.in_ok-js.js
    (sym c.in_ok-js.ensures.ok_part ∙ c.jumps.ensures i.space i.index k.table i.is k.holds k.shaped.row_count_lem) in
    let plans = c.in_ok-plan.ensures js.of i.index js.is (jumps_length i.index _ k.table js.answers ∙ k.shaped.row_count_lem) in
    let r = plan_ready i.index _ k.table js.answers c.in_ok-plan.plan plans in
    let f = ap (λ (x : Span). x.f) r.span_is in
    let l = ap (λ (x : Span). x.l) r.span_is in
    record {
      ordered = omega (arith, f, l, r.works.spans.ordered);
      below = omega (arith, l, r.works.spans.below, r.works.count, k.shaped.row_count_lem);
      held = k;
      unit = subst UnitFactors (sym r.factors_are) r.works.unit;
    }

pub returns : goal.returns
returns c s j t is h shaped =
    let js = jumps_in_arrays _ c.in_ok-js.js (sym c.in_ok-js.ensures.ok_part ∙ c.jumps.ensures s j t is h shaped.row_count_lem) in
    let plans = c.in_ok-plan.ensures js.of j js.is (jumps_length j _ t js.answers ∙ shaped.row_count_lem) in
    let r = plan_ready j _ t js.answers c.in_ok-plan.plan plans in
    let left = subst (λ (x : Span). LeavesIf
    (rows_renewed j x r.of.factors t) c.renew_rows.result c.args.num.now c.args.den.now c.renew_rows.new.num c.renew_rows.new.den)
    r.span_is (c.renew_rows.ensures t j r.of.factors h shaped r.factors_are) in
    rw c.ok_or-2.ensures.value (step_renewed j _ t r.answers _ _ _ _ c.renew_rows.result left)
