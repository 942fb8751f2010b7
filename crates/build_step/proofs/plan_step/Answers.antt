-- The rows that the jumps span, then their factors; without a span the plan is refused.
use mathlib.Core.Path.{sym, ◌∙◌}
use native.Mathlib.Omega.{arith}
use Rattle.std.proofs.lemmas.Result.{err_from_is_err_and}
use Rattle.build_span.proofs.Answers.{span-rows, span_refused}
use Rattle.base_fraction.proofs.Answer.{reason_is}
use Rattle.build_factors.proofs.Answers.{spanned}
use Rattle.build_step.proofs.Plan.{plans_shapeless, plans_over}
use Rattle.build_step.proofs.plan_step.Goals as goal

pub returns-in_err-span : goal.returns-in_err-span
returns-in_err-span c qs j e size =
    let p = err_from_is_err_and c.from_residual.result c.from_residual.ensures.1 in
    let none = c.in_err-span.ensures.ok_part in
    rw (p.1, p.2, reason_is c.in_err-span.ensures.value none)
    (plans_shapeless j qs (span_refused _ (sym (c.span.ensures qs j e size) ∙ none)))

pub factors-requires : goal.factors-requires
factors-requires c =
    let js = c.requires.jumps in
    spanned 0 js.of js.is js.fit (omega (arith, js.count, c.requires.few))
    (span-rows _ c.in_ok-span.span (sym (c.span.ensures js.of 0 js.is js.count) ∙ c.in_ok-span.ensures.ok_part))

pub returns : goal.returns
returns c qs j e size =
    plans_over j qs _ (span-rows _ c.in_ok-span.span (sym (c.span.ensures qs j e size) ∙ c.in_ok-span.ensures.ok_part))
    (c.factors.ensures qs j e)
