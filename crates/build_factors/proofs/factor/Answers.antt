-- The partial sum is counted, then the quotient, and then the quotient is tested: each end is the definition's.
use mathlib.Core.Path.{◌≡◌, refl, sym, ◌∙◌, ap}
use Rattle.std.proofs.lemmas.Result.{err_from_is_err_and}
use Rattle.std.specs.Prelude.{Option, Err}
use Rattle.base_exact.specs.Rational.{ℚ, ◌+ᵠ◌, ◌/ᵠ◌}
use Rattle.base_fraction.specs.Size as size
use Rattle.base_fraction.specs.Machine as machine
use Rattle.base_fraction.specs.declared.Fraction.{Fraction}
use Rattle.base_fraction.specs.Machine.{value}
use Rattle.base_fraction.proofs.Answer.{reason_is, Kept, kept, not_kept}
use Rattle.spec_spline.specs.Step.{quotient_factor}
use Rattle.spec_spline.proofs.Step.{factor-sum_large, factor_large, factor-outside, factor-inside}
use Rattle.build_factors.specs.Machine.{refusal_of}
use Rattle.build_factors.specs.Jumps.{between}
use Rattle.build_factors.specs.declared.StepRefusal.TheVariants as refusals
use Rattle.build_factors.proofs.Quotients.{next_refused, next_answered}
use Rattle.build_factors.proofs.factor.Goals as goal

-- the quotient, from the sum that was kept
quotient_is : {s : ℚ} {f : Fraction} (q : ℚ) {o : Option Fraction} → Kept s f → o ≡ machine.answer (size.count (value f /ᵠ q))
    → o ≡ machine.answer (size.count (s /ᵠ q))
quotient_is q k e = e ∙ ap (λ s. machine.answer (size.count (s /ᵠ q))) k.value_is

pub returns-in_err-sum : goal.returns-in_err-sum
unfolding refusal_of
returns-in_err-sum c j =
    let p = err_from_is_err_and c.from_residual.result c.from_residual.ensures.1 in
    let total = value c.args.before +ᵠ value c.args.jump in
    let none = c.in_err-sum.ensures.ok_part in
    p.1
    ∙ ap Err (p.2 ∙ reason_is c.in_err-sum.ensures.value none)
    ∙ next_refused total _ refusals.TooLarge
    (factor-sum_large j total (value c.args.jump) (not_kept total (sym c.sum.ensures ∙ none))) refl

pub quotient-requires : goal.quotient-requires
quotient-requires c = record {
  first = (kept _ c.in_ok-sum.sum (sym c.sum.ensures ∙ c.in_ok-sum.ensures.ok_part)).fitted;
  second = c.requires.jump_fits;
  divisor_nonzero = c.requires.jump_nonzero;
}

pub returns-in_err-w : goal.returns-in_err-w
unfolding refusal_of
returns-in_err-w c j =
    let p = err_from_is_err_and c.from_residual-in_err-w.result c.from_residual-in_err-w.ensures.1 in
    let total = value c.args.before +ᵠ value c.args.jump in
    let none = c.in_err-w.ensures.ok_part in
    let k = kept total c.in_ok-sum.sum (sym c.sum.ensures ∙ c.in_ok-sum.ensures.ok_part) in
    p.1
    ∙ ap Err (p.2 ∙ reason_is c.in_err-w.ensures.value none)
    ∙ next_refused total _ refusals.TooLarge (factor_large j total (value c.args.jump) k.small
    (not_kept _ (sym (quotient_is (value c.args.jump) k c.quotient.ensures) ∙ none))) refl

pub strictly_between-requires : goal.strictly_between-requires
strictly_between-requires c = (kept _ c.in_ok-w.w (sym c.quotient.ensures ∙ c.in_ok-w.ensures.ok_part)).fitted.den_pos

pub returns-then-strictly_between : goal.returns-then-strictly_between
returns-then-strictly_between c j =
    let total = value c.args.before +ᵠ value c.args.jump in
    let k = kept total c.in_ok-sum.sum (sym c.sum.ensures ∙ c.in_ok-sum.ensures.ok_part) in
    let w = kept _ c.in_ok-w.w (sym (quotient_is (value c.args.jump) k c.quotient.ensures) ∙ c.in_ok-w.ensures.ok_part) in
    next_answered total _ (quotient_factor j total (value c.args.jump)) _ _
    (factor-inside j total (value c.args.jump) k.small w.small (sym (c.if-strictly_between.ensures ∙ ap between w.value_is)))
    k.fraction_is w.fraction_is

pub returns : goal.returns
unfolding refusal_of
returns c j =
    let total = value c.args.before +ᵠ value c.args.jump in
    let k = kept total c.in_ok-sum.sum (sym c.sum.ensures ∙ c.in_ok-sum.ensures.ok_part) in
    let w = kept _ c.in_ok-w.w (sym (quotient_is (value c.args.jump) k c.quotient.ensures) ∙ c.in_ok-w.ensures.ok_part) in
    next_refused total _ refusals.Shape
    (factor-outside j total (value c.args.jump) k.small w.small (sym (c.if-strictly_between.ensures ∙ ap between w.value_is))) refl
