-- The tests in the specification's order: a buffer that is too short, lists that are refused, and the build of a beam whose lists are legal.
use Rattle.std.proofs.Common.{◌≡◌, ◌∙◌, sym, ap, refl, length}
use Rattle.std.proofs.lemmas.Result.{err_from_is_err_and}
use Rattle.base_outcome.specs.Outcome.{with_answer}
use Rattle.base_outcome.proofs.Machine.{passed_on, passed_refuses}
use Rattle.spec_spline.specs.Space.{Space, checked, row_count}
use Rattle.spec_spline.specs.Build.{last_part, numerators_after, denominators_after}
use Rattle.spec_spline.proofs.Legal.{checked_codes}
use Rattle.build_space.specs.Machine.{space}
use Rattle.build_space.proofs.Legal.{passed_legal, legal_checked}
use Rattle.build.proofs.Building.{built-first-short, built-second-short, built_refused, built-weights}
use Rattle.build.proofs.Beam.{beam_unchanged}
use Rattle.build.proofs.build.Goals as goal

pub returns-then-num-lt-TABLE_CELLS : goal.returns-then-num-lt-TABLE_CELLS
returns-then-num-lt-TABLE_CELLS c =
    let a = c.args in
    let s : Space = space a.breaks.now a.degrees.now a.orders.now in
    let e = beam_unchanged s _ a.num.now a.den.now
    (built-first-short s (length a.num.now) (length a.den.now) c.if-num-lt-TABLE_CELLS.true) refl in
    (e.answers, (e.numerators_are, e.denominators_are))

pub returns-then-den-lt-TABLE_CELLS : goal.returns-then-den-lt-TABLE_CELLS
returns-then-den-lt-TABLE_CELLS c =
    let a = c.args in
    let s : Space = space a.breaks.now a.degrees.now a.orders.now in
    let e = beam_unchanged s _ a.num.now a.den.now
    (built-second-short s (length a.num.now) (length a.den.now) c.if-num-lt-TABLE_CELLS.false c.if-den-lt-TABLE_CELLS.true) refl in
    (e.answers, (e.numerators_are, e.denominators_are))

pub returns-in_err-check : goal.returns-in_err-check
returns-in_err-check c =
    let a = c.args in
    let s : Space = space a.breaks.now a.degrees.now a.orders.now in
    let r = passed_refuses (checked s) c.in_err-check.ensures in
    let e = beam_unchanged s _ a.num.now a.den.now
    (built_refused s _ _ c.if-num-lt-TABLE_CELLS.false c.if-den-lt-TABLE_CELLS.false r) (checked_codes s r) in
    (passed_on (err_from_is_err_and c.from_residual.result c.from_residual.ensures.1) ∙ e.answers, (e.numerators_are, e.denominators_are))

pub build_parts-requires : goal.build_parts-requires
build_parts-requires c = record {
  legal = passed_legal _ _ _ c.in_ok-check.ensures;
  room = record { num_long = c.if-num-lt-TABLE_CELLS.false; den_long = c.if-den-lt-TABLE_CELLS.false };
}

pub returns : goal.returns
returns c =
    let a = c.args in
    let s : Space = space a.breaks.now a.degrees.now a.orders.now in
    let w = built-weights s _ _ c.if-num-lt-TABLE_CELLS.false c.if-den-lt-TABLE_CELLS.false
    (legal_checked _ _ _ (passed_legal _ _ _ c.in_ok-check.ensures)) in (
      c.build_parts.ensures.answers ∙ ap (with_answer (λ _. row_count s)) (sym w),
      (
        c.build_parts.ensures.numerators_are ∙ ap (λ o. numerators_after (with_answer (last_part s) o) a.num.now) (sym w),
        c.build_parts.ensures.denominators_are ∙ ap (λ o. denominators_after (with_answer (last_part s) o) a.den.now) (sym w),
      ),
    )
