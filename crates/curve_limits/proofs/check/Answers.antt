-- The lengths, the number of positions, the lists, and then the entries.
use Rattle.std.proofs.Common.{◌∙◌, sym, ap, arith}
use Rattle.std.proofs.lemmas.Result.{err_from_is_err_and}
use Rattle.base_outcome.specs.Outcome.{answer}
use Rattle.base_outcome.specs.Machine.{passed}
use Rattle.base_outcome.proofs.Machine.{refused_on, refusal_passed, passed_refuses}
use Rattle.base_outcome.proofs.Outcome.{then_answers, then_refuses}
use Rattle.spec_spline.specs.Space.{Space}
use Rattle.spec_spline.specs.CurveCall.{legal_entries}
use Rattle.build_space.specs.Machine.{space}
use Rattle.build_space.proofs.Legal.{passed_legal, legal_checked}
use Rattle.curve_limits.proofs.Refused.{curve_lengths, curve_positions, curve_chain}
use Rattle.curve_limits.proofs.check.Goals as goal

pub returns-then-not-lengths_fit : goal.returns-then-not-lengths_fit
returns-then-not-lengths_fit c =
    let a = c.args in
    refusal_passed _ (curve_lengths (space a.breaks.now a.degrees.now a.orders.now) a.coefs.now a.positions.now
    (sym c.lengths_fit.ensures ∙ c.if-not-lengths_fit.true))

pub returns-then-positions-gt-POSITION_LIMIT : goal.returns-then-positions-gt-POSITION_LIMIT
returns-then-positions-gt-POSITION_LIMIT c =
    let a = c.args in
    refusal_passed _ (curve_positions (space a.breaks.now a.degrees.now a.orders.now) a.coefs.now a.positions.now
    (sym c.lengths_fit.ensures ∙ c.if-not-lengths_fit.false) (omega arith))

pub returns-in_err-check : goal.returns-in_err-check
returns-in_err-check c =
    let a = c.args in
    let s : Space = space a.breaks.now a.degrees.now a.orders.now in
    refused_on (err_from_is_err_and c.from_residual.result c.from_residual.ensures.1) _
    (curve_chain s a.coefs.now a.positions.now (sym c.lengths_fit.ensures ∙ c.if-not-lengths_fit.false) (omega arith)
    ∙ then_refuses (λ legal. legal_entries legal a.coefs.now a.positions.now (answer legal)) (passed_refuses _ c.in_err-check.ensures))

pub check_entries-requires : goal.check_entries-requires
check_entries-requires c = passed_legal _ _ _ c.in_ok-check.ensures

pub returns : goal.returns
returns c =
    let a = c.args in
    let s : Space = space a.breaks.now a.degrees.now a.orders.now in
    c.check_entries.ensures ∙ sym (ap passed
    (curve_chain s a.coefs.now a.positions.now (sym c.lengths_fit.ensures ∙ c.if-not-lengths_fit.false) (omega arith)
    ∙ then_answers (λ legal. legal_entries legal a.coefs.now a.positions.now (answer legal))
    (legal_checked _ _ _ (passed_legal a.breaks.now a.degrees.now a.orders.now c.in_ok-check.ensures))))
