-- The coefficients, then the positions.
use Rattle.std.proofs.Common.{◌≡◌, ◌∙◌, sym, ap, List, ℤ, []}
use Rattle.std.proofs.lemmas.Result.{err_from_is_err_and}
use Rattle.base_outcome.specs.Outcome.{Outcome, answer, ◌then◌}
use Rattle.base_outcome.specs.Machine.{passed}
use Rattle.base_outcome.proofs.Machine.{refused_on, passed_then, passed_unit}
use Rattle.base_outcome.proofs.Outcome.{then_answers, then_refuses}
use Rattle.spec_spline.specs.Space.{Space, break, segments}
use Rattle.spec_spline.specs.Reading.{fine}
use Rattle.spec_spline.specs.CurveCall.{legal_entries}
use Rattle.build_space.specs.Machine.{space}
use Rattle.curve_entries.specs.Limits.{coefficients_checked, positions_checked}
use Rattle.curve_limits.proofs.Refused.{entries-chain, coefficients_partial}
use Rattle.curve_limits.proofs.check_entries.Goals as goal

module _ (b d o coefs positions : List ℤ) where
  -- what follows the coefficients
  abbrev after : Outcome Space
  after = positions_checked positions (fine (break (space b d o) 0)) (fine (break (space b d o) (segments (space b d o)))) then λ _. answer (space b d o)

  chained : legal_entries (space b d o) coefs positions (answer (space b d o)) ≡ (coefficients_checked (space [] d o) coefs then λ _. after)
  chained = entries-chain (space b d o) coefs positions (answer (space b d o))
      ∙ ap (λ q. q then λ _. after) (sym (coefficients_partial b d o coefs))

pub returns-in_err-check_coefficients : goal.returns-in_err-check_coefficients
returns-in_err-check_coefficients c =
    let a = c.args in
    refused_on (err_from_is_err_and c.from_residual.result c.from_residual.ensures.1) _
    (chained a.breaks.now a.degrees.now a.orders.now a.coefs.now a.positions.now
    ∙ then_refuses (λ _. after a.breaks.now a.degrees.now a.orders.now a.coefs.now a.positions.now) (sym c.in_err-check_coefficients.ensures))

pub returns : goal.returns
returns c =
    let a = c.args in
    c.check_positions.ensures
    ∙ sym (passed_unit _)
    ∙ sym (ap passed (chained a.breaks.now a.degrees.now a.orders.now a.coefs.now a.positions.now
    ∙ then_answers (λ _. after a.breaks.now a.degrees.now a.orders.now a.coefs.now a.positions.now) (sym c.in_ok-check_coefficients.ensures))
    ∙ passed_then _ (λ _. space a.breaks.now a.degrees.now a.orders.now))
