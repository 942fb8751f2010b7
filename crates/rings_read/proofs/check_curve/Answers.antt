-- What the curve call without positions says, its count left out.
use Rattle.std.proofs.lemmas.Result.{err_from_is_err_and}
use Rattle.base_outcome.proofs.Machine.{refused_on}
use Rattle.rings_read.proofs.Held.{curve_refused, curve_legal}
use Rattle.rings_read.proofs.check_curve.Goals as goal

pub returns-in_err-curve : goal.returns-in_err-curve
returns-in_err-curve c =
    refused_on (err_from_is_err_and c.from_residual.result c.from_residual.ensures.1) _
    (curve_refused _ _ c.curve.result c.curve.ensures.0 c.in_err-curve.was)

pub returns : goal.returns
returns c = curve_legal _ _ c.curve.result c.curve.ensures.0 c.in_ok-curve.was
