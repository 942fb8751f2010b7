-- The refusal of ordinates that are too few, too many or out of range.
use Rattle.std.specs.Prelude.{List, ℤ}
use Rattle.base_outcome.specs.Outcome.{Outcome, answer}
use Rattle.spec_spline.specs.Space.{Space}
use Rattle.spec_calls.specs.RecoveryCall.{legal_ordinates}

-- Code 18 of a legal space, by itself.
unfoldable pub ordinates_checked : Space → List ℤ → Outcome (Unit {0})
ordinates_checked s ordinates = legal_ordinates s ordinates (answer tt)
