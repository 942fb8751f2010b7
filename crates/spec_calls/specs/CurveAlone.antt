-- The curve call that lends no positions and no values, from which the calls of § 10 and § 11 start.
use Rattle.std.specs.Prelude.{List, [], ℕ, ℤ}
use Rattle.base_outcome.specs.Outcome.{Outcome}
use Rattle.spec_spline.specs.Space.{Space}
use Rattle.spec_spline.specs.CurveCall.{CurveResult, curve_outcome}

-- What it ends with, given the lengths of the two buffers: its weights, or one of the numbers of § 10, which § 11 has too.
abbrev pub curve_alone : Space → List ℤ → ℕ → ℕ → Outcome CurveResult
curve_alone s coefs num_length den_length = curve_outcome s coefs [] num_length den_length 0
