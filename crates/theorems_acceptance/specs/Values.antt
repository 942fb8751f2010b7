-- How close every value of every accepted curve is (§ 5), in one number: s is at most three and p at most five,
-- so (s + p)/2 is at most four. Stated of the value cells after a call.
use Rattle.std.specs.Prelude.{List, ℕ, ◌+◌, ◌*◌, ◌<◌, ℤ, pos, length, get_or}
use Rattle.base_exact.specs.Rational.{int, ◌+ᵠ◌}
use Rattle.base_exact.specs.Order.{◌≤ᵠ◌}
use Rattle.spec_spline.specs.Space.{Space}
use Rattle.spec_spline.specs.Table.{Table}
use Rattle.spec_spline.specs.Reading.{Wood, wood_index}
use Rattle.spec_spline.specs.CurveCall.{curve_outcome, values_after}
use Rattle.spec_spline.specs.ExactCurve.{exact_curve, Legal}

-- Four units of a value: the largest distance from the exact curve where no order is above 1.
abbrev pub unit_limit : ℕ
unit_limit = 4

-- v is within four units of a wood part's exact curve at x, on either side.
pub record Near (s : Space) (t : Table) (wood : Wood) (coefs : List ℤ) (x v : ℤ) : Type 0 where
  pub exact_at_most : exact_curve s t wood coefs x ≤ᵠ int v +ᵠ int (pos unit_limit)
  pub at_most_exact : int v ≤ᵠ exact_curve s t wood coefs x +ᵠ int (pos unit_limit)

-- After a call within the specification's limits on an accepted space each value cell holds such a number for its position and part.
abbrev pub ValuesAreNear : Type 0
ValuesAreNear = (s : Space) (coefs positions : List ℤ) (num_length den_length values_length : ℕ)
    (l : Legal s coefs positions num_length den_length values_length) (before : List ℤ) (k : ℕ) → k < length positions → (wood : Wood)
    → Near s l.accepted.table wood coefs (get_or positions k (pos 0))
    (get_or (values_after (curve_outcome s coefs positions num_length den_length values_length) before) (2 * k + wood_index wood) (pos 0))
