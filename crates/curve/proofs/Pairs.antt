-- The pairs of values from the ordinates of both wood parts, each at the front of a list of zeros.
use mathlib.Core.Path.{◌≡◌}
use mathlib.Core.List.{List, map}
use Prim.Native.Nat.{ℕ}
use lib.IntN.{ℤ}
use Rattle.spec_spline.specs.Space.{Space}
use Rattle.spec_spline.specs.Table.{Table}
use Rattle.spec_spline.specs.Reading.{earlywood, latewood, coefficient, segment_at, value_at, pair_at, values}
use Rattle.curve_start.proofs.Fronted.{fronted, blended_fronted}
use Rattle.curve.specs.Pairs.{pair_of}

pub pairs_fronted : (s : Space) (t : Table) (n : ℕ) (coefs positions : List ℤ)
    → map (pair_of s (fronted s t n (coefficient earlywood coefs)) (fronted s t n (coefficient latewood coefs))) positions
    ≡ values s t coefs positions
unfolding pair_of values pair_at value_at
pairs_fronted s t n coefs positions = λ z. map (λ x. record {
  early = blended_fronted s t n (coefficient earlywood coefs) (segment_at s x) x z;
  late = blended_fronted s t n (coefficient latewood coefs) (segment_at s x) x z;
}) positions
