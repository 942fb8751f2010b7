-- An accepted space has weight on every segment, proved: the weights in a segment's first column sum to one.
use mathlib.Core.Path.{sym, ◌∙◌, ap}
use mathlib.Core.Option.{some, get_or}
use Prim.Native.Nat.{◌+◌}
use native.Mathlib.Omega.{arith}
use lib.IntN.{pos}
use lib.ListN.{length}
use Rattle.spec_spline.specs.Space.{first_column}
use Rattle.spec_spline.specs.Reading.{coefficient, has_weight}
use Rattle.spec_spline.specs.ExactCurve.{weighs_on, least_on, greatest_on}
use Rattle.theorems_values.specs.SegmentWeights.{EverySegmentHasWeight, LeastOnIsLeast, GreatestOnIsGreatest}
use Rattle.theorems_values.proofs.Extremum.{least_exists, greatest_exists}
use Rattle.theorems_values.proofs.Weights.{accepted-column, some_weight, how_many_some}
use Rattle.theorems_values.proofs.OnSegment.{weighs_in_column}
use Rattle.theorems_values.proofs.Value.{segment-column}

pub every_segment_has_weight : EverySegmentHasWeight
every_segment_has_weight s a j h =
    let c = first_column s j + 0 in
    let w = how_many_some (length a.table) (has_weight a.table c) (some_weight a.table c (accepted-column s a c (segment-column s j 0 h (omega arith)))) in
    record { row = w.index; below = w.below; weighs = weighs_in_column s a.table j 0 w.index (omega arith) w.passes }

pub least_on_is_least : LeastOnIsLeast
unfolding least_on
least_on_is_least s a wood coefs j h =
    let w = every_segment_has_weight s a j h in
    let e = least_exists (weighs_on s a.table j) (coefficient wood coefs) (length a.table) w.row w.below w.weighs in
    e.found ∙ sym (ap (λ o. some (get_or o (pos 0))) e.found)

pub greatest_on_is_greatest : GreatestOnIsGreatest
unfolding greatest_on
greatest_on_is_greatest s a wood coefs j h =
    let w = every_segment_has_weight s a j h in
    let e = greatest_exists (weighs_on s a.table j) (coefficient wood coefs) (length a.table) w.row w.below w.weighs in
    e.found ∙ sym (ap (λ o. some (get_or o (pos 0))) e.found)
