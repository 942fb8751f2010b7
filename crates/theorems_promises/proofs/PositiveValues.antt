-- Positive coefficients give positive values, proved: a value is at least 256 times the least coefficient with weight on its
-- segment, and that is one of the n coefficients.
use mathlib.Core.Path.{subst}
use mathlib.Core.List.{List}
use Prim.Native.Nat.{ℕ, ◌<◌}
use native.Mathlib.Omega.{arith}
use lib.IntN.{ℤ, pos}
use lib.ListN.{get_or}
use lib.Signed.{◌≤ℤ◌, ◌<ℤ◌}
use Rattle.base_exact.proofs.Integer as Z
use Rattle.spec_spline.specs.Space.{Space, segments}
use Rattle.spec_spline.specs.Piecewise.{Accepted}
use Rattle.spec_spline.specs.Reading.{fine, segment_at, Wood, value_at}
use Rattle.spec_spline.specs.ExactCurve.{least_on}
use Rattle.theorems_weights.proofs.Built.{built, row_count_lem}
use Rattle.theorems_values.specs.ValueLimits.{InSpan}
use Rattle.theorems_values.proofs.Fine.{fine_mono}
use Rattle.theorems_values.proofs.OnSegment.{least_on_is}
use Rattle.theorems_values.proofs.Segment.{accepted-checked, located}
use Rattle.theorems_values.proofs.SegmentWeights.{every_segment_has_weight}
use Rattle.theorems_values.proofs.ValueLimits.{value_at_least-least}
use Rattle.theorems_values.proofs.Cells.{cell-holds-value, position-inside}
use Rattle.theorems_promises.specs.PositiveValues.{PositiveCoefficients, least_positive, PositiveValues, PositiveCells}

module _ (s : Space) (a : Accepted s) (wood : Wood) (coefs : List ℤ) (positive : PositiveCoefficients s wood coefs) where
  -- the least coefficient with weight on a segment is one of them
  least-positive : (j : ℕ) → j < segments s → pos 0 <ℤ least_on s a.table wood coefs j
  least-positive j h =
      let w = every_segment_has_weight s a j h in
      let b = least_on_is s a.table j wood coefs w.row w.below w.weighs in
      subst (λ z. pos 0 <ℤ z) b.is (positive b.index (omega (arith, b.below, row_count_lem s a.table (built s a.table a.is))))

  value_positive : (x : ℤ) → InSpan s x → least_positive ≤ℤ value_at s a.table wood coefs x
  value_positive x inside =
      let l = least_on s a.table wood coefs (segment_at s x) in
      let at = located s (accepted-checked s a).1 x inside in
      Z.≤_trans least_positive (fine l) (value_at s a.table wood coefs x)
      (fine_mono (pos 1) l (Z.≤_in (pos 1) l (omega (arith, Z.<_out (pos 0) l (least-positive (segment_at s x) at.below)))))
      (value_at_least-least s a wood coefs x inside)

pub positive_values : PositiveValues
positive_values s a wood coefs positive x inside = value_positive s a wood coefs positive x inside

pub positive_cells : PositiveCells
positive_cells s coefs positions num_length den_length values_length l before wood positive k h =
    rw (cell-holds-value l before k h wood)
    (value_positive s l.accepted wood coefs positive (get_or positions k (pos 0)) (position-inside s positions k (l.in_span k h)))
