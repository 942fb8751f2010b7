-- Equal coefficients, proved: a value lies between 256 times the least and the greatest coefficient with weight.
use mathlib.Core.Path.{sym, ◌∙◌, subst}
use native.Mathlib.Omega.{arith}
use lib.IntN.{ℤ, pos}
use lib.ListN.{get_or}
use lib.Signed.{◌≤ℤ◌}
use Rattle.base_exact.proofs.Integer as Z
use Rattle.spec_spline.specs.Reading.{fine, segment_at, value_at}
use Rattle.theorems_weights.proofs.Built.{built, row_count_lem}
use Rattle.theorems_values.proofs.OnSegment.{least_on_is, greatest_on_is}
use Rattle.theorems_values.proofs.Segment.{accepted-checked, located}
use Rattle.theorems_values.proofs.SegmentWeights.{every_segment_has_weight}
use Rattle.theorems_values.proofs.ValueLimits.{value_at_least-least, value_at_most_greatest}
use Rattle.theorems_values.proofs.Cells.{cell-holds-value, position-inside}
use Rattle.theorems_lines.specs.Equal.{EqualCoefficientsAreKept, EqualCells}

pub equal_coefficients_are_kept : EqualCoefficientsAreKept
equal_coefficients_are_kept s a wood coefs q same x inside =
    let w = every_segment_has_weight s a (segment_at s x) (located s (accepted-checked s a).1 x inside).below in
    let rows = row_count_lem s a.table (built s a.table a.is) in
    let low = least_on_is s a.table (segment_at s x) wood coefs w.row w.below w.weighs in
    let high = greatest_on_is s a.table (segment_at s x) wood coefs w.row w.below w.weighs in
    Z.≤_antisym _ _
    (subst (λ z. value_at s a.table wood coefs x ≤ℤ fine z) (sym high.is ∙ same high.index (omega (arith, high.below, rows))) (value_at_most_greatest s a wood coefs x inside))
    (subst (λ z. fine z ≤ℤ value_at s a.table wood coefs x) (sym low.is ∙ same low.index (omega (arith, low.below, rows))) (value_at_least-least s a wood coefs x inside))

pub equal-cells : EqualCells
equal-cells s coefs positions num_length den_length values_length l held wood q same k h =
    cell-holds-value l held k h wood ∙ equal_coefficients_are_kept s l.accepted wood coefs q same (get_or positions k (pos 0)) (position-inside s positions k (l.in_span k h))
