-- The limits of § 7, proved: of each value, of a curve call, and of the cells after it.
use mathlib.Core.List.{List}
use lib.IntN.{ℤ}
use Rattle.spec_spline.specs.Space.{Space}
use Rattle.spec_spline.specs.Piecewise.{Accepted}
use Rattle.spec_spline.specs.Reading.{fine, segment_at, Wood, value_at}
use Rattle.spec_spline.specs.ExactCurve.{exact_curve, least_on, greatest_on}
use Rattle.theorems_values.specs.ValueLimits.{InSpan, closeness, ExactAtMostValueAndCloseness, ValueAtMostExactAndCloseness, ValueAtLeastLeast, ValueAtMostGreatest}
use Rattle.theorems_values.proofs.Within.{Within}
use Rattle.theorems_values.proofs.Triangle.{Between}
use Rattle.theorems_values.proofs.Segment.{Located, accepted-checked, located}
use Rattle.theorems_values.proofs.Value.{blended-within, blended-between}

-- ---- a value

module _ (s : Space) (a : Accepted s) (wood : Wood) (coefs : List ℤ) (x : ℤ) (inside : InSpan s x) where
  at : Located s x (segment_at s x)
  at = located s (accepted-checked s a).1 x inside

  value-within : Within (closeness s a.table x) (exact_curve s a.table wood coefs x) (value_at s a.table wood coefs x)
  unfolding exact_curve value_at
  value-within = blended-within s a wood coefs x (segment_at s x) at

  value-between : Between (fine (least_on s a.table wood coefs (segment_at s x))) (fine (greatest_on s a.table wood coefs (segment_at s x))) (value_at s a.table wood coefs x)
  unfolding value_at
  value-between = blended-between s a wood coefs x (segment_at s x) at

pub exact_at_most_value_and_closeness : ExactAtMostValueAndCloseness
exact_at_most_value_and_closeness s a wood coefs x inside = (value-within s a wood coefs x inside).not_below

pub value_at_most_exact_and_closeness : ValueAtMostExactAndCloseness
value_at_most_exact_and_closeness s a wood coefs x inside = (value-within s a wood coefs x inside).not_above

pub value_at_least-least : ValueAtLeastLeast
value_at_least-least s a wood coefs x inside = (value-between s a wood coefs x inside).at-least

pub value_at_most_greatest : ValueAtMostGreatest
value_at_most_greatest s a wood coefs x inside = (value-between s a wood coefs x inside).at-most
