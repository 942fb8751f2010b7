-- Names for the definitions that an example is computed with. A definition that is unfolded unfolds what its own `unfolding` line
-- names, so under `unfolding building` all that the weights of a space are worked out with computes, and `refl` finds them.
use Rattle.base_exact.specs.Gcd.{gcd, gcd_f}
use Rattle.base_exact.specs.Rational.{mk, int, inv, ◌+ᵠ◌, ◌*ᵠ◌, -ᵠ◌, ◌//◌}
use Rattle.base_exact.specs.Order.{is_zero, ltᵠ}
use Rattle.base_exact.specs.Sum.{sum}
use Rattle.base_exact.specs.Floor.{nearest}
use Rattle.base_exact.specs.Tabulate.{tab}
use Rattle.base_fraction.specs.Size.{fits}
use Rattle.base_outcome.specs.Outcome.{capped, collect, repeat}
use Rattle.base_outcome.specs.Search.{first, last}
use Rattle.spec_spline.specs.Space.{lengths_fit, bad_break, starts_part, part_end, span_too_long, too_many_segments, bad_degree, bad_order}
use Rattle.spec_spline.specs.Space.{checked_entries, checked, first_column, conditions_before}
use Rattle.spec_spline.specs.Conditions.{falling, binomial, alternating, undivided, common_divisor, conditions}
use Rattle.spec_spline.specs.Table.{identity}
use Rattle.spec_spline.specs.Step.{count, add_products, span, partial_sum, quotient_factor, factors, new_entry, new_rows, plan_over, plan_from, planned, rows_renewed, step}
use Rattle.spec_spline.specs.Build.{order_steps, join_steps, weights, space_weights}
use Rattle.spec_spline.specs.Reading.{starts_at_discontinuity, starts_by, segment_at, rounded, term, term_sum, best, ordinate, ordinates}
use Rattle.spec_spline.specs.Reading.{blend, triangle, blended, value_at, pair_at, values, side_by_side}
use Rattle.spec_spline.specs.CurveCall.{bad_coefficient, bad_position, curve_checked, curve_read, curve_outcome}
use Rattle.spec_spline.specs.ExactCurve.{power, bernstein_at, exact_term, exact_on, exact_curve}

-- fractions, and sums and lists of them
unfoldable pub fractions : Unit {0}
unfolding gcd gcd_f mk int inv ◌+ᵠ◌ ◌*ᵠ◌ -ᵠ◌ ◌//◌ is_zero ltᵠ nearest sum tab
fractions = tt

-- the refusals 2 to 5 and 15 of a space, and where its parts end
unfoldable pub checking : Unit {0}
unfolding capped first starts_part part_end lengths_fit bad_break span_too_long too_many_segments bad_degree bad_order checked_entries checked
checking = tt

-- the columns and conditions of a join
unfoldable pub conditioning : Unit {0}
unfolding fractions first_column conditions_before falling binomial alternating undivided common_divisor conditions
conditioning = tt

-- a step of the build
unfoldable pub stepping : Unit {0}
unfolding fractions capped collect first last fits identity count add_products span partial_sum quotient_factor factors new_entry new_rows plan_over plan_from planned rows_renewed step
stepping = tt

-- the weights of a space
unfoldable pub building : Unit {0}
unfolding checking conditioning stepping repeat order_steps join_steps weights space_weights
building = tt

-- values of a curve, rounded
unfoldable pub reading : Unit {0}
unfolding fractions last first_column starts_at_discontinuity starts_by segment_at rounded term term_sum best ordinate ordinates blend triangle blended value_at pair_at values side_by_side
reading = tt

-- and exact
unfoldable pub exact_reading : Unit {0}
unfolding fractions last first_column starts_at_discontinuity starts_by segment_at binomial power bernstein_at exact_term exact_on exact_curve side_by_side
exact_reading = tt

-- a curve call
unfoldable pub calling : Unit {0}
unfolding building reading bad_coefficient bad_position curve_checked curve_read curve_outcome
calling = tt
