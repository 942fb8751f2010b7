-- The theorems with numbers, at W9's space, whose scar lies at ring 1: the width 20 is reached at 257, right after the scar, and
-- 31 nowhere.
use mathlib.Core.Path.{◌≡◌, refl}
use mathlib.Core.List.{List, [], ◌∷◌}
use lib.IntN.{ℤ, pos}
use Rattle.base_exact.specs.Gcd.{gcd, gcd_f}
use Rattle.base_exact.specs.Rational.{mk, int, inv, ◌+ᵠ◌, ◌*ᵠ◌, -ᵠ◌, ◌//◌}
use Rattle.base_exact.specs.Order.{is_zero, ltᵠ}
use Rattle.base_exact.specs.Floor.{nearest}
use Rattle.base_exact.specs.Sum.{sum}
use Rattle.base_exact.specs.Tabulate.{tab}
use Rattle.base_fraction.specs.Size.{fits}
use Rattle.base_outcome.specs.Outcome.{answer, refusal, capped, collect, repeat}
use Rattle.base_outcome.specs.Search.{first, last}
use Rattle.spec_spline.specs.Space.{lengths_fit, bad_break, starts_part, part_end, span_too_long, too_many_segments, bad_degree, bad_order}
use Rattle.spec_spline.specs.Space.{checked_entries, checked, first_column, conditions_before}
use Rattle.spec_spline.specs.Conditions.{conditions}
use Rattle.spec_spline.specs.Table.{identity}
use Rattle.spec_spline.specs.Build.{order_steps, join_steps, weights}
use Rattle.spec_spline.specs.Reading.{starts_at_discontinuity, starts_by, segment_at, earlywood, rounded, term, term_sum, best, ordinate}
use Rattle.spec_spline.specs.Reading.{ordinates, blend, triangle, blended, value_at, values}
use Rattle.spec_spline.specs.CurveCall.{bad_coefficient, bad_position, curve_checked, curve_read, curve_outcome}
use Rattle.spec_spline.specs.Cases.{space9}
use Rattle.spec_calls.specs.Reach.{reach_outcome}
use Rattle.curve_reach.specs.FirstReach.{FirstAt, NeverReached}
use Rattle.curve_reach.proofs.FirstReach.{answers_are_first, sixteen_is_never}

-- 0, 10, 20 and 30 for both wood parts.
abbrev coefs9 : List ℤ
coefs9 = pos 0 ∷ pos 0 ∷ pos 10 ∷ pos 10 ∷ pos 20 ∷ pos 20 ∷ pos 30 ∷ pos 30 ∷ []

reached9 : reach_outcome space9 earlywood coefs9 (pos 20) 5184 5184 ≡ answer (pos 257)
unfolding gcd gcd_f mk int inv ◌+ᵠ◌ ◌*ᵠ◌ -ᵠ◌ ◌//◌ is_zero ltᵠ nearest sum tab fits capped collect repeat first last lengths_fit bad_break
    starts_part part_end span_too_long too_many_segments bad_degree bad_order checked_entries checked first_column conditions_before conditions
    identity order_steps join_steps weights starts_at_discontinuity starts_by segment_at rounded term term_sum best ordinate ordinates blend
    triangle blended value_at values bad_coefficient bad_position curve_checked curve_read curve_outcome reach_outcome
reached9 = refl

pub first9 : FirstAt space9 earlywood coefs9 (pos 20) (pos 257)
first9 = answers_are_first space9 earlywood coefs9 (pos 20) 5184 5184 (pos 257) reached9

never9 : reach_outcome space9 earlywood coefs9 (pos 31) 5184 5184 ≡ refusal 16 0
unfolding gcd gcd_f mk int inv ◌+ᵠ◌ ◌*ᵠ◌ -ᵠ◌ ◌//◌ is_zero ltᵠ nearest sum tab fits capped collect repeat first last lengths_fit bad_break
    starts_part part_end span_too_long too_many_segments bad_degree bad_order checked_entries checked first_column conditions_before conditions
    identity order_steps join_steps weights starts_at_discontinuity starts_by segment_at rounded term term_sum best ordinate ordinates blend
    triangle blended value_at values bad_coefficient bad_position curve_checked curve_read curve_outcome reach_outcome
never9 = refl

pub nowhere9 : NeverReached space9 earlywood coefs9 (pos 31)
nowhere9 = sixteen_is_never space9 earlywood coefs9 (pos 31) 5184 5184 0 never9
