-- The theorems with numbers. At W1's space step 1 rounds the ordinate of the join, 51200/3, to 17067: the two quadratics differ
-- from the exact curve, by less than s/2 = 1, and are the value at their ends. With coefficients 0, 1, 2, 0 for latewood the
-- difference at the join, 2/3, is more than (s - 1)/2. At W9's space, of two lines, the second does not start at the value. Then
-- a cubic, and 17 for a segment past the end and for degree 4.
use mathlib.Core.Path.{◌≡◌, refl, ◌∙◌, ap}
use mathlib.Core.Bool.{true}
use mathlib.Core.List.{List, [], ◌∷◌}
use Prim.Native.Nat.{ℕ}
use lib.IntN.{ℤ, pos}
use Rattle.base_exact.specs.Gcd.{gcd, gcd_f}
use Rattle.base_exact.specs.Rational.{ℚ, mk, int, inv, ◌+ᵠ◌, ◌*ᵠ◌, -ᵠ◌, ◌//◌}
use Rattle.base_exact.specs.Order.{is_zero, ltᵠ, ◌≤ᵠ◌, ◌<ᵠ◌}
use Rattle.base_exact.specs.Floor.{nearest}
use Rattle.base_exact.specs.Sum.{sum}
use Rattle.base_exact.specs.Tabulate.{tab}
use Rattle.base_fraction.specs.Size.{fits}
use Rattle.base_outcome.specs.Outcome.{answer, refusal, capped, collect, repeat}
use Rattle.base_outcome.specs.Search.{first, last, how_many}
use Rattle.spec_spline.specs.Space.{Space, lengths_fit, bad_break, starts_part, part_end, span_too_long, too_many_segments, bad_degree, bad_order}
use Rattle.spec_spline.specs.Space.{checked_entries, checked, first_column, conditions_before}
use Rattle.spec_spline.specs.Conditions.{falling, binomial, alternating, undivided, common_divisor, conditions}
use Rattle.spec_spline.specs.Table.{identity}
use Rattle.spec_spline.specs.Step.{count, add_products, span, partial_sum, quotient_factor, factors, new_entry, new_rows, plan_over, plan_from, planned, rows_renewed, step}
use Rattle.spec_spline.specs.Build.{order_steps, join_steps, weights}
use Rattle.spec_spline.specs.Piecewise.{Accepted}
use Rattle.spec_spline.specs.Reading.{starts_at_discontinuity, starts_by, segment_at, Wood, earlywood, latewood, side_by_side, rounded, term}
use Rattle.spec_spline.specs.Reading.{term_sum, best, ordinate, ordinates, blend, triangle, blended, value_at, values}
use Rattle.spec_spline.specs.CurveCall.{bad_coefficient, bad_position, curve_checked, curve_read, curve_outcome}
use Rattle.spec_spline.specs.Cases.{pair, for_both, space1, space9, lower_limit_space}
use Rattle.spec_spline.specs.ExactCurve.{power, bernstein_at, exact_term, exact_on, exact_curve, largest, most_weights}
use Rattle.base_outcome.proofs.Outcome.{answer_unique}
use Rattle.theorems_values.proofs.Instances.{table1, accepted1, table9, coefs9, accepted9, exact9}
use Rattle.spec_calls.specs.Pieces.{Piece, is_drawable, piece_of, piece_outcome}
use Rattle.curve_pieces.specs.PieceCurve.{polynomial_at, half_the_weights, WithinHalfTheWeights, IsTheValue}
use Rattle.curve_pieces.proofs.PieceCurve.{pieces_are_close, pieces_end_at_the_value, pieces-start_at_the_value}

-- What the statements say for numbers that were computed with a table of the same space.
module _ {s : Space} {wood : Wood} {coefs : List ℤ} {p : Piece} {k : ℕ} {x : ℤ} (a : Accepted s) where
  within-numbers : {f q h : ℚ} → WithinHalfTheWeights s wood coefs p k x → exact_curve s a.table wood coefs x ≡ f
      → polynomial_at s p k x ≡ q → half_the_weights s a.table k ≡ h
      → (f ≤ᵠ q +ᵠ h) × (q ≤ᵠ f +ᵠ h)
  within-numbers {f} {q} w e g b =
      let t = answer_unique w.accepted.is a.is in
      let e' = ap (λ u. exact_curve s u wood coefs x) t ∙ e in
      let b' = ap (λ u. half_the_weights s u k) t ∙ b in
      (rw (e', g, b') at w.exact_at_most, rw (e', g, b') at w.at_most_exact)

  value-number : {v : ℤ} → IsTheValue s wood coefs p k x → value_at s a.table wood coefs x ≡ v → polynomial_at s p k x ≡ int v
  value-number i e = i.same ∙ ap (λ t. int (value_at s t wood coefs x)) (answer_unique i.accepted.is a.is) ∙ ap int e

-- ---- W1's space: two quadratics for each part

-- W1's for earlywood, and 0, 1, 2, 0 for latewood
abbrev pub coefs1 : List ℤ
coefs1 = side_by_side (pair (pos 0) (pos 0) ∷ pair (pos 100) (pos 1) ∷ pair (pos 0) (pos 2) ∷ pair (pos 0) (pos 0) ∷ [])

abbrev pub first1 : Piece
first1 = record { ordinates = pos 0 ∷ pos 25600 ∷ pos 17067 ∷ []; start = pos 0; end = pos 1 }

pub first_drawn1 : piece_outcome space1 earlywood coefs1 0 5184 5184 ≡ answer first1
unfolding gcd gcd_f mk int inv ◌+ᵠ◌ ◌*ᵠ◌ -ᵠ◌ is_zero ltᵠ nearest sum tab fits capped collect repeat first last lengths_fit bad_break
    starts_part part_end span_too_long too_many_segments bad_degree bad_order checked_entries checked first_column conditions_before falling binomial
    alternating undivided common_divisor conditions identity count add_products span partial_sum quotient_factor factors new_entry new_rows plan_over
    plan_from planned rows_renewed step
    order_steps join_steps weights side_by_side rounded term term_sum best ordinate values bad_coefficient bad_position curve_checked curve_read
    curve_outcome is_drawable piece_of piece_outcome
first_drawn1 = refl

abbrev second1 : Piece
second1 = record { ordinates = pos 17067 ∷ pos 0 ∷ pos 0 ∷ []; start = pos 1; end = pos 3 }

second_drawn1 : piece_outcome space1 earlywood coefs1 1 5184 5184 ≡ answer second1
unfolding gcd gcd_f mk int inv ◌+ᵠ◌ ◌*ᵠ◌ -ᵠ◌ is_zero ltᵠ nearest sum tab fits capped collect repeat first last lengths_fit bad_break
    starts_part part_end span_too_long too_many_segments bad_degree bad_order checked_entries checked first_column conditions_before falling binomial
    alternating undivided common_divisor conditions identity count add_products span partial_sum quotient_factor factors new_entry new_rows plan_over
    plan_from planned rows_renewed step
    order_steps join_steps weights side_by_side rounded term term_sum best ordinate values bad_coefficient bad_position curve_checked curve_read
    curve_outcome is_drawable piece_of piece_outcome
second_drawn1 = refl

abbrev late1 : Piece
late1 = record { ordinates = pos 342 ∷ pos 512 ∷ pos 0 ∷ []; start = pos 1; end = pos 3 }

late_drawn1 : piece_outcome space1 latewood coefs1 1 5184 5184 ≡ answer late1
unfolding gcd gcd_f mk int inv ◌+ᵠ◌ ◌*ᵠ◌ -ᵠ◌ is_zero ltᵠ nearest sum tab fits capped collect repeat first last lengths_fit bad_break
    starts_part part_end span_too_long too_many_segments bad_degree bad_order checked_entries checked first_column conditions_before falling binomial
    alternating undivided common_divisor conditions identity count add_products span partial_sum quotient_factor factors new_entry new_rows plan_over
    plan_from planned rows_renewed step
    order_steps join_steps weights side_by_side rounded term term_sum best ordinate values bad_coefficient bad_position curve_checked curve_read
    curve_outcome is_drawable piece_of piece_outcome
late_drawn1 = refl

-- s = 2 on both segments
half1 : (half_the_weights space1 table1 0 ≡ int (pos 1)) × (half_the_weights space1 table1 1 ≡ int (pos 1))
unfolding gcd gcd_f mk int inv ◌*ᵠ◌ ◌//◌ is_zero first_column how_many largest most_weights
half1 = (refl, refl)

-- in the middle of the first segment: 68267/4 for 51200/3
middle1 : WithinHalfTheWeights space1 earlywood coefs1 first1 0 (pos 128)
unfolding last starts_at_discontinuity starts_by segment_at
middle1 = pieces_are_close space1 earlywood coefs1 0 5184 5184 first1 first_drawn1 (pos 128) tt refl

middle_polynomial1 : polynomial_at space1 first1 0 (pos 128) ≡ pos 68267 // 3
unfolding gcd gcd_f mk int inv ◌+ᵠ◌ ◌*ᵠ◌ ◌//◌ sum binomial power bernstein_at polynomial_at
middle_polynomial1 = refl

middle_exact1 : exact_curve space1 table1 earlywood coefs1 (pos 128) ≡ pos 51200 // 2
unfolding side_by_side gcd gcd_f mk int inv ◌+ᵠ◌ ◌*ᵠ◌ -ᵠ◌ ◌//◌ sum first_column last starts_at_discontinuity starts_by segment_at binomial power
    bernstein_at exact_term exact_on exact_curve
middle_exact1 = refl

middle_close1 : (pos 51200 // 2 ≤ᵠ pos 68267 // 3 +ᵠ int (pos 1)) × (pos 68267 // 3 ≤ᵠ pos 51200 // 2 +ᵠ int (pos 1))
unfolding accepted1
middle_close1 = within-numbers accepted1 middle1 middle_exact1 middle_polynomial1 half1.0

-- the two are not the same
middle_apart1 : pos 51200 // 2 <ᵠ pos 68267 // 3
unfolding gcd gcd_f mk int ◌+ᵠ◌ ◌//◌ ltᵠ
middle_apart1 = record { lt = tt }

-- at the join, which belongs to the second segment: 342 for 1024/3
join1 : WithinHalfTheWeights space1 latewood coefs1 late1 1 (pos 256)
unfolding last starts_at_discontinuity starts_by segment_at
join1 = pieces_are_close space1 latewood coefs1 1 5184 5184 late1 late_drawn1 (pos 256) tt refl

join_polynomial1 : polynomial_at space1 late1 1 (pos 256) ≡ int (pos 342)
unfolding gcd gcd_f mk int inv ◌+ᵠ◌ ◌*ᵠ◌ ◌//◌ sum binomial power bernstein_at polynomial_at
join_polynomial1 = refl

join_exact1 : exact_curve space1 table1 latewood coefs1 (pos 256) ≡ pos 1024 // 2
unfolding side_by_side gcd gcd_f mk int inv ◌+ᵠ◌ ◌*ᵠ◌ -ᵠ◌ ◌//◌ sum first_column last starts_at_discontinuity starts_by segment_at binomial power
    bernstein_at exact_term exact_on exact_curve
join_exact1 = refl

join_close1 : (pos 1024 // 2 ≤ᵠ int (pos 342) +ᵠ int (pos 1)) × (int (pos 342) ≤ᵠ pos 1024 // 2 +ᵠ int (pos 1))
unfolding accepted1
join_close1 = within-numbers accepted1 join1 join_exact1 join_polynomial1 half1.1

-- by more than (s - 1)/2 = 1/2
join_apart1 : pos 1024 // 2 +ᵠ pos 1 // 1 <ᵠ int (pos 342)
unfolding gcd gcd_f mk int ◌+ᵠ◌ ◌//◌ ltᵠ
join_apart1 = record { lt = tt }

-- the first quadratic ends at the value, though the join belongs to the second; and there the second starts
join_value1 : value_at space1 table1 earlywood coefs1 (pos 256) ≡ pos 17067
unfolding side_by_side gcd gcd_f mk int ◌//◌ is_zero nearest tab first_column last starts_at_discontinuity starts_by segment_at rounded term
    term_sum best ordinate ordinates blend triangle blended value_at
join_value1 = refl

end1 : IsTheValue space1 earlywood coefs1 first1 0 (pos 256)
end1 = pieces_end_at_the_value space1 earlywood coefs1 0 5184 5184 first1 first_drawn1

end_is1 : polynomial_at space1 first1 0 (pos 256) ≡ int (pos 17067)
unfolding accepted1
end_is1 = value-number accepted1 end1 join_value1

start1 : IsTheValue space1 earlywood coefs1 second1 1 (pos 256)
unfolding starts_at_discontinuity
start1 = pieces-start_at_the_value space1 earlywood coefs1 1 5184 5184 second1 second_drawn1 refl

start_is1 : polynomial_at space1 second1 1 (pos 256) ≡ int (pos 17067)
unfolding accepted1
start_is1 = value-number accepted1 start1 join_value1

-- ---- W9's space: two lines, and a discontinuity at ring 1

abbrev first9 : Piece
first9 = record { ordinates = pos 0 ∷ pos 2560 ∷ []; start = pos 0; end = pos 1 }

first_drawn9 : piece_outcome space9 earlywood coefs9 0 5184 5184 ≡ answer first9
unfolding gcd gcd_f mk int is_zero nearest tab capped collect repeat first last lengths_fit bad_break starts_part part_end span_too_long
    too_many_segments bad_degree bad_order checked_entries checked first_column conditions_before identity order_steps join_steps weights
    side_by_side rounded term term_sum best ordinate values bad_coefficient bad_position curve_checked curve_read curve_outcome is_drawable piece_of
    piece_outcome
first_drawn9 = refl

abbrev second9 : Piece
second9 = record { ordinates = pos 5120 ∷ pos 7680 ∷ []; start = pos 1; end = pos 2 }

second_drawn9 : piece_outcome space9 earlywood coefs9 1 5184 5184 ≡ answer second9
unfolding gcd gcd_f mk int is_zero nearest tab capped collect repeat first last lengths_fit bad_break starts_part part_end span_too_long
    too_many_segments bad_degree bad_order checked_entries checked first_column conditions_before identity order_steps join_steps weights
    side_by_side rounded term term_sum best ordinate values bad_coefficient bad_position curve_checked curve_read curve_outcome is_drawable piece_of
    piece_outcome
second_drawn9 = refl

-- s = 1 on the first segment, to which the discontinuity belongs; nothing is rounded
half9 : half_the_weights space9 table9 0 ≡ pos 1 // 1
unfolding gcd gcd_f mk int inv ◌*ᵠ◌ ◌//◌ is_zero first_column how_many largest most_weights
half9 = refl

discontinuity9 : WithinHalfTheWeights space9 earlywood coefs9 first9 0 (pos 256)
unfolding last starts_at_discontinuity starts_by segment_at
discontinuity9 = pieces_are_close space9 earlywood coefs9 0 5184 5184 first9 first_drawn9 (pos 256) tt refl

discontinuity_polynomial9 : polynomial_at space9 first9 0 (pos 256) ≡ int (pos 2560)
unfolding gcd gcd_f mk int inv ◌+ᵠ◌ ◌*ᵠ◌ ◌//◌ sum binomial power bernstein_at polynomial_at
discontinuity_polynomial9 = refl

discontinuity_close9 : (int (pos 2560) ≤ᵠ int (pos 2560) +ᵠ pos 1 // 1) × (int (pos 2560) ≤ᵠ int (pos 2560) +ᵠ pos 1 // 1)
unfolding accepted9
discontinuity_close9 = within-numbers accepted9 discontinuity9 exact9 discontinuity_polynomial9 half9

discontinuity_value9 : value_at space9 table9 earlywood coefs9 (pos 256) ≡ pos 2560
unfolding side_by_side gcd gcd_f mk int ◌//◌ is_zero nearest tab first_column last starts_at_discontinuity starts_by segment_at rounded term
    term_sum best ordinate ordinates blend triangle blended value_at
discontinuity_value9 = refl

-- the first line starts and ends at the value
start9 : IsTheValue space9 earlywood coefs9 first9 0 (pos 0)
unfolding starts_at_discontinuity
start9 = pieces-start_at_the_value space9 earlywood coefs9 0 5184 5184 first9 first_drawn9 refl

end9 : IsTheValue space9 earlywood coefs9 first9 0 (pos 256)
end9 = pieces_end_at_the_value space9 earlywood coefs9 0 5184 5184 first9 first_drawn9

end_is9 : polynomial_at space9 first9 0 (pos 256) ≡ int (pos 2560)
unfolding accepted9
end_is9 = value-number accepted9 end9 discontinuity_value9

-- the second starts at 5120, where the value is 2560: the join there has order -1
after_discontinuity9 : (starts_at_discontinuity space9 1 ≡ true) × (polynomial_at space9 second9 1 (pos 256) ≡ int (pos 5120))
unfolding gcd gcd_f mk int inv ◌+ᵠ◌ ◌*ᵠ◌ ◌//◌ sum binomial power bernstein_at polynomial_at starts_at_discontinuity
after_discontinuity9 = (refl, refl)

-- and ends at the value
last_end9 : IsTheValue space9 earlywood coefs9 second9 1 (pos 512)
last_end9 = pieces_end_at_the_value space9 earlywood coefs9 1 5184 5184 second9 second_drawn9

-- ---- a cubic, for which the lower limit of step 1 acts: the plain sum of its last ordinate is 255

abbrev lower_coefs : List ℤ
lower_coefs = side_by_side (for_both (pos 1 ∷ pos 1 ∷ pos 1 ∷ pos 1 ∷ pos 1 ∷ pos 1 ∷ []))

abbrev cubic : Piece
cubic = record { ordinates = pos 256 ∷ pos 256 ∷ pos 256 ∷ pos 256 ∷ []; start = pos 0; end = pos 1 }

cubic_drawn : piece_outcome lower_limit_space earlywood lower_coefs 0 5184 5184 ≡ answer cubic
unfolding gcd gcd_f mk int inv ◌+ᵠ◌ ◌*ᵠ◌ -ᵠ◌ is_zero ltᵠ nearest sum tab fits capped collect repeat first last lengths_fit bad_break
    starts_part part_end span_too_long too_many_segments bad_degree bad_order checked_entries checked first_column conditions_before falling binomial
    alternating undivided common_divisor conditions identity count add_products span partial_sum quotient_factor factors new_entry new_rows plan_over
    plan_from planned rows_renewed step
    order_steps join_steps weights side_by_side rounded term term_sum best ordinate values bad_coefficient bad_position curve_checked curve_read
    curve_outcome is_drawable piece_of piece_outcome
cubic_drawn = refl

cubic_end : IsTheValue lower_limit_space earlywood lower_coefs cubic 0 (pos 256)
cubic_end = pieces_end_at_the_value lower_limit_space earlywood lower_coefs 0 5184 5184 cubic cubic_drawn

-- ---- code 17, place the number named

-- a segment past the end
past_the_end : piece_outcome space9 latewood coefs9 2 5184 5184 ≡ refusal 17 2
unfolding gcd gcd_f mk int is_zero nearest tab capped collect repeat first last lengths_fit bad_break starts_part part_end span_too_long
    too_many_segments bad_degree bad_order checked_entries checked first_column conditions_before identity order_steps join_steps weights
    side_by_side rounded term term_sum best ordinate values bad_coefficient bad_position curve_checked curve_read curve_outcome is_drawable piece_of
    piece_outcome
past_the_end = refl

-- one of degree 4, behind the cubic
degree_4 : piece_outcome lower_limit_space earlywood lower_coefs 1 5184 5184 ≡ refusal 17 1
unfolding gcd gcd_f mk int inv ◌+ᵠ◌ ◌*ᵠ◌ -ᵠ◌ is_zero ltᵠ nearest sum tab fits capped collect repeat first last lengths_fit bad_break
    starts_part part_end span_too_long too_many_segments bad_degree bad_order checked_entries checked first_column conditions_before falling binomial
    alternating undivided common_divisor conditions identity count add_products span partial_sum quotient_factor factors new_entry new_rows plan_over
    plan_from planned rows_renewed step
    order_steps join_steps weights side_by_side rounded term term_sum best ordinate values bad_coefficient bad_position curve_checked curve_read
    curve_outcome is_drawable piece_of piece_outcome
degree_4 = refl
