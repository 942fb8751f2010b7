-- The theorems at the specification's cases with numbers, W1 as the earlywood and W2 as the latewood of one call, and W9: the
-- hypotheses can be met, and at 512 the values 4267 and -4266 differ from the exact 12800/3 and -12800/3 by at most
-- (s + p)/2 = 2, the first between 0 and 25600, the second between -25600 and 0. Then two spaces in which a limit of step 1
-- acts, one whose values differ by more than (s + p - 1)/2 on either side, and a beam of two parts.
use mathlib.Core.Path.{◌≡◌, refl, sym, ◌∙◌, ap, subst}
use mathlib.Core.Bool.{not}
use mathlib.Core.List.{List, [], ◌∷◌}
use Prim.Native.Nat.{ℕ, zero, suc, ◌+◌, ◌*◌, ◌<◌, ◌≤◌}
use native.Mathlib.Omega.{arith}
use lib.Dec.{T}
use lib.IntN.{ℤ, pos, negsuc, nat_abs}
use lib.ListN.{length, get_or}
use lib.Signed.{◌≤ℤ◌, lt_z_yes}
use Rattle.base_exact.specs.Gcd.{gcd, gcd_f}
use Rattle.base_exact.specs.Rational.{den, mk, int, inv, ◌+ᵠ◌, ◌*ᵠ◌, ◌//◌}
use Rattle.base_exact.specs.Order.{is_zero, ltᵠ, ◌≤ᵠ◌, ◌<ᵠ◌}
use Rattle.base_exact.specs.Floor.{nearest}
use Rattle.base_exact.specs.Tabulate.{tab}
use Rattle.base_exact.proofs.Integer as Z
use Rattle.base_exact.proofs.Integer.{up}
use Rattle.base_outcome.specs.Outcome.{answer, collect, repeat}
use Rattle.base_outcome.specs.Search.{first, last, how_many}
use Rattle.spec_spline.specs.Space.{Space, starts_part, last_part_start, checked, first_column, conditions_before}
use Rattle.spec_spline.specs.Table.{Table, cell, identity}
use Rattle.spec_spline.specs.Build.{order_steps, join_steps, weights, space_weights}
use Rattle.spec_spline.specs.Piecewise.{Accepted}
use Rattle.spec_spline.specs.Reading.{fine, starts_at_discontinuity, starts_by, segment_at, Wood, earlywood, latewood, wood_index, Pair, side_by_side, rounded, term, term_sum, best, value_at, values}
use Rattle.spec_spline.specs.CurveCall.{bad_coefficient, bad_position, curve_outcome, returned, values_after, curve_end}
use Rattle.spec_spline.specs.Cases.{space, pair, for_both, space1, space9, upper_limit_space, lower_limit_space}
use Rattle.spec_spline.specs.ExactCurve.{exact_curve, largest, most_weights, weighs_on, least_on, greatest_on, Legal}
use Rattle.spec_spline.proofs.Computing.{building, calling, checking, exact_reading, reading}
use Rattle.theorems_weights.specs.Cells.{HoldsFraction, last_part_cell}
use Rattle.theorems_weights.proofs.Published.{weights_are_published}
use Rattle.theorems_weights.proofs.Instances.{q0, q1, lent, lent_length, beam, beam_table, accepted_beam, checked1}
use Rattle.theorems_values.specs.ValueLimits.{closeness, Close}
use Rattle.theorems_values.proofs.Weights.{weight_num_le_den}
use Rattle.theorems_values.proofs.Positions.{positions_between_belong_between, discontinuities_belong_before, other_joins_belong_after}
use Rattle.theorems_values.proofs.Positions.{first-breakpoint_belongs_first, last-breakpoint_belongs_last}
use Rattle.theorems_values.proofs.LegalCall.{legal_calls_answer, legal_calls_return_count, answered_calls_are_legal}
use Rattle.theorems_values.proofs.ValueLimits.{exact_at_most_value_and_closeness, value_at_most_exact_and_closeness, value_at_least-least, value_at_most_greatest}
use Rattle.theorems_values.proofs.Cells.{cells_are_close, cells-past_are_kept}
use Rattle.theorems_values.proofs.WeightCells.{curve_cells_hold_published_weights}

-- ---- W1 and W2: breaks 0,1,3, degrees 2,2, order 1

abbrev pub table1 : Table
table1 =
    (q1 ∷ q0 ∷ q0 ∷ q0 ∷ q0 ∷ q0 ∷ []) ∷
    (q0 ∷ q1 ∷ pos 2 // 2 ∷ pos 2 // 2 ∷ q0 ∷ q0 ∷ []) ∷
    (q0 ∷ q0 ∷ pos 1 // 2 ∷ pos 1 // 2 ∷ q1 ∷ q0 ∷ []) ∷
    (q0 ∷ q0 ∷ q0 ∷ q0 ∷ q0 ∷ q1 ∷ []) ∷ []

-- W1's coefficients for earlywood and W2's for latewood
abbrev pub coefs1 : List ℤ
coefs1 = pos 0 ∷ pos 0 ∷ pos 100 ∷ negsuc 99 ∷ pos 0 ∷ pos 0 ∷ pos 0 ∷ pos 0 ∷ []

abbrev pub positions1 : List ℤ
positions1 = pos 256 ∷ pos 512 ∷ []

unfoldable pub accepted1 : Accepted space1
unfolding building
accepted1 = record { table = table1; is = refl }

pub coefficients1 : (i : ℕ) → i < length coefs1 → T (not (bad_coefficient coefs1 i))
unfolding bad_coefficient
coefficients1 zero h = tt
coefficients1 (suc zero) h = tt
coefficients1 (suc (suc zero)) h = tt
coefficients1 (suc (suc (suc zero))) h = tt
coefficients1 (suc (suc (suc (suc zero)))) h = tt
coefficients1 (suc (suc (suc (suc (suc zero))))) h = tt
coefficients1 (suc (suc (suc (suc (suc (suc zero)))))) h = tt
coefficients1 (suc (suc (suc (suc (suc (suc (suc zero))))))) h = tt
coefficients1 (suc (suc (suc (suc (suc (suc (suc (suc i)))))))) h = absurd (omega arith)

pub inside1 : (i : ℕ) → i < length positions1 → T (not (bad_position space1 positions1 i))
unfolding bad_position
inside1 zero h = tt
inside1 (suc zero) h = tt
inside1 (suc (suc i)) h = absurd (omega arith)

-- with a values' buffer of five cells
legal1 : Legal space1 coefs1 positions1 5184 5184 5
unfolding first_column conditions_before
legal1 = record {
  accepted = accepted1;
  coefficient_count = refl;
  coefficients = coefficients1;
  position_count = omega arith;
  in_span = inside1;
  numerators = omega arith;
  denominators = omega arith;
  values = omega arith;
}

-- ---- what the definitions give there

abbrev pub pairs1 : List Pair
pairs1 = pair (pos 17067) (negsuc 17066) ∷ pair (pos 4267) (negsuc 4265) ∷ []

pub values1 : values space1 table1 coefs1 positions1 ≡ pairs1
unfolding reading
values1 = refl

pub exact1 : exact_curve space1 table1 earlywood coefs1 (pos 256) ≡ pos 51200 // 2
unfolding exact_reading
exact1 = refl

early_exact1 : exact_curve space1 table1 earlywood coefs1 (pos 512) ≡ pos 12800 // 2
unfolding exact_reading
early_exact1 = refl

late_exact1 : exact_curve space1 table1 latewood coefs1 (pos 512) ≡ negsuc 12799 // 2
unfolding exact_reading
late_exact1 = refl

-- s = 2 and p = 2 on the second segment
closeness1 : closeness space1 table1 (pos 512) ≡ int (pos 2)
unfolding gcd gcd_f mk int inv ◌*ᵠ◌ ◌//◌ is_zero first_column last starts_at_discontinuity starts_by segment_at how_many largest most_weights
closeness1 = refl

-- each part has its own limits
early_limits1 : (least_on space1 table1 earlywood coefs1 1 ≡ pos 0) × (greatest_on space1 table1 earlywood coefs1 1 ≡ pos 100)
unfolding gcd gcd_f mk int ◌//◌ is_zero first_column first best weighs_on least_on greatest_on
early_limits1 = (refl, refl)

late_limits1 : (least_on space1 table1 latewood coefs1 1 ≡ negsuc 99) × (greatest_on space1 table1 latewood coefs1 1 ≡ pos 0)
unfolding gcd gcd_f mk int ◌//◌ is_zero first_column first best weighs_on least_on greatest_on
late_limits1 = (refl, refl)

-- ---- what the theorems say there

weight1 : nat_abs (cell table1 1 2).num ≤ den (cell table1 1 2)
unfolding accepted1
weight1 = weight_num_le_den space1 accepted1 1 2

weight1_size : (nat_abs (cell table1 1 2).num ≡ 2) × (den (cell table1 1 2) ≡ 3)
unfolding gcd gcd_f mk ◌//◌
weight1_size = (refl, refl)

answers1 : curve_outcome space1 coefs1 positions1 5184 5184 5 ≡ answer (record { table = table1; values = pairs1 })
unfolding legal1 accepted1
answers1 = legal_calls_answer space1 coefs1 positions1 5184 5184 5 legal1 ∙ ap (λ vs. answer (record { table = table1; values = vs })) values1

returned1 : returned (curve_outcome space1 coefs1 positions1 5184 5184 5) ≡ answer 2
returned1 = legal_calls_return_count space1 coefs1 positions1 5184 5184 5 legal1

-- the cells before the call
abbrev before1 : List ℤ
before1 = pos 5 ∷ pos 6 ∷ pos 7 ∷ pos 8 ∷ pos 9 ∷ []

cells1 : values_after (curve_outcome space1 coefs1 positions1 5184 5184 5) before1 ≡ pos 17067 ∷ negsuc 17066 ∷ pos 4267 ∷ negsuc 4265 ∷ pos 9 ∷ []
unfolding side_by_side values_after
cells1 = ap (λ o. values_after o before1) answers1

close1 : (wood : Wood) → Close space1 table1 wood coefs1 (pos 512) (get_or (pos 17067 ∷ negsuc 17066 ∷ pos 4267 ∷ negsuc 4265 ∷ pos 9 ∷ []) (2 * 1 + wood_index wood) (pos 0))
unfolding legal1 accepted1
close1 wood =
    subst (λ cells. Close space1 table1 wood coefs1 (pos 512) (get_or cells (2 * 1 + wood_index wood) (pos 0))) cells1
    (cells_are_close space1 coefs1 positions1 5184 5184 5 legal1 before1 1 (omega arith) wood)

early_exact_at_most1 : pos 12800 // 2 ≤ᵠ int (pos 4267) +ᵠ int (pos 2)
early_exact_at_most1 =
    subst (λ e. e ≤ᵠ int (pos 4267) +ᵠ int (pos 2)) early_exact1
    (subst (λ b. exact_curve space1 table1 earlywood coefs1 (pos 512) ≤ᵠ int (pos 4267) +ᵠ b) closeness1 (close1 earlywood).exact_at_most)

early_at_most_exact1 : int (pos 4267) ≤ᵠ pos 12800 // 2 +ᵠ int (pos 2)
early_at_most_exact1 =
    subst (λ e. int (pos 4267) ≤ᵠ e +ᵠ int (pos 2)) early_exact1
    (subst (λ b. int (pos 4267) ≤ᵠ exact_curve space1 table1 earlywood coefs1 (pos 512) +ᵠ b) closeness1 (close1 earlywood).at_most_exact)

-- below zero halves went up, so the value is above the exact -12800/3
late_exact_at_most1 : negsuc 12799 // 2 ≤ᵠ int (negsuc 4265) +ᵠ int (pos 2)
late_exact_at_most1 =
    subst (λ e. e ≤ᵠ int (negsuc 4265) +ᵠ int (pos 2)) late_exact1
    (subst (λ b. exact_curve space1 table1 latewood coefs1 (pos 512) ≤ᵠ int (negsuc 4265) +ᵠ b) closeness1 (close1 latewood).exact_at_most)

late_at_most_exact1 : int (negsuc 4265) ≤ᵠ negsuc 12799 // 2 +ᵠ int (pos 2)
late_at_most_exact1 =
    subst (λ e. int (negsuc 4265) ≤ᵠ e +ᵠ int (pos 2)) late_exact1
    (subst (λ b. int (negsuc 4265) ≤ᵠ exact_curve space1 table1 latewood coefs1 (pos 512) +ᵠ b) closeness1 (close1 latewood).at_most_exact)

early_between1 : (pos 0 ≤ℤ pos 4267) × (pos 4267 ≤ℤ pos 25600)
unfolding starts_at_discontinuity starts_by segment_at last
early_between1 = (subst (λ z. fine z ≤ℤ pos 4267) early_limits1.0 (close1 earlywood).at_least-least, subst (λ z. pos 4267 ≤ℤ fine z) early_limits1.1 (close1 earlywood).at_most_greatest)

late_between1 : (negsuc 25599 ≤ℤ negsuc 4265) × (negsuc 4265 ≤ℤ pos 0)
unfolding starts_at_discontinuity starts_by segment_at last
late_between1 = (subst (λ z. fine z ≤ℤ negsuc 4265) late_limits1.0 (close1 latewood).at_least-least, subst (λ z. negsuc 4265 ≤ℤ fine z) late_limits1.1 (close1 latewood).at_most_greatest)

last_cell1 : get_or (values_after (curve_outcome space1 coefs1 positions1 5184 5184 5) before1) 4 (pos 0) ≡ pos 9
last_cell1 = (cells-past_are_kept space1 coefs1 positions1 5184 5184 5 legal1 before1 refl).1 4 (omega arith)

-- a call that answers is legal
legal_again1 : Legal space1 coefs1 positions1 5184 5184 5
legal_again1 = answered_calls_are_legal space1 coefs1 positions1 5184 5184 5 (record { table = table1; values = pairs1 }) answers1

-- ---- the upper limit acts: latewood's four coefficients 1 leave no value but 256, though the plain sum at the join is 257;
-- earlywood's are 0

abbrev upper_table : Table
upper_table =
    (q1 ∷ q0 ∷ q0 ∷ q0 ∷ q0 ∷ q0 ∷ []) ∷
    (q0 ∷ q1 ∷ pos 511 // 511 ∷ pos 511 // 511 ∷ q0 ∷ q0 ∷ []) ∷
    (q0 ∷ q0 ∷ pos 1 // 511 ∷ pos 1 // 511 ∷ q1 ∷ q0 ∷ []) ∷
    (q0 ∷ q0 ∷ q0 ∷ q0 ∷ q0 ∷ q1 ∷ []) ∷ []

abbrev upper_coefs : List ℤ
upper_coefs = pos 0 ∷ pos 1 ∷ pos 0 ∷ pos 1 ∷ pos 0 ∷ pos 1 ∷ pos 0 ∷ pos 1 ∷ []

upper-accepted : Accepted upper_limit_space
unfolding building
upper-accepted = record { table = upper_table; is = refl }

upper-sum : term_sum upper_table (λ i. pos 1) 3 4 ≡ pos 257
unfolding gcd gcd_f mk int ◌//◌ is_zero nearest rounded term term_sum
upper-sum = refl

upper-limits : (least_on upper_limit_space upper_table latewood upper_coefs 1 ≡ pos 1) × (greatest_on upper_limit_space upper_table latewood upper_coefs 1 ≡ pos 1)
unfolding gcd gcd_f mk int ◌//◌ is_zero first_column first best weighs_on least_on greatest_on
upper-limits = (refl, refl)

upper-value : value_at upper_limit_space upper_table latewood upper_coefs (pos 256) ≡ pos 256
unfolding upper-accepted starts_at_discontinuity starts_by segment_at last
upper-value = Z.≤_antisym (value_at upper_limit_space upper_table latewood upper_coefs (pos 256)) (pos 256)
    (subst (λ z. value_at upper_limit_space upper_table latewood upper_coefs (pos 256) ≤ℤ fine z) upper-limits.1 (value_at_most_greatest upper_limit_space upper-accepted latewood upper_coefs (pos 256) tt))
    (subst (λ z. fine z ≤ℤ value_at upper_limit_space upper_table latewood upper_coefs (pos 256)) upper-limits.0 (value_at_least-least upper_limit_space upper-accepted latewood upper_coefs (pos 256) tt))

-- ---- the lower limit acts: earlywood's plain sum at the join is 255; latewood's coefficients are 0

abbrev lower_table : Table
lower_table =
    (q1 ∷ q0 ∷ q0 ∷ q0 ∷ q0 ∷ q0 ∷ q0 ∷ q0 ∷ q0 ∷ []) ∷
    (q0 ∷ q1 ∷ pos 7 // 16 ∷ pos 3 // 16 ∷ pos 3 // 16 ∷ q0 ∷ q0 ∷ q0 ∷ q0 ∷ []) ∷
    (q0 ∷ q0 ∷ pos 10 // 16 ∷ pos 25 // 50 ∷ pos 25 // 50 ∷ pos 5 // 11 ∷ q0 ∷ q0 ∷ q0 ∷ []) ∷
    (q0 ∷ q0 ∷ q0 ∷ pos 1 // 2 ∷ pos 1 // 2 ∷ pos 7 // 11 ∷ q1 ∷ q0 ∷ q0 ∷ []) ∷
    (q0 ∷ q0 ∷ q0 ∷ q0 ∷ q0 ∷ q0 ∷ q0 ∷ q1 ∷ q0 ∷ []) ∷
    (q0 ∷ q0 ∷ q0 ∷ q0 ∷ q0 ∷ q0 ∷ q0 ∷ q0 ∷ q1 ∷ []) ∷ []

abbrev lower_coefs : List ℤ
lower_coefs = pos 1 ∷ pos 0 ∷ pos 1 ∷ pos 0 ∷ pos 1 ∷ pos 0 ∷ pos 1 ∷ pos 0 ∷ pos 1 ∷ pos 0 ∷ pos 1 ∷ pos 0 ∷ []

lower-accepted : Accepted lower_limit_space
unfolding building
lower-accepted = record { table = lower_table; is = refl }

lower-sum : term_sum lower_table (λ i. pos 1) 4 6 ≡ pos 255
unfolding gcd gcd_f mk int ◌//◌ is_zero nearest rounded term term_sum
lower-sum = refl

lower-limits : (least_on lower_limit_space lower_table earlywood lower_coefs 1 ≡ pos 1) × (greatest_on lower_limit_space lower_table earlywood lower_coefs 1 ≡ pos 1)
unfolding gcd gcd_f mk int ◌//◌ is_zero first_column first best weighs_on least_on greatest_on
lower-limits = (refl, refl)

lower-value : value_at lower_limit_space lower_table earlywood lower_coefs (pos 256) ≡ pos 256
unfolding lower-accepted starts_at_discontinuity starts_by segment_at last
lower-value = Z.≤_antisym (value_at lower_limit_space lower_table earlywood lower_coefs (pos 256)) (pos 256)
    (subst (λ z. value_at lower_limit_space lower_table earlywood lower_coefs (pos 256) ≤ℤ fine z) lower-limits.1
    (value_at_most_greatest lower_limit_space lower-accepted earlywood lower_coefs (pos 256) tt))
    (subst (λ z. fine z ≤ℤ value_at lower_limit_space lower_table earlywood lower_coefs (pos 256)) lower-limits.0 (value_at_least-least lower_limit_space lower-accepted earlywood lower_coefs (pos 256) tt))

-- ---- no bound lower by a half: breaks 0,2,5, degrees 2,2, order 1, where s = p = 2, differ by more than 3/2 on either side

abbrev far_space : Space
far_space = space (0 ∷ 2 ∷ 5 ∷ []) (2 ∷ 2 ∷ []) (pos 1 ∷ [])

abbrev far_table : Table
far_table =
    (q1 ∷ q0 ∷ q0 ∷ q0 ∷ q0 ∷ q0 ∷ []) ∷
    (q0 ∷ q1 ∷ pos 3 // 4 ∷ pos 3 // 4 ∷ q0 ∷ q0 ∷ []) ∷
    (q0 ∷ q0 ∷ pos 2 // 4 ∷ pos 2 // 4 ∷ q1 ∷ q0 ∷ []) ∷
    (q0 ∷ q0 ∷ q0 ∷ q0 ∷ q0 ∷ q1 ∷ []) ∷ []

-- earlywood's coefficients leave a value above the exact curve, latewood's are their opposites
abbrev far_coefs : List ℤ
far_coefs = pos 0 ∷ pos 0 ∷ pos 1 ∷ negsuc 0 ∷ negsuc 0 ∷ pos 1 ∷ pos 0 ∷ pos 0 ∷ []

far_accepted : Accepted far_space
unfolding building
far_accepted = record { table = far_table; is = refl }

far_closeness : closeness far_space far_table (pos 508) ≡ int (pos 2)
unfolding gcd gcd_f mk int inv ◌*ᵠ◌ ◌//◌ is_zero first_column last starts_at_discontinuity starts_by segment_at how_many largest most_weights
far_closeness = refl

high_value : value_at far_space far_table earlywood far_coefs (pos 508) ≡ pos 56
unfolding reading
high_value = refl

high-exact : exact_curve far_space far_table earlywood far_coefs (pos 508) ≡ pos 17399 // 319
unfolding exact_reading
high-exact = refl

high-apart : pos 17399 // 319 +ᵠ pos 3 // 1 <ᵠ int (pos 56)
unfolding gcd gcd_f mk int ◌+ᵠ◌ ◌//◌ ltᵠ
high-apart = record { lt = tt }

high-within : int (pos 56) ≤ᵠ pos 17399 // 319 +ᵠ int (pos 2)
unfolding far_accepted
high-within = subst (λ v. int v ≤ᵠ pos 17399 // 319 +ᵠ int (pos 2)) high_value (subst (λ e. int (value_at far_space far_table earlywood far_coefs (pos 508)) ≤ᵠ e +ᵠ int (pos 2)) high-exact
    (subst (λ b. int (value_at far_space far_table earlywood far_coefs (pos 508)) ≤ᵠ exact_curve far_space far_table earlywood far_coefs (pos 508) +ᵠ b) far_closeness
    (value_at_most_exact_and_closeness far_space far_accepted earlywood far_coefs (pos 508) tt)))

low_value : value_at far_space far_table latewood far_coefs (pos 508) ≡ negsuc 55
unfolding reading
low_value = refl

low_exact : exact_curve far_space far_table latewood far_coefs (pos 508) ≡ negsuc 17398 // 319
unfolding exact_reading
low_exact = refl

low_apart : int (negsuc 55) +ᵠ pos 3 // 1 <ᵠ negsuc 17398 // 319
unfolding gcd gcd_f mk int ◌+ᵠ◌ ◌//◌ ltᵠ
low_apart = record { lt = tt }

low_within : negsuc 17398 // 319 ≤ᵠ int (negsuc 55) +ᵠ int (pos 2)
unfolding far_accepted
low_within = subst (λ v. negsuc 17398 // 319 ≤ᵠ int v +ᵠ int (pos 2)) low_value (subst (λ e. e ≤ᵠ int (value_at far_space far_table latewood far_coefs (pos 508)) +ᵠ int (pos 2)) low_exact
    (subst (λ b. exact_curve far_space far_table latewood far_coefs (pos 508) ≤ᵠ int (value_at far_space far_table latewood far_coefs (pos 508)) +ᵠ b) far_closeness
    (exact_at_most_value_and_closeness far_space far_accepted latewood far_coefs (pos 508) tt)))

-- ---- W9: the position on the discontinuity is read from the segment that ends there, the one beside it from the next

abbrev pub table9 : Table
table9 =
    (q1 ∷ q0 ∷ q0 ∷ q0 ∷ []) ∷
    (q0 ∷ q1 ∷ q0 ∷ q0 ∷ []) ∷
    (q0 ∷ q0 ∷ q1 ∷ q0 ∷ []) ∷
    (q0 ∷ q0 ∷ q0 ∷ q1 ∷ []) ∷ []

abbrev pub coefs9 : List ℤ
coefs9 = side_by_side (for_both (pos 0 ∷ pos 10 ∷ pos 20 ∷ pos 30 ∷ []))

checked9 : checked space9 ≡ answer space9
unfolding checking
checked9 = refl

unfoldable pub accepted9 : Accepted space9
unfolding checking gcd gcd_f mk int tab collect repeat first_column conditions_before identity order_steps join_steps weights space_weights
accepted9 = record { table = table9; is = refl }

segments9 : (segment_at space9 (pos 0) ≡ 0) × ((segment_at space9 (pos 256) ≡ 0) × ((segment_at space9 (pos 257) ≡ 1) × (suc (segment_at space9 (pos 512)) ≡ 2)))
segments9 = (
  first-breakpoint_belongs_first space9 checked9,
  (
    discontinuities_belong_before space9 checked9 0 (omega arith) refl,
    (positions_between_belong_between space9 checked9 1 (omega arith) (pos 257) (lt_z_yes tt) (lt_z_yes tt), last-breakpoint_belongs_last space9 checked9),
  ),
)

-- the exact curve is at that segment's end, 256 times 10, and the value is no more
pub exact9 : exact_curve space9 table9 earlywood coefs9 (pos 256) ≡ int (pos 2560)
unfolding exact_reading
exact9 = refl

greatest9 : greatest_on space9 table9 earlywood coefs9 0 ≡ pos 10
unfolding side_by_side gcd gcd_f mk int ◌//◌ is_zero first_column first best weighs_on greatest_on
greatest9 = refl

at_most9 : value_at space9 table9 earlywood coefs9 (pos 256) ≤ℤ pos 2560
unfolding accepted9
at_most9 =
    subst (λ z. value_at space9 table9 earlywood coefs9 (pos 256) ≤ℤ fine z) (ap (greatest_on space9 table9 earlywood coefs9) segments9.1.0 ∙ greatest9)
    (value_at_most_greatest space9 accepted9 earlywood coefs9 (pos 256) tt)

-- ---- W1: the join of order 1 belongs to the segment that starts there

join1 : segment_at space1 (pos 256) ≡ 1
join1 = other_joins_belong_after space1 checked1 0 (omega arith) (λ e. let z : ◌≡◌ {A = ℕ} 1 0 = ap up e in absurd (omega arith))

-- ---- a beam of two parts: after a curve call the weight buffers hold the second one, which is W4

abbrev beam_coefs : List ℤ
beam_coefs = side_by_side (for_both (pos 0 ∷ pos 10 ∷ pos 0 ∷ pos 7 ∷ pos 7 ∷ pos 0 ∷ pos 0 ∷ []))

-- on the discontinuity, and on the join of the second part
abbrev beam_positions : List ℤ
beam_positions = pos 256 ∷ pos 512 ∷ []

beam-answers : curve_outcome beam beam_coefs beam_positions 6000 6000 6000 ≡ answer (record { table = beam_table; values = for_both (pos 2560 ∷ pos 1792 ∷ []) })
unfolding calling
beam-answers = refl

beam_legal : Legal beam beam_coefs beam_positions (length lent) (length lent) (length lent)
beam_legal =
    subst (λ n. Legal beam beam_coefs beam_positions n n n) (sym lent_length)
    (answered_calls_are_legal beam beam_coefs beam_positions 6000 6000 6000 (record { table = beam_table; values = for_both (pos 2560 ∷ pos 1792 ∷ []) }) beam-answers)

-- cell 74 holds 4/7
beam-held : HoldsFraction (pos 4 // 6) (curve_end beam beam_coefs beam_positions lent lent lent).numerators (curve_end beam beam_coefs beam_positions lent lent lent).denominators 74
unfolding last starts_part last_part_start first_column conditions_before accepted_beam
beam-held =
    subst (λ t. HoldsFraction (last_part_cell beam t 1 2) (curve_end beam beam_coefs beam_positions lent lent lent).numerators
    (curve_end beam beam_coefs beam_positions lent lent lent).denominators 74) (sym (weights_are_published beam accepted_beam))
    (curve_cells_hold_published_weights beam beam_coefs beam_positions lent lent lent beam_legal 1 2 (omega arith) (omega arith))
