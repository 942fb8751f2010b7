-- The theorems at some spaces, with numbers: one of order 1 whose counted fractions nearly reach the limit, W5 with three
-- weights on the join's ordinate, a segment of degree 3 with order 2 at both joins, the one case in which a step changes what
-- an earlier join left, the shortest space that code 8 refuses, a beam of two parts, and a curve call.
use mathlib.Core.Path.{◌≡◌, refl}
use mathlib.Core.Bool.{not}
use mathlib.Core.List.{List, [], ◌∷◌, ◌++◌}
use mathlib.Core.Option.{none}
use Prim.Native.Nat.{ℕ, zero, suc, ◌-◌, ◌*◌, ◌<◌}
use native.Mathlib.Omega.{arith}
use lib.Dec.{T}
use lib.IntN.{ℤ, pos, negsuc}
use lib.ListN.{length, get_or}
use lib.Signed.{lt_z}
use Rattle.base_exact.specs.Rational.{◌//◌}
use Rattle.base_exact.specs.Tabulate.{tab}
use Rattle.base_exact.proofs.Integer.{≤-refl}
use Rattle.base_exact.proofs.Word.{lt_z_false}
use Rattle.base_outcome.specs.Outcome.{answer, refusal}
use Rattle.base_outcome.specs.Search.{first}
use Rattle.spec_spline.specs.Space.{Space, segments, order, checked, first_column, conditions_before}
use Rattle.spec_spline.specs.Conditions.{falling}
use Rattle.spec_spline.specs.Table.{Table, cell}
use Rattle.spec_spline.specs.Build.{space_weights}
use Rattle.spec_spline.specs.Cases.{space, space1, space5}
use Rattle.spec_spline.specs.Reading.{latewood}
use Rattle.spec_spline.specs.CurveCall.{bad_coefficient, bad_position, curve_outcome, returned, values_after}
use Rattle.spec_spline.specs.ExactCurve.{Legal}
use Rattle.spec_spline.specs.Piecewise.{Accepted}
use Rattle.spec_spline.proofs.Computing.{building, checking, fractions}
use Rattle.base_outcome.proofs.Search.{first-none_inverts}
use Rattle.theorems_weights.proofs.Instances.{q0, q1}
use Rattle.theorems_acceptance.specs.Acceptance.{OrdersAtMostOne, EightAtOrderTwo}
use Rattle.theorems_acceptance.specs.Curves.{WithinLimits}
use Rattle.theorems_acceptance.specs.WeightCount.{right_conditions, weight_count}
use Rattle.theorems_acceptance.specs.ClosedForms.{left_size, right_size, share, balance, upper_factor, taken_before, lower_factor, left_over, own_row, first_weight, last_weight}
use Rattle.theorems_acceptance.specs.Values.{Near}
use Rattle.theorems_acceptance.proofs.LowOrders.{low_orders_are_accepted, eight_comes_at_order_two}
use Rattle.theorems_acceptance.proofs.Curves.{low_order_calls_answer}
use Rattle.theorems_acceptance.proofs.Values.{values_are_near}
use Rattle.theorems_acceptance.proofs.ClosedForms.{join-weights_at_order_two}
use Rattle.theorems_acceptance.proofs.WeightCount.{weights_are_counted}

-- ---- order 1 near the limit: breaks 0,1,2000, degrees 5,4

abbrev near_space : Space
near_space = space (0 ∷ 1 ∷ 2000 ∷ []) (5 ∷ 4 ∷ []) (pos 1 ∷ [])

near_checked : checked near_space ≡ answer near_space
unfolding checking
near_checked = refl

near_orders : OrdersAtMostOne near_space
near_orders zero h = ≤-refl (pos 1)
near_orders (suc j) h = absurd (omega arith)

near_accepted : Accepted near_space
near_accepted = low_orders_are_accepted near_space near_checked near_orders

-- the jump of the join's row is 9999, the numerator of its counted fraction; the weights there are 9995/9999 and 4/9999
abbrev near_table : Table
near_table =
    (q1 ∷ q0 ∷ q0 ∷ q0 ∷ q0 ∷ q0 ∷ q0 ∷ q0 ∷ q0 ∷ q0 ∷ q0 ∷ []) ∷
    (q0 ∷ q1 ∷ q0 ∷ q0 ∷ q0 ∷ q0 ∷ q0 ∷ q0 ∷ q0 ∷ q0 ∷ q0 ∷ []) ∷
    (q0 ∷ q0 ∷ q1 ∷ q0 ∷ q0 ∷ q0 ∷ q0 ∷ q0 ∷ q0 ∷ q0 ∷ q0 ∷ []) ∷
    (q0 ∷ q0 ∷ q0 ∷ q1 ∷ q0 ∷ q0 ∷ q0 ∷ q0 ∷ q0 ∷ q0 ∷ q0 ∷ []) ∷
    (q0 ∷ q0 ∷ q0 ∷ q0 ∷ q1 ∷ pos 9995 // 9998 ∷ pos 9995 // 9998 ∷ q0 ∷ q0 ∷ q0 ∷ q0 ∷ []) ∷
    (q0 ∷ q0 ∷ q0 ∷ q0 ∷ q0 ∷ pos 4 // 9998 ∷ pos 4 // 9998 ∷ q1 ∷ q0 ∷ q0 ∷ q0 ∷ []) ∷
    (q0 ∷ q0 ∷ q0 ∷ q0 ∷ q0 ∷ q0 ∷ q0 ∷ q0 ∷ q1 ∷ q0 ∷ q0 ∷ []) ∷
    (q0 ∷ q0 ∷ q0 ∷ q0 ∷ q0 ∷ q0 ∷ q0 ∷ q0 ∷ q0 ∷ q1 ∷ q0 ∷ []) ∷
    (q0 ∷ q0 ∷ q0 ∷ q0 ∷ q0 ∷ q0 ∷ q0 ∷ q0 ∷ q0 ∷ q0 ∷ q1 ∷ []) ∷ []

near_weights : space_weights near_space ≡ answer near_table
unfolding building
near_weights = refl

-- two weights on the join's ordinate, as many as the theorem allows
near_two : weight_count near_table 5 ≡ 2
unfolding first_column right_conditions
near_two = weights_are_counted near_space (record { table = near_table; is = near_weights }) 0 5 (omega arith) (omega arith)

-- ---- three weights: W5

abbrev table5 : Table
table5 =
    (q1 ∷ q0 ∷ q0 ∷ q0 ∷ q0 ∷ q0 ∷ q0 ∷ q0 ∷ []) ∷
    (q0 ∷ q1 ∷ pos 1 // 1 ∷ pos 1 // 3 ∷ pos 1 // 3 ∷ q0 ∷ q0 ∷ q0 ∷ []) ∷
    (q0 ∷ q0 ∷ pos 1 // 1 ∷ pos 1 // 1 ∷ pos 1 // 1 ∷ pos 1 // 1 ∷ q0 ∷ q0 ∷ []) ∷
    (q0 ∷ q0 ∷ q0 ∷ pos 1 // 3 ∷ pos 1 // 3 ∷ pos 1 // 1 ∷ q1 ∷ q0 ∷ []) ∷
    (q0 ∷ q0 ∷ q0 ∷ q0 ∷ q0 ∷ q0 ∷ q0 ∷ q1 ∷ []) ∷ []

weights5 : space_weights space5 ≡ answer table5
unfolding building
weights5 = refl

three5 : weight_count table5 3 ≡ 3
unfolding first_column right_conditions
three5 = weights_are_counted space5 (record { table = table5; is = weights5 }) 0 3 (omega arith) (omega arith)

-- ---- degree 3 with order 2 on both sides: breaks 0,1,2,3, degrees 3,3,3

abbrev both_space : Space
both_space = space (0 ∷ 1 ∷ 2 ∷ 3 ∷ []) (3 ∷ 3 ∷ 3 ∷ []) (pos 2 ∷ pos 2 ∷ [])

abbrev both_table : Table
both_table =
    (q1 ∷ q0 ∷ q0 ∷ q0 ∷ q0 ∷ q0 ∷ q0 ∷ q0 ∷ q0 ∷ q0 ∷ q0 ∷ q0 ∷ []) ∷
    (q0 ∷ q1 ∷ pos 1 // 1 ∷ pos 1 // 3 ∷ pos 1 // 3 ∷ q0 ∷ q0 ∷ q0 ∷ q0 ∷ q0 ∷ q0 ∷ q0 ∷ []) ∷
    (q0 ∷ q0 ∷ pos 1 // 1 ∷ pos 7 // 11 ∷ pos 7 // 11 ∷ pos 2 // 2 ∷ pos 1 // 2 ∷ pos 1 // 5 ∷ pos 1 // 5 ∷ q0 ∷ q0 ∷ q0 ∷ []) ∷
    (q0 ∷ q0 ∷ q0 ∷ pos 1 // 5 ∷ pos 1 // 5 ∷ pos 1 // 2 ∷ pos 2 // 2 ∷ pos 7 // 11 ∷ pos 7 // 11 ∷ pos 1 // 1 ∷ q0 ∷ q0 ∷ []) ∷
    (q0 ∷ q0 ∷ q0 ∷ q0 ∷ q0 ∷ q0 ∷ q0 ∷ pos 1 // 3 ∷ pos 1 // 3 ∷ pos 1 // 1 ∷ q1 ∷ q0 ∷ []) ∷
    (q0 ∷ q0 ∷ q0 ∷ q0 ∷ q0 ∷ q0 ∷ q0 ∷ q0 ∷ q0 ∷ q0 ∷ q0 ∷ q1 ∷ []) ∷ []

-- the second join makes 1/2, 1/2 of the first one's on ordinate 1 of the middle segment into 2/3, 1/3
both-weights : space_weights both_space ≡ answer both_table
unfolding building
both-weights = refl

-- the ordinates of the middle segment have 3, 2, 2 and 3 weights
both_first : weight_count both_table 4 ≡ 3
unfolding first_column right_conditions
both_first = weights_are_counted both_space (record { table = both_table; is = both-weights }) 1 0 (omega arith) (omega arith)

both-second : weight_count both_table 5 ≡ 2
unfolding first_column right_conditions
both-second = weights_are_counted both_space (record { table = both_table; is = both-weights }) 1 1 (omega arith) (omega arith)

both_third : weight_count both_table 6 ≡ 2
unfolding first_column right_conditions
both_third = weights_are_counted both_space (record { table = both_table; is = both-weights }) 1 2 (omega arith) (omega arith)

both-last : weight_count both_table 7 ≡ 3
unfolding first_column right_conditions
both-last = weights_are_counted both_space (record { table = both_table; is = both-weights }) 1 3 (omega arith) (omega arith)

-- the formulas there: the first join's ordinate has 1/4, 7/12 and 1/6, of which the next join has left 2/3 of 1/4
both_formulas : (first_weight both_space 0 ≡ pos 1 // 3) × (left_over both_space 0 ≡ pos 2 // 2) × (last_weight both_space 0 ≡ pos 1 // 5)
unfolding fractions falling left_size right_size share balance upper_factor taken_before lower_factor left_over right_conditions first_weight last_weight
both_formulas = (refl, refl, refl)

both-join : cell both_table 3 3 ≡ last_weight both_space 0
unfolding first_column conditions_before own_row
both-join = (join-weights_at_order_two both_space (record { table = both_table; is = both-weights }) 0 (omega arith) refl).2

-- ---- order 2 refused: breaks 0,1,21,22, degrees 5,3,4

abbrev refused_space : Space
refused_space = space (0 ∷ 1 ∷ 21 ∷ 22 ∷ []) (5 ∷ 3 ∷ 4 ∷ []) (pos 2 ∷ pos 2 ∷ [])

refused : space_weights refused_space ≡ refusal 8 1
unfolding building
refused = refl

refused_at_two : EightAtOrderTwo refused_space 1
refused_at_two = eight_comes_at_order_two refused_space 1 refused

-- ---- a beam: two parts of 7 segments of degree 2, each with a span of 1,995, with order 1 at all joins but the one between

abbrev beam : Space
beam = record { breaks = tab 15 (λ i. pos (285 * i)); degrees = tab 14 (λ i. pos 2); orders = tab 6 (λ j. pos 1) ++ (negsuc 0 ∷ tab 6 (λ j. pos 1)) }

beam-checked : checked beam ≡ answer beam
unfolding checking tab
beam-checked = refl

none_above : first (segments beam - 1) (λ k. lt_z (pos 1) (order beam k)) ≡ none
unfolding tab first
none_above = refl

beam_orders : OrdersAtMostOne beam
beam_orders j h = lt_z_false (pos 1) (order beam j) (first-none_inverts (λ k. lt_z (pos 1) (order beam k)) (segments beam - 1) none_above j h)

beam-accepted : Accepted beam
beam-accepted = low_orders_are_accepted beam beam-checked beam_orders

-- two weights on the ordinate at the first part's last join, one at its end
beam_two : weight_count beam-accepted.table 17 ≡ 2
unfolding tab first_column right_conditions
beam_two = weights_are_counted beam beam-accepted 5 2 (omega arith) (omega arith)

beam_one : weight_count beam-accepted.table 20 ≡ 1
unfolding tab first_column right_conditions
beam_one = weights_are_counted beam beam-accepted 6 2 (omega arith) (omega arith)

-- ---- a curve call: W1's space and positions, with any four coefficients within their limits

orders1 : OrdersAtMostOne space1
orders1 zero h = ≤-refl (pos 1)
orders1 (suc j) h = absurd (omega arith)

abbrev coefs1 : List ℤ
coefs1 = pos 1000000 ∷ pos 7 ∷ negsuc 999999 ∷ pos 0 ∷ pos 0 ∷ negsuc 999999 ∷ pos 7 ∷ pos 1000000 ∷ []

abbrev positions1 : List ℤ
positions1 = pos 256 ∷ pos 512 ∷ []

within1 : WithinLimits space1 coefs1 positions1 5184 5184 4
unfolding checking first_column conditions_before bad_coefficient bad_position
within1 = record {
  lists = refl;
  coefficient_count = refl;
  coefficients = coefficients;
  position_count = omega arith;
  in_span = inside;
  numerators = omega arith;
  denominators = omega arith;
  values = omega arith;
}
  where
    coefficients : (i : ℕ) → i < length coefs1 → T (not (bad_coefficient coefs1 i))
    coefficients zero h = tt
    coefficients (suc zero) h = tt
    coefficients (suc (suc zero)) h = tt
    coefficients (suc (suc (suc zero))) h = tt
    coefficients (suc (suc (suc (suc zero)))) h = tt
    coefficients (suc (suc (suc (suc (suc zero))))) h = tt
    coefficients (suc (suc (suc (suc (suc (suc zero)))))) h = tt
    coefficients (suc (suc (suc (suc (suc (suc (suc zero))))))) h = tt
    coefficients (suc (suc (suc (suc (suc (suc (suc (suc i)))))))) h = absurd (omega arith)

    inside : (i : ℕ) → i < length positions1 → T (not (bad_position space1 positions1 i))
    inside zero h = tt
    inside (suc zero) h = tt
    inside (suc (suc i)) h = absurd (omega arith)

answers1 : returned (curve_outcome space1 coefs1 positions1 5184 5184 4) ≡ answer 2
answers1 = low_order_calls_answer space1 coefs1 positions1 5184 5184 4 within1 orders1

legal1 : Legal space1 coefs1 positions1 5184 5184 4
legal1 = record {
  accepted = low_orders_are_accepted space1 within1.lists orders1;
  coefficient_count = within1.coefficient_count;
  coefficients = within1.coefficients;
  position_count = within1.position_count;
  in_span = within1.in_span;
  numerators = within1.numerators;
  denominators = within1.denominators;
  values = within1.values;
}

near1 : (before : List ℤ) → Near space1 legal1.accepted.table latewood coefs1 (pos 512) (get_or (values_after (curve_outcome space1 coefs1 positions1 5184 5184 4) before) 3 (pos 0))
near1 before = values_are_near space1 coefs1 positions1 5184 5184 4 legal1 before 1 (omega arith) latewood
