-- Falling lists at numbers. First the second part of a beam, whose latewood coefficients 9, 7, 7, 3, 0 fall while those of its first
-- part climb: the values fall. Then the list that shows why order 2 is left out: with breaks 0,700,701,703, degrees 3,3,3 and orders
-- 2,2 the coefficients three times 989268, three times 989267 do not rise, and the value at 179328 is one above that at 179327.
use mathlib.Core.Path.{◌≡◌, refl, subst}
use mathlib.Core.List.{List, [], ◌∷◌}
use Prim.Native.Nat.{zero, suc}
use native.Mathlib.Omega.{arith}
use lib.Dec.{T}
use lib.IntN.{ℤ, pos}
use lib.ListN.{get_or}
use lib.Signed.{◌≤ℤ◌, ◌<ℤ◌}
use Rattle.base_exact.specs.Rational.{◌//◌}
use Rattle.base_exact.proofs.Integer.{≤_in, <_in}
use Rattle.base_outcome.specs.Outcome.{answer}
use Rattle.base_outcome.specs.Search.{first, last}
use Rattle.spec_spline.specs.Space.{Space, part_end, starts_part, first_column, conditions_before}
use Rattle.base_outcome.specs.Tests.{between}
use Rattle.spec_spline.specs.Table.{Table}
use Rattle.spec_spline.specs.Piecewise.{Accepted}
use Rattle.spec_spline.specs.Reading.{starts_at_discontinuity, starts_by, segment_at, earlywood, latewood, side_by_side, value_at}
use Rattle.spec_spline.specs.CurveCall.{curve_outcome, values_after}
use Rattle.spec_spline.specs.ExactCurve.{Legal}
use Rattle.spec_spline.specs.Cases.{pair, for_both, space}
use Rattle.spec_spline.proofs.Computing.{building, reading, calling}
use Rattle.theorems_weights.proofs.Instances.{q0, q1, beam, beam_table, accepted_beam}
use Rattle.theorems_beams.specs.Parts.{Starts}
use Rattle.theorems_values.proofs.LegalCall.{answered_calls_are_legal}
use Rattle.theorems_promises.specs.FallingCurves.{LowOrders, Falls, Climbs, InPart}
use Rattle.theorems_promises.proofs.FallingCurves.{falling_lists_fall, climbing_lists_climb, falling-cells, climbing_cells}

-- ---- a beam: breaks 0,1,2,4, degrees 1,2,3, orders -1,1

abbrev beam_coefs : List ℤ
beam_coefs = side_by_side (pair (pos 9) (pos 1) ∷ pair (pos 3) (pos 5) ∷ pair (pos 0) (pos 9) ∷ pair (pos 0) (pos 7) ∷ pair (pos 0) (pos 7) ∷ pair (pos 0) (pos 3) ∷ pair (pos 0) (pos 0) ∷ [])

second-starts : Starts beam 1
unfolding starts_part
second-starts = record { below = omega arith; starts = refl }

second_low : LowOrders beam 1
unfolding starts_part part_end first
second_low zero h l = absurd (omega arith)
second_low (suc zero) h l = ≤_in (pos 1) (pos 1) (omega arith)
second_low (suc (suc j)) h l = absurd (omega arith)

second_falls : Falls beam latewood beam_coefs 1
unfolding starts_part part_end first first_column conditions_before side_by_side
second_falls zero h = ≤_in (pos 7) (pos 9) (omega arith)
second_falls (suc zero) h = ≤_in (pos 7) (pos 7) (omega arith)
second_falls (suc (suc zero)) h = ≤_in (pos 3) (pos 7) (omega arith)
second_falls (suc (suc (suc zero))) h = ≤_in (pos 0) (pos 3) (omega arith)
second_falls (suc (suc (suc (suc i)))) h = absurd (omega arith)

-- behind the discontinuity, and on both sides of the join
in_second : InPart beam 1 (pos 300)
unfolding starts_part part_end first last starts_at_discontinuity starts_by segment_at
in_second = record { inside = tt; from = omega arith; to = omega arith }

in_third : InPart beam 1 (pos 700)
unfolding starts_part part_end first last starts_at_discontinuity starts_by segment_at
in_third = record { inside = tt; from = omega arith; to = omega arith }

-- 2143 at 300 and 1441 at 700
beam-values : (value_at beam beam_table latewood beam_coefs (pos 300) ≡ pos 2143) × (value_at beam beam_table latewood beam_coefs (pos 700) ≡ pos 1441)
unfolding reading
beam-values = (refl, refl)

beam_falls : pos 1441 ≤ℤ pos 2143
unfolding accepted_beam
beam_falls = subst (λ v. pos 1441 ≤ℤ v) beam-values.0 (subst (λ v. v ≤ℤ value_at beam beam_table latewood beam_coefs (pos 300)) beam-values.1
    (falling_lists_fall beam accepted_beam 1 second-starts second_low latewood beam_coefs second_falls (pos 300) (pos 700) in_second in_third (≤_in (pos 300) (pos 700) (omega arith))))

-- the first part's latewood, 1 and 5, climbs: 256 at 0 and 768 at 128
first-starts : Starts beam 0
unfolding starts_part
first-starts = record { below = omega arith; starts = refl }

first_low : LowOrders beam 0
unfolding starts_part part_end first
first_low j h l = absurd (omega arith)

first_climbs : Climbs beam latewood beam_coefs 0
unfolding starts_part part_end first first_column conditions_before side_by_side
first_climbs zero h = ≤_in (pos 1) (pos 5) (omega arith)
first_climbs (suc i) h = absurd (omega arith)

in_first : (x : ℤ) → T (between (pos 0) (pos 1024) x) → segment_at beam x ≡ 0 → InPart beam 0 x
unfolding starts_part part_end first
in_first x i e = record { inside = i; from = omega arith; to = omega arith }

climbing_values : (value_at beam beam_table latewood beam_coefs (pos 0) ≡ pos 256) × (value_at beam beam_table latewood beam_coefs (pos 128) ≡ pos 768)
unfolding reading
climbing_values = (refl, refl)

beam_climbs : pos 256 ≤ℤ pos 768
unfolding accepted_beam last starts_at_discontinuity starts_by segment_at
beam_climbs = subst (λ v. pos 256 ≤ℤ v) climbing_values.1 (subst (λ v. v ≤ℤ value_at beam beam_table latewood beam_coefs (pos 128)) climbing_values.0
    (climbing_lists_climb beam accepted_beam 0 first-starts first_low latewood beam_coefs first_climbs (pos 0) (pos 128) (in_first (pos 0) tt refl)
    (in_first (pos 128) tt refl) (≤_in (pos 0) (pos 128) (omega arith))))

-- on the discontinuity the latewood is 1280, less than the 2300 behind it: positions of two parts are not compared
beam-jumps : (value_at beam beam_table latewood beam_coefs (pos 256) ≡ pos 1280) × (value_at beam beam_table latewood beam_coefs (pos 257) ≡ pos 2300)
unfolding reading
beam-jumps = (refl, refl)

-- ---- the cells after a curve call at these positions, in another order

abbrev beam_positions : List ℤ
beam_positions = pos 700 ∷ pos 300 ∷ pos 128 ∷ pos 0 ∷ []

beam-answers : curve_outcome beam beam_coefs beam_positions 5184 5184 8 ≡ answer (record {
  table = beam_table;
  values = pair (pos 0) (pos 1441) ∷ pair (pos 0) (pos 2143) ∷ pair (pos 1536) (pos 768) ∷ pair (pos 2304) (pos 256) ∷ [];
})
unfolding calling
beam-answers = refl

beam_legal : Legal beam beam_coefs beam_positions 5184 5184 8
beam_legal = answered_calls_are_legal beam beam_coefs beam_positions 5184 5184 8 _ beam-answers

abbrev beam_cells : List ℤ
beam_cells = values_after (curve_outcome beam beam_coefs beam_positions 5184 5184 8) []

-- cell 1, the latewood at 700, is 1441, and cell 3, that at 300, is 2143
beam-cells_fall : get_or beam_cells 1 (pos 0) ≤ℤ get_or beam_cells 3 (pos 0)
beam-cells_fall = falling-cells beam beam_coefs beam_positions 5184 5184 8 beam_legal [] latewood 1 second-starts second_low second_falls 1 0
    (record { earlier_listed = omega arith; later-listed = omega arith; earlier = in_second; later = in_third; ordered = ≤_in (pos 300) (pos 700) (omega arith) })

-- cell 7, the latewood at 0, is 256, and cell 5, that at 128, is 768
beam-cells_climb : get_or beam_cells 7 (pos 0) ≤ℤ get_or beam_cells 5 (pos 0)
unfolding last starts_at_discontinuity starts_by segment_at
beam-cells_climb = climbing_cells beam beam_coefs beam_positions 5184 5184 8 beam_legal [] latewood 0 first-starts first_low first_climbs 3 2
    (record { earlier_listed = omega arith; later-listed = omega arith; earlier = in_first (pos 0) tt refl; later = in_first (pos 128) tt refl; ordered = ≤_in (pos 0) (pos 128) (omega arith) })

-- ---- order 2

abbrev rising_space : Space
rising_space = space (0 ∷ 700 ∷ 701 ∷ 703 ∷ []) (3 ∷ 3 ∷ 3 ∷ []) (pos 2 ∷ pos 2 ∷ [])

abbrev rising_table : Table
rising_table =
    (q1 ∷ q0 ∷ q0 ∷ q0 ∷ q0 ∷ q0 ∷ q0 ∷ q0 ∷ q0 ∷ q0 ∷ q0 ∷ q0 ∷ []) ∷
    (q0 ∷ q1 ∷ pos 1 // 700 ∷ pos 1 // 491400 ∷ pos 1 // 491400 ∷ q0 ∷ q0 ∷ q0 ∷ q0 ∷ q0 ∷ q0 ∷ q0 ∷ []) ∷
    (q0 ∷ q0 ∷ pos 700 // 700 ∷ pos 1964200 // 345454902 ∷ pos 1964200 // 345454902 ∷ pos 3 // 702 ∷ pos 2 // 702 ∷ pos 4 // 2108 ∷ pos 4 // 2108 ∷ q0 ∷ q0 ∷ q0 ∷ []) ∷
    (q0 ∷ q0 ∷ q0 ∷ pos 490000 // 492802 ∷ pos 490000 // 492802 ∷ pos 700 // 702 ∷ pos 701 // 702 ∷ pos 5612 // 6326 ∷ pos 5612 // 6326 ∷ pos 2 // 2 ∷ q0 ∷ q0 ∷ []) ∷
    (q0 ∷ q0 ∷ q0 ∷ q0 ∷ q0 ∷ q0 ∷ q0 ∷ pos 1 // 8 ∷ pos 1 // 8 ∷ pos 1 // 2 ∷ q1 ∷ q0 ∷ []) ∷
    (q0 ∷ q0 ∷ q0 ∷ q0 ∷ q0 ∷ q0 ∷ q0 ∷ q0 ∷ q0 ∷ q0 ∷ q0 ∷ q1 ∷ []) ∷ []

rising-accepted : Accepted rising_space
unfolding building
rising-accepted = record { table = rising_table; is = refl }

abbrev rising_coefs : List ℤ
rising_coefs = side_by_side (for_both (pos 989268 ∷ pos 989268 ∷ pos 989268 ∷ pos 989267 ∷ pos 989267 ∷ pos 989267 ∷ []))

-- the list does not rise
rising_falls : Falls rising_space earlywood rising_coefs 0
unfolding starts_part part_end first first_column conditions_before side_by_side
rising_falls zero h = ≤_in (pos 989268) (pos 989268) (omega arith)
rising_falls (suc zero) h = ≤_in (pos 989268) (pos 989268) (omega arith)
rising_falls (suc (suc zero)) h = ≤_in (pos 989267) (pos 989268) (omega arith)
rising_falls (suc (suc (suc zero))) h = ≤_in (pos 989267) (pos 989267) (omega arith)
rising_falls (suc (suc (suc (suc zero)))) h = ≤_in (pos 989267) (pos 989267) (omega arith)
rising_falls (suc (suc (suc (suc (suc i))))) h = absurd (omega arith)

-- both positions lie in its one part
rising_inside : InPart rising_space 0 (pos 179327) × InPart rising_space 0 (pos 179328)
unfolding starts_part part_end first last starts_at_discontinuity starts_by segment_at
rising_inside = (record { inside = tt; from = omega arith; to = omega arith }, record { inside = tt; from = omega arith; to = omega arith })

-- the values do
rising-values : (value_at rising_space rising_table earlywood rising_coefs (pos 179327) ≡ pos 253252353) × (value_at rising_space rising_table earlywood rising_coefs (pos 179328) ≡ pos 253252354)
unfolding reading
rising-values = (refl, refl)

rising_rises : value_at rising_space rising-accepted.table earlywood rising_coefs (pos 179327) <ℤ value_at rising_space rising-accepted.table earlywood rising_coefs (pos 179328)
unfolding rising-accepted
rising_rises = rw (rising-values.0, rising-values.1) (<_in (pos 253252353) (pos 253252354) (omega arith))
