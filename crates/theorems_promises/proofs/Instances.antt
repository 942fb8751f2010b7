-- The statements at some spaces, with numbers: W1's space is one part, which W9's, with a discontinuity, is not; the cells of a
-- column after building a beam of two parts, and after W3's curve call, whose values are the least that positive coefficients give.
use mathlib.Core.Path.{◌≡◌, refl, sym, ap, subst}
use mathlib.Core.Bool.{true}
use mathlib.Core.List.{List, [], ◌∷◌}
use Prim.Native.Nat.{ℕ, zero, suc, ◌+◌, ◌*◌}
use native.Mathlib.Omega.{arith}
use lib.IntN.{ℤ, pos}
use lib.ListN.{length, get_or}
use lib.Signed.{◌≤ℤ◌}
use Rattle.base_exact.specs.Rational.{int, ◌//◌}
use Rattle.base_exact.specs.Sum.{sum}
use Rattle.base_exact.proofs.Integer.{up, <_in}
use Rattle.base_outcome.specs.Outcome.{answer, with_answer}
use Rattle.base_outcome.specs.Search.{last}
use Rattle.spec_spline.specs.Space.{starts_part, part_end, last_part_start, first_column, conditions_before, row_count}
use Rattle.spec_spline.specs.Table.{cell, row_cells}
use Rattle.spec_spline.specs.Build.{last_part, build_end}
use Rattle.spec_published.specs.Published.{extraction}
use Rattle.spec_spline.specs.Reading.{latewood, side_by_side}
use Rattle.spec_spline.specs.CurveCall.{curve_outcome, values_after, curve_end}
use Rattle.spec_spline.specs.ExactCurve.{Legal}
use Rattle.spec_spline.specs.Cases.{space1, space9, for_both}
use Rattle.spec_spline.proofs.Computing.{calling}
use Rattle.spec_published.proofs.Computing.{publishing}
use Rattle.theorems_weights.specs.Cells.{HoldsFraction}
use Rattle.theorems_weights.proofs.Instances.{lent, lent_length, beam, accepted_beam, checked1}
use Rattle.theorems_weights.proofs.Cells.{accepted_spaces_are_built}
use Rattle.theorems_beams.specs.Sections.{part_at}
use Rattle.theorems_values.proofs.Instances.{table1, accepted1}
use Rattle.theorems_values.proofs.LegalCall.{answered_calls_are_legal}
use Rattle.theorems_promises.specs.OnePart.{NoDiscontinuity}
use Rattle.theorems_promises.specs.PositiveValues.{PositiveCoefficients, least_positive}
use Rattle.theorems_promises.specs.WeightColumns.{held_fraction}
use Rattle.theorems_promises.proofs.OnePart.{one_part-ends, one_part_is_the_space, one_part_is_the_last, one_part_fills_the_cells}
use Rattle.theorems_promises.proofs.PositiveValues.{positive_cells}
use Rattle.theorems_promises.proofs.WeightColumns.{built-cells-sum_to_one, curve_cells-sum_to_one}

-- ---- one part

none1 : NoDiscontinuity space1
none1 zero h e = let z : ◌≡◌ {A = ℕ} 1 0 = ap up e in absurd (omega arith)
none1 (suc j) h e = absurd (omega arith)

whole1 : (part_end space1 0 ≡ 2) × (part_at space1 0 ≡ space1) × (last_part_start space1 ≡ 0) × (last_part space1 table1 ≡ table1)
whole1 = (one_part-ends space1 none1, one_part_is_the_space space1 checked1 none1, (one_part_is_the_last space1 none1).0, (one_part_is_the_last space1 none1).1 table1)

-- W9's join of order -1 starts a second part
two9 : (starts_part space9 1 ≡ true) × (last_part_start space9 ≡ 1)
unfolding starts_part last_part_start last
two9 = (refl, refl)

-- ---- the cells of a column: the second part of a beam is W4, with 4/7 and 3/7 on the join's ordinate, its column 2

beam-built : (build_end beam lent lent).answers ≡ answer 7
unfolding first_column conditions_before
beam-built = ap (with_answer (λ _. row_count beam)) (accepted_spaces_are_built beam accepted_beam (length lent) (length lent) (omega (arith, lent_length)) (omega (arith, lent_length)))

beam-column : sum row_cells (λ i. held_fraction (build_end beam lent lent).numerators (build_end beam lent lent).denominators (row_cells * i + 2)) ≡ int (pos 1)
unfolding starts_part last_part_start last first_column
beam-column = (built-cells-sum_to_one beam lent lent 7 beam-built).sums 2 (omega arith)

-- ---- after building W1's space cell 74 holds the weight of row 1 on column 2, 2/3

filled1 : HoldsFraction (cell (extraction space1) 1 2) (build_end space1 lent lent).numerators (build_end space1 lent lent).denominators 74
filled1 = one_part_fills_the_cells space1 accepted1 none1 lent lent (omega (arith, lent_length)) (omega (arith, lent_length)) 1 2 (omega arith) (omega arith)

weight1 : cell (extraction space1) 1 2 ≡ pos 2 // 2
unfolding publishing
weight1 = refl

-- ---- W3: W1's space with four coefficients 1

abbrev coefs3 : List ℤ
coefs3 = side_by_side (for_both (pos 1 ∷ pos 1 ∷ pos 1 ∷ pos 1 ∷ []))

abbrev positions3 : List ℤ
positions3 = pos 256 ∷ pos 512 ∷ []

answers3 : curve_outcome space1 coefs3 positions3 6000 6000 6000 ≡ answer (record { table = table1; values = for_both (pos 256 ∷ pos 256 ∷ []) })
unfolding calling
answers3 = refl

legal3 : Legal space1 coefs3 positions3 6000 6000 6000
legal3 = answered_calls_are_legal space1 coefs3 positions3 6000 6000 6000 _ answers3

positive3 : PositiveCoefficients space1 latewood coefs3
unfolding first_column conditions_before side_by_side
positive3 zero h = <_in (pos 0) (pos 1) (omega arith)
positive3 (suc zero) h = <_in (pos 0) (pos 1) (omega arith)
positive3 (suc (suc zero)) h = <_in (pos 0) (pos 1) (omega arith)
positive3 (suc (suc (suc zero))) h = <_in (pos 0) (pos 1) (omega arith)
positive3 (suc (suc (suc (suc i)))) h = absurd (omega arith)

-- cell 3, the latewood at 512
positive_cell3 : least_positive ≤ℤ get_or (values_after (curve_outcome space1 coefs3 positions3 6000 6000 6000) []) 3 (pos 0)
positive_cell3 = positive_cells space1 coefs3 positions3 6000 6000 6000 legal3 [] latewood positive3 1 (omega arith)

-- the 72 cells of column 2, 2/3 and 1/3 among them
column3 : sum row_cells (λ i. held_fraction (curve_end space1 coefs3 positions3 lent lent lent).numerators
    (curve_end space1 coefs3 positions3 lent lent lent).denominators (row_cells * i + 2)) ≡ int (pos 1)
unfolding starts_part last_part_start last first_column
column3 = (curve_cells-sum_to_one space1 coefs3 positions3 lent lent lent (subst (λ n. Legal space1 coefs3 positions3 n n n) (sym lent_length) legal3)).sums 2 (omega arith)
