-- The theorems at two spaces of the specification's cases, W4 and W5, with numbers: the hypotheses can be met, and what the
-- theorems say of these spaces is what the cases say. And at a beam of two parts, whose second part the buffers hold.
use mathlib.Core.Path.{◌≡◌, refl, sym, ◌∙◌, ap}
use mathlib.Core.Logic.{◌⊎◌, inl, inr}
use mathlib.Core.Bool.{true, false}
use mathlib.Core.List.{List, [], ◌∷◌, ◌++◌}
use Prim.Native.Nat.{ℕ, zero, suc, ◌+◌, ◌-◌, ◌*◌, ◌<◌}
use native.Mathlib.Omega.{arith}
use lib.IntN.{ℤ, pos, negsuc}
use lib.ListN.{length, get_or, take, drop, length-take}
use lib.Seq.{split_at}
use Rattle.base_exact.specs.Gcd.{gcd, gcd_f}
use Rattle.base_exact.specs.Rational.{ℚ, mk, int, ◌+ᵠ◌, ◌*ᵠ◌, ◌//◌}
use Rattle.base_exact.specs.Order.{is_zero, ◌≤ᵠ◌}
use Rattle.base_exact.specs.Sum.{sum}
use Rattle.base_exact.specs.Tabulate.{tab}
use Rattle.base_exact.proofs.Tabulate.{tab_length}
use Rattle.base_fraction.specs.Size.{fits}
use Rattle.base_outcome.specs.Outcome.{answer, refusal, capped}
use Rattle.base_outcome.specs.Search.{first, last}
use Rattle.spec_spline.specs.Space.{Space, segments, condition_count, starts_part, last_part_start, checked, first_column, conditions_before}
use Rattle.spec_spline.specs.Conditions.{conditions}
use Rattle.spec_spline.specs.Table.{Row, Table, row, cell, identity, row_cells}
use Rattle.spec_spline.specs.Step.{partial_sum}
use Rattle.spec_spline.specs.Build.{space_weights, built, build_end}
use Rattle.spec_published.specs.Published.{for, extraction}
use Rattle.spec_spline.specs.Cases.{space4, space5, line_space, space1}
use Rattle.spec_spline.specs.Piecewise.{Accepted, MeetsAll, Meets, pairing, combination}
use Rattle.spec_spline.proofs.Computing.{building, checking, conditioning}
use Rattle.base_outcome.proofs.Outcome.{answer_not_refusal}
use Rattle.theorems_weights.specs.Cells.{HoldsFraction, last_part_cell}
use Rattle.theorems_weights.specs.Counted.{Test, counted, shaped, code_of, passes, joined, jump_tests, exact_jumps, first_jump, last_jump, shape_test}
use Rattle.theorems_weights.specs.Counted.{quotient, factor_tests, inner_rows, inner_row, exact_factors, entry_tests, row_tests, exact_row, step_tests, exact_step}
use Rattle.theorems_weights.specs.Counted.{exact_orders, exact_joins, build_tests, exact_weights, all_pass, FirstTooLarge, FirstFailure}
use Rattle.theorems_weights.proofs.PublishedBasis.{rows_and_columns, combinations_meet_conditions, conditions_give_one_combination}
use Rattle.theorems_weights.proofs.PartitionOfUnity.{no_weight_negative, column_sums_one}
use Rattle.theorems_weights.proofs.Published.{weights_are_published}
use Rattle.theorems_weights.proofs.Cells.{accepted_spaces_are_built, cells_hold_published_weights}
use Rattle.theorems_weights.proofs.Counted.{refused_by_first_failure, eight_is_first_too_large, first_failure_refuses, passing_is_accepted}

-- ---- what the tests of a build are computed with: those of a step, and of all steps

step_testing : Unit {0}
unfolding conditioning capped first last fits identity partial_sum pairing for joined jump_tests exact_jumps first_jump last_jump shape_test
step_testing = tt

testing : Unit {0}
unfolding step_testing quotient factor_tests inner_rows inner_row exact_factors entry_tests row_tests exact_row step_tests exact_step exact_orders exact_joins build_tests all_pass
testing = tt

abbrev pub q0 : ℚ
q0 = int (pos 0)

abbrev pub q1 : ℚ
q1 = int (pos 1)

-- ---- W4: breaks 0,1,3, degrees 2,3, order 1

abbrev table4 : Table
table4 =
    (q1 ∷ q0 ∷ q0 ∷ q0 ∷ q0 ∷ q0 ∷ q0 ∷ []) ∷
    (q0 ∷ q1 ∷ pos 4 // 6 ∷ pos 4 // 6 ∷ q0 ∷ q0 ∷ q0 ∷ []) ∷
    (q0 ∷ q0 ∷ pos 3 // 6 ∷ pos 3 // 6 ∷ q1 ∷ q0 ∷ q0 ∷ []) ∷
    (q0 ∷ q0 ∷ q0 ∷ q0 ∷ q0 ∷ q1 ∷ q0 ∷ []) ∷
    (q0 ∷ q0 ∷ q0 ∷ q0 ∷ q0 ∷ q0 ∷ q1 ∷ []) ∷ []

accepted4 : Accepted space4
unfolding building
accepted4 = record { table = table4; is = refl }

-- the published construction has weights 4/7 and 3/7 on the join's ordinate
published4 : table4 ≡ extraction space4
unfolding accepted4
published4 = weights_are_published space4 accepted4

-- the build in buffers of 5,184 and more cells answers with this table
built4 : built space4 5184 6000 ≡ answer table4
unfolding accepted4
built4 = accepted_spaces_are_built space4 accepted4 5184 6000 (omega arith) (omega arith)

-- a buffer of 6,000 cells that all hold 9
pub lent : List ℤ
lent = tab 6000 (λ k. pos 9)

pub lent_length : length lent ≡ 6000
unfolding lent
lent_length = tab_length 6000 (λ k. pos 9)

module _ (s : Space) (a : Accepted s) (i c : ℕ) (h : i < row_cells) (k : c < row_cells) where
  held : HoldsFraction (last_part_cell s a.table i c) (build_end s lent lent).numerators (build_end s lent lent).denominators (row_cells * i + c)
  held = rw (weights_are_published s a) (cells_hold_published_weights s a lent lent (omega (arith, lent_length)) (omega (arith, lent_length)) i c h k)

-- after it cell 74, of row 1 and the join's ordinate, holds 4/7, cell 146, of row 2, holds 3/7
weight_cell4 : (get_or (build_end space4 lent lent).numerators 74 (pos 0) ≡ pos 4) × (get_or (build_end space4 lent lent).denominators 74 (pos 0) ≡ pos 7)
unfolding gcd gcd_f mk ◌//◌ last starts_part last_part_start first_column conditions_before accepted4
weight_cell4 = let w = held space4 accepted4 1 2 (omega arith) (omega arith) in (w.numerator, w.denominator)

next-weight_cell4 : (get_or (build_end space4 lent lent).numerators 146 (pos 0) ≡ pos 3) × (get_or (build_end space4 lent lent).denominators 146 (pos 0) ≡ pos 7)
unfolding gcd gcd_f mk ◌//◌ last starts_part last_part_start first_column conditions_before accepted4
next-weight_cell4 = let w = held space4 accepted4 2 2 (omega arith) (omega arith) in (w.numerator, w.denominator)

-- and cell 5183, which is unused, holds 0/1
unused_cell4 : (get_or (build_end space4 lent lent).numerators 5183 (pos 0) ≡ pos 0) × (get_or (build_end space4 lent lent).denominators 5183 (pos 0) ≡ pos 1)
unfolding gcd gcd_f mk int last starts_part last_part_start first_column conditions_before accepted4
unused_cell4 = let w = held space4 accepted4 71 71 (omega arith) (omega arith) in (w.numerator, w.denominator)

rows4 : length table4 ≡ 5
unfolding accepted4 first_column conditions_before
rows4 = (rows_and_columns space4 accepted4).0

columns4 : length (row table4 2) ≡ 7
unfolding accepted4 first_column conditions_before
columns4 = (rows_and_columns space4 accepted4).1 2 (omega arith)

weight4 : int (pos 0) ≤ᵠ pos 4 // 6
unfolding accepted4
weight4 = no_weight_negative space4 accepted4 1 2

column_sum4 : sum 5 (λ i. cell table4 i 2) ≡ int (pos 1)
unfolding accepted4 first_column conditions_before
column_sum4 = column_sums_one space4 accepted4 2 (omega arith)

-- any multipliers, also fractions and negative ones, give ordinates that meet the two conditions of the join
pub multipliers4 : List ℚ
multipliers4 = pos 2 // 4 ∷ negsuc 6 // 0 ∷ q0 ∷ q1 ∷ pos 5 // 1 ∷ []

combination4 : MeetsAll space4 (combination 7 multipliers4 table4)
unfolding accepted4 first_column
combination4 = combinations_meet_conditions space4 accepted4 multipliers4

-- ordinates that meet them, and the only multipliers that give these ordinates
abbrev pub ordinates4 : Row
ordinates4 = q0 ∷ int (pos 7) ∷ int (pos 4) ∷ int (pos 4) ∷ q0 ∷ q1 ∷ int (pos 2) ∷ []

met4 : (j k : ℕ) → j < segments space4 - 1 → k < condition_count space4 j → Meets space4 ordinates4 j k
unfolding conditioning pairing
met4 zero zero h l = refl
met4 zero (suc zero) h l = refl
met4 zero (suc (suc k)) h l = absurd (omega arith)
met4 (suc j) k h l = absurd (omega arith)

meets4 : MeetsAll space4 ordinates4
unfolding first_column
meets4 = record { columns = refl; meets = met4 }

given4 : combination 7 (q0 ∷ int (pos 7) ∷ q0 ∷ q1 ∷ int (pos 2) ∷ []) table4 ≡ ordinates4
unfolding gcd gcd_f mk int ◌+ᵠ◌ ◌*ᵠ◌ ◌//◌ sum tab combination
given4 = refl

only4 : (others : List ℚ) → length others ≡ 5 → combination 7 others table4 ≡ ordinates4 → others ≡ q0 ∷ int (pos 7) ∷ q0 ∷ q1 ∷ int (pos 2) ∷ []
unfolding accepted4 first_column conditions_before
only4 others h e = let o = conditions_give_one_combination space4 accepted4 ordinates4 meets4 in o.only others h e ∙ sym (o.only (q0 ∷ int (pos 7) ∷ q0 ∷ q1 ∷ int (pos 2) ∷ []) refl given4)

-- ---- W5: breaks 0,1,2, degrees 3,3, order 2

abbrev pub table5 : Table
table5 =
    (q1 ∷ q0 ∷ q0 ∷ q0 ∷ q0 ∷ q0 ∷ q0 ∷ q0 ∷ []) ∷
    (q0 ∷ q1 ∷ pos 1 // 1 ∷ pos 1 // 3 ∷ pos 1 // 3 ∷ q0 ∷ q0 ∷ q0 ∷ []) ∷
    (q0 ∷ q0 ∷ pos 1 // 1 ∷ pos 1 // 1 ∷ pos 1 // 1 ∷ pos 1 // 1 ∷ q0 ∷ q0 ∷ []) ∷
    (q0 ∷ q0 ∷ q0 ∷ pos 1 // 3 ∷ pos 1 // 3 ∷ pos 1 // 1 ∷ q1 ∷ q0 ∷ []) ∷
    (q0 ∷ q0 ∷ q0 ∷ q0 ∷ q0 ∷ q0 ∷ q0 ∷ q1 ∷ []) ∷ []

unfoldable pub accepted5 : Accepted space5
unfolding building
accepted5 = record { table = table5; is = refl }

-- the published construction has weights 1/4, 1/2 and 1/4 on the join's ordinate
published5 : table5 ≡ extraction space5
unfolding accepted5
published5 = weights_are_published space5 accepted5

rows5 : length table5 ≡ 5
unfolding accepted5 first_column conditions_before
rows5 = (rows_and_columns space5 accepted5).0

columns5 : length (row table5 3) ≡ 8
unfolding accepted5 first_column conditions_before
columns5 = (rows_and_columns space5 accepted5).1 3 (omega arith)

weight5 : int (pos 0) ≤ᵠ pos 1 // 3
unfolding accepted5
weight5 = no_weight_negative space5 accepted5 1 3

column_sum5 : sum 5 (λ i. cell table5 i 4) ≡ int (pos 1)
unfolding accepted5 first_column conditions_before
column_sum5 = column_sums_one space5 accepted5 4 (omega arith)

combination5 : MeetsAll space5 (combination 8 multipliers4 table5)
unfolding accepted5 first_column
combination5 = combinations_meet_conditions space5 accepted5 multipliers4

abbrev pub ordinates5 : Row
ordinates5 = q0 ∷ int (pos 4) ∷ int (pos 3) ∷ int (pos 4) ∷ int (pos 4) ∷ int (pos 5) ∷ int (pos 8) ∷ q1 ∷ []

met5 : (j k : ℕ) → j < segments space5 - 1 → k < condition_count space5 j → Meets space5 ordinates5 j k
unfolding conditioning pairing
met5 zero zero h l = refl
met5 zero (suc zero) h l = refl
met5 zero (suc (suc zero)) h l = refl
met5 zero (suc (suc (suc k))) h l = absurd (omega arith)
met5 (suc j) k h l = absurd (omega arith)

meets5 : MeetsAll space5 ordinates5
unfolding first_column
meets5 = record { columns = refl; meets = met5 }

pub given5 : combination 8 (q0 ∷ int (pos 4) ∷ int (pos 2) ∷ int (pos 8) ∷ q1 ∷ []) table5 ≡ ordinates5
unfolding gcd gcd_f mk int ◌+ᵠ◌ ◌*ᵠ◌ ◌//◌ sum tab combination
given5 = refl

only5 : (others : List ℚ) → length others ≡ 5 → combination 8 others table5 ≡ ordinates5 → others ≡ q0 ∷ int (pos 4) ∷ int (pos 2) ∷ int (pos 8) ∷ q1 ∷ []
unfolding accepted5 first_column conditions_before
only5 others h e = let o = conditions_give_one_combination space5 accepted5 ordinates5 meets5 in o.only others h e ∙ sym (o.only (q0 ∷ int (pos 4) ∷ int (pos 2) ∷ int (pos 8) ∷ q1 ∷ []) refl given5)

-- ---- a beam of two parts: breaks 0,1,2,4, degrees 1,2,3, orders -1,1; its second part is W4

abbrev pub beam : Space
beam = record { breaks = pos 0 ∷ pos 1 ∷ pos 2 ∷ pos 4 ∷ []; degrees = pos 1 ∷ pos 2 ∷ pos 3 ∷ []; orders = negsuc 0 ∷ pos 1 ∷ [] }

abbrev pub beam_table : Table
beam_table =
    (q1 ∷ q0 ∷ q0 ∷ q0 ∷ q0 ∷ q0 ∷ q0 ∷ q0 ∷ q0 ∷ []) ∷
    (q0 ∷ q1 ∷ q0 ∷ q0 ∷ q0 ∷ q0 ∷ q0 ∷ q0 ∷ q0 ∷ []) ∷
    (q0 ∷ q0 ∷ q1 ∷ q0 ∷ q0 ∷ q0 ∷ q0 ∷ q0 ∷ q0 ∷ []) ∷
    (q0 ∷ q0 ∷ q0 ∷ q1 ∷ pos 4 // 6 ∷ pos 4 // 6 ∷ q0 ∷ q0 ∷ q0 ∷ []) ∷
    (q0 ∷ q0 ∷ q0 ∷ q0 ∷ pos 3 // 6 ∷ pos 3 // 6 ∷ q1 ∷ q0 ∷ q0 ∷ []) ∷
    (q0 ∷ q0 ∷ q0 ∷ q0 ∷ q0 ∷ q0 ∷ q0 ∷ q1 ∷ q0 ∷ []) ∷
    (q0 ∷ q0 ∷ q0 ∷ q0 ∷ q0 ∷ q0 ∷ q0 ∷ q0 ∷ q1 ∷ []) ∷ []

unfoldable pub accepted_beam : Accepted beam
unfolding building
accepted_beam = record { table = beam_table; is = refl }

-- two rows and two columns lie before the second part: cell 74 holds 4/7, as of W4, and cell 360, below its five rows, 0/1
weight-cell-beam : (get_or (build_end beam lent lent).numerators 74 (pos 0) ≡ pos 4) × (get_or (build_end beam lent lent).denominators 74 (pos 0) ≡ pos 7)
unfolding gcd gcd_f mk ◌//◌ last starts_part last_part_start first_column conditions_before accepted_beam
weight-cell-beam = let w = held beam accepted_beam 1 2 (omega arith) (omega arith) in (w.numerator, w.denominator)

unused_cell-beam : (get_or (build_end beam lent lent).numerators 360 (pos 0) ≡ pos 0) × (get_or (build_end beam lent lent).denominators 360 (pos 0) ≡ pos 1)
unfolding gcd gcd_f mk int last starts_part last_part_start first_column conditions_before accepted_beam
unused_cell-beam = let w = held beam accepted_beam 5 0 (omega arith) (omega arith) in (w.numerator, w.denominator)

-- ---- the conditions can fail

-- a step of height 1 at the join of W4 does not meet its first condition
broken4 : pairing (q1 ∷ q1 ∷ q1 ∷ q0 ∷ q0 ∷ q0 ∷ q0 ∷ []) (conditions space4 0 0) ≡ int (pos 1)
unfolding conditioning pairing
broken4 = refl

-- ---- a space that is refused for a partial sum: breaks 0,1,1291, degrees 3,3, order 2

abbrev space8 : Space
space8 = record { breaks = pos 0 ∷ pos 1 ∷ pos 1291 ∷ []; degrees = pos 3 ∷ pos 3 ∷ []; orders = pos 2 ∷ [] }

refused8 : space_weights space8 ≡ refusal 8 0
unfolding building
refused8 = refl

too_large8 : FirstTooLarge space8 0
too_large8 = eight_is_first_too_large space8 0 refused8

-- the fraction: 194 tests pass before it
fraction8 : get_or (build_tests space8) 194 (counted 0 q0) ≡ counted 0 (negsuc 2150017199 // 1290)
unfolding testing
fraction8 = refl

passed8 : all_pass (take 194 (build_tests space8)) ≡ true
unfolding testing
passed8 = refl

size8 : length (take 195 (build_tests space8)) ≡ 195
unfolding testing
size8 = refl

too_large_fraction8 : fits (negsuc 2150017199 // 1290) ≡ false
unfolding gcd gcd_f mk ◌//◌ fits
too_large_fraction8 = refl

failure8 : FirstFailure (build_tests space8) 8 0
unfolding capped
failure8 = record {
  before = take 194 (build_tests space8);
  failing = counted 0 (negsuc 2150017199 // 1290);
  after = drop 195 (build_tests space8);
  parts =
      split_at (build_tests space8) 194 (counted 0 q0) (omega (arith, length-take 195 (build_tests space8), size8))
      ∙ ap (λ t. take 194 (build_tests space8) ++ (t ∷ drop 195 (build_tests space8))) fraction8;
  passed = passed8;
  fails = too_large_fraction8;
  code_is = refl;
  place_is = refl;
}

pub checked1 : checked space1 ≡ answer space1
unfolding checking
checked1 = refl

checked8 : checked space8 ≡ answer space8
unfolding checking
checked8 = refl

refused_again8 : space_weights space8 ≡ refusal 8 0
refused_again8 = first_failure_refuses space8 8 0 checked8 failure8

-- the refusal comes from that test: code 8 is none of 2 to 5 and 15
by_first_failure8 : FirstFailure (build_tests space8) 8 0
by_first_failure8 = go (refused_by_first_failure space8 8 0 refused8)
  where
    go : (checked space8 ≡ refusal 8 0) ⊎ ((checked space8 ≡ answer space8) × FirstFailure (build_tests space8) 8 0) → FirstFailure (build_tests space8) 8 0
    go (inl e) = absurd (answer_not_refusal checked8 e)
    go (inr f) = f.1

-- W7: a span of 2,001 is refused before the build, by code 3
refused7 : space_weights (line_space 2001) ≡ refusal 3 1
unfolding checking space_weights
refused7 = refl

three_is_no_test : (t : Test) → 3 ≡ code_of t → ⊥
three_is_no_test (counted join q) e = omega arith
three_is_no_test (shaped join b) e = omega arith

before_build7 : checked (line_space 2001) ≡ refusal 3 1
before_build7 = go (refused_by_first_failure (line_space 2001) 3 1 refused7)
  where
    go : (checked (line_space 2001) ≡ refusal 3 1) ⊎ ((checked (line_space 2001) ≡ answer (line_space 2001)) × FirstFailure (build_tests (line_space 2001)) 3 1) → checked (line_space 2001) ≡ refusal 3 1
    go (inl e) = e
    go (inr f) = absurd (three_is_no_test f.1.failing f.1.code_is)

-- ---- W4 and W5 pass all their tests

passes4 : all_pass (build_tests space4) ≡ true
unfolding testing
passes4 = refl

pub checked4 : checked space4 ≡ answer space4
unfolding checking
checked4 = refl

accepted_by_tests4 : space_weights space4 ≡ answer (exact_weights space4)
accepted_by_tests4 = passing_is_accepted space4 checked4 passes4

tests4 : length (build_tests space4) ≡ 144
unfolding testing
tests4 = refl

passes5 : all_pass (build_tests space5) ≡ true
unfolding testing
passes5 = refl

pub checked5 : checked space5 ≡ answer space5
unfolding checking
checked5 = refl

accepted_by_tests5 : space_weights space5 ≡ answer (exact_weights space5)
accepted_by_tests5 = passing_is_accepted space5 checked5 passes5

tests5 : length (build_tests space5) ≡ 316
unfolding testing
tests5 = refl

-- the shape can fail: jumps with a zero between
misshapen : passes (shape_test 0 (q1 ∷ q0 ∷ q1 ∷ [])) ≡ false
unfolding gcd gcd_f mk int is_zero first last first_jump last_jump shape_test
misshapen = refl
