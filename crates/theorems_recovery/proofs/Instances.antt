-- The theorems at spaces with numbers, so that the hypotheses can be met: breaks 0,1,512, degrees 2,2, order 1, where the
-- ordinates 0,256,257,257,768,0 have the coefficients 0,1,3,0 times 256; and W1's space with ordinates whose slopes differ.
use mathlib.Core.Path.{◌≡◌, refl, ◌∙◌, ap, ap₂, subst}
use mathlib.Core.List.{List, [], ◌∷◌, map}
use Prim.Native.Nat.{ℕ, zero, suc, ◌<◌}
use native.Mathlib.Omega.{arith}
use lib.IntN.{ℤ, pos, nat_abs}
use lib.ListN.{length, take, drop}
use Rattle.base_exact.specs.Gcd.{gcd, gcd_f}
use Rattle.base_exact.specs.Rational.{ℚ, mk, int, ◌//◌}
use Rattle.base_exact.specs.Order.{is_zero}
use Rattle.base_exact.specs.Floor.{nearest}
use Rattle.base_exact.specs.Tabulate.{tab}
use Rattle.base_exact.proofs.Rational.{int_inj}
use Rattle.base_outcome.specs.Outcome.{Outcome, answer, refusal, ◌then◌, with_answer}
use Rattle.spec_spline.specs.Space.{Space, column_count, starts_part, checked, first_column, conditions_before, row_count}
use Rattle.spec_spline.specs.Conditions.{binomial}
use Rattle.spec_spline.specs.Table.{entry, table_cells}
use Rattle.spec_spline.specs.Build.{weights, space_weights}
use Rattle.spec_spline.specs.Piecewise.{Accepted, MeetsAll, combination}
use Rattle.spec_spline.specs.Reading.{earlywood, fine, coefficient, rounded, term, term_sum, best, ordinate}
use Rattle.spec_spline.specs.ExactCurve.{power, bernstein_at, exact_on}
use Rattle.spec_spline.specs.Cases.{space1, upper_limit_space}
use Rattle.spec_spline.proofs.Computing.{checking, fractions}
use Rattle.base_outcome.proofs.Outcome.{then_answers}
use Rattle.theorems_weights.proofs.PublishedBasis.{combinations_meet_conditions}
use Rattle.theorems_weights.proofs.Instances.{checked1}
use Rattle.spec_calls.specs.Recovery.{Combination, recovered}
use Rattle.spec_calls.specs.RecoveryCall.{bad_ordinate, recovery_outcome, answers_after, numerator_of, recovery_end}
use Rattle.theorems_recovery.specs.Reproduction.{MissedCondition, RecoveredOrTooLarge}
use Rattle.spec_calls.specs.Cases.{joined, beam}
use Rattle.theorems_recovery.specs.Beams.{together}
use Rattle.theorems_beams.specs.Sections.{section, later}
use Rattle.theorems_beams.specs.Parts.{Starts}
use Rattle.theorems_recovery.specs.RecoveredCells.{HeldCoefficients, NoCoefficients}
use Rattle.theorems_recovery.proofs.Reproduction.{answers_have_the_weights, answers_reproduce, no_others_reproduce, nineteen_misses_a_condition}
use Rattle.theorems_recovery.proofs.Reproduction.{exact_curve_has_the_ordinates, curves_are_recovered}
use Rattle.theorems_recovery.proofs.Refusals.{eight_and_nine_are_the_builds}
use Rattle.theorems_recovery.proofs.Cut.{cut-recovered}
use Rattle.theorems_recovery.proofs.RecoveredCells.{cells_reproduce, nineteen_means_none}
use Rattle.spec_calls.proofs.Computing.{recovering}

abbrev q0 : ℚ
q0 = int (pos 0)

abbrev q1 : ℚ
q1 = int (pos 1)

-- ---- an answer

abbrev ordinates : List ℤ
ordinates = pos 0 ∷ pos 256 ∷ pos 257 ∷ pos 257 ∷ pos 768 ∷ pos 0 ∷ []

abbrev coefficients : List ℚ
coefficients = q0 ∷ int (pos 256) ∷ int (pos 768) ∷ q0 ∷ []

-- The table has the weights 511/512 and 1/512 on the ordinate of the join.
abbrev given : Combination
given = record {
  table =
      (q1 ∷ q0 ∷ q0 ∷ q0 ∷ q0 ∷ q0 ∷ []) ∷
      (q0 ∷ q1 ∷ pos 511 // 511 ∷ pos 511 // 511 ∷ q0 ∷ q0 ∷ []) ∷
      (q0 ∷ q0 ∷ pos 1 // 511 ∷ pos 1 // 511 ∷ q1 ∷ q0 ∷ []) ∷
      (q0 ∷ q0 ∷ q0 ∷ q0 ∷ q0 ∷ q1 ∷ []) ∷ [];
  coefficients = coefficients;
}

legal : checked upper_limit_space ≡ answer upper_limit_space
unfolding checking
legal = refl

answered : recovered upper_limit_space ordinates ≡ answer given
unfolding recovering
answered = refl

built : weights upper_limit_space ≡ answer given.table
unfolding first_column
built = (answers_have_the_weights upper_limit_space legal ordinates refl given answered).0

reproduced : combination 6 coefficients given.table ≡ map int ordinates
unfolding first_column
reproduced = answers_reproduce upper_limit_space legal ordinates refl given answered

-- Twice the coefficients give other ordinates, since no others give these.
twice_differ : combination 6 (q0 ∷ int (pos 512) ∷ int (pos 1536) ∷ q0 ∷ []) given.table ≡ map int ordinates → ⊥
unfolding first_column conditions_before
twice_differ e = different (ap (λ cs. entry cs 1) (no_others_reproduce upper_limit_space legal ordinates refl given answered (q0 ∷ int (pos 512) ∷ int (pos 1536) ∷ q0 ∷ []) refl e))
  where
    different : int (pos 512) ≡ int (pos 256) → ⊥
    different z = let h : ◌≡◌ {A = ℤ} (pos 512) (pos 256) = int_inj (pos 512) (pos 256) z in absurd (omega (arith, ap nat_abs h))

-- ---- the exact curve at the join is 257, though the curve call's own ordinate there is 258

abbrev coefs : List ℤ
coefs = pos 0 ∷ pos 0 ∷ pos 1 ∷ pos 1 ∷ pos 3 ∷ pos 3 ∷ pos 0 ∷ pos 0 ∷ []

at_join : exact_on upper_limit_space given.table earlywood coefs 1 (pos 256) ≡ int (pos 257)
unfolding fractions power bernstein_at binomial first_column conditions_before
at_join = exact_curve_has_the_ordinates upper_limit_space legal ordinates refl given answered earlywood coefs whole 1 (omega arith) (pos 256) ∙ refl
  where
    whole : (i : ℕ) → i < 4 → entry coefficients i ≡ int (fine (coefficient earlywood coefs i))
    whole zero h = refl
    whole (suc zero) h = refl
    whole (suc (suc zero)) h = refl
    whole (suc (suc (suc zero))) h = refl
    whole (suc (suc (suc (suc i)))) h = absurd (omega arith)

rounded-join : ordinate given.table (coefficient earlywood coefs) 2 ≡ pos 258
unfolding gcd gcd_f mk int ◌//◌ is_zero nearest rounded term term_sum best ordinate
rounded-join = refl

-- ---- code 19

abbrev others : List ℤ
others = pos 0 ∷ pos 300 ∷ pos 201 ∷ pos 201 ∷ pos 0 ∷ pos 0 ∷ []

refused : recovered space1 others ≡ refusal 19 0
unfolding recovering
refused = refl

missed : MissedCondition space1 others
unfolding first_column
missed = nineteen_misses_a_condition space1 checked1 others refl 0 refused

-- ---- a curve that meets all conditions, and the build's own code 8

table-given : Accepted upper_limit_space
unfolding space_weights
table-given = record { table = given.table; is = then_answers weights legal ∙ built }

met : MeetsAll upper_limit_space (map int ordinates)
unfolding table-given first_column
met = subst (MeetsAll upper_limit_space) reproduced (combinations_meet_conditions upper_limit_space table-given coefficients)

recovers_or_20 : RecoveredOrTooLarge (recovered upper_limit_space ordinates)
recovers_or_20 = curves_are_recovered upper_limit_space table-given ordinates met

abbrev zeros : List ℤ
zeros = pos 0 ∷ pos 0 ∷ pos 0 ∷ pos 0 ∷ pos 0 ∷ pos 0 ∷ pos 0 ∷ pos 0 ∷ pos 0 ∷ pos 0 ∷ []

eight : recovered (joined 67 70 3 5 2) zeros ≡ refusal 8 0
unfolding recovering
eight = refl

eight_of_the_build : weights (joined 67 70 3 5 2) ≡ refusal 8 0
eight_of_the_build = eight_and_nine_are_the_builds (joined 67 70 3 5 2) zeros 8 0 refl eight

-- ---- the cells after a call, with any weight buffers of 5,184 cells, and 9 in each of seven cells of both answer buffers

abbrev lent : List ℤ
lent = pos 9 ∷ pos 9 ∷ pos 9 ∷ pos 9 ∷ pos 9 ∷ pos 9 ∷ pos 9 ∷ []

-- what a call with these lists answers
abbrev answers_of : Space → List ℤ → ℕ → ℕ → Outcome ℕ
answers_of s os n d = with_answer (λ _. row_count s) (recovery_outcome s os n d 7 7)

outcome : recovery_outcome upper_limit_space ordinates table_cells table_cells 7 7 ≡ answer given
unfolding recovering checking bad_ordinate recovery_outcome
outcome = refl

held : (num den : List ℤ) → length num ≡ table_cells → length den ≡ table_cells → HeldCoefficients upper_limit_space ordinates lent lent 4 (recovery_end upper_limit_space ordinates num den lent lent)
unfolding first_column conditions_before
held num den p q = cells_reproduce upper_limit_space ordinates num den lent lent 4 (ap₂ (answers_of upper_limit_space ordinates) p q ∙ ap (with_answer (λ _. 4)) outcome)

-- four coefficients, 0/1 up to the six ordinates, and the last cell as it was
cells : (num den : List ℤ) → length num ≡ table_cells → length den ≡ table_cells
    → (recovery_end upper_limit_space ordinates num den lent lent).coefficient_numerators ≡ pos 0 ∷ pos 256 ∷ pos 768 ∷ pos 0 ∷ pos 0 ∷ pos 0 ∷ pos 9 ∷ []
unfolding gcd gcd_f mk int tab
cells num den p q = ap (λ o. answers_after numerator_of 6 o lent) (ap₂ (λ n d. recovery_outcome upper_limit_space ordinates n d 7 7) p q ∙ outcome)

outcome19 : recovery_outcome space1 others table_cells table_cells 7 7 ≡ refusal 19 0
unfolding recovering checking bad_ordinate recovery_outcome
outcome19 = refl

none : (num den : List ℤ) → length num ≡ table_cells → length den ≡ table_cells → NoCoefficients space1 others
none num den p q = nineteen_means_none space1 others num den lent lent 0 (ap₂ (answers_of space1 others) p q ∙ ap (with_answer (λ _. row_count space1)) outcome19)

-- ---- a beam of two parts, cut at its discontinuity: W1's space, and two segments of degree 1

abbrev beam_ordinates : List ℤ
beam_ordinates = pos 0 ∷ pos 300 ∷ pos 200 ∷ pos 200 ∷ pos 0 ∷ pos 0 ∷ pos 1 ∷ pos 2 ∷ pos 2 ∷ pos 3 ∷ []

beam_legal : checked beam ≡ answer beam
unfolding checking
beam_legal = refl

beam-starts : Starts beam 2
unfolding starts_part
beam-starts = record { below = omega arith; starts = refl }

beam_is_cut : recovered beam beam_ordinates ≡ (recovered (section beam 0 2) (take (column_count (section beam 0 2)) beam_ordinates) then λ r.
    later 2 (recovered (section beam 2 2) (drop (column_count (section beam 0 2)) beam_ordinates)) then λ q.
    answer (together (section beam 0 2) (section beam 2 2) r q))
unfolding first_column
beam_is_cut = cut-recovered beam beam_legal 2 2 beam-starts refl beam_ordinates refl

-- the coefficients are 0, 300, 0, 0 of the one part and 1, 2, 3 of the other
beam_coefficients : with_answer (λ (r : Combination). r.coefficients) (recovered beam beam_ordinates)
    ≡ answer (int (pos 0) ∷ int (pos 300) ∷ int (pos 0) ∷ int (pos 0) ∷ int (pos 1) ∷ int (pos 2) ∷ int (pos 3) ∷ [])
unfolding recovering
beam_coefficients = refl
