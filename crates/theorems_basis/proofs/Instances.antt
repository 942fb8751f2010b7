-- The theorems at a space that code 8 refuses: breaks 0,67,70, degrees 3,5, order 2, where the weight of row 2 on the join's
-- ordinate is 113177070/2221007983, which no cell can hold. Ordinates that miss a condition there have no coefficients; those
-- of a straight line have one list, though the call that recovers them ends with 8. And an answer in W1's space.
use mathlib.Core.Path.{◌≡◌, refl, sym, ◌∙◌, ap, ap₂}
use mathlib.Core.Bool.{false}
use mathlib.Core.List.{List, [], ◌∷◌, map}
use mathlib.Core.Option.{none}
use Prim.Native.Nat.{ℕ, zero, suc, ◌<◌}
use native.Mathlib.Omega.{arith}
use lib.IntN.{ℤ, pos}
use lib.ListN.{length}
use Rattle.base_exact.specs.Gcd.{gcd, gcd_f}
use Rattle.base_exact.specs.Rational.{ℚ, mk, int, ◌+ᵠ◌, ◌*ᵠ◌, ◌//◌}
use Rattle.base_exact.specs.Sum.{sum}
use Rattle.base_exact.specs.Tabulate.{tab}
use Rattle.base_outcome.specs.Outcome.{answer, refusal, with_answer}
use Rattle.base_outcome.specs.Search.{first}
use Rattle.spec_spline.specs.Space.{Space, checked, first_column, condition_count, conditions_before, row_count}
use Rattle.spec_spline.specs.Conditions.{conditions}
use Rattle.spec_spline.specs.Table.{Table, cell, table_cells}
use Rattle.spec_spline.specs.Build.{space_weights, built, build_end}
use Rattle.spec_published.specs.Published.{extraction}
use Rattle.spec_spline.specs.Piecewise.{pairing, MeetsAll, combination}
use Rattle.spec_spline.specs.Cases.{space, space1}
use Rattle.spec_spline.proofs.Computing.{building, checking, conditioning}
use Rattle.spec_published.proofs.Computing.{publishing}
use Rattle.base_outcome.proofs.Search.{first-none_inverts}
use Rattle.theorems_weights.proofs.Instances.{q0, q1, checked1}
use Rattle.spec_calls.specs.Recovery.{Combination, recovered}
use Rattle.spec_calls.specs.RecoveryCall.{bad_ordinate, recovery_outcome, recovery_end}
use Rattle.spec_calls.proofs.Computing.{recovering}
use Rattle.theorems_basis.specs.Basis.{IsBasis, BuiltOrTooLarge}
use Rattle.theorems_basis.specs.Coefficients.{Reproduce, AnsweredOrTooLarge}
use Rattle.theorems_basis.proofs.Basis.{eight_has_a_basis, legal_is_built_or_too_large}
use Rattle.theorems_basis.proofs.Coefficients.{none-after_nineteen, none-after_calls_with_nineteen, refused_for_size-alone, calls_refused_for_size-alone}
use Rattle.theorems_basis.proofs.Coefficients.{curves_have_one_list, answers_are_of_published_rows}

-- ---- the space and its basis

abbrev refused_space : Space
refused_space = space (0 ∷ 67 ∷ 70 ∷ []) (3 ∷ 5 ∷ []) (pos 2 ∷ [])

legal : checked refused_space ≡ answer refused_space
unfolding checking
legal = refl

eight : space_weights refused_space ≡ refusal 8 0
unfolding building
eight = refl

basis : IsBasis refused_space (extraction refused_space)
basis = eight_has_a_basis refused_space 0 eight

-- Its rows, with the weight that is too large.
abbrev tooLarge : ℚ
tooLarge = pos 113177070 // 2221007982

abbrev published_rows : Table
published_rows =
    (q1 ∷ q0 ∷ q0 ∷ q0 ∷ q0 ∷ q0 ∷ q0 ∷ q0 ∷ q0 ∷ q0 ∷ []) ∷
    (q0 ∷ q1 ∷ pos 1032 // 46926 ∷ pos 27 // 46926 ∷ pos 27 // 46926 ∷ q0 ∷ q0 ∷ q0 ∷ q0 ∷ q0 ∷ []) ∷
    (q0 ∷ q0 ∷ pos 45895 // 46926 ∷ tooLarge ∷ tooLarge ∷ pos 1233 // 47328 ∷ q0 ∷ q0 ∷ q0 ∷ q0 ∷ []) ∷
    (q0 ∷ q0 ∷ q0 ∷ pos 44890 // 47328 ∷ pos 44890 // 47328 ∷ pos 46096 // 47328 ∷ q1 ∷ q0 ∷ q0 ∷ q0 ∷ []) ∷
    (q0 ∷ q0 ∷ q0 ∷ q0 ∷ q0 ∷ q0 ∷ q0 ∷ q1 ∷ q0 ∷ q0 ∷ []) ∷
    (q0 ∷ q0 ∷ q0 ∷ q0 ∷ q0 ∷ q0 ∷ q0 ∷ q0 ∷ q1 ∷ q0 ∷ []) ∷
    (q0 ∷ q0 ∷ q0 ∷ q0 ∷ q0 ∷ q0 ∷ q0 ∷ q0 ∷ q0 ∷ q1 ∷ []) ∷ []

rows_are : extraction refused_space ≡ published_rows
unfolding publishing
rows_are = refl

-- what is left for building it in long buffers, and what comes
built_or_eight : (nums dens : List ℤ) → length nums ≡ table_cells → length dens ≡ table_cells → BuiltOrTooLarge refused_space nums dens
built_or_eight nums dens p q = legal_is_built_or_too_large refused_space legal nums dens (omega (arith, p)) (omega (arith, q))

built_eight : (nums dens : List ℤ) → length nums ≡ table_cells → length dens ≡ table_cells → (build_end refused_space nums dens).answers ≡ refusal 8 0
unfolding built
built_eight nums dens p q = ap₂ (λ n d. with_answer (λ _. row_count refused_space) (built refused_space n d)) p q ∙ ap (with_answer (λ _. row_count refused_space)) eight

sums : sum 7 (λ i. cell (extraction refused_space) i 3) ≡ q1
unfolding first_column conditions_before
sums = basis.column_sums 3 (omega arith)

-- ---- code 19: the segments do not meet at the join

abbrev apart : List ℤ
apart = pos 0 ∷ pos 0 ∷ pos 0 ∷ pos 1 ∷ pos 0 ∷ pos 0 ∷ pos 0 ∷ pos 0 ∷ pos 0 ∷ pos 0 ∷ []

nineteen : recovered refused_space apart ≡ refusal 19 0
unfolding recovering
nineteen = refl

no-coefficients : (coefficients : List ℚ) → combination 10 coefficients published_rows ≡ map int apart → ⊥
unfolding first_column
no-coefficients coefficients e = none-after_nineteen refused_space legal apart refl 0 nineteen coefficients (ap (combination 10 coefficients) rows_are ∙ e)

-- after a call with ten cells in each answer buffer
nineteen_called : recovery_outcome refused_space apart table_cells table_cells 10 10 ≡ refusal 19 0
unfolding recovering checking bad_ordinate recovery_outcome
nineteen_called = refl

no_coefficients_called : (num den : List ℤ) → length num ≡ table_cells → length den ≡ table_cells → (coefficients : List ℚ) → Reproduce refused_space apart coefficients → ⊥
no_coefficients_called num den p q = none-after_calls_with_nineteen refused_space apart num den apart apart 0
    (ap₂ (λ n d. with_answer (λ _. row_count refused_space) (recovery_outcome refused_space apart n d 10 10)) p q ∙ ap (with_answer (λ _. row_count refused_space)) nineteen_called)

-- ---- a straight line: 15 times the ring

abbrev line : List ℤ
line = pos 0 ∷ pos 335 ∷ pos 670 ∷ pos 1005 ∷ pos 1005 ∷ pos 1014 ∷ pos 1023 ∷ pos 1032 ∷ pos 1041 ∷ pos 1050 ∷ []

line_meets : MeetsAll refused_space (map int line)
unfolding conditioning pairing
line_meets = record { columns = refl; meets = met }
  where
    met : (j k : ℕ) → j < 1 → k < condition_count refused_space j → pairing (map int line) (conditions refused_space j k) ≡ q0
    met zero zero h l = refl
    met zero (suc zero) h l = refl
    met zero (suc (suc zero)) h l = refl
    met zero (suc (suc (suc k))) h l = absurd (omega arith)
    met (suc j) k h l = absurd (omega arith)

-- the call ends with 8, one of the codes that are left
line_too_large : recovered refused_space line ≡ refusal 8 0
unfolding recovering
line_too_large = refl

line-ends : AnsweredOrTooLarge (recovered refused_space line)
line-ends = refused_for_size-alone refused_space legal line line_meets

line_in_range : (i : ℕ) → i < 10 → bad_ordinate line i ≡ false
unfolding first bad_ordinate
line_in_range i h = first-none_inverts (bad_ordinate line) 10 searched i h
  where
    searched : first 10 (bad_ordinate line) ≡ none
    searched = refl

line-call-ends : (num den : List ℤ) → length num ≡ table_cells → length den ≡ table_cells → AnsweredOrTooLarge (recovery_end refused_space line num den line line).answers
line-call-ends num den p q = calls_refused_for_size-alone refused_space legal line num den line line line_meets line_in_range (omega (arith, p)) (omega (arith, q)) (omega arith) (omega arith)

-- and there is one list of coefficients all the same
abbrev line_coefficients : List ℚ
line_coefficients = q0 ∷ int (pos 335) ∷ pos 6219074 // 9178 ∷ int (pos 1023) ∷ int (pos 1032) ∷ int (pos 1041) ∷ int (pos 1050) ∷ []

line_reproduced : Reproduce refused_space line line_coefficients
unfolding gcd gcd_f mk int ◌+ᵠ◌ ◌*ᵠ◌ ◌//◌ sum tab first_column combination
line_reproduced = ap (combination 10 line_coefficients) rows_are ∙ refl

line-coefficients : (curves_have_one_list refused_space legal line line_meets).multipliers ≡ line_coefficients
unfolding first_column conditions_before
line-coefficients = sym ((curves_have_one_list refused_space legal line line_meets).only line_coefficients refl line_reproduced)

-- ---- an answer: the constant 3 in W1's space, breaks 0,1,3, degrees 2,2, order 1

abbrev threes : List ℤ
threes = pos 3 ∷ pos 3 ∷ pos 3 ∷ pos 3 ∷ pos 3 ∷ pos 3 ∷ []

abbrev given : Combination
given = record {
  table =
      (q1 ∷ q0 ∷ q0 ∷ q0 ∷ q0 ∷ q0 ∷ []) ∷
      (q0 ∷ q1 ∷ pos 2 // 2 ∷ pos 2 // 2 ∷ q0 ∷ q0 ∷ []) ∷
      (q0 ∷ q0 ∷ pos 1 // 2 ∷ pos 1 // 2 ∷ q1 ∷ q0 ∷ []) ∷
      (q0 ∷ q0 ∷ q0 ∷ q0 ∷ q0 ∷ q1 ∷ []) ∷ [];
  coefficients = int (pos 3) ∷ int (pos 3) ∷ int (pos 3) ∷ int (pos 3) ∷ [];
}

answered1 : recovered space1 threes ≡ answer given
unfolding recovering
answered1 = refl

published1 : given.table ≡ extraction space1
unfolding first_column
published1 = (answers_are_of_published_rows space1 checked1 threes refl given answered1).0
