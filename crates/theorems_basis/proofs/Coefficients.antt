-- Recovered coefficients in every legal space: a missed condition leaves no coefficients, since every combination of the published
-- rows meets all; and of the build's two codes only 8 comes.
use mathlib.Core.Path.{◌≡◌, sym, ◌∙◌, ap, subst}
use mathlib.Core.Bool.{false}
use mathlib.Core.List.{List, map}
use Prim.Native.Nat.{ℕ, ◌<◌, ◌≤◌}
use lib.Dec.{T, eqb, eqb_refl}
use lib.IntN.{ℤ}
use lib.ListN.{length, length-map}
use Rattle.base_exact.specs.Rational.{int}
use Rattle.base_exact.proofs.Decide.{holds_true, cond_true, cond_false}
use borrow.Author.Tests.{le-ltb}
use Rattle.base_outcome.specs.Outcome.{answer, refusal, refuse, largest_place, with_answer}
use Rattle.spec_spline.specs.Space.{Space, checked, column_count, row_count}
use Rattle.base_outcome.specs.Tests.{refuse_first}
use Rattle.spec_spline.specs.Conditions.{conditions}
use Rattle.spec_spline.specs.Table.{table_cells}
use Rattle.spec_spline.specs.Build.{weights, space_weights}
use Rattle.spec_published.specs.Published.{extraction}
use Rattle.spec_spline.specs.Piecewise.{pairing, combination}
use Rattle.base_outcome.proofs.Outcome.{then_answers, with_refuses}
use Rattle.base_outcome.proofs.Search.{first-none}
use Rattle.spec_spline.proofs.Legal.{legal, checked_inverts}
use Rattle.theorems_weights.proofs.Published.{weights_are_published}
use Rattle.spec_calls.specs.Recovery.{recovered}
use Rattle.spec_calls.specs.RecoveryCall.{bad_ordinate, legal_ordinates, recovery_outcome, recovery_end}
use Rattle.theorems_recovery.specs.Reproduction.{MissedCondition}
use Rattle.theorems_recovery.proofs.Reproduction.{answers_have_the_weights, answers_reproduce, nineteen_misses_a_condition, CurveEnd, by_an_answer, by_the_build, by_twenty, curve_ends}
use Rattle.theorems_recovery.proofs.RecoveredCells.{call_nineteen}
use Rattle.theorems_basis.specs.Coefficients.{NoneAfterNineteen, NoneAfterCallsWithNineteen, AnsweredOrTooLarge, answered, weights_too_large}
use Rattle.theorems_basis.specs.Coefficients.{coefficients_too_large, RefusedForSizeAlone, CallsRefusedForSizeAlone, CurvesHaveOneList}
use Rattle.theorems_basis.specs.Coefficients.{AnswersAreOfPublishedRows}
use Rattle.theorems_basis.proofs.Basis.{published_is_a_basis, refused_with_eight}

-- ---- code 19

pub none-after_nineteen : NoneAfterNineteen
none-after_nineteen s e ordinates n place h coefficients q = go (nineteen_misses_a_condition s e ordinates n place h)
  where
    go : MissedCondition s ordinates → ⊥
    go M = M.missed (ap (λ o. pairing o (conditions s M.join M.order)) (sym q)
        ∙ ((published_is_a_basis s e).combinations_meet coefficients).meets M.join M.order M.join-below M.order_below)

pub none-after_calls_with_nineteen : NoneAfterCallsWithNineteen
none-after_calls_with_nineteen s ordinates num den coef_num coef_den place e coefficients q =
    let o = recovery_outcome s ordinates (length num) (length den) (length coef_num) (length coef_den) in
    let h = call_nineteen s ordinates (length num) (length den) (length coef_num) (length coef_den) (with_refuses (λ _. row_count s) o e) in
    none-after_nineteen s h.legal ordinates h.size place h.ends coefficients q

-- ---- curves that meet all conditions

pub refused_for_size-alone : RefusedForSizeAlone
refused_for_size-alone s e ordinates M = go (curve_ends s (legal s (checked_inverts s e).1) ordinates M)
  where
    go : CurveEnd s ordinates → AnsweredOrTooLarge (recovered s ordinates)
    go (by_an_answer r p) = answered r p
    go (by_the_build code place p w) = weights_too_large place (p ∙ ap (λ n. refusal n place) (refused_with_eight s (checked_inverts s e).1 w))
    go (by_twenty place p) = coefficients_too_large place p

-- every test of the call passes, so that it ends as the steps do
call_ends : (s : Space) → checked s ≡ answer s → (ordinates : List ℤ) (a b c d : ℕ) → length ordinates ≡ column_count s → ((i : ℕ) → i < length ordinates → bad_ordinate ordinates i ≡ false)
    → table_cells ≤ a → table_cells ≤ b → length ordinates ≤ c → length ordinates ≤ d → recovery_outcome s ordinates a b c d ≡ recovered s ordinates
unfolding recovery_outcome
call_ends s e ordinates a b c d n inside p q u v =
    cond_false (refuse 1 0) _ (le-ltb _ _ p) ∙ cond_false (refuse 1 1) _ (le-ltb _ _ q) ∙ cond_false (refuse 1 3) _ (le-ltb _ _ u) ∙ cond_false (refuse 1 4) _ (le-ltb _ _ v)
    ∙ then_answers (λ l. legal_ordinates l ordinates (recovered l ordinates)) e
    ∙ cond_true _ (refuse 18 largest_place) (holds_true (eqb (length ordinates) (column_count s)) (subst (λ m. T (eqb (length ordinates) m)) n (eqb_refl (length ordinates))))
    ∙ ap (λ o. refuse_first 18 o (recovered s ordinates)) (first-none (bad_ordinate ordinates) (length ordinates) inside)

pub calls_refused_for_size-alone : CallsRefusedForSizeAlone
calls_refused_for_size-alone s e ordinates num den coef_num coef_den M inside p q u v = go (refused_for_size-alone s e ordinates M)
  where
    ends : (recovery_end s ordinates num den coef_num coef_den).answers ≡ with_answer (λ _. row_count s) (recovered s ordinates)
    ends = ap (with_answer (λ _. row_count s)) (call_ends s e ordinates (length num) (length den) (length coef_num) (length coef_den) (sym (length-map ordinates int) ∙ M.columns) inside p q u v)

    go : AnsweredOrTooLarge (recovered s ordinates) → AnsweredOrTooLarge (recovery_end s ordinates num den coef_num coef_den).answers
    go (answered r z) = answered (row_count s) (ends ∙ ap (with_answer (λ _. row_count s)) z)
    go (weights_too_large place z) = weights_too_large place (ends ∙ ap (with_answer (λ _. row_count s)) z)
    go (coefficients_too_large place z) = coefficients_too_large place (ends ∙ ap (with_answer (λ _. row_count s)) z)

pub curves_have_one_list : CurvesHaveOneList
curves_have_one_list s e ordinates M = (published_is_a_basis s e).one_combination (map int ordinates) M

pub answers_are_of_published_rows : AnswersAreOfPublishedRows
unfolding space_weights
answers_are_of_published_rows s e ordinates n r h = (same, ap (combination (column_count s) r.coefficients) (sym same) ∙ answers_reproduce s e ordinates n r h)
  where
    same : r.table ≡ extraction s
    same = weights_are_published s (record { table = r.table; is = then_answers weights e ∙ (answers_have_the_weights s e ordinates n r h).0 })
