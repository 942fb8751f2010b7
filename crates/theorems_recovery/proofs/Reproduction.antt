-- The induction over the steps, and the statements: at every step the present coefficients give the ordinates, and the table is the
-- one that the build has there.
use mathlib.Core.Path.{◌≡◌, refl, sym, ◌∙◌, ap}
use mathlib.Core.Logic.{◌⊎◌, inl, inr}
use mathlib.Core.Bool.{Bool, true, false, ◌||◌}
use mathlib.Core.List.{List, map}
use Prim.Native.Nat.{ℕ, suc, ◌+◌, ◌-◌, ◌<◌, ◌≤◌}
use native.Mathlib.Omega.{arith}
use borrow.Author.Tests.{eqb-true}
use lib.Dec.{eqb}
use lib.IntN.{ℤ, pos}
use lib.ListN.{length, get_or, length-map, get_or-map}
use lib.Seq.{ext_get_or}
use Rattle.base_exact.specs.Rational.{ℚ, int, ◌*ᵠ◌}
use Rattle.base_exact.specs.Sum.{sum}
use Rattle.base_exact.proofs.Decide.{le_or_lt, clash}
use Rattle.base_exact.proofs.Sum.{sum_ext, sum-swap, sum_mul_right}
use Rattle.base_outcome.specs.Outcome.{Outcome, answer, refusal}
use Rattle.spec_spline.specs.Space.{Space, segments, checked, degree, condition_count, first_column, column_count, row_count}
use Rattle.spec_spline.specs.Conditions.{conditions}
use Rattle.spec_spline.specs.Table.{Table, entry, cell, identity}
use Rattle.spec_spline.specs.Build.{weights, space_weights, clears}
use Rattle.spec_spline.specs.Piecewise.{Meets, MeetsAll, pairing, combination}
use Rattle.spec_spline.specs.Reading.{fine, coefficient, fine_width, offset}
use Rattle.spec_spline.specs.ExactCurve.{bernstein_at, exact_term, exact_on}
use Rattle.base_outcome.proofs.Outcome.{answer_not_refusal, then_answers, then_inverts, Halted, repeat-refuses}
use Rattle.spec_spline.proofs.Legal.{Legal, legal, checked_inverts}
use Rattle.spec_spline.proofs.Table.{entry_past, identity-rows}
use Rattle.spec_spline.proofs.Induction.{orders_hold, joins_hold}
use Rattle.theorems_weights.proofs.Functional.{applied_ext, applied-sum}
use Rattle.theorems_weights.proofs.Stepped.{Stepped}
use Rattle.theorems_weights.proofs.Basis.{Basis, combined}
use Rattle.theorems_weights.proofs.Identity.{identity_basis, column_picks}
use Rattle.theorems_weights.proofs.Built.{Done, nothing_done, order_stepped, order-kept, join_done, Built, built, row_count_lem}
use Rattle.theorems_weights.proofs.PublishedBasis.{pairing-applied, combined_past, combination_at, combination_length, combinations_meet_conditions}
use Rattle.spec_calls.specs.Recovery.{Combination, recover_step, recover_orders, recover_joins, recovered}
use Rattle.theorems_recovery.specs.Reproduction.{AnswersHaveTheWeights, AnswersReproduce, NoOthersReproduce, MissedCondition, NineteenMissesACondition}
use Rattle.theorems_recovery.specs.Reproduction.{NineteenHasNoCoefficients, ExactCurveHasTheOrdinates, RecoveredOrTooLarge, recovers, too_large}
use Rattle.theorems_recovery.specs.Reproduction.{CurvesAreRecovered}
use Rattle.theorems_recovery.proofs.Refusals.{joins-table, recovered-clears, eight_and_nine_are_the_builds}
use Rattle.theorems_recovery.proofs.Steps.{Parts, parts_of, unbalanced, sum_of_jumps, coefficients_count, combination-kept}

module _ (s : Space) (L : Legal s) (ordinates : List ℤ) (columns : length ordinates ≡ column_count s) where
  -- After the joins before this one and the first orders at it.
  record Kept (join n : ℕ) (r : Combination) : Type 0 where
    pub basis : Basis (Done s join n) (column_count s) r.table
    pub count : length r.coefficients ≡ length r.table
    pub gives : (c : ℕ) → combined (entry r.coefficients) r.table c ≡ entry (map int ordinates) c

  -- one step, and from join to join
  step_kept : (j k : ℕ) (r r' : Combination) → j < segments s - 1 → k < condition_count s j → Kept j k r → recover_step j (conditions s j k) r ≡ answer r' → Kept j (suc k) r'
  step_kept j k r r' h l K e = record {
    basis = order-kept s L j k r.table r'.table K.basis S;
    count = coefficients_count (column_count s) j (conditions s j k) r r' K.count S P;
    gives = λ c. combination-kept (column_count s) j (conditions s j k) r r' K.count S P c ∙ K.gives c;
  }
    where
      P : Parts j (conditions s j k) r r'
      P = parts_of j (conditions s j k) r r' e

      S : Stepped (conditions s j k) (column_count s) r.table r'.table
      S = order_stepped s L j k h l r.table r'.table K.basis P.has_step

  next-kept : (j : ℕ) (r : Combination) → j < segments s - 1 → Kept j (condition_count s j) r → Kept (suc j) 0 r
  next-kept j r h K = record { basis = join_done s j K.basis; count = K.count; gives = K.gives }

  abbrev act : ℕ → ℕ → Combination → Outcome Combination
  act j k = recover_step j (conditions s j k)

  start : Combination
  start = record { table = identity (column_count s); coefficients = map int ordinates }

  size : length (map int ordinates) ≡ column_count s
  size = length-map ordinates int ∙ columns

  start-kept : Kept 0 0 start
  unfolding start
  start-kept = record { basis = B; count = size ∙ sym (identity-rows (column_count s)); gives = λ c. go c (le_or_lt (column_count s) c) }
    where
      B : Basis (Done s 0 0) (column_count s) (identity (column_count s))
      B = identity_basis (column_count s) (Done s 0 0) (nothing_done s)

      go : (c : ℕ) → (column_count s ≤ c) ⊎ (c < column_count s) → combined (entry (map int ordinates)) (identity (column_count s)) c ≡ entry (map int ordinates) c
      go c (inl h) = combined_past (column_count s) (identity (column_count s)) B.wide (entry (map int ordinates)) c h ∙ sym (entry_past (map int ordinates) c (rw size h))
      go c (inr h) = column_picks (column_count s) (entry (map int ordinates)) c h

  -- the first joins
  joins-kept : (n : ℕ) → n ≤ segments s - 1 → (r : Combination) → recover_joins s ordinates n ≡ answer r → Kept n 0 r
  unfolding recover_joins recover_orders start
  joins-kept n l r e = joins_hold s act Kept step_kept next-kept n l start-kept e

  -- ---- an answer

  module _ (r : Combination) (e : recovered s ordinates ≡ answer r) where
    all_kept : Kept (segments s - 1) 0 r × (weights s ≡ answer r.table)
    unfolding recovered weights
    all_kept = (joins-kept (segments s - 1) (omega arith) r e, joins-table s ordinates (segments s - 1) e)

    reproduced : combination (column_count s) r.coefficients r.table ≡ map int ordinates
    reproduced = ext_get_or (int (pos 0)) (combination (column_count s) r.coefficients r.table) (map int ordinates) (combination_length (column_count s) r.coefficients r.table ∙ sym size)
        (λ c h. combination_at (column_count s) r.table all_kept.0.basis.wide r.coefficients c ∙ all_kept.0.gives c)

    -- no others have the same combination
    only : (others : List ℚ) → length others ≡ length r.table → combination (column_count s) others r.table ≡ map int ordinates → others ≡ r.coefficients
    only others n q = ext_get_or (int (pos 0)) others r.coefficients (n ∙ sym all_kept.0.count)
        (λ i h. all_kept.0.basis.unique (entry others) (entry r.coefficients)
        (λ c. sym (combination_at (column_count s) r.table all_kept.0.basis.wide others c) ∙ ap (λ o. entry o c) q ∙ sym (all_kept.0.gives c)) i (rw n at h))

  -- ---- code 19

  -- at a step that ends with 19 the ordinates miss its condition
  step-missed : (j k : ℕ) (r : Combination) (place : ℕ) → Kept j k r → recover_step j (conditions s j k) r ≡ refusal 19 place → Meets s (map int ordinates) j k → ⊥
  step-missed j k r place K e m = let U = unbalanced j (conditions s j k) r place e in
      U.not_zero (sym (sum_of_jumps j (conditions s j k) r.table r.coefficients U.js U.has_jumps)
      ∙ sym (applied-sum (conditions s j k) (length r.table) (entry r.coefficients) (cell r.table))
      ∙ applied_ext (conditions s j k) K.gives ∙ sym (pairing-applied (map int ordinates) (conditions s j k)) ∙ m)

  missed : (place : ℕ) → recovered s ordinates ≡ refusal 19 place → MissedCondition s ordinates
  unfolding recovered recover_joins recover_orders start
  missed place e = at_join (repeat-refuses (segments s - 1) (λ j. recover_orders s j (condition_count s j)) start e)
    where
      at-order : (j : ℕ) → j < segments s - 1 → (r : Combination) → Kept j 0 r → Halted (condition_count s j) (λ k. recover_step j (conditions s j k)) r 19 place → MissedCondition s ordinates
      at-order j h r K H = record {
        join = j;
        order = H.index;
        join-below = h;
        order_below = H.below;
        missed = step-missed j H.index H.reached place (orders_hold s act Kept step_kept j H.index h (omega (arith, H.below)) K H.before) H.refuses;
      }

      at_join : Halted (segments s - 1) (λ j. recover_orders s j (condition_count s j)) start 19 place → MissedCondition s ordinates
      at_join H = at-order H.index H.below H.reached (joins-kept H.index (omega (arith, H.below)) H.reached H.before)
          (repeat-refuses (condition_count s H.index) (λ k. recover_step H.index (conditions s H.index k)) H.reached H.refuses)

-- ---- the statements

legal_of : (s : Space) → checked s ≡ answer s → Legal s
legal_of s e = legal s (checked_inverts s e).1

-- the recovered table is that of an accepted space
table-built : (s : Space) → checked s ≡ answer s → (t : Table) → weights s ≡ answer t → Built s t
unfolding space_weights
table-built s e t w = built s t (then_answers weights e ∙ w)

pub answers_have_the_weights : AnswersHaveTheWeights
answers_have_the_weights s e ordinates n r h = let K = all_kept s (legal_of s e) ordinates n r h in
    (K.1, K.0.count ∙ row_count_lem s r.table (table-built s e r.table K.1))

pub answers_reproduce : AnswersReproduce
answers_reproduce s e ordinates n r h = reproduced s (legal_of s e) ordinates n r h

pub no_others_reproduce : NoOthersReproduce
no_others_reproduce s e ordinates n r h others m q = let K = all_kept s (legal_of s e) ordinates n r h in
    only s (legal_of s e) ordinates n r h others (m ∙ sym (row_count_lem s r.table (table-built s e r.table K.1))) q

pub nineteen_misses_a_condition : NineteenMissesACondition
nineteen_misses_a_condition s e ordinates n place h = missed s (legal_of s e) ordinates n place h

pub nineteen_has_no_coefficients : NineteenHasNoCoefficients
nineteen_has_no_coefficients s a ordinates n place h coefficients q = go (missed s (built s a.table a.is).legal_space ordinates n place h)
  where
    go : MissedCondition s ordinates → ⊥
    go M = M.missed (ap (λ o. pairing o (conditions s M.join M.order)) (sym q) ∙ (combinations_meet_conditions s a coefficients).meets M.join M.order M.join-below M.order_below)

-- The double sum of the exact curve by columns: each ordinate times its Bernstein polynomial.
pub exact_curve_has_the_ordinates : ExactCurveHasTheOrdinates
unfolding exact_on exact_term
exact_curve_has_the_ordinates s e ordinates n r h part coefs same j below x =
    sum-swap (length r.table) (suc (degree s j)) (λ i t. int (fine (coefficient part coefs i)) *ᵠ cell r.table i (first_column s j + t) *ᵠ bernstein t)
    ∙ sum_ext (suc (degree s j)) (λ t k. sum_mul_right (length r.table) (bernstein t)
    (λ i. int (fine (coefficient part coefs i)) *ᵠ cell r.table i (first_column s j + t)) ∙ ap (λ q. q *ᵠ bernstein t) (column t))
  where
    K : (weights s ≡ answer r.table) × (length r.coefficients ≡ row_count s)
    K = answers_have_the_weights s e ordinates n r h

    bernstein : ℕ → ℚ
    bernstein t = bernstein_at (degree s j) (fine_width s j) (offset s j x) t

    column : (t : ℕ) → sum (length r.table) (λ i. int (fine (coefficient part coefs i)) *ᵠ cell r.table i (first_column s j + t)) ≡ int (get_or ordinates (first_column s j + t) (pos 0))
    column t =
        sum_ext (length r.table) (λ i m. ap (λ q. q *ᵠ cell r.table i (first_column s j + t)) (sym (same i (rw (row_count_lem s r.table (table-built s e r.table K.0)) at m))))
        ∙ (all_kept s (legal_of s e) ordinates n r h).0.gives (first_column s j + t) ∙ get_or-map int ordinates (first_column s j + t) (pos 0)

-- What the steps end with on the ordinates of a curve that meets all join conditions.
pub data CurveEnd (s : Space) (ordinates : List ℤ) : Type 0 where
  by_an_answer : (r : Combination) → recovered s ordinates ≡ answer r → CurveEnd s ordinates
  by_the_build : (code place : ℕ) → recovered s ordinates ≡ refusal code place → weights s ≡ refusal code place → CurveEnd s ordinates
  by_twenty : (place : ℕ) → recovered s ordinates ≡ refusal 20 place → CurveEnd s ordinates

-- Of the four codes that can end the steps 8 and 9 are the build's, and the ordinates miss no condition.
pub curve_ends : (s : Space) → Legal s → (ordinates : List ℤ) → MeetsAll s (map int ordinates) → CurveEnd s ordinates
curve_ends s L ordinates M = go (recovered s ordinates) refl
  where
    size : length ordinates ≡ column_count s
    size = sym (length-map ordinates int) ∙ M.columns

    decide : (code place : ℕ) (b c d : Bool) → clears code ≡ b → eqb code 19 ≡ c → eqb code 20 ≡ d → (b || c || d) ≡ true → recovered s ordinates ≡ refusal code place → CurveEnd s ordinates
    decide code place true c d p q u told e = by_the_build code place e (eight_and_nine_are_the_builds s ordinates code place p e)
    decide code place false true d p q u told e =
        absurd (let N = missed s L ordinates size place (e ∙ ap (λ n. refusal n place) (eqb-true code 19 q)) in N.missed (M.meets N.join N.order N.join-below N.order_below))
    decide code place false false true p q u told e = by_twenty place (e ∙ ap (λ n. refusal n place) (eqb-true code 20 u))
    decide code place false false false p q u told e = clash cc

    go : (o : Outcome Combination) → recovered s ordinates ≡ o → CurveEnd s ordinates
    go (answer r) e = by_an_answer r e
    go (refusal code place) e = decide code place (clears code) (eqb code 19) (eqb code 20) refl refl refl (recovered-clears s ordinates code place e) e

-- An accepted space is not refused by the build.
pub curves_are_recovered : CurvesAreRecovered
unfolding space_weights
curves_are_recovered s a ordinates M = go (curve_ends s (built s a.table a.is).legal_space ordinates M)
  where
    not_the_build : {code place : ℕ} → weights s ≡ refusal code place → ⊥
    not_the_build e = let c = then_inverts (checked s) weights a.is in answer_not_refusal c.after (ap weights (sym (checked_inverts s c.before).0) ∙ e)

    go : CurveEnd s ordinates → RecoveredOrTooLarge (recovered s ordinates)
    go (by_an_answer r e) = recovers r e
    go (by_the_build code place e w) = absurd (not_the_build w)
    go (by_twenty place e) = too_large place e
