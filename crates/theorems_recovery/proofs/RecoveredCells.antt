-- From what a call ends with to its steps: an answer, and code 19, come from the steps alone, after every test has passed. So
-- the statements on the steps are statements on the cells.
use mathlib.Core.Path.{◌≡◌, refl, sym, ◌∙◌, ap}
use mathlib.Core.Bool.{Bool, true, false, cond}
use mathlib.Core.List.{List}
use mathlib.Core.Option.{Option, some, none}
use Prim.Native.Nat.{ℕ}
use native.Mathlib.Omega.{arith}
use borrow.Author.Tests.{eqb-true}
use lib.Dec.{eqb, ltb}
use lib.IntN.{ℤ}
use lib.ListN.{length}
use Rattle.base_exact.proofs.Decide.{clash}
use Rattle.base_outcome.specs.Outcome.{Outcome, answer, refusal, refuse, largest_place, ◌then◌}
use Rattle.base_outcome.specs.Search.{first}
use Rattle.spec_spline.specs.Space.{Space, checked, column_count, row_count}
use Rattle.base_outcome.specs.Tests.{refuse_first}
use Rattle.spec_spline.specs.Table.{Table, table_cells}
use Rattle.spec_spline.specs.Build.{weights, space_weights}
use Rattle.base_outcome.proofs.Outcome.{then_answers, then_inverts, Broken, first-refuses, second-refuses, then_breaks, Changed, with_inverts, with_refuses}
use Rattle.spec_spline.proofs.Legal.{checked_inverts, checked-code, refuse_first_inverts, cond_refuse_inverts, fitting_inverts}
use Rattle.spec_calls.specs.Recovery.{Combination, recovered}
use Rattle.spec_calls.specs.RecoveryCall.{bad_ordinate, legal_ordinates, recovery_outcome, answers_after, numerator_of, denominator_of, recovery_end}
use Rattle.theorems_recovery.specs.RecoveredCells.{HeldCoefficients, CellsReproduce, NineteenMeansNone}
use Rattle.theorems_recovery.proofs.Reproduction.{answers_have_the_weights, answers_reproduce, no_others_reproduce, nineteen_misses_a_condition, nineteen_has_no_coefficients}

-- a refusal with another number is not 19
other_coefficient : {A : Type 0} (n p : ℕ) {place : ℕ} → eqb n 19 ≡ false → ◌≡◌ {A = Outcome A} (refuse n p) (refusal 19 place) → ⊥
other_coefficient n p h r = clash (let z : n ≡ 19 = cc in let w : eqb 19 19 ≡ false = ap (λ k. eqb k 19) (sym z) ∙ h in cc)

-- Every test has passed, and the steps end like this.
pub record Reached (s : Space) (ordinates : List ℤ) (o : Outcome Combination) : Type 0 where
  pub legal : checked s ≡ answer s
  pub size : length ordinates ≡ column_count s
  pub ends : recovered s ordinates ≡ o

module _ (ordinates : List ℤ) where
  -- the ordinates' tests, then the steps
  abbrev entries_then_steps : Space → Outcome Combination
  entries_then_steps s = legal_ordinates s ordinates (recovered s ordinates)

  module _ (s : Space) (legal : checked s ≡ answer s) where
    answer-after : {r : Combination} → entries_then_steps s ≡ answer r → Reached s ordinates (answer r)
    answer-after e =
        let p = fitting_inverts (eqb (length ordinates) (column_count s)) 18 largest_place _ e in
        record {
          legal = legal;
          size = eqb-true (length ordinates) (column_count s) p.0;
          ends = (refuse_first_inverts 18
              (first (length ordinates) (bad_ordinate ordinates)) (recovered s ordinates) p.1).1;
        }

    nineteen_after : {place : ℕ} → entries_then_steps s ≡ refusal 19 place → Reached s ordinates (refusal 19 place)
    nineteen_after {place} e = counted (eqb (length ordinates) (column_count s)) refl e
      where
        searched : length ordinates ≡ column_count s → (o : Option ℕ) → refuse_first 18 o (recovered s ordinates) ≡ refusal 19 place → Reached s ordinates (refusal 19 place)
        searched size none e = record { legal = legal; size = size; ends = e }
        searched size (some i) e = absurd (other_coefficient 18 i refl e)

        counted : (b : Bool) → eqb (length ordinates) (column_count s) ≡ b
            → cond b (refuse_first 18 (first (length ordinates) (bad_ordinate ordinates)) (recovered s ordinates)) (refuse 18 largest_place) ≡ refusal 19 place
            → Reached s ordinates (refusal 19 place)
        counted true z e = searched (eqb-true (length ordinates) (column_count s) z) (first (length ordinates) (bad_ordinate ordinates)) e
        counted false z e = absurd (other_coefficient 18 largest_place refl e)

  module _ (s : Space) where
    answer-reached : {r : Combination} → (checked s then entries_then_steps) ≡ answer r → Reached s ordinates (answer r)
    answer-reached {r} e =
        let c = then_inverts (checked s) entries_then_steps e in
        let z = (checked_inverts s c.before).0 in
        answer-after s (c.before ∙ ap answer (sym z)) (ap entries_then_steps z ∙ c.after)

    nineteen_reached : {place : ℕ} → (checked s then entries_then_steps) ≡ refusal 19 place → Reached s ordinates (refusal 19 place)
    nineteen_reached {place} e = go (then_breaks (checked s) entries_then_steps e)
      where
        go : Broken (checked s) entries_then_steps 19 place → Reached s ordinates (refusal 19 place)
        go (first-refuses h) = absurd (checked-code (λ n. n ≡ 19 → ⊥) s (λ z. omega arith) (λ z. omega arith) (λ z. omega arith) (λ z. omega arith) (λ z. omega arith) h refl)
        go (second-refuses m h k) = let z = (checked_inverts s h).0 in nineteen_after s (h ∙ ap answer (sym z)) (ap entries_then_steps z ∙ k)

-- the whole call
module _ (s : Space) (ordinates : List ℤ) (a b c d : ℕ) where
  call_answered : {r : Combination} → recovery_outcome s ordinates a b c d ≡ answer r → Reached s ordinates (answer r)
  unfolding recovery_outcome
  call_answered e =
      let p = cond_refuse_inverts (ltb a table_cells) 1 0 _ e in
      let q = cond_refuse_inverts (ltb b table_cells) 1 1 _ p.1 in
      let u = cond_refuse_inverts (ltb c (length ordinates)) 1 3 _ q.1 in
      let v = cond_refuse_inverts (ltb d (length ordinates)) 1 4 _ u.1 in
      answer-reached ordinates s v.1

  pub call_nineteen : {place : ℕ} → recovery_outcome s ordinates a b c d ≡ refusal 19 place → Reached s ordinates (refusal 19 place)
  unfolding recovery_outcome
  call_nineteen {place} e = nineteen_reached ordinates s (past (ltb d (length ordinates)) 4 (past (ltb c (length ordinates)) 3 (past (ltb b table_cells) 1 (past (ltb a table_cells) 0 e))))
    where
      past : (t : Bool) (at : ℕ) {o : Outcome Combination} → cond t (refuse 1 at) o ≡ refusal 19 place → o ≡ refusal 19 place
      past true at e = absurd (other_coefficient 1 at refl e)
      past false at e = e

-- ---- the statements

has_weights : (s : Space) {t : Table} → checked s ≡ answer s → weights s ≡ answer t → space_weights s ≡ answer t
unfolding space_weights
has_weights s legal w = then_answers weights legal ∙ w

pub cells_reproduce : CellsReproduce
cells_reproduce s ordinates num den coef_num coef_den n e = go (with_inverts (λ _. row_count s) (recovery_outcome s ordinates (length num) (length den) (length coef_num) (length coef_den)) e)
  where
    go : Changed (λ _. row_count s) (recovery_outcome s ordinates (length num) (length den) (length coef_num) (length coef_den)) n
        → HeldCoefficients s ordinates coef_num coef_den n (recovery_end s ordinates num den coef_num coef_den)
    go c =
        let r = c.before in
        let h = call_answered s ordinates (length num) (length den) (length coef_num) (length coef_den) c.answers in
        let w = answers_have_the_weights s h.legal ordinates h.size r h.ends in
        record {
          accepted = record { table = r.table; is = has_weights s h.legal w.0 };
          coefficients = r.coefficients;
          count = w.1 ∙ c.changed;
          numerators_are = ap (λ o. answers_after numerator_of (length ordinates) o coef_num) c.answers;
          denominators_are = ap (λ o. answers_after denominator_of (length ordinates) o coef_den) c.answers;
          reproduce = answers_reproduce s h.legal ordinates h.size r h.ends;
          no_others = λ others m q. no_others_reproduce s h.legal ordinates h.size r h.ends others (m ∙ sym c.changed) q;
        }

pub nineteen_means_none : NineteenMeansNone
nineteen_means_none s ordinates num den coef_num coef_den place e =
    let h =
    call_nineteen s ordinates (length num) (length den) (length coef_num) (length coef_den)
    (with_refuses (λ _. row_count s) (recovery_outcome s ordinates (length num) (length den) (length coef_num) (length coef_den)) e) in
    record {
      missed = nineteen_misses_a_condition s h.legal ordinates h.size place h.ends;
      none = λ a coefficients q. nineteen_has_no_coefficients s a ordinates
          h.size place h.ends coefficients q;
    }
