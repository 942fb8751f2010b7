-- The four buffers, the lists and the ordinates are tested in the specification's order; then the parts are recovered.
use Rattle.std.proofs.Common.{◌≡◌, ◌∙◌, sym, ap, subst, refl, ℕ, ℤ, List, Result, Err}
use Rattle.std.proofs.lemmas.Result.{err_from_is_err_and}
use Rattle.base_outcome.specs.Outcome.{Outcome, refusal, with_answer}
use Rattle.base_outcome.specs.Machine.{reply}
use Rattle.base_outcome.specs.declared.Refusal.{Refusal}
use Rattle.base_outcome.proofs.Machine.{passed_refuses}
use Rattle.spec_spline.specs.Space.{Space, checked, row_count}
use Rattle.spec_spline.specs.Table.{numerators, denominators}
use Rattle.spec_calls.specs.Recovery.{Combination}
use Rattle.spec_calls.specs.RecoveryCall.{numerator_of, denominator_of, weights_after, answers_after}
use Rattle.build_space.specs.Machine.{space}
use Rattle.build_space.specs.Legal.{ListsLegal}
use Rattle.build_space.proofs.Legal.{passed_legal, legal_checked}
use Rattle.recover_limits.proofs.Ordinates.{ordinates_partial, ordinates_legal}
use Rattle.recover.specs.Leaves.{BeamEnds}
use Rattle.recover.proofs.Calls.{recovery_first-short, recovery_second-short, recovery_third_short, recovery_fourth_short}
use Rattle.recover.proofs.Calls.{recovery_lists_refused, recovery_ordinates_refused, recovery_legal, lists_keep, ordinates-keep}
use Rattle.recover.proofs.Calls.{beam_unchanged}
use Rattle.recover.proofs.coefficients.Goals as goal

-- what the contract says, from what the call ends with
module _ {s : Space} {n : ℕ} {r : Result ℕ Refusal} {num den coef_num coef_den num' den' coef_num' coef_den' : List ℤ} where
  told : {o x : Outcome Combination} → o ≡ x → BeamEnds s n x r num den coef_num coef_den num' den' coef_num' coef_den'
      → (reply r ≡ with_answer (λ _. row_count s) o) × ((num' ≡ weights_after numerators s o num) ×
      ((den' ≡ weights_after denominators s o den) × ((coef_num' ≡ answers_after numerator_of n o coef_num) ×
      (coef_den' ≡ answers_after denominator_of n o coef_den))))
  told e b =
      let t = subst (λ y. BeamEnds s n y r num den coef_num coef_den num' den' coef_num' coef_den') (sym e) b in
      (t.answers, (t.numerators_are, (t.denominators_are, (t.coefficient-numerators_are, t.coefficient-denominators_are))))

pub returns-then-num-lt-TABLE_CELLS : goal.returns-then-num-lt-TABLE_CELLS
returns-then-num-lt-TABLE_CELLS c =
    let s : Space = space c.args.breaks.now c.args.degrees.now c.args.orders.now in
    told (recovery_first-short s _ _ _ _ _ c.if-num-lt-TABLE_CELLS.true) (beam_unchanged s _ refl)

pub returns-then-den-lt-TABLE_CELLS : goal.returns-then-den-lt-TABLE_CELLS
returns-then-den-lt-TABLE_CELLS c =
    let s : Space = space c.args.breaks.now c.args.degrees.now c.args.orders.now in
    told (recovery_second-short s _ _ _ _ _ c.if-num-lt-TABLE_CELLS.false c.if-den-lt-TABLE_CELLS.true) (beam_unchanged s _ refl)

pub returns-then-coef_num-ordinates : goal.returns-then-coef_num-ordinates
returns-then-coef_num-ordinates c =
    let s : Space = space c.args.breaks.now c.args.degrees.now c.args.orders.now in
    told (recovery_third_short s _ _ _ _ _ c.if-num-lt-TABLE_CELLS.false c.if-den-lt-TABLE_CELLS.false c.if-coef_num-ordinates.true)
    (beam_unchanged s _ refl)

pub returns-then-coef_den-ordinates : goal.returns-then-coef_den-ordinates
returns-then-coef_den-ordinates c =
    let s : Space = space c.args.breaks.now c.args.degrees.now c.args.orders.now in
    told (recovery_fourth_short s _ _ _ _ _ c.if-num-lt-TABLE_CELLS.false c.if-den-lt-TABLE_CELLS.false c.if-coef_num-ordinates.false
    c.if-coef_den-ordinates.true) (beam_unchanged s _ refl)

-- a refusal that a `?` passes on, and that leaves all buffers
module _ (s : Space) (n : ℕ) {r : Result ℕ Refusal} {e : Refusal} (p : (y : Refusal) × (r ≡ Err y) × (y ≡ e)) where
  passed_unchanged : {num den coef_num coef_den : List ℤ} → BeamEnds s n (refusal e.code e.place) (Err e) num den coef_num coef_den
      num den coef_num coef_den → BeamEnds s n (refusal e.code e.place) r num den coef_num coef_den num den coef_num coef_den
  passed_unchanged {num} {den} {coef_num} {coef_den} b =
      subst (λ q. BeamEnds s n (refusal e.code e.place) q num den coef_num coef_den num den coef_num coef_den) (sym (p.1 ∙ ap Err p.2)) b

pub returns-in_err-check : goal.returns-in_err-check
returns-in_err-check c =
    let s : Space = space c.args.breaks.now c.args.degrees.now c.args.orders.now in
    let r = passed_refuses (checked s) c.in_err-check.ensures in
    told (recovery_lists_refused s _ _ _ _ _ c.if-num-lt-TABLE_CELLS.false c.if-den-lt-TABLE_CELLS.false c.if-coef_num-ordinates.false
    c.if-coef_den-ordinates.false r)
    (passed_unchanged s _ (err_from_is_err_and c.from_residual.result c.from_residual.ensures.1) (beam_unchanged s _ (lists_keep s r)))

pub check_ordinates-requires : goal.check_ordinates-requires
check_ordinates-requires c =
    let a = c.args in
    let legal : ListsLegal a.breaks.now a.degrees.now a.orders.now = passed_legal _ _ _ c.in_ok-check.ensures in
    (legal.few, legal.degrees_legal)

pub returns-in_err-check_ordinates : goal.returns-in_err-check_ordinates
returns-in_err-check_ordinates c =
    let a = c.args in
    let s : Space = space a.breaks.now a.degrees.now a.orders.now in
    let legal : ListsLegal a.breaks.now a.degrees.now a.orders.now = passed_legal _ _ _ c.in_ok-check.ensures in
    let r = sym (c.in_err-check_ordinates.ensures ∙ ordinates_partial a.breaks.now a.degrees.now a.orders.now a.ordinates.now) in
    let q = c.from_residual-in_err-check_ordinates in
    told (recovery_ordinates_refused s _ _ _ _ _ c.if-num-lt-TABLE_CELLS.false c.if-den-lt-TABLE_CELLS.false
    c.if-coef_num-ordinates.false c.if-coef_den-ordinates.false (legal_checked _ _ _ legal) r)
    (passed_unchanged s _ (err_from_is_err_and q.result q.ensures.1) (beam_unchanged s _ (ordinates-keep s a.ordinates.now r)))

pub recover_parts-requires : goal.recover_parts-requires
recover_parts-requires c =
    let a = c.args in
    let s : Space = space a.breaks.now a.degrees.now a.orders.now in
    let pass = sym (c.in_ok-check_ordinates.ensures ∙ ordinates_partial a.breaks.now a.degrees.now a.orders.now a.ordinates.now) in
    let o = ordinates_legal s a.ordinates.now pass in
    record {
      legal = passed_legal _ _ _ c.in_ok-check.ensures;
      room = record { num_long = c.if-num-lt-TABLE_CELLS.false; den_long = c.if-den-lt-TABLE_CELLS.false };
      given = record { count = o.0; fit = o.1 };
      coef_num_long = c.if-coef_num-ordinates.false;
      coef_den_long = c.if-coef_den-ordinates.false;
    }

pub returns : goal.returns
returns c =
    let a = c.args in
    let s : Space = space a.breaks.now a.degrees.now a.orders.now in
    let legal : ListsLegal a.breaks.now a.degrees.now a.orders.now = passed_legal _ _ _ c.in_ok-check.ensures in
    let pass = sym (c.in_ok-check_ordinates.ensures ∙ ordinates_partial a.breaks.now a.degrees.now a.orders.now a.ordinates.now) in
    let w = recovery_legal s _ _ _ _ _ c.if-num-lt-TABLE_CELLS.false c.if-den-lt-TABLE_CELLS.false c.if-coef_num-ordinates.false
    c.if-coef_den-ordinates.false (legal_checked _ _ _ legal) pass in
    told {s = s} w c.recover_parts.ensures
