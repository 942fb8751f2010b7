-- The zero test, then the new coefficients with the factors of the step, then row l dropped; the first that is refused ends it.
use mathlib.Core.Path.{sym, ◌∙◌, ap}
use mathlib.Core.List.{◌++◌}
use Prim.Native.Nat.{suc, ◌-◌, ◌<◌}
use native.Mathlib.Omega.{arith}
use lib.ListN.{length, take, drop}
use Rattle.std.proofs.lemmas.Result.{err_from_is_err_and}
use Rattle.std.specs.Prelude.{Ok, Err}
use Rattle.base_fraction.specs.Fractions.{fractions}
use Rattle.base_fraction.proofs.Answer.{reason_is}
use Rattle.base_outcome.specs.Outcome.{answer, refusal}
use Rattle.base_outcome.proofs.Outcome.{then_answers, then_refuses, with_inverts, with_refuses}
use Rattle.spec_calls.specs.Recovery.{balanced, undone}
use Rattle.recover_rows.proofs.Rows.{renewed_length}
use Rattle.theorems_recovery.proofs.Answers.{rows-undone, undone-refuses_20}
use Rattle.recover_joins.specs.Leaves.{coefficients_of}
use Rattle.recover_joins.proofs.Refusals.{told_zero, told_refused}
use Rattle.recover_joins.proofs.Undone.{undone_in_arrays, undone_refused, renewed_without}
use Rattle.recover_joins.proofs.undo.Goals as goal

pub returns-in_err-balanced : goal.returns-in_err-balanced
returns-in_err-balanced c j qs us ps e w h m n =
    let p = err_from_is_err_and c.from_residual.result c.from_residual.ensures.1 in
    let r = told_refused (balanced j qs ps) (c.in_err-balanced.ensures j qs ps e h m) in
    p.1 ∙ ap Err p.2 ∙ sym (ap coefficients_of (then_refuses (λ _. undone j (record { f = c.args.f; l = c.args.l }) us ps) r.refuses))

pub undo_rows-requires : goal.undo_rows-requires
undo_rows-requires c =
    let p = c.requires in
    let n = p.coefficients in
    record {
      order = p.ordered;
      within = omega (arith, p.below, p.few);
      coefficients = record { of = n.of; is = n.is; fit = n.fit; long = omega (arith, n.long, p.below) };
      factors = p.unit;
      nonzero = p.nonzero;
    }

pub returns-in_err-undone : goal.returns-in_err-undone
unfolding undone
returns-in_err-undone c j qs us ps e w h m n =
    let p = err_from_is_err_and c.from_residual-in_err-undone.result c.from_residual-in_err-undone.ensures.1 in
    let none = c.in_err-undone.ensures.ok_part in
    let f = c.args.f in
    let l = c.args.l in
    let zero = told_zero (balanced j qs ps) (c.in_ok-balanced.ensures j qs ps e h m) in
    let r = undone_refused _ (sym (c.undo_rows.ensures j us ps w h (omega (arith, n, c.requires.below))) ∙ none) in
    let z = then_refuses (λ ds. answer (take f ps ++ (ds ++ drop (suc l) ps)))
    (with_refuses (λ ds. take f ps ++ (ds ++ drop l ps)) _ r.refuses) in
    p.1
    ∙ ap Err (p.2 ∙ reason_is c.in_err-undone.ensures.value none)
    ∙ sym (ap coefficients_of (then_answers (λ _. undone j (record { f = f; l = l }) us ps) zero ∙ z
    ∙ ap (λ q. refusal q r.place) (undone-refuses_20 j (record { f = f; l = l }) us ps r.code r.place z)))

pub returns : goal.returns
unfolding undone
returns c j qs us ps e w h m n =
    let f = c.args.f in
    let l = c.args.l in
    let zero = told_zero (balanced j qs ps) (c.in_ok-balanced.ensures j qs ps e h m) in
    let a = undone_in_arrays _ c.in_ok-undone.undone
    (sym (c.undo_rows.ensures j us ps w h (omega (arith, n, c.requires.below))) ∙ c.in_ok-undone.ensures.ok_part) in
    let d = with_inverts (λ ds. take f ps ++ (ds ++ drop l ps)) _ a.answers in
    let size = (rows-undone j us ps f (l - f) d.answers).size in
    let order = c.requires.ordered in
    let below : l < length ps = omega (arith, n, c.requires.below) in
    ap Ok
    (c.drop_coefficient.ensures (take f ps ++ (d.before ++ drop l ps)) (a.is ∙ ap fractions (sym d.changed))
    (renewed_length f l ps d.before order (omega arith) size ∙ n)
    ∙ renewed_without f l ps d.before order below size)
    ∙ sym (ap coefficients_of (then_answers (λ _. undone j (record { f = f; l = l }) us ps) zero
    ∙ then_answers (λ ds. answer (take f ps ++ (ds ++ drop (suc l) ps))) d.answers))
