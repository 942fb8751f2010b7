-- A turn works out the coefficient of row i from the new one of the row before.
use borrow.Author.Rules.{rules}
use mathlib.Core.Path.{◌≡◌, sym, ◌∙◌, ap}
use mathlib.Core.List.{List, [], ◌∷◌, ◌++◌}
use Prim.Native.Nat.{ℕ, suc, ◌+◌, ◌-◌, ◌<◌, ◌≤◌}
use native.Mathlib.Omega.{arith}
use native.Mathlib.Numerals.{add-one}
use lib.IntN.{pos}
use lib.ListN.{length, take, drop, take-append-drop}
use mir.Syntax.{w64}
use mir.Val.{SFits}
use mir.ValLaws.{to_z-of_z}
use Rattle.std.specs.Prelude.{Some}
use Rattle.base_exact.specs.Rational.{ℚ}
use Rattle.base_fraction.specs.Machine.{value}
use Rattle.base_fraction.proofs.Size.{int-fits}
use Rattle.base_outcome.specs.Outcome.{Outcome, with_answer}
use Rattle.build_factors.specs.Jumps.{AllFit}
use Rattle.base_fraction.specs.Fractions.{fractions}
use Rattle.build_counted.specs.Machine.{counted}
use Rattle.base_fraction.specs.declared.arrays.Fractions.{Fractions}
use Rattle.build_counted.proofs.Counted.{fits_answered, large_refused}
use Rattle.spec_calls.specs.Recovery.{undone_row, undone_rows}
use Rattle.theorems_recovery.proofs.Answers.{rows-undone}
use Rattle.recover_rows.specs.Machine.{undone_of}
use Rattle.recover_counted.specs.Machine.{FractionsFit}
use Rattle.recover_counted.proofs.FractionFits.{undone-fits}
use Rattle.base_fraction.proofs.Fractions.{fractions_store}
use Rattle.recover_rows.proofs.Rows.{renewed, renewed_length, row_same, more_here, more_other, renewed_fit, more_fit, rows_none}
use Rattle.recover_rows.proofs.Rows.{rows_more, rows_end, rows_stay}
use Rattle.recover_rows.proofs.undo_rows.Invariants.{State}
use Rattle.recover_rows.proofs.undo_rows.Goals as goal

-- the state at a turn, and what it says
module _ {j : ℕ} {us ps : List ℚ} {f i : ℕ} {now : Fractions} (st : State j us ps f i now) (order : f ≤ i) (within : i < length ps) where
  size : length st.new ≡ i - f
  size = (rows-undone j us ps f (i - f) st.answers).size

  present_fit : AllFit ps → FractionsFit now (suc i)
  present_fit p = record {
    of = renewed f ps st.new i;
    is = st.is;
    fit = renewed_fit f i ps st.new order (omega arith) size p (st.fit p);
    long = omega (arith, renewed_length f i ps st.new order (omega arith) size);
  }

  same : counted (undone_row j us (renewed f ps st.new i) f (i - f) (drop f (renewed f ps st.new i))) ≡ counted
      (undone_row j us ps f (i - f) st.new)
  same = ap counted (row_same f i ps st.new order (omega arith) size j us)

pub loop-i-init : goal.loop-i-init
loop-i-init c j us ps e h long =
    let f = c.args.f in
    record {
      new = [];
      answers = ap (undone_rows j us ps f) (let z : f - f ≡ 0 = omega arith in z) ∙ rows_none j us ps f;
      is = h ∙ ap fractions (sym (take-append-drop f ps));
      fit = λ p k. int-fits (pos 0) (omega arith);
    }

pub undo_row-requires : goal.undo_row-requires
undo_row-requires c =
    let u = c.requires.factors in
    let n = c.requires.coefficients in
    record {
      order = omega arith;
      within = omega arith;
      coefficients = present_fit (c.loop-i.invariant 0 u.of n.of u.is n.is n.long) (omega arith) (omega (arith, n.long)) n.fit;
      factors = u;
      nonzero = λ us e d h. c.requires.nonzero us e d (omega arith);
    }

pub returns-in_err-q : goal.returns-in_err-q
unfolding undone_of
returns-in_err-q c j us ps e h long =
    let i = c.loop-i.i in
    let f = c.args.f in
    let l = c.args.l in
    let y = c.loop-i.invariant j us ps e h long in
    let x = large_refused (undone_row j us ps f (i - f) y.new)
    (sym (same y (omega arith) (omega (arith, long))) ∙ sym (c.in_err-q.ensures j us _ e y.is)) in
    c.from_residual.ensures
    ∙ sym (ap (λ (o : Outcome (List ℚ)). undone_of (with_answer (λ ds. take f ps ++ (ds ++ drop l ps)) o))
    (rows_stay j us ps f (suc (i - f)) (l - f) (omega arith) (rows_end j us ps f (i - f) y.answers x.refuses)))

pub loop-i-preserved : goal.loop-i-preserved
loop-i-preserved c j us ps e h long =
    let i = c.loop-i.i in
    let f = c.args.f in
    let q = c.in_ok-q.q in
    let n : SFits w64 q.num = search rules in
    let d : SFits w64 q.den = search rules in
    let y = c.loop-i.invariant j us ps e h long in
    let order : f ≤ i = omega arith in
    let z = size y order (omega (arith, long)) in
    let x = fits_answered (undone_row j us ps f (i - f) y.new) q
    (sym (same y order (omega (arith, long))) ∙ sym (c.in_ok-q.ensures j us _ e y.is)) in
    record {
      new = y.new ++ (value q ∷ []);
      answers = ap (undone_rows j us ps f) (let w : i + 1 - f ≡ suc (i - f) = omega arith in w)
          ∙ rows_more j us ps f (i - f) y.answers x.answers;
      is = (simp to_z-of_z
          (fractions_store (renewed f ps y.new i) (renewed f ps (y.new ++ (value q ∷ [])) (suc i)) (value q) i (omega arith)
          (more_here f i ps y.new order (omega arith) z (value q) (omega arith))
          (λ m l k. more_other f i ps y.new order (omega arith) z (value q) (omega arith) m k)
          c.loop-i.now q y.is x.lowest))
          ∙ ap (λ m. fractions (renewed f ps (y.new ++ (value q ∷ [])) m)) (sym (add-one i));
      fit = λ p. more_fit y.new (value q) (y.fit p) (undone-fits j us ps f (i - f) y.new (p f) x.answers);
    }

pub returns : goal.returns
unfolding undone_of
returns c j us ps e h long =
    let i = c.loop-i.i in
    let f = c.args.f in
    let l = c.args.l in
    let y = c.loop-i.invariant j us ps e h long in
    ap Some (y.is ∙ ap (λ m. fractions (renewed f ps y.new m)) (let z : i ≡ l = omega arith in z))
    ∙ sym (ap (λ (o : Outcome (List ℚ)). undone_of (with_answer (λ ds. take f ps ++ (ds ++ drop l ps)) o))
    (ap (λ m. undone_rows j us ps f (m - f)) (let z : l ≡ i = omega arith in z) ∙ y.answers))
