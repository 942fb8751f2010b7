-- A turn adds the product of the row's coefficient and its jump, and the sum of all rows is tested for zero.
use borrow.Author.Rules.{rules}
use mathlib.Core.Path.{◌≡◌, sym, ◌∙◌, ap}
use mathlib.Core.List.{List}
use Prim.Native.Nat.{ℕ, suc}
use native.Mathlib.Omega.{arith}
use native.Mathlib.Numerals.{add-one}
use lib.IntN.{pos}
use lib.ListN.{length}
use mir.Syntax.{w64}
use mir.Val.{of_z}
use Rattle.std.proofs.lemmas.Result.{err_from_is_err_and}
use Rattle.base_exact.specs.Rational.{ℚ, int}
use Rattle.base_exact.proofs.Word.{of_z_inj}
use Rattle.base_exact.proofs.Rational.{zero_is, zero_num}
use Rattle.base_exact.proofs.Order.{zero_test, nonzero_test}
use Rattle.base_fraction.specs.Machine.{fraction, value}
use Rattle.base_fraction.specs.Fractions.{fractions}
use Rattle.base_fraction.specs.declared.Fraction.{Fraction}
use Rattle.base_fraction.proofs.Value.{fraction-int, value-int}
use Rattle.base_fraction.proofs.Size.{int-fits}
use Rattle.base_fraction.proofs.Answer.{fits-sized, reason_is}
use Rattle.base_fraction.proofs.Bounds.{num_fits}
use Rattle.base_outcome.specs.Outcome.{answer}
use Rattle.build_counted.proofs.Counted.{Answered, fits_answered, large_refused}
use Rattle.spec_calls.specs.Recovery.{jump_sum}
use Rattle.recover_balance.proofs.Sum.{sum-none, added, sum_more, sum_stays, balance_large, balance-zero, balance_not}
use Rattle.recover_balance.proofs.balanced.Goals as goal

pub loop-i-init : goal.loop-i-init
loop-i-init c = record {
  fitted = rw (← fraction-int (pos 0)) (fits-sized (int (pos 0)) (int-fits (pos 0) (omega arith)));
  lowest = sym (fraction-int (pos 0)) ∙ ap fraction (sym (value-int (pos 0)));
  state = λ j qs ps e h. sum-none j qs ps ∙ ap answer (sym (value-int (pos 0)));
}

pub add_term-requires : goal.add_term-requires
add_term-requires c =
    let p = c.requires.1 in
    record {
      sum_fits = c.loop-i.invariant.fitted;
      coefficient-fits = rw (c.fraction_at-coefficient.ensures p.1.of p.1.is) (fits-sized _ (p.1.fit c.loop-i.i));
      jump_fits = rw (c.fraction_at-jump.ensures p.0.of p.0.is) (fits-sized _ (p.0.fit c.loop-i.i));
    }

pub returns-in_err-sum : goal.returns-in_err-sum
returns-in_err-sum c j qs ps e h size =
    let p = err_from_is_err_and c.from_residual.result c.from_residual.ensures.1 in
    let none = c.in_err-sum.ensures.ok_part in
    let l = c.loop-i in
    let r = large_refused (added j qs ps l.i (value l.sum)) (sym (c.add_term.ensures.by_index j (value l.sum) _ _ l.invariant.lowest
    (c.fraction_at-coefficient.ensures ps h) (c.fraction_at-jump.ensures qs e)) ∙ none) in
    rw (p.1, p.2, reason_is c.in_err-sum.ensures.value none)
    (balance_large j qs ps (sum_stays j qs ps (suc l.i) (length qs) (omega (arith, size, c.loop-i-test.true))
    (sum_more j qs ps l.i (l.invariant.state j qs ps e h) ∙ r.refuses)))

pub loop-i-preserved : goal.loop-i-preserved
loop-i-preserved c =
    let l = c.loop-i in
    let s = c.in_ok-sum.sum in
    let some = c.in_ok-sum.ensures.ok_part in
    let answered : (j : ℕ) (qs ps : List ℚ) → c.args.js ≡ fractions qs → c.args.cs ≡ fractions ps
    → Answered (added j qs ps l.i (value l.sum)) s =
    λ j qs ps e h. fits_answered (added j qs ps l.i (value l.sum)) s
    (sym (c.add_term.ensures.by_index j (value l.sum) _ _ l.invariant.lowest
    (c.fraction_at-coefficient.ensures ps h) (c.fraction_at-jump.ensures qs e)) ∙ some) in
    record {
      fitted = c.add_term.ensures.fraction_fits s some;
      lowest = let p = c.requires.1 in (answered 0 p.0.of p.1.of p.0.is p.1.is).lowest;
      state = λ j qs ps e h.
          ap (jump_sum j qs ps) (add-one l.i) ∙ sum_more j qs ps l.i (l.invariant.state j qs ps e h) ∙ (answered j qs ps e h).answers;
    }

pub returns-then-sum-eq0 : goal.returns-then-sum-eq0
unfolding fraction
returns-then-sum-eq0 c j qs ps e h size =
    let l = c.loop-i in
    let v = l.invariant in
    let n = num_fits v.fitted in
    let whole = ap (jump_sum j qs ps) (let z : length qs ≡ l.i = omega (arith, size, c.loop-i-test.false) in z) ∙ v.state j qs ps e h in
    balance-zero j qs ps whole (zero_test
    (zero_is _ (sym (ap (λ (x : Fraction). x.num) v.lowest) ∙ of_z_inj w64 _ (pos 0) n (search rules) c.if-sum-eq0.true)))

pub returns : goal.returns
unfolding fraction
returns c j qs ps e h size =
    let l = c.loop-i in
    let v = l.invariant in
    let whole = ap (jump_sum j qs ps) (let z : length qs ≡ l.i = omega (arith, size, c.loop-i-test.false) in z) ∙ v.state j qs ps e h in
    balance_not j qs ps whole (nonzero_test (λ z. c.if-sum-eq0.false (ap (of_z w64) (ap (λ (x : Fraction). x.num) v.lowest ∙ zero_num z))))
