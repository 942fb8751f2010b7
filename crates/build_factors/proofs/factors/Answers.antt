-- A turn stores the factor of row i behind those before it, and its partial sum goes on.
use borrow.Author.Rules.{rules}
use native.Mathlib.Omega.{arith}
use mathlib.Core.Path.{◌≡◌, sym, ◌∙◌, ap, ap₂}
use mathlib.Core.List.{List, [], ◌∷◌, ◌++◌}
use Prim.Native.Nat.{ℕ, suc, ◌+◌, ◌-◌, ◌<◌}
use lib.IntN.{pos}
use mir.Syntax.{w64}
use mir.Val.{SFits}
use mir.ValLaws.{to_z-of_z}
use Rattle.std.proofs.lemmas.Result.{err_from_is_err_and}
use Rattle.std.specs.Prelude.{Result}
use Rattle.base_exact.specs.Rational.{ℚ, int, ◌+ᵠ◌}
use Rattle.base_exact.proofs.Rational.{zero_is}
use Rattle.base_exact.proofs.Order.{is_zero_false}
use Rattle.base_fraction.specs.Machine.{fraction, value}
use Rattle.base_fraction.specs.declared.Fraction.{Fraction}
use Rattle.base_fraction.proofs.Value.{value-fraction}
use Rattle.base_fraction.proofs.Answer.{fits-sized}
use Rattle.base_outcome.specs.Outcome.{collect}
use Rattle.spec_spline.specs.Step.{factor, partial_sum, quotient_factor}
use Rattle.spec_spline.specs.Table.{entry}
use Rattle.base_outcome.proofs.Outcome.{collect-none, collect_more, collect-ends, collect_stays, collect_inverts}
use Rattle.spec_spline.proofs.Step.{partial_first, partial_more}
use Rattle.spec_spline.proofs.Answers.{factor-answers}
use Rattle.base_fraction.specs.Fractions.{fractions}
use Rattle.base_fraction.proofs.Fractions.{fractions_more, one_fraction}
use Rattle.build_factors.specs.Machine.{next_factor}
use Rattle.build_factors.specs.declared.NextFactor.{NextFactor}
use Rattle.build_factors.specs.declared.StepRefusal.{StepRefusal}
use Rattle.build_factors.proofs.Quotients.{Next, next_is, next-ended, factors_refused, factors_answered}
use Rattle.build_factors.proofs.factors.Goals as goal

-- what the call of factor at row i answers, in the definition's terms
next_factor_is : (j : ℕ) (qs : List ℚ) (f i : ℕ) {sum jump : Fraction} {r : Result NextFactor StepRefusal} → f < i
    → sum ≡ fraction (partial_sum qs f (i - 1)) → jump ≡ fraction (entry qs i)
    → r ≡ next_factor (value sum +ᵠ value jump) (quotient_factor j (value sum +ᵠ value jump) (value jump))
    → r ≡ next_factor (partial_sum qs f i) (factor j qs f i)
next_factor_is j qs f i after sum_is jump_is e =
    e
    ∙ ap₂ (λ s q. next_factor (s +ᵠ q) (quotient_factor j (s +ᵠ q) q)) (ap value sum_is ∙ value-fraction _)
    (ap value jump_is ∙ value-fraction _)
    ∙ ap (λ s. next_factor s (quotient_factor j s (entry qs i))) (sym (partial_more qs f i after))

-- the place of the row among those between f and l
place : (j : ℕ) (qs : List ℚ) (f i : ℕ) → f < i → factor j qs f i ≡ factor j qs f (f + 1 + (i - f - 1))
place j qs f i after = ap (factor j qs f) (let z : i ≡ f + 1 + (i - f - 1) = omega arith in z)

pub loop-i-init : goal.loop-i-init
loop-i-init c =
    let f = c.args.f in
    record {
      within = omega arith;
      fitted = rw (c.fraction_at-sum.ensures c.requires.of c.requires.is) (fits-sized (entry c.requires.of f) (c.requires.fit f));
      sum_is = λ qs e. c.fraction_at-sum.ensures qs e
          ∙ ap fraction (sym (partial_first qs f) ∙ ap (partial_sum qs f) (let z : f ≡ f + 1 - 1 = omega arith in z));
      rest = λ qs j e. record {
        done = [];
        collects = ap (λ n. collect n (λ d. factor j qs f (f + 1 + d))) (let z : f + 1 - f - 1 ≡ 0 = omega arith in z) ∙ collect-none _;
        ws_is = one_fraction c.no_factors.result.of c.no_factors.ensures.1.1;
      };
    }

pub factor-requires : goal.factor-requires
unfolding fraction
factor-requires c =
    let p = c.requires in
    let i = c.loop-i.i in
    let e = c.fraction_at-jump.ensures p.of p.is in
    record {
      before-fits = c.loop-i.invariant.fitted;
      jump_fits = rw e (fits-sized (entry p.of i) (p.fit i));
      jump_nonzero = λ z. is_zero_false (entry p.of i) (p.jump i (omega arith) (omega arith))
          (zero_is (entry p.of i) (sym (ap (λ (x : Fraction). x.num) e) ∙ z));
    }

pub returns-in_err-next : goal.returns-in_err-next
returns-in_err-next c qs j e =
    let p = err_from_is_err_and c.from_residual.result c.from_residual.ensures.1 in
    let i = c.loop-i.i in
    let f = c.args.f in
    let v = c.loop-i.invariant in
    let after : f < i = omega arith in
    let r = next-ended _ _ _ (next_factor_is j qs f i after (v.sum_is qs e) (c.fraction_at-jump.ensures qs e) (c.in_err-next.ensures j)) in
    let stopped = collect_stays (suc (i - f - 1)) (c.args.l - f - 1) (λ d. factor j qs f (f + 1 + d)) (omega (arith, c.loop-i-test.true))
    (collect-ends (i - f - 1) _ (v.rest qs j e).collects (sym (place j qs f i after) ∙ r.refuses)) in
    rw (p.1, p.2) (factors_refused j qs f c.args.l stopped r.named)

pub loop-i-preserved : goal.loop-i-preserved
loop-i-preserved c =
    let i = c.loop-i.i in
    let f = c.args.f in
    let v = c.loop-i.invariant in
    let next = c.in_ok-next.next in
    let after : f < i = omega arith in
    let n : SFits w64 next.w.num = search rules in
    let d : SFits w64 next.w.den = search rules in
    let answered : (qs : List ℚ) (j : ℕ) → c.args.js ≡ fractions qs → Next (partial_sum qs f i) (factor j qs f i) next =
    λ qs j e. next_is _ _ next (next_factor_is j qs f i after (v.sum_is qs e) (c.fraction_at-jump.ensures qs e)
    (c.in_ok-next.ensures j)) in
    record {
      within = omega arith;
      fitted = let x = answered c.requires.of 0 c.requires.is in rw x.sum_is (fits-sized _ (factor-answers 0 _ _ x.answers).sum_fits);
      sum_is = λ qs e. (answered qs 0 e).sum_is ∙ ap (λ k. fraction (partial_sum qs f k)) (let z : i ≡ i + 1 - 1 = omega arith in z);
      rest = λ qs j e.
          let x = answered qs j e in
          let y = v.rest qs j e in
          let size = (collect_inverts (i - f - 1) (λ k. factor j qs f (f + 1 + k)) y.collects).size in
          record {
            done = y.done ++ (x.factor ∷ []);
            collects = ap (λ k. collect k (λ k. factor j qs f (f + 1 + k))) (let z : i + 1 - f - 1 ≡ suc (i - f - 1) = omega arith in z)
                ∙ collect_more (i - f - 1) _ y.collects (sym (place j qs f i after) ∙ x.answers);
            ws_is = simp to_z-of_z (fractions_more (int (pos 1) ∷ y.done) x.factor (i - f) c.loop-i.ws next.w (omega arith)
                (omega arith) y.ws_is x.w_is);
          };
    }

pub returns : goal.returns
returns c qs j e =
    let i = c.loop-i.i in
    let f = c.args.f in
    let l = c.args.l in
    let y = c.loop-i.invariant.rest qs j e in
    factors_answered j qs f l (ap (λ n. collect n (λ d. factor j qs f (f + 1 + d))) (let z : l - f - 1 ≡ i - f - 1 = omega arith in z)
    ∙ y.collects) y.ws_is
