-- A zero jump leaves the sum; otherwise the product is counted, and then the sum with it.
use borrow.Author.Rules.{rules}
use mathlib.Core.Path.{◌≡◌, sym, ◌∙◌, ap, ap₂, subst}
use native.Mathlib.Omega.{arith}
use mathlib.Core.Bool.{true, false, cond, not}
use Prim.Native.Nat.{ℕ}
use lib.IntN.{pos}
use mir.Syntax.{w64}
use mir.Val.{of_z}
use Rattle.std.specs.Prelude.{Option, Some}
use Rattle.base_exact.proofs.Word.{of_z_inj}
use Rattle.base_exact.specs.Rational.{ℚ, ◌+ᵠ◌, ◌*ᵠ◌}
use Rattle.base_exact.specs.Order.{is_zero}
use Rattle.base_exact.proofs.Rational.{zero_is, zero_num}
use Rattle.base_exact.proofs.Order.{zero_test, nonzero_test}
use Rattle.base_fraction.specs.Size as size
use Rattle.base_fraction.specs.Machine as machine
use Rattle.base_fraction.specs.Machine.{fraction, value, FractionFits}
use Rattle.base_fraction.specs.declared.Fraction.{Fraction}
use Rattle.base_fraction.proofs.Value.{value-fraction}
use Rattle.base_fraction.proofs.Bounds.{num_fits}
use Rattle.base_outcome.specs.Outcome.{answer, ◌then◌}
use Rattle.build_counted.specs.Machine.{counted}
use Rattle.build_counted.proofs.Counted.{fits_then, large_then}
use Rattle.spec_calls.specs.Recovery.{fitted}
use Rattle.recover_counted.proofs.FractionFits.{machine_sized, sized-sized}
use Rattle.recover_counted.proofs.add_term.Goals as goal

-- the jump's numerator tells whether it is zero
module _ (f : Fraction) (q : ℚ) (is : f ≡ fraction q) where
  zero_told : f.num ≡ pos 0 → is_zero q ≡ true
  unfolding fraction
  zero_told e = zero_test (zero_is q (sym (ap (λ (x : Fraction). x.num) is) ∙ e))

  some_told : (of_z w64 f.num ≡ of_z w64 (pos 0) → ⊥) → is_zero q ≡ false
  unfolding fraction
  some_told h = nonzero_test (λ z. h (ap (of_z w64) (ap (λ (x : Fraction). x.num) is ∙ zero_num z)))

  -- where it is not, the definition counts the product
  tested : (j : ℕ) (s c : ℚ) → (of_z w64 f.num ≡ of_z w64 (pos 0) → ⊥)
      → counted (cond (not (is_zero q)) (fitted j (c *ᵠ q) then λ p. fitted j (s +ᵠ p)) (answer s)) ≡ counted
      (fitted j (c *ᵠ q) then λ p. fitted j (s +ᵠ p))
  tested j s c h = ap (λ b. counted (cond (not b) (fitted j (c *ᵠ q) then λ p. fitted j (s +ᵠ p)) (answer s))) (some_told h)

-- what the product answers, in the definition's terms
product_is : (j : ℕ) {f g : Fraction} (c q : ℚ) {o : Option Fraction} → f ≡ fraction c → g ≡ fraction q
    → o ≡ machine.answer (size.count (value f *ᵠ value g))
    → o ≡ counted (fitted j (c *ᵠ q))
product_is j c q e h p = p ∙ machine_sized j _
    ∙ ap₂ (λ x y. counted (fitted j (x *ᵠ y))) (ap value e ∙ value-fraction c) (ap value h ∙ value-fraction q)

pub returns-then-jump-eq0 : goal.returns-then-jump-eq0
unfolding counted
returns-then-jump-eq0 c =
    let n = num_fits c.requires.jump_fits in record {
      by_index = λ j a b q e h k. ap Some e
          ∙ sym (ap (λ z. counted (cond (not z) (fitted j (b *ᵠ q) then λ p. fitted j (a +ᵠ p)) (answer a)))
          (zero_told c.args.jump q k (of_z_inj w64 _ (pos 0) n (search rules) c.if-jump-eq0.true)));
      fraction_fits = λ f e. subst FractionFits (let z : c.args.sum ≡ f = cc in z) c.requires.sum_fits;
    }

pub returns-in_err-term : goal.returns-in_err-term
returns-in_err-term c = record {
  by_index = λ j a b q e h z.
      c.from_residual.ensures
      ∙ sym (tested c.args.jump q z j a b c.if-jump-eq0.false
      ∙ large_then (fitted j (b *ᵠ q)) (λ x. fitted j (a +ᵠ x)) (sym (product_is j b q h z c.in_err-term.ensures)));
  fraction_fits = λ f e. absurd (let k = c.from_residual.ensures in let z : ◌≡◌ {A = ℕ} 0 1 = cc in omega arith);
}

pub sum-requires : goal.sum-requires
sum-requires c = record {
  first = c.requires.sum_fits;
  second = (sized-sized 0 _ c.in_ok-term.term (sym (c.in_ok-term.ensures ∙ machine_sized 0 _))).1;
}

pub returns : goal.returns
returns c =
    let t = c.in_ok-term.term in record {
      by_index = λ j a b q e h z.
          c.sum.ensures
          ∙ machine_sized j _
          ∙ ap (λ x. counted (fitted j (x +ᵠ value t))) (ap value e ∙ value-fraction a)
          ∙ sym (tested c.args.jump q z j a b c.if-jump-eq0.false
          ∙ fits_then (fitted j (b *ᵠ q)) (λ x. fitted j (a +ᵠ x)) t (sym (product_is j b q h z c.in_ok-term.ensures)));
      fraction_fits = λ f e. (sized-sized 0 _ f (sym (machine_sized 0 _) ∙ sym c.sum.ensures ∙ e)).1;
    }
