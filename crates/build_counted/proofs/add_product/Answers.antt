-- A weight of zero leaves the sum; else the product is counted, which is the sum with zero; and else the sum with it.
use mathlib.Core.Path.{◌≡◌, sym, ◌∙◌, ap}
use Prim.Native.Nat.{ℕ}
use native.Mathlib.Omega.{arith}
use lib.IntN.{ℤ, pos}
use mir.Syntax.{w64}
use Rattle.std.specs.Prelude.{Option}
use Rattle.base_exact.specs.Rational.{ℚ, int, ◌+ᵠ◌, ◌*ᵠ◌}
use Rattle.base_exact.proofs.Word.{to_z-of_z, of_z_inj, sfits_abs, sfits_nat}
use Rattle.base_fraction.specs.Size as size
use Rattle.base_fraction.specs.Machine as machine
use Rattle.base_fraction.specs.Machine.{value}
use Rattle.base_fraction.specs.declared.Fraction.{Fraction}
use Rattle.base_fraction.proofs.Value.{value-int, value-zero}
use Rattle.spec_spline.specs.Step.{count}
use Rattle.build_counted.specs.Machine.{counted}
use Rattle.build_counted.proofs.Counted.{machine_counted, count-sized, fits_then, large_then, zero_then, zero-before}
use Rattle.build_counted.proofs.add_product.Goals as goal

-- the product, in the definition's terms
product_is : (j : ℕ) (w : ℚ) (z : ℤ) {o : Option Fraction}
    → o ≡ machine.answer (size.count (w *ᵠ value (record { num = z; den = pos 1 }))) → o ≡ counted (count j (w *ᵠ int z))
product_is j w z e = e ∙ machine_counted j _ ∙ ap (λ q. counted (count j (w *ᵠ q))) (value-int z)

pub returns-then-weight-eq0 : goal.returns-then-weight-eq0
returns-then-weight-eq0 c j =
    let w = c.requires.weight-fits in
    let none = of_z_inj w64 c.args.weight.num (pos 0) (sfits_abs (omega (arith, w.num_small)))
    (sfits_nat 0 (omega arith)) c.if-weight-eq0.true in
    sym (zero_then j (value c.args.weight) (int c.args.condition) c.args.sum
    (value-zero c.args.weight w.den_pos none) c.requires.sum_fits c.requires.sum_lowest)

pub returns-in_err-term : goal.returns-in_err-term
returns-in_err-term c j =
    let f = c.ranges.condition in
    let p = product_is j _ _ (simp to_z-of_z at c.product.ensures) in
    c.from_residual.ensures
    ∙ sym (large_then _ (λ q. count j (value c.args.sum +ᵠ q)) (sym p ∙ c.in_err-term.was))

pub returns-then-sum-eq0 : goal.returns-then-sum-eq0
returns-then-sum-eq0 c j =
    let f = c.ranges.condition in
    let p = product_is j _ _ (simp to_z-of_z at c.product.ensures) in
    let x = c.requires.sum_fits in
    let none = of_z_inj w64 c.args.sum.num (pos 0) (sfits_abs (omega (arith, x.num_small)))
    (sfits_nat 0 (omega arith)) c.if-sum-eq0.true in
    sym c.in_ok-term.was ∙ p ∙ ap counted (sym (zero-before j _ (value c.args.sum) (value-zero c.args.sum x.den_pos none)))

pub sum-requires : goal.sum-requires
sum-requires c =
    let f = c.ranges.condition in
    let p = product_is 0 _ _ (simp to_z-of_z at c.product.ensures) in
    record { first = c.requires.sum_fits; second = (count-sized 0 _ c.in_ok-term.term (sym p ∙ c.in_ok-term.was)).1 }

pub returns : goal.returns
returns c j =
    let f = c.ranges.condition in
    let p = product_is j _ _ (simp to_z-of_z at c.product.ensures) in
    c.sum.ensures
    ∙ machine_counted j _
    ∙ sym (fits_then _ (λ q. count j (value c.args.sum +ᵠ q)) c.in_ok-term.term (sym p ∙ c.in_ok-term.was))
