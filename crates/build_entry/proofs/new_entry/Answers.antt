-- Two zeros make zero, and beside one zero there is one product to count; else the first product is counted, then the second, then
-- their sum.
use mathlib.Core.Path.{◌≡◌, sym, ◌∙◌, ap}
use Prim.Native.Nat.{ℕ}
use native.Mathlib.Omega.{arith}
use lib.IntN.{pos}
use mir.Syntax.{w64}
use mir.Val.{of_z}
use Rattle.std.specs.Prelude.{Option, Some}
use Rattle.base_exact.specs.Rational.{ℚ, int, ◌+ᵠ◌, ◌-ᵠ◌, ◌*ᵠ◌}
use Rattle.base_exact.proofs.Word.{of_z_inj, sfits_abs, sfits_nat}
use Rattle.base_fraction.specs.Size as size
use Rattle.base_fraction.specs.Machine as machine
use Rattle.base_fraction.specs.Machine.{value, FractionFits}
use Rattle.base_fraction.specs.declared.Fraction.{Fraction}
use Rattle.base_fraction.proofs.Value.{value-zero}
use Rattle.base_outcome.specs.Outcome.{Outcome, ◌then◌}
use Rattle.spec_spline.specs.Step.{count, new_entry}
use Rattle.build_counted.specs.Machine.{counted}
use Rattle.build_counted.proofs.Counted.{machine_counted, count-sized, fits_then, large_then}
use Rattle.build_entry.proofs.Mixing.{zero-entry, first-zero, second-zero}
use Rattle.build_entry.proofs.new_entry.Goals as goal

-- a part of zero
zero-part : (f : Fraction) → FractionFits f → of_z w64 f.num ≡ of_z w64 (pos 0) → value f ≡ int (pos 0)
zero-part f s e = value-zero f s.den_pos
    (of_z_inj w64 f.num (pos 0) (sfits_abs (omega (arith, s.num_small))) (sfits_nat 0 (omega arith)) e)

-- what is left to do after the first product
abbrev rest : ℕ → ℚ → ℚ → ℚ → Outcome ℚ
rest j v y p = count j ((int (pos 1) -ᵠ v) *ᵠ y) then λ q. count j (p +ᵠ q)

-- the second product, by the complement
by_complement : (j : ℕ) {u : ℚ} (v y : ℚ) {o : Option Fraction} → u ≡ int (pos 1) -ᵠ v → o ≡ machine.answer (size.count (u *ᵠ y))
    → o ≡ counted (count j ((int (pos 1) -ᵠ v) *ᵠ y))
by_complement j v y e h = h ∙ machine_counted j _ ∙ ap (λ u. counted (count j (u *ᵠ y))) e

-- the first product fits: the rest goes on with it
first_fits : (j : ℕ) (w v x y : ℚ) (p : Fraction) → Some p ≡ machine.answer (size.count (w *ᵠ x))
    → counted (new_entry j w v x y) ≡ counted (rest j v y (value p))
unfolding new_entry
first_fits j w v x y p h = fits_then (count j (w *ᵠ x)) (rest j v y) p (sym (h ∙ machine_counted j _))

pub returns-then-y-eq0 : goal.returns-then-y-eq0
returns-then-y-eq0 c j v e =
    sym (zero-entry j (value c.args.w) v (zero-part c.args.x c.requires.first_entry c.if-x-eq0.true)
    (zero-part c.args.y c.requires.second-entry c.if-y-eq0.true))

pub returns-then-x-eq0 : goal.returns-then-x-eq0
returns-then-x-eq0 c j v e =
    by_complement j v (value c.args.y) e c.product.ensures
    ∙ ap counted (sym (first-zero j (value c.args.w) v (value c.args.y) (zero-part c.args.x c.requires.first_entry c.if-x-eq0.true)))

pub returns-then-y-eq0-2 : goal.returns-then-y-eq0-2
returns-then-y-eq0-2 c j v e =
    c.product-then-y-eq0-2.ensures
    ∙ machine_counted j _
    ∙ ap counted (sym (second-zero j (value c.args.w) v (value c.args.x) (zero-part c.args.y c.requires.second-entry c.if-y-eq0-2.true)))

pub returns-in_err-first : goal.returns-in_err-first
unfolding new_entry
returns-in_err-first c j v e =
    c.from_residual.ensures
    ∙ sym (large_then (count j (value c.args.w *ᵠ value c.args.x)) (rest j v (value c.args.y))
    (sym (c.in_err-first.ensures ∙ machine_counted j _)))

pub returns-in_err-second : goal.returns-in_err-second
returns-in_err-second c j v e =
    let p = c.in_ok-first.first in
    c.from_residual-in_err-second.ensures
    ∙ sym (first_fits j (value c.args.w) v (value c.args.x) (value c.args.y) p c.in_ok-first.ensures
    ∙ large_then (count j ((int (pos 1) -ᵠ v) *ᵠ value c.args.y)) (λ q. count j (value p +ᵠ q))
    (sym (by_complement j v (value c.args.y) e c.in_err-second.ensures)))

pub sum-requires : goal.sum-requires
sum-requires c = record {
  first = (count-sized 0 _ c.in_ok-first.first (sym (c.in_ok-first.ensures ∙ machine_counted 0 _))).1;
  second = (count-sized 0 _ c.in_ok-second.second (sym (c.in_ok-second.ensures ∙ machine_counted 0 _))).1;
}

pub returns : goal.returns
returns c j v e =
    let p = c.in_ok-first.first in
    c.sum.ensures
    ∙ machine_counted j _
    ∙ sym (first_fits j (value c.args.w) v (value c.args.x) (value c.args.y) p c.in_ok-first.ensures
    ∙ fits_then (count j ((int (pos 1) -ᵠ v) *ᵠ value c.args.y)) (λ q. count j (value p +ᵠ q)) c.in_ok-second.second
    (sym (by_complement j v (value c.args.y) e c.in_ok-second.ensures)))
