-- The share of the row before, the difference and the quotient are counted one after the other.
use mathlib.Core.Path.{◌≡◌, sym, ◌∙◌, ap, ap₂, subst}
use Prim.Native.Nat.{ℕ}
use native.Mathlib.Omega.{arith}
use lib.IntN.{pos, ◌-ℤ◌}
use mir.Syntax.{w64}
use mir.Val.{SFits}
use mir.ValLaws.{to_z-of_z}
use Rattle.std.specs.Prelude.{Option, Some}
use Rattle.base_exact.specs.Rational.{ℚ, int, ◌+ᵠ◌, ◌-ᵠ◌, ◌*ᵠ◌, ◌/ᵠ◌}
use Rattle.base_fraction.specs.Size as size
use Rattle.base_fraction.specs.Machine as machine
use Rattle.base_fraction.specs.Machine.{fraction, value, FractionFits}
use Rattle.base_fraction.specs.declared.Fraction.{Fraction}
use Rattle.base_fraction.proofs.Value.{value-fraction}
use Rattle.base_fraction.proofs.Answer.{fits-sized}
use Rattle.base_fraction.proofs.Bounds.{num_fits, den-fits, sub_fits}
use Rattle.base_outcome.specs.Outcome.{Outcome, ◌then◌}
use Rattle.build_counted.specs.Machine.{counted}
use Rattle.build_counted.proofs.Counted.{fits_then, large_then}
use Rattle.build_entry.specs.Factor.{UnitFactor}
use Rattle.spec_calls.specs.Recovery.{fitted, undone_coefficient}
use Rattle.recover_counted.proofs.FractionFits.{machine_sized, sized-sized, neg_value, neg_sized}
use Rattle.recover_counted.proofs.undo_coefficient.Goals as goal

unit-sized : (w : Fraction) → UnitFactor w → FractionFits w
unit-sized w h = subst FractionFits (sym h.is) (fits-sized h.of h.fit)

-- what is left to do after the share, and after the difference
abbrev divided : ℕ → ℚ → ℚ → Outcome ℚ
divided j v d = fitted j (d /ᵠ v)

abbrev subtracted : ℕ → ℚ → ℚ → ℚ → Outcome ℚ
subtracted j v a share = fitted j (a -ᵠ share) then λ d. divided j v d

-- the share, in the definition's terms
share_is : (j : ℕ) {w before : Fraction} (rest : Fraction) (v b : ℚ) {o : Option Fraction} → value rest ≡ int (pos 1) -ᵠ value w
    → w ≡ fraction v → before ≡ fraction b
    → o ≡ machine.answer (size.count (value rest *ᵠ value before)) → o ≡ counted (fitted j ((int (pos 1) -ᵠ v) *ᵠ b))
share_is j rest v b r e h p =
    p ∙ machine_sized j _ ∙ ap₂ (λ x y. counted (fitted j (x *ᵠ y))) (r ∙ ap (λ x. int (pos 1) -ᵠ x) (ap value e ∙ value-fraction v))
    (ap value h ∙ value-fraction b)

-- a product that is counted is small
small : (q : ℚ) {f : Fraction} → Some f ≡ machine.answer (size.count q) → FractionFits f
small q {f} e = (sized-sized 0 q f (sym (e ∙ machine_sized 0 q))).1

negated_fits : (share : Fraction) → FractionFits share → SFits w64 (pos 0 -ℤ share.num)
negated_fits share z = sub_fits (pos 0) share.num (omega arith) z.num_small

-- the difference, in the definition's terms
difference_is : (j : ℕ) {coefficient : Fraction} (share : Fraction) (a : ℚ) {o : Option Fraction} → FractionFits share
    → coefficient ≡ fraction a
    → o ≡ machine.answer (size.count (value coefficient +ᵠ value (record { num = pos 0 -ℤ share.num; den = share.den })))
    → o ≡ counted (fitted j (a -ᵠ value share))
difference_is j {coefficient} share a z e p =
    p
    ∙ machine_sized j _
    ∙ ap (λ q. counted (fitted j (value coefficient +ᵠ q))) (neg_value share z.den_pos)
    ∙ ap (λ x. counted (fitted j (x -ᵠ value share))) (ap value e ∙ value-fraction a)

-- the share fits: the rest goes on with it
after-share : (j : ℕ) (v a b : ℚ) (share : Fraction) → Some share ≡ counted (fitted j ((int (pos 1) -ᵠ v) *ᵠ b))
    → counted (undone_coefficient j v a b) ≡ counted (subtracted j v a (value share))
unfolding undone_coefficient
after-share j v a b share e = fits_then (fitted j ((int (pos 1) -ᵠ v) *ᵠ b)) (subtracted j v a) share (sym e)

pub returns-in_err-share : goal.returns-in_err-share
unfolding undone_coefficient
returns-in_err-share c j v a b e h k =
    c.from_residual.ensures
    ∙ sym (large_then (fitted j ((int (pos 1) -ᵠ v) *ᵠ b)) (subtracted j v a)
    (sym (share_is j c.complement-rest.result v b c.complement-rest.ensures.0 e k c.in_err-share.ensures)))

pub overflow_sub-negated : goal.overflow_sub-negated
overflow_sub-negated c =
    let z = small _ c.in_ok-share.ensures in
    simp (to_z-of_z, num_fits z) (negated_fits c.in_ok-share.share z)

pub sum-requires : goal.sum-requires
sum-requires c =
    let share = c.in_ok-share.share in
    let z = small _ c.in_ok-share.ensures in
    record {
      first = c.requires.coefficient-fits;
      second =
          simp (to_z-of_z, num_fits z, den-fits z, negated_fits share z) (neg_sized share z);
    }

pub returns-in_err-difference : goal.returns-in_err-difference
returns-in_err-difference c j v a b e h k =
    let share = c.in_ok-share.share in
    let z = small _ c.in_ok-share.ensures in
    let d = simp (to_z-of_z, num_fits z, den-fits z, negated_fits share z) at c.in_err-difference.ensures in
    c.from_residual-in_err-difference.ensures
    ∙ sym (after-share j v a b share (share_is j c.complement-rest.result v b c.complement-rest.ensures.0 e k c.in_ok-share.ensures)
    ∙ large_then (fitted j (a -ᵠ value share)) (divided j v) (sym (difference_is j share a z h d)))

pub quotient-requires : goal.quotient-requires
quotient-requires c =
    let share = c.in_ok-share.share in
    let z = small _ c.in_ok-share.ensures in
    let d = simp (to_z-of_z, num_fits z, den-fits z, negated_fits share z) at c.in_ok-difference.ensures in
    record { first = small _ d; second = unit-sized c.args.w c.requires.factor; divisor_nonzero = c.requires.factor_nonzero }

pub returns : goal.returns
returns c j v a b e h k =
    let share = c.in_ok-share.share in
    let z = small _ c.in_ok-share.ensures in
    let d = simp (to_z-of_z, num_fits z, den-fits z, negated_fits share z) at c.in_ok-difference.ensures in
    let t = c.in_ok-difference.difference in
    c.quotient.ensures
    ∙ machine_sized j _
    ∙ ap (λ x. counted (fitted j (value t /ᵠ x))) (ap value e ∙ value-fraction v)
    ∙ sym (after-share j v a b share (share_is j c.complement-rest.result v b c.complement-rest.ensures.0 e k c.in_ok-share.ensures)
    ∙ fits_then (fitted j (a -ᵠ value share)) (divided j v) t (sym (difference_is j share a z h d)))
