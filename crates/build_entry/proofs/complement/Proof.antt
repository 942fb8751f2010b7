-- A numerator from 0 to the denominator: the difference of the two is no larger than the denominator. Assumes nothing.
use mathlib.Core.Path.{sym, subst}
use Prim.Native.Nat.{◌<◌}
use native.Mathlib.Omega.{arith}
use lib.IntN.{nat_abs, ◌-ℤ◌}
use mir.Syntax.{w64}
use mir.Val.{SFits}
use mir.ValLaws.{to_z-of_z}
use Rattle.base_exact.proofs.Order.{leᵠ_true}
use Rattle.base_fraction.specs.Size.{limit}
use Rattle.base_fraction.specs.Machine.{fraction, value, FractionFits}
use Rattle.base_fraction.specs.declared.Fraction.{Fraction}
use Rattle.base_fraction.proofs.Size.{fits-den, complement_le}
use Rattle.base_fraction.proofs.Value.{ratio_one_minus}
use Rattle.base_fraction.proofs.Answer.{fits-sized}
use Rattle.base_fraction.proofs.Bounds.{num_fits, den-fits, sub_fits}
use Rattle.build_entry.specs.Factor.{UnitFactor}
use Rattle.build_entry.proofs.complement.Statement.{statement}
use Rattle.build_entry.proofs.complement.Tie as tie

fitted : (w : Fraction) → UnitFactor w → FractionFits w
fitted w h = subst FractionFits (sym h.is) (fits-sized h.of h.fit)

small : (w : Fraction) → UnitFactor w → nat_abs (w.den -ℤ w.num) < limit
unfolding fraction
small w h = subst (λ (f : Fraction). nat_abs (f.den -ℤ f.num) < limit) (sym h.is)
    (omega (arith, fits-den h.of h.fit, complement_le h.of (leᵠ_true _ _ h.low) (leᵠ_true _ _ h.high)))

difference-fits : (s : tie.Start) → SFits w64 (s.args.w.den -ℤ s.args.w.num)
difference-fits s = let z = fitted s.args.w s.requires in sub_fits s.args.w.den s.args.w.num z.den-small z.num_small

sub-t2 : tie.Need-overflow_sub-result
sub-t2 c = let s = c.before.before in let z = fitted s.args.w s.requires in simp (to_z-of_z, num_fits z, den-fits z) (difference-fits s)

returns : tie.Need-returns
unfolding value
returns c =
    let s = c.before.before.before in
    let z = fitted s.args.w s.requires in
    simp (to_z-of_z, num_fits z, den-fits z, difference-fits s)
    (ratio_one_minus s.args.w.num s.args.w.den z.den_pos, record { num_small = small s.args.w s.requires; den_pos = z.den_pos; den-small = z.den-small })

pub complement_spec : {M : Type 1} → statement M
complement_spec = tie.close (tie.spec sub-t2 returns)
