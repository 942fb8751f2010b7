-- `curve_rate::whole_of` meets its contract: a quotient of numbers above zero is the floor. Assumes nothing.
use native.Mathlib.Omega.{arith}
use lib.IntN.{pos}
use lib.Signed.{quot_z, ◌≤ℤ◌}
use mir.Syntax.{w64}
use mir.Val.{SFits}
use mir.ValLaws.{to_z-of_z, sfits_le}
use Rattle.base_exact.proofs.Integer.{≤_in}
use Rattle.base_exact.proofs.Word.{sfits_abs, of_z_pos, quot_mag, quot_floor}
use Rattle.curve_rate.specs.Rate.{whole_of}
use Rattle.curve_rate.proofs.whole_of.Statement.{statement}
use Rattle.curve_rate.proofs.whole_of.Tie as tie

unit_fits : SFits w64 (pos 4611686018427387904)
unit_fits = sfits_abs (omega arith)

unit-above : pos 0 ≤ℤ pos 4611686018427387904
unit-above = ≤_in (pos 0) (pos 4611686018427387904) (omega arith)

quotient_fits : (c : tie.Start) → SFits w64 (quot_z (pos 4611686018427387904) c.args.d)
quotient_fits c = sfits_le (quot_mag (pos 4611686018427387904) c.args.d unit-above c.requires.long) unit_fits

returns : tie.Need-returns
unfolding whole_of
returns c = simp (to_z-of_z, c.ranges.d, quotient_fits c) (quot_floor (pos 4611686018427387904) c.args.d unit-above c.requires.long)

pub whole_of_spec : {M : Type 1} → statement M
whole_of_spec = tie.close (tie.spec (λ c. let h = c.ranges.d in (of_z_pos w64 _ c.requires.long, simp to_z-of_z (quotient_fits c))) returns)
