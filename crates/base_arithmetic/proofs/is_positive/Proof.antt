-- The test of the parts is the test of the fraction.
use mir.Syntax.{w64}
use mir.Val.{SFits}
use mir.ValLaws.{to_z-of_z}
use Rattle.base_fraction.specs.Machine.{value}
use Rattle.base_arithmetic.proofs.Tests.{ratio_positive}
use Rattle.base_arithmetic.proofs.is_positive.Statement.{statement}
use Rattle.base_arithmetic.proofs.is_positive.Tie as tie

returns : tie.Need-returns
unfolding value
returns c =
    let s = c.before.before in
    let f : SFits w64 s.args.a.num = record { sfits = c.struct_told-1.given.0.1 } in
    simp to_z-of_z (ratio_positive s.args.a.num s.args.a.den s.requires)

pub is_positive_spec : {M : Type 1} → statement M
is_positive_spec = tie.close (tie.spec returns)
