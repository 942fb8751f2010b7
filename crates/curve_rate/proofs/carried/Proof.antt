-- `curve_rate::carried` meets its contract: a shift rounds down. Assumes nothing.
use native.Mathlib.Omega.{arith}
use borrow.Author.Rules.{rules}
use mathlib.Core.Path.{refl}
use lib.IntN.{◌*ℤ◌}
use mir.Syntax.{w64}
use mir.Val.{SFits}
use Rattle.base_exact.specs.Floor.{floor_div}
use Rattle.base_exact.proofs.Integer.{abs_mul_le}
use Rattle.base_exact.proofs.Floor.{floor_div_shr_z}
use Rattle.base_exact.proofs.Word.{to_z-of_z, sfits_abs, floor-fits}
use Rattle.curve_rate.proofs.carried.Statement.{statement}
use Rattle.curve_rate.proofs.carried.Tie as tie

product-fits : (c : tie.Start) → SFits w64 (c.args.rise *ℤ c.args.low)
product-fits c =
    sfits_abs (omega (arith, abs_mul_le c.args.rise c.args.low 536870912 536870912 c.requires.rise-small c.requires.low_small))

returns : tie.Need-returns
returns c =
    let f = c.ranges.rise in
    let g = c.ranges.low in
    let h = product-fits c in
    let k : SFits w64 (floor_div (c.args.rise *ℤ c.args.low) 536870912) = floor-fits 536870912 (product-fits c) in
    simp (to_z-of_z, floor_div_shr_z) refl

pub carried_spec : {M : Type 1} → statement M
carried_spec =
    tie.close (tie.spec (λ c. let f = c.ranges.rise in let g = c.ranges.low in simp to_z-of_z (product-fits c)) (λ c. search rules)
    (λ c. search rules) returns)
