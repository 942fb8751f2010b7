-- `millionths` meets its contract: 125 times 32 bits is far below the limit of the rounded quotient.
use native.Mathlib.Omega.{arith}
use Prim.Native.Nat.{◌^◌, ◌<◌}
use lib.IntN.{ℤ, pos, nat_abs, ◌*ℤ◌}
use mir.Syntax.{w32, w64}
use mir.Val.{SFits}
use Rattle.base_exact.proofs.Word.{to_z-of_z, sfits_widen, sfits_abs, abs_sfits, abs_mul}
use Rattle.spec_table.specs.Decimals as Decimals
use Rattle.table_numbers.proofs.millionths.Statement.{statement}
use Rattle.table_numbers.proofs.millionths.Tie as tie

module _ (c : tie.Start) where
  abbrev value : ℤ
  value = c.args.value

  narrow : SFits w32 value
  narrow = c.ranges.value

  wide : SFits w64 value
  wide = sfits_widen narrow

  small : nat_abs (value *ℤ pos 125) < 2 ^ 61
  small = omega (arith, abs_mul value (pos 125), abs_sfits narrow)

  product : SFits w64 (value *ℤ pos 125)
  product = sfits_abs (omega (arith, small))

cast-round-div : tie.Need-overflow_cast-value
cast-round-div c = let f = narrow c in simp to_z-of_z (wide c)

mul-round-div : tie.Need-overflow_mul-value
mul-round-div c = let f = narrow c in let g = wide c in simp to_z-of_z (product c)

round-div-requires : tie.Need-round_div-requires
round-div-requires c κs = let f = narrow c in let g = wide c in let h = product c in simp to_z-of_z (small c, (record { lt = tt }, omega arith))

returns : tie.Need-returns
unfolding Decimals.millionths
returns c =
    let f = narrow c.before in
    let g = wide c.before in
    let h = product c.before in
    let r : SFits w64 c.round_div.result = record { sfits = c.round_div.type_inv } in
    simp to_z-of_z (simp to_z-of_z at c.round_div.ensures)

pub millionths_spec : {M : Type 1} → statement M
millionths_spec = tie.close (tie.spec cast-round-div mul-round-div round-div-requires returns)
