-- Twice the dividend and the divisor, over twice the divisor, rounded down: with sizes below 2^61 no sum leaves 64 bits.
use native.Mathlib.Omega.{arith}
use mathlib.Core.Path.{◌∙◌}
use Prim.Native.Nat.{◌^◌, ◌<◌}
use lib.IntN.{ℤ, pos, nat_abs, ◌+ℤ◌}
use lib.Signed.{◌<ℤ◌}
use mir.Syntax.{w64}
use mir.Val.{SFits}
use mir.ValLaws.{to_z-of_z}
use Rattle.base_exact.proofs.Integer.{+_mono_<, <-≤}
use Rattle.base_exact.proofs.Word.{sfits_abs, abs-add, floor-nearest}
use Rattle.base_division.proofs.round_div.Statement.{statement}
use Rattle.base_division.proofs.round_div.Tie as tie

module _ (c : tie.Start) where
  abbrev a : ℤ
  a = c.args.a

  abbrev d : ℤ
  d = c.args.d

  dividend_small : nat_abs a < 2 ^ 61
  dividend_small = c.requires.0

  positive : pos 0 <ℤ d
  positive = c.requires.1.0

  divisor_small : nat_abs d < 2 ^ 61
  divisor_small = c.requires.1.1

  double_fits : SFits w64 (a +ℤ a)
  double_fits = sfits_abs (omega (arith, dividend_small, abs-add a a))

  dividend_fits : SFits w64 (a +ℤ a +ℤ d)
  dividend_fits = sfits_abs (omega (arith, dividend_small, divisor_small, abs-add a a, abs-add (a +ℤ a) d))

  divisor_fits : SFits w64 (d +ℤ d)
  divisor_fits = sfits_abs (omega (arith, divisor_small, abs-add d d))

  divisor_positive : pos 0 <ℤ (d +ℤ d)
  divisor_positive = +_mono_< (pos 0) d (pos 0) d positive (<-≤ (pos 0) d positive)

returns : tie.Need-returns
returns c =
    let s = c.before in
    let f = s.ranges.a in
    let g = s.ranges.d in
    let h = double_fits s in
    let k = dividend_fits s in
    let l = divisor_fits s in
    let r : SFits w64 c.floor_div.result = record { sfits = c.floor_div.type_inv } in
    simp to_z-of_z ((simp to_z-of_z at c.floor_div.ensures) ∙ floor-nearest s.args.a s.args.d (positive s))

pub round_div_spec : {M : Type 1} → statement M
round_div_spec =
    tie.close (tie.spec (λ c. let f = c.ranges.a in simp to_z-of_z (double_fits c))
    (λ c. let f = c.ranges.a in let g = c.ranges.d in let h = double_fits c in simp to_z-of_z (dividend_fits c))
    (λ c. let g = c.ranges.d in simp to_z-of_z (divisor_fits c))
    (λ c κs. let g = c.ranges.d in let k = divisor_fits c in simp to_z-of_z (divisor_positive c)) returns)
