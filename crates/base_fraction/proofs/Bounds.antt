-- No operation on parts below the limit overflows: a product of two parts is below 2^62, and a sum of two such products
-- below 2^63.
use Prim.Native.Nat.{◌*◌, ◌<◌, ◌≤◌}
use native.Mathlib.Omega.{arith}
use lib.IntN.{ℤ, pos, nat_abs, ◌+ℤ◌, ◌-ℤ◌, ◌*ℤ◌}
use mir.Syntax.{w64}
use mir.Val.{SFits}
use Rattle.base_exact.proofs.Word.{sfits_abs, abs-add, abs_sub, abs_mul_le}
use Rattle.base_fraction.specs.Size.{limit}
use Rattle.base_fraction.specs.Machine.{FractionFits}
use Rattle.base_fraction.specs.declared.Fraction.{Fraction}

-- ---- the parts of an operand fit a word

pub num_fits : {f : Fraction} → FractionFits f → SFits w64 f.num
num_fits h = sfits_abs (omega (arith, h.num_small))

pub den-fits : {f : Fraction} → FractionFits f → SFits w64 f.den
den-fits h = sfits_abs (omega (arith, h.den-small))

-- ---- and so do the numbers that the operations make of parts

module _ (x y : ℤ) (hx : nat_abs x < limit) (hy : nat_abs y < limit) where
  mul_bound : nat_abs (x *ℤ y) ≤ 2147483647 * 2147483647
  mul_bound = abs_mul_le x y 2147483647 2147483647 (omega arith) (omega arith)

  pub mul_fits : SFits w64 (x *ℤ y)
  mul_fits = sfits_abs (omega (arith, mul_bound))

  pub sub_fits : SFits w64 (x -ℤ y)
  sub_fits = sfits_abs (omega (arith, abs_sub x y))

  pub mul_add-fits : (u v : ℤ) → nat_abs u < limit → nat_abs v < limit → SFits w64 (x *ℤ y +ℤ u *ℤ v)
  mul_add-fits u v hu hv = sfits_abs (omega (arith, mul_bound, abs_mul_le u v 2147483647 2147483647 (omega arith) (omega arith), abs-add (x *ℤ y) (u *ℤ v)))

  pub zero_sub_mul_fits : SFits w64 (pos 0 -ℤ x *ℤ y)
  zero_sub_mul_fits = sfits_abs (omega (arith, mul_bound, abs_sub (pos 0) (x *ℤ y)))
