-- How far one whole number lies past another.
use mathlib.Core.Path.{◌≡◌}
use Prim.Native.Nat.{◌+◌}
use native.Mathlib.Omega.{arith}
use lib.IntN.{ℤ, pos, negsuc, ◌+ℤ◌, ◌-ℤ◌, neg_ℤ, nat_abs}
use lib.Signed.{◌≤ℤ◌}
use Rattle.base_exact.proofs.Integer as Z

-- the distance of y past x, where it is not before it
pub distance : (x y : ℤ) → x ≤ℤ y → Z.up y + Z.dn x ≡ Z.dn y + Z.up x + nat_abs (y -ℤ x)
distance x y h = omega (arith, Z.bal_+ y (neg_ℤ x), Z.bal_neg x, parts_of (y -ℤ x) (Z.non_neg_le (y -ℤ x) (Z.le_sub x y h)))
  where
    parts_of : (z : ℤ) → pos 0 ≤ℤ z → (Z.up z ≡ nat_abs z) × (Z.dn z ≡ 0)
    parts_of (pos n) k = omega arith
    parts_of (negsuc n) k = absurd k.le

-- x and the distance of y past it is y
pub past : (x y : ℤ) → x ≤ℤ y → x +ℤ pos (nat_abs (y -ℤ x)) ≡ y
past x y h = Z.ext _ y (omega (arith, distance x y h, Z.bal_+ x (pos (nat_abs (y -ℤ x)))))
