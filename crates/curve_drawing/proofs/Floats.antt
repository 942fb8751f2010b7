-- Whole numbers as 64-bit floats: the cast of one up to 2^53 is exact, and so is its product with 2^-8.
use mathlib.Core.Path.{◌≡◌, refl, sym, ◌∙◌, ap, subst}
use mathlib.Core.Bool.{Bool, true, false}
use Prim.Native.Nat.{ℕ, suc, ◌*◌, ◌<◌, ◌≤◌, ◌^◌}
use native.Mathlib.Nat.{mul_assoc, mul-pos, lt_of_lt_of_le}
use lib.Dec.{lit<, lit≤}
use lib.Ieee.{Float, nan, inf, fin, binary64, up, down, mul, round, of_int, of_bits}
use lib.Ieee.Back.{round_whole}
use lib.Ieee.Exact.{HasValue, round_exact}
use lib.Ieee.Fits.{down_pos}
use lib.Ieee.Scale.{round_same}
use lib.IntN.{ℤ, pos, negsuc, nat_abs}
use lib.Pow.{shl_lt}
use Rattle.curve_drawing.specs.Floats.{Is}

-- ---- the cast

pub cast_is : (z : ℤ) → nat_abs z ≤ 2 ^ 53 → Is (of_int binary64 z) z 1
unfolding of_int
cast_is (pos n) h = round_whole binary64 false n h
cast_is (negsuc n) h = round_whole binary64 true (suc n) h

-- ---- the product with 2^-8

-- the bits of the code's constant
pub scale_is : of_bits binary64 4571153621781053440 ≡ fin false 1 (negsuc 7)
unfolding of_bits
scale_is = refl

-- n / 256 has a float, so rounding leaves it
rounds_to_itself : (s : Bool) (n : ℕ) → n < 2 ^ 53 → HasValue (round binary64 s n 256) s n 256
rounds_to_itself s n h =
    round_exact binary64 s n 256 n 1066 (lit< tt) h (lt_of_lt_of_le (shl_lt 53 1066 h) (lit≤ tt)) (sym (mul_assoc n (2 ^ 1066) 256))

-- the product is that quotient, rounded
product-rounds : (s : Bool) (m n : ℕ) (e : ℤ) → m * up e * 1 ≡ n * down e
    → round binary64 s (m * up e * (1 * 1)) (down e * 256) ≡ round binary64 s n 256
product-rounds s m n e h =
    round_same binary64 s (m * up e * (1 * 1)) (down e * 256) n 256 (mul-pos (down_pos e) (lit< tt)) (lit< tt)
    (ap (λ (x : ℕ). x * 256) h ∙ mul_assoc n (down e) 256)

pub scaled_is : (x : Float) (s : Bool) (n : ℕ) → n < 2 ^ 53 → HasValue x s n 1 → HasValue (mul binary64 x (fin false 1 (negsuc 7))) s n 256
unfolding mul
scaled_is nan s n h v = v
scaled_is (inf t) s n h v = v
scaled_is (fin true m e) s n h v =
    subst (λ (y : Float). HasValue y s n 256)
    (sym (ap (λ (t : Bool). round binary64 t (m * up e * (1 * 1)) (down e * 256)) v.0 ∙ product-rounds s m n e v.1))
    (rounds_to_itself s n h)
scaled_is (fin false m e) s n h v =
    subst (λ (y : Float). HasValue y s n 256)
    (sym (ap (λ (t : Bool). round binary64 t (m * up e * (1 * 1)) (down e * 256)) v.0 ∙ product-rounds s m n e v.1))
    (rounds_to_itself s n h)
