-- Laws of signed machine words. A machine number is bits, a contract's is an integer: bounds by the absolute value give
-- `SFits`, flags give the order, and the quotients that code takes give the floored quotient and the nearest number.
-- `to_z-of_z` and `to_z_pos`, which read a word back, are the machine logic's, and the laws of the absolute value Integer's:
-- both are passed on.
use mathlib.Core.Path.{◌≡◌, refl, sym, ap, ap₂, ◌∙◌}
use mathlib.Core.Logic.{◌⊎◌, inl, inr}
use mathlib.Core.Bool.{true, false, not}
use Prim.Native.Nat.{ℕ, zero, suc, ◌+◌, ◌*◌, ◌-◌, ◌/◌, ◌<◌, ◌≤◌, ◌^◌}
use native.Mathlib.Nat.{lt_of_le_of_lt, div-le_self}
use native.Mathlib.Omega.{arith}
use lib.Dec.{T}
use lib.IntN.{ℤ, pos, negsuc, neg_ℤ, nat_abs, ◌+ℤ◌, ◌-ℤ◌, ◌*ℤ◌, +ℤ_idl}
use lib.Signed.{mag, mag_shr, nat_abs-le, quot_z, lt_z, le_z, non_neg, ◌≤ℤ◌, ◌<ℤ◌, lt_z_yes, lt_z_no, le_z_yes, clash_ℤ}
use mir.Syntax.{Width, w32, w64}
use mir.Val.{Fits, SFits, hbits, of_z, to_z}
use mir.ValLaws.{sfits_le, half_full}
use Rattle.base_exact.specs.Rational.{signed}
use Rattle.base_exact.specs.Floor.{floor_div, nearest}
use Rattle.base_exact.proofs.Decide.{true_holds, false_fails, holds_true, refuted_false}
use Rattle.base_exact.proofs.Integer.{bal_+, bal_*, bal_neg, ext, <_out, ≤_or_>}
use Rattle.base_exact.proofs.Floor.{floor_div_shr_z}
pub use mir.ValLaws.{to_z-of_z, to_z_pos}
pub use Rattle.base_exact.proofs.Integer.{abs_neg, abs-add, abs_sub, abs_mul, abs_mul_le}

-- ---- a bound by the absolute value, which omega reads
pub mag_le : (z : ℤ) → mag z ≤ nat_abs z
mag_le (pos n) = omega arith
mag_le (negsuc n) = omega arith

-- a number below half the width's power fits
pub sfits_abs : {w : Width} {z : ℤ} → nat_abs z < 2 ^ hbits w → SFits w z
sfits_abs {w} {z} h = record { sfits = lt_of_le_of_lt (mag_le z) h }

-- and the other way, with the least number at the bound
pub abs_sfits : {w : Width} {z : ℤ} → SFits w z → nat_abs z ≤ 2 ^ hbits w
abs_sfits {w} {z} f = nat_abs-le z f.sfits

-- ---- casts: from unsigned and to unsigned of one width, and from 32 to 64 bits
pub sfits_nat : {w : Width} (n : ℕ) → n < 2 ^ hbits w → SFits w (pos n)
sfits_nat n h = record { sfits = h }

pub fits-unsigned : {w : Width} {z : ℤ} → pos 0 ≤ℤ z → SFits w z → T (non_neg z) × Fits w (nat_abs z)
fits-unsigned {w} {z = pos n} h f = (tt, record { fits = half_full w f.sfits })
fits-unsigned {w} {z = negsuc n} h f = absurd h.le

pub sfits_widen : {z : ℤ} → SFits w32 z → SFits w64 z
sfits_widen f = omega (arith, f.sfits)

-- ---- what a signed test says, `simp to_z-of_z at c.if1.taken` being its flag
pub lt_z_true : (a b : ℤ) → lt_z a b ≡ true → a <ℤ b
lt_z_true a b e = lt_z_yes (true_holds e)

pub lt_z_false : (a b : ℤ) → lt_z a b ≡ false → b ≤ℤ a
lt_z_false a b e = lt_z_no (rw e tt)

pub le_z_true : (a b : ℤ) → le_z a b ≡ true → a ≤ℤ b
le_z_true a b e = le_z_yes (true_holds e)

pub le_z_false : (a b : ℤ) → le_z a b ≡ false → b <ℤ a
le_z_false a b e = go (≤_or_> a b)
  where
    go : (a ≤ℤ b) ⊎ (b <ℤ a) → b <ℤ a
    go (inl h) = absurd (false_fails e h.le)
    go (inr h) = h

-- and the other way, the flag where the order is known
pub lt_test : {a b : ℤ} → a <ℤ b → lt_z a b ≡ true
lt_test {a} {b} h = holds_true (lt_z a b) h.lt

pub not_lt_test : {a b : ℤ} → b ≤ℤ a → lt_z a b ≡ false
not_lt_test {a} {b} h = refuted_false (lt_z a b) (λ t. clash_ℤ (lt_z_yes t) h)

pub le_test : {a b : ℤ} → a ≤ℤ b → le_z a b ≡ true
le_test {a} {b} h = holds_true (le_z a b) h.le

pub not_le_test : {a b : ℤ} → b <ℤ a → le_z a b ≡ false
not_le_test {a} {b} h = refuted_false (le_z a b) (λ t. clash_ℤ h (le_z_yes t))

-- at most is not above
pub le_z_not_lt_z : (a b : ℤ) → le_z b a ≡ not (lt_z a b)
le_z_not_lt_z a b = go (≤_or_> b a)
  where
    go : (b ≤ℤ a) ⊎ (a <ℤ b) → le_z b a ≡ not (lt_z a b)
    go (inl h) = le_test h ∙ ap not (sym (not_lt_test h))
    go (inr h) = not_le_test h ∙ ap not (sym (lt_test h))

-- an equality test of two signed numbers is one of their bits
pub of_z_inj : (w : Width) (a b : ℤ) → SFits w a → SFits w b → of_z w a ≡ of_z w b → a ≡ b
of_z_inj w a b fa fb e = sym (to_z-of_z w a fa) ∙ ap (to_z w) e ∙ to_z-of_z w b fb

-- ---- a number above or below zero, by its constructor
pub is_neg : (z : ℤ) → z <ℤ pos 0 → z ≡ negsuc (mag z)
is_neg (pos n) h = absurd (omega (arith, <_out (pos n) (pos 0) h))
is_neg (negsuc n) h = refl

pub is_pos : (z : ℤ) → pos 0 ≤ℤ z → z ≡ pos (nat_abs z)
is_pos (pos n) h = refl
is_pos (negsuc n) h = absurd h.le

pub pos_of : (d : ℤ) → pos 0 <ℤ d → (d ≡ pos (nat_abs d)) × (0 < nat_abs d)
pos_of (pos n) h = (refl, omega (arith, <_out (pos 0) (pos n) h))
pos_of (negsuc n) h = absurd h.lt

pub abs_neg_mag : (z : ℤ) → z <ℤ pos 0 → nat_abs z ≡ mag z + 1
abs_neg_mag z h = ap nat_abs (is_neg z h) ∙ omega arith

pub abs_of_neg : (z : ℤ) → z <ℤ pos 0 → pos (nat_abs z) ≡ neg_ℤ z
abs_of_neg (pos n) h = absurd (omega (arith, <_out (pos n) (pos 0) h))
abs_of_neg (negsuc n) h = refl

-- 0 - z, as code negates
pub zero_sub : (z : ℤ) → pos 0 -ℤ z ≡ neg_ℤ z
zero_sub z = +ℤ_idl (neg_ℤ z)

-- the sign put back on a magnitude
pub signed_neg : (z : ℤ) (m : ℕ) → z <ℤ pos 0 → signed z m ≡ neg_ℤ (pos m)
signed_neg (pos n) m h = absurd (omega (arith, <_out (pos n) (pos 0) h))
signed_neg (negsuc n) m h = refl

pub signed_pos : (z : ℤ) (m : ℕ) → pos 0 ≤ℤ z → signed z m ≡ pos m
signed_pos (pos n) m h = refl
signed_pos (negsuc n) m h = absurd h.le

-- ---- -1 - z turns one half of the integers over onto the other
pub flip_neg : (n : ℕ) → negsuc 0 -ℤ negsuc n ≡ pos n
flip_neg n = ext _ _ (omega (arith, bal_+ (negsuc 0) (neg_ℤ (negsuc n)), bal_neg (negsuc n)))

pub flip_pos : (n : ℕ) → negsuc 0 -ℤ pos n ≡ negsuc n
flip_pos n = ext _ _ (omega (arith, bal_+ (negsuc 0) (neg_ℤ (pos n)), bal_neg (pos n)))

-- for z below 0, -1 - z is what mag reads
pub flip : (z : ℤ) → z <ℤ pos 0 → negsuc 0 -ℤ z ≡ pos (mag z)
flip z h = ap (λ (y : ℤ). negsuc 0 -ℤ y) (is_neg z h) ∙ flip_neg (mag z)

-- ---- quotients that code takes: at or above zero a / d is the floor, below zero -1 - (-1 - a) / d
pub quot_mag : (a d : ℤ) → pos 0 ≤ℤ a → pos 0 <ℤ d → mag (quot_z a d) ≤ mag a
quot_mag (pos a) (pos d) h k = div-le_self a d
quot_mag (pos a) (negsuc d) h k = absurd k.lt
quot_mag (negsuc a) d h k = absurd h.le

pub quot_floor : (a d : ℤ) → pos 0 ≤ℤ a → pos 0 <ℤ d → quot_z a d ≡ floor_div a (nat_abs d)
quot_floor (pos a) (pos d) h k = refl
quot_floor (pos a) (negsuc d) h k = absurd k.lt
quot_floor (negsuc a) d h k = absurd h.le

pub flip-floor : (a d : ℤ) → a <ℤ pos 0 → pos 0 <ℤ d → negsuc 0 -ℤ quot_z (negsuc 0 -ℤ a) d ≡ floor_div a (nat_abs d)
flip-floor (pos a) d h k = absurd (omega (arith, <_out (pos a) (pos 0) h))
flip-floor (negsuc a) (pos d) h k = ap (λ (z : ℤ). negsuc 0 -ℤ quot_z z (pos d)) (flip_neg a) ∙ flip_pos (a / d)
flip-floor (negsuc a) (negsuc d) h k = absurd k.lt

-- the nearest number is the floored quotient of two sums
pub floor-nearest : (a d : ℤ) → pos 0 <ℤ d → floor_div (a +ℤ a +ℤ d) (nat_abs (d +ℤ d)) ≡ nearest a (nat_abs d)
unfolding nearest
floor-nearest a (pos n) h = ap₂ floor_div (ap (λ (z : ℤ). z +ℤ pos n) twice) (let e : n + n ≡ 2 * n = omega arith in e)
  where
    twice : a +ℤ a ≡ pos 2 *ℤ a
    twice = ext (a +ℤ a) (pos 2 *ℤ a) (omega (arith, bal_+ a a, bal_* (pos 2) a))
floor-nearest a (negsuc n) h = absurd h.lt

-- a quotient by a positive number fits where the dividend does
pub quot_fits : (w : Width) (a : ℤ) (g : ℕ) → 0 < g → SFits w a → SFits w (quot_z a (pos g))
quot_fits w (pos a) g h f = record { sfits = lt_of_le_of_lt (div-le_self a g) f.sfits }
quot_fits w (negsuc a) g h f = record { sfits = omega (arith, mag_neg (suc a / g), div-le_self (suc a) g, f.sfits) }
  where
    mag_neg : (n : ℕ) → mag (neg_ℤ (pos n)) ≡ n - 1
    mag_neg zero = refl
    mag_neg (suc n) = omega arith

-- and so does the floored quotient, by any number
pub floor-fits : {w : Width} {a : ℤ} (d : ℕ) → SFits w a → SFits w (floor_div a d)
floor-fits {w} {a} d f = rw (floor_div_shr_z a d) (sfits_le (mag_shr a d) f)

-- the machine's test of a divisor
pub of_z_pos : (w : Width) (d : ℤ) → pos 0 <ℤ d → 0 < of_z w d
of_z_pos w (pos d) h = omega (arith, <_out (pos 0) (pos d) h)
of_z_pos w (negsuc d) h = absurd h.lt
