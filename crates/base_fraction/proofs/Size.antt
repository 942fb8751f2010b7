-- Laws of the size test and of counting: the test by its two parts and in any terms, and which fractions always fit.
use mathlib.Core.Path.{◌≡◌, refl, ap}
use mathlib.Core.Bool.{Bool, true, false, ◌&&◌, cond}
use Prim.Native.Nat.{ℕ, ◌<◌, ◌≤◌}
use native.Mathlib.Omega.{arith}
use borrow.Author.Tests.{ltb-true, lt-ltb, le-ltb}
use lib.Dec.{ltb}
use lib.IntN.{ℤ, pos, nat_abs, neg_ℤ, ◌-ℤ◌, ◌*ℤ◌}
use lib.Signed.{◌≤ℤ◌}
use Rattle.base_exact.specs.Rational.{ℚ, den, int}
use Rattle.base_exact.specs.Order.{◌≤ᵠ◌}
use Rattle.base_exact.proofs.Integer.{up, dn, *_one, ≤_out, bal_+, bal_neg, abs_le}
use Rattle.base_exact.proofs.Rational.{◌is◌over◌, self, is_int, is_least}
use Rattle.base_exact.proofs.Decide.{and-true, cond_true, cond_false, clash}
use Rattle.base_exact.proofs.Order.{le_is}
use Rattle.base_fraction.specs.Size.{limit, fits, counted, too_large, count}

-- ---- the test, by its two parts

pub small-fits : (q : ℚ) → nat_abs q.num < limit → den q < limit → fits q ≡ true
unfolding fits
small-fits q h k = simp (lt-ltb _ _ h, lt-ltb _ _ k)

pub num_large : (q : ℚ) → limit ≤ nat_abs q.num → fits q ≡ false
unfolding fits
num_large q h = simp (le-ltb _ _ h)

pub den_large : (q : ℚ) → limit ≤ den q → fits q ≡ false
unfolding fits
den_large q h = go (ltb (nat_abs q.num) limit)
  where
    go : (b : Bool) → (b && ltb (den q) limit) ≡ false
    go true = simp (le-ltb _ _ h)
    go false = refl

pub fits_num : (q : ℚ) → fits q ≡ true → nat_abs q.num < limit
unfolding fits
fits_num q e = ltb-true _ _ (and-true (ltb (nat_abs q.num) limit) (ltb (den q) limit) e).0

pub fits-den : (q : ℚ) → fits q ≡ true → den q < limit
unfolding fits
fits-den q e = ltb-true _ _ (and-true (ltb (nat_abs q.num) limit) (ltb (den q) limit) e).1

-- ---- fractions that fit

-- any terms that are small enough will do: the lowest are no larger
pub is_fits : {q : ℚ} {a : ℤ} {b : ℕ} → q is a over b → nat_abs a < limit → b < limit → fits q ≡ true
is_fits {q} h k l = let m = is_least h in small-fits q (omega arith) (omega arith)

pub int-fits : (z : ℤ) → nat_abs z < limit → fits (int z) ≡ true
int-fits z h = is_fits (is_int z) h (omega arith)

-- 1 - w over w's own denominator, for w from 0 to 1: the numerator is no larger than the denominator
pub complement_le : (w : ℚ) → int (pos 0) ≤ᵠ w → w ≤ᵠ int (pos 1) → nat_abs (pos (den w) -ℤ w.num) ≤ den w
complement_le w l u = size w.num (den w) (le_is (is_int (pos 0)) (self w) l) (le_is (self w) (is_int (pos 1)) u)
  where
    size : (n : ℤ) (d : ℕ) → (pos 0 *ℤ pos d) ≤ℤ (n *ℤ pos 1) → (n *ℤ pos 1) ≤ℤ (pos 1 *ℤ pos d) → nat_abs (pos d -ℤ n) ≤ d
    size n d h k =
        let a = ≤_out _ _ h in
        let b = ≤_out _ _ k in
        let s = bal_+ (pos d) (neg_ℤ n) in
        let t = bal_neg n in
        let x = *_one n in
        abs_le (pos d -ℤ n) d (omega (arith, ap up x, ap dn x)) (omega (arith, ap up x, ap dn x))

-- ---- counting

pub count_fits : (q : ℚ) → fits q ≡ true → count q ≡ counted q
unfolding count
count_fits q e = cond_true (counted q) too_large e

pub count_large : (q : ℚ) → fits q ≡ false → count q ≡ too_large
unfolding count
count_large q e = cond_false (counted q) too_large e

-- a fraction that went on is the one that was counted, and it fits
pub counted_is : (q p : ℚ) → count q ≡ counted p → (p ≡ q) × (fits q ≡ true)
unfolding count
counted_is q p e = go (fits q) refl e
  where
    go : (b : Bool) → fits q ≡ b → cond b (counted q) too_large ≡ counted p → (p ≡ q) × (fits q ≡ true)
    go true f e = (cc, f)
    go false f e = clash cc

pub too_large_is : (q : ℚ) → count q ≡ too_large → fits q ≡ false
unfolding count
too_large_is q e = go (fits q) refl e
  where
    go : (b : Bool) → fits q ≡ b → cond b (counted q) too_large ≡ too_large → fits q ≡ false
    go true f e = clash cc
    go false f e = f
