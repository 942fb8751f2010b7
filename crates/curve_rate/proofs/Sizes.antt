-- The inverse of a length and the rate of an offset: all that is worked out on the way keeps within 64 bits, and a share of a number
-- by the rate is the nearest.
use mathlib.Core.Path.{◌≡◌, sym, ap, subst}
use Prim.Native.Nat.{ℕ, ◌+◌, ◌*◌, ◌/◌, ◌<◌, ◌≤◌}
use native.Mathlib.Nat.{div-le_self}
use native.Mathlib.Omega.{arith}
use lib.IntN.{ℤ, pos, negsuc, neg_ℤ, nat_abs, ◌+ℤ◌, ◌-ℤ◌, ◌*ℤ◌}
use lib.Signed.{◌≤ℤ◌}
use Rattle.base_exact.specs.Floor.{floor_div, nearest}
use Rattle.base_exact.proofs.Integer.{≤_in, ≤_out, <_out, *-comm, *_mono, *_pos, bal_+, bal_*, bal_neg, abs_le}
use Rattle.base_exact.proofs.Integer.{abs_mono, abs-add, abs_mul_le, floor_div_le, lt_floor_div, le_floor_div}
use Rattle.base_exact.proofs.Floor.{floor_div_mono, floor_div-exact}
use Rattle.base_exact.proofs.Word.{pos_of}
use Rattle.curve_rate.specs.Rate.{Length, Offset, whole_of, tail_of, lack, Rated, RateAsks, RateIs}
use Rattle.curve_rate.proofs.Quotient.{quotient-nearest, rate_lacks}

-- k times less than d, over d, is at most k
share-abs : (v : ℤ) (n k : ℕ) → 0 < n → pos 0 ≤ℤ v → v ≤ℤ pos n → nat_abs (floor_div (v *ℤ pos k) n) ≤ k
share-abs v n k p above below = abs_mono (floor_div (v *ℤ pos k) n) (pos k)
    (le_floor_div (pos 0) (v *ℤ pos k) n p (≤_in (pos 0 *ℤ pos n) (v *ℤ pos k)
    (omega (arith, ≤_out _ _ (*_pos v (pos k) above (≤_in (pos 0) (pos k) (omega arith)))))))
    (rw (floor_div-exact (pos k) n p) at (floor_div_mono (v *ℤ pos k) (pos k *ℤ pos n) n p
    (rw (*-comm (pos k) (pos n)) (*_mono v (pos n) k below))))

-- what a floored quotient leaves
rest-bounds : (z : ℤ) (n : ℕ) → 0 < n → (pos 0 ≤ℤ (z -ℤ floor_div z n *ℤ pos n)) × ((z -ℤ floor_div z n *ℤ pos n) ≤ℤ pos n)
rest-bounds z n p =
    let q = floor_div z n in
    let parts = bal_+ z (neg_ℤ (q *ℤ pos n)) in
    let turned = bal_neg (q *ℤ pos n) in (
      ≤_in (pos 0) (z -ℤ q *ℤ pos n) (omega (arith, parts, turned, ≤_out _ _ (floor_div_le z n p))),
      ≤_in (z -ℤ q *ℤ pos n) (pos n) (omega (
        arith,
        parts,
        turned,
        <_out _ _ (lt_floor_div z n p),
        bal_* q (pos n),
        bal_+ q (pos 1),
        bal_* (q +ℤ pos 1) (pos n),
        ap (λ t. t * n) (bal_+ q (pos 1)),
      )),
    )

rest-abs : (z : ℤ) (n : ℕ) → 0 < n → nat_abs (z -ℤ floor_div z n *ℤ pos n) ≤ n
rest-abs z n p = abs_mono (z -ℤ floor_div z n *ℤ pos n) (pos n) (rest-bounds z n p).0 (rest-bounds z n p).1

-- no quotient is larger in size than its dividend
floor_div-abs : (z : ℤ) (k : ℕ) → nat_abs (floor_div z k) ≤ nat_abs z
floor_div-abs (pos a) k = omega (arith, div-le_self a k)
floor_div-abs (negsuc a) k = omega (arith, div-le_self a k)

-- a shift by 29 bits
shift-abs : (z : ℤ) (m : ℕ) → nat_abs z ≤ m * 536870912 → nat_abs (floor_div z 536870912) ≤ m
shift-abs (pos a) m h = omega arith
shift-abs (negsuc a) m h = omega arith

-- sizes of an offset
pub offset-abs : (u d : ℤ) → Offset u d → nat_abs u ≤ 512000
offset-abs u d o = abs_le u 512000 (omega (arith, ≤_out _ _ o.below, ≤_out _ _ o.short)) (omega (arith, ≤_out _ _ o.above))

-- what the first number of the inverse leaves of 2^62
abbrev pub rest : ℤ → ℤ
rest d = pos 4611686018427387904 -ℤ whole_of d *ℤ d

pub record InverseSizes (d : ℤ) : Type 0 where
  pub back-abs : nat_abs (whole_of d *ℤ d) ≤ 4611686018427387904
  pub rest-inside : Offset (rest d) d
  pub tail-abs : nat_abs (tail_of d) ≤ 536870912
  pub left-abs : nat_abs ((pos 4611686018427387904 -ℤ whole_of d *ℤ pos (nat_abs d)) *ℤ pos 536870912 -ℤ tail_of d *ℤ pos (nat_abs d)) ≤ nat_abs d

pub inverse_sizes : (d : ℤ) → Length d → InverseSizes d
unfolding whole_of tail_of
inverse_sizes (negsuc n) o = absurd o.long.lt
inverse_sizes (pos n) o = record {
  back-abs = omega (arith, ≤_out _ _ (floor_div_le (pos 4611686018427387904) n p));
  rest-inside = record { above = left.0; below = left.1; long = o.long; short = o.short };
  tail-abs = share-abs (pos 4611686018427387904 -ℤ floor_div (pos 4611686018427387904) n *ℤ pos n) n 536870912 p left.0 left.1;
  left-abs = rest-abs ((pos 4611686018427387904 -ℤ floor_div (pos 4611686018427387904) n *ℤ pos n) *ℤ pos 536870912) n p;
}
  where
    p : 0 < n
    p = omega (arith, <_out (pos 0) (pos n) o.long)

    left : (pos 0 ≤ℤ (pos 4611686018427387904 -ℤ floor_div (pos 4611686018427387904) n *ℤ pos n))
        × ((pos 4611686018427387904 -ℤ floor_div (pos 4611686018427387904) n *ℤ pos n) ≤ℤ pos n)
    left = rest-bounds (pos 4611686018427387904) n p

-- ---- the rate of an offset from that
abbrev pub more : ℤ → ℤ → ℤ
more u tail = floor_div (u *ℤ tail) 536870912

abbrev pub total : ℤ → ℤ → ℤ → ℤ
total u whole tail = u *ℤ whole +ℤ more u tail

abbrev pub high : ℤ → ℤ → ℤ → ℤ
high u whole tail = floor_div (total u whole tail) 536870912

abbrev pub low : ℤ → ℤ → ℤ → ℤ
low u whole tail = total u whole tail -ℤ high u whole tail *ℤ pos 536870912

product-abs : (u d : ℤ) → Offset u d → nat_abs (u *ℤ whole_of d) ≤ 4611686018427387904
unfolding whole_of
product-abs u (negsuc n) o = absurd o.long.lt
product-abs u (pos n) o = omega (
  arith,
  abs_mul_le u (pos (4611686018427387904 / n)) n (4611686018427387904 / n) (abs_mono u (pos n) o.above o.below) (omega arith),
  ≤_out _ _ (floor_div_le (pos 4611686018427387904) n (omega (arith, <_out (pos 0) (pos n) o.long))),
)

pub record RateSizes (u whole tail : ℤ) : Type 0 where
  pub offset-small : nat_abs u ≤ 512000
  pub tail-small : nat_abs tail ≤ 536870912
  pub product_small : nat_abs (u *ℤ whole) ≤ 4611686018427387904
  pub more_small : nat_abs (more u tail) ≤ 512000

pub rate_sizes : (u whole tail : ℤ) → RateAsks u whole tail → RateSizes u whole tail
rate_sizes u whole tail h =
    let d = h.width in
    let s = inverse_sizes d (record { long = h.inside.long; short = h.inside.short }) in
    let few = offset-abs u d h.inside in
    let tail-small : nat_abs tail ≤ 536870912 = rw h.inverted.tail_is s.tail-abs in
    record {
      offset-small = few;
      tail-small = tail-small;
      product_small = rw h.inverted.whole_is (product-abs u d h.inside);
      more_small = shift-abs (u *ℤ tail) 512000 (abs_mul_le u tail 512000 536870912 few tail-small);
    }

module _ (u whole tail : ℤ) (s : RateSizes u whole tail) where
  pub total-abs : nat_abs (total u whole tail) ≤ 4611686018427387904 + 512000
  total-abs = omega (arith, abs-add (u *ℤ whole) (more u tail), s.product_small, s.more_small)

  pub high-abs : nat_abs (high u whole tail) ≤ 8589934592 + 524288
  high-abs = shift-abs (total u whole tail) (8589934592 + 524288) (omega (arith, total-abs))

  pub low_abs : nat_abs (low u whole tail) ≤ 536870912
  low_abs = rest-abs (total u whole tail) 536870912 (omega arith)

-- it is the rate of the offset in each segment of this inverse
pub rate_is : (u whole tail : ℤ) → RateSizes u whole tail → RateIs u whole tail (high u whole tail) (low u whole tail)
rate_is u whole tail s d o inverted = record {
  inside = o;
  high_small = high-abs u whole tail s;
  low_small = low_abs u whole tail s;
  lacks = subst (λ (z : ℤ). nat_abs (lack u (high u whole tail) (low u whole tail) z) ≤ 2 * nat_abs d) (sym (pos_of d o.long).0)
      (rate_lacks u whole tail (more u tail) (high u whole tail) (nat_abs d) s.offset-small
      (rw (inverted.whole_is, inverted.tail_is) (inverse_sizes d (record { long = o.long; short = o.short })).left-abs)
      (rest-abs (u *ℤ tail) 536870912 (omega arith)));
}

-- ---- a share of a number by the rate
module _ (high low u d x : ℤ) (rated : Rated high low u d) (size : nat_abs x ≤ 536870912) where
  pub whole-abs : nat_abs (x *ℤ high) ≤ 536870912 * (8589934592 + 524288)
  whole-abs = abs_mul_le x high 536870912 (8589934592 + 524288) size rated.high_small

  pub tail-abs : nat_abs (floor_div (x *ℤ low) 536870912) ≤ 536870912
  tail-abs = shift-abs (x *ℤ low) 536870912 (abs_mul_le x low 536870912 536870912 size rated.low_small)

  pub share_is : (half : ℕ) → 4294967298 ≤ half → half ≤ 4294975682
      → floor_div (x *ℤ high +ℤ floor_div (x *ℤ low) 536870912 +ℤ pos half) 8589934592 ≡ nearest (u *ℤ x) (nat_abs d)
  share_is half enough close =
      let n = pos_of d rated.inside.long in
      quotient-nearest half enough close u high low x (nat_abs d) n.1
      (abs_le d 512000 (omega (arith, ≤_out _ _ rated.inside.short)) (omega (arith, <_out _ _ rated.inside.long)))
      size (subst (λ (z : ℤ). nat_abs (lack u high low z) ≤ 2 * nat_abs d) n.0 rated.lacks)
