-- The nearest number to x u / d without a division by d: u / d is taken once, as two whole numbers that are some 2^62 u / d
-- together, and then two products and two shifts give each quotient. What the rate lacks is at most two of 2^62, so that a
-- number x of at most 2^29 is off by at most 2^-32; the half that rounds carries 2^12 of 2^33 more, which makes up for it and
-- can't reach the next whole number, as d is less than 2^19. (From 2 to 8,386 would do as well.)
use mathlib.Core.Path.{◌≡◌, refl, ap}
use mathlib.Core.List.{[], ◌∷◌}
use Prim.Native.Nat.{ℕ, ◌*◌, ◌<◌, ◌≤◌}
use native.Mathlib.Omega.{arith}
use lib.IntN.{ℤ, pos, negsuc, neg_ℤ, nat_abs, ◌+ℤ◌, ◌-ℤ◌, ◌*ℤ◌}
use lib.Signed.{◌≤ℤ◌, ◌<ℤ◌}
use Rattle.base_exact.specs.Floor.{floor_div, nearest}
use Rattle.base_exact.proofs.Ring.{ring}
use Rattle.base_exact.proofs.Integer.{up, dn, ℤ-ring, readsℤ, ≤_in, ≤_out, <_in, <_out, bal_+, bal_*, bal_neg, *_mono}
use Rattle.base_exact.proofs.Integer.{abs-parts, abs-add, abs_mul, abs_mul_le}
use Rattle.base_exact.proofs.Floor.{floor_div_le, lt_floor_div, nearest_unique}
use Rattle.curve_rate.specs.Rate.{lack}

-- ---- the two shifts: what they leave of x times both numbers, above 2^62 q
abbrev over : ℤ → ℤ → ℤ → ℤ
over a b q = a *ℤ pos 536870912 +ℤ b -ℤ q *ℤ pos 4611686018427387904

-- a is x times the first number, b x times the second, t and q what the shifts give
over-bounds : (half : ℕ) → 4294967298 ≤ half → half ≤ 4294975682 → (a b t q : ℤ) → (t *ℤ pos 536870912) ≤ℤ b
    → b <ℤ ((t +ℤ pos 1) *ℤ pos 536870912)
    → (q *ℤ pos 8589934592) ≤ℤ (a +ℤ t +ℤ pos half) → (a +ℤ t +ℤ pos half) <ℤ ((q +ℤ pos 1) *ℤ pos 8589934592)
    → (negsuc 2305847511413161983 ≤ℤ over a b q) × (over a b q ≤ℤ pos 2305843008139952127)
over-bounds half enough close a b t q low high least most =
    let scaled = bal_* a (pos 536870912) in
    let added = bal_+ (a *ℤ pos 536870912) b in
    let removed = bal_* q (pos 4611686018427387904) in
    let turned = bal_neg (q *ℤ pos 4611686018427387904) in
    let left = bal_+ (a *ℤ pos 536870912 +ℤ b) (neg_ℤ (q *ℤ pos 4611686018427387904)) in
    let first = bal_+ a t in
    let second = bal_+ (a +ℤ t) (pos half) in (
      ≤_in (negsuc 2305847511413161983) (over a b q) (omega (
        arith,
        scaled,
        added,
        removed,
        turned,
        left,
        first,
        second,
        ≤_out _ _ low,
        ≤_out _ _ least,
        bal_* t (pos 536870912),
        bal_* q (pos 8589934592),
      )),
      ≤_in (over a b q) (pos 2305843008139952127) (omega (
        arith,
        scaled,
        added,
        removed,
        turned,
        left,
        first,
        second,
        <_out _ _ high,
        <_out _ _ most,
        bal_+ t (pos 1),
        bal_* (t +ℤ pos 1) (pos 536870912),
        bal_+ q (pos 1),
        bal_* (q +ℤ pos 1) (pos 8589934592),
      )),
    )

-- ---- the quotient is the nearest number
module _ (half : ℕ) (enough : 4294967298 ≤ half) (close : half ≤ 4294975682) (u h l x : ℤ) (d : ℕ) (p : 0 < d) (short : d ≤ 512000)
    (size : nat_abs x ≤ 536870912) (lacks : nat_abs (lack u h l (pos d)) ≤ 2 * d) where
  abbrev quotient : ℤ
  quotient = floor_div (x *ℤ h +ℤ floor_div (x *ℤ l) 536870912 +ℤ pos half) 8589934592

  abbrev error : ℤ → ℤ
  error q = u *ℤ x -ℤ q *ℤ pos d

  -- 2^62 times the error of q is what the shifts leave, times d, and x times what the rate lacks
  error_is : (q : ℤ) → pos 4611686018427387904 *ℤ error q ≡ over (x *ℤ h) (x *ℤ l) q *ℤ pos d +ℤ x *ℤ lack u h l (pos d)
  error_is q = ring ℤ-ring (u ∷ h ∷ l ∷ x ∷ q ∷ pos d ∷ []) (search readsℤ depth 30) (search readsℤ depth 30) refl

  bounded : (q : ℤ) → (negsuc 2305847511413161983 ≤ℤ over (x *ℤ h) (x *ℤ l) q) → (over (x *ℤ h) (x *ℤ l) q ≤ℤ pos 2305843008139952127)
      → q ≡ nearest (u *ℤ x) d
  bounded q low high =
      let y = over (x *ℤ h) (x *ℤ l) q in
      let z = x *ℤ lack u h l (pos d) in
      let e = error q in
      let lacking = abs_mul_le x (lack u h l (pos d)) 536870912 (2 * d) size lacks in
      let above = ap up (error_is q) in
      let below = ap dn (error_is q) in
      let scaled = bal_* (pos 4611686018427387904) e in
      let parts = bal_+ (y *ℤ pos d) z in
      let twice = bal_* (pos 2) e in
      nearest_unique q (u *ℤ x) d p
      (≤_in (neg_ℤ (pos d)) (pos 2 *ℤ e) (omega (
        arith,
        above,
        below,
        scaled,
        parts,
        twice,
        abs-parts z,
        lacking,
        bal_neg (pos d),
        ≤_out _ _ (*_mono _ _ d low),
        bal_* (negsuc 2305847511413161983) (pos d),
      )))
      (<_in (pos 2 *ℤ e) (pos d) (omega (
        arith,
        above,
        below,
        scaled,
        parts,
        twice,
        abs-parts z,
        lacking,
        ≤_out _ _ (*_mono _ _ d high),
        bal_* (pos 2305843008139952127) (pos d),
      )))

  pub quotient-nearest : quotient ≡ nearest (u *ℤ x) d
  quotient-nearest =
      let t = floor_div (x *ℤ l) 536870912 in
      let sum = x *ℤ h +ℤ floor_div (x *ℤ l) 536870912 +ℤ pos half in
      let b = over-bounds half enough close (x *ℤ h) (x *ℤ l) t quotient (floor_div_le (x *ℤ l) 536870912 (omega arith))
      (lt_floor_div (x *ℤ l) 536870912 (omega arith)) (floor_div_le sum 8589934592 (omega arith)) (lt_floor_div sum 8589934592 (omega arith)) in
      bounded quotient b.0 b.1

-- ---- the rate from the inverse of d: w and p are its two numbers, f what the shift gives of u p
module _ (u w p f h : ℤ) (d : ℕ) where
  -- what the inverse lacks
  abbrev left : ℤ
  left = (pos 4611686018427387904 -ℤ w *ℤ pos d) *ℤ pos 536870912 -ℤ p *ℤ pos d

  abbrev cut : ℤ
  cut = u *ℤ p -ℤ f *ℤ pos 536870912

  abbrev low : ℤ
  low = u *ℤ w +ℤ f -ℤ h *ℤ pos 536870912

  -- 2^29 times what the rate lacks is u times what the inverse lacks, and what the shift cuts off, times d
  lack_is : pos 536870912 *ℤ lack u h low (pos d) ≡ u *ℤ left +ℤ cut *ℤ pos d
  lack_is = ring ℤ-ring (u ∷ w ∷ p ∷ f ∷ h ∷ pos d ∷ []) (search readsℤ depth 40) (search readsℤ depth 40) refl

  pub rate_lacks : nat_abs u ≤ 512000 → nat_abs left ≤ d → nat_abs cut ≤ 536870912 → nat_abs (lack u h low (pos d)) ≤ 2 * d
  rate_lacks inside inverse shifted = omega (
    arith,
    abs_mul (pos 536870912) (lack u h low (pos d)),
    ap nat_abs lack_is,
    abs-add (u *ℤ left) (cut *ℤ pos d),
    abs_mul_le u left 512000 d inside inverse,
    abs_mul_le cut (pos d) 536870912 d shifted (omega arith),
  )
