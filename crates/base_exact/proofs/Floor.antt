-- Laws of rounding down and to the nearest: the floored quotient of integers, the nearest integer to a quotient and the
-- floor of a rational number, each determined by its two bounds. The bounds of the floored quotient alone are Integer's, and
-- are passed on here.
use mathlib.Core.Path.{◌≡◌, refl, sym, ◌∙◌, ap, subst}
use mathlib.Core.List.{[], ◌∷◌}
use Prim.Native.Nat.{ℕ, zero, suc, ◌+◌, ◌*◌, ◌<◌, ◌≤◌}
use native.Mathlib.Omega.{arith}
use native.Mathlib.Nat.{mul-pos}
use lib.IntN.{ℤ, pos, negsuc, neg_ℤ, nat_abs, ◌+ℤ◌, ◌-ℤ◌, ◌*ℤ◌}
use lib.Signed.{◌≤ℤ◌, ◌<ℤ◌, shr_z, ≤ℤ_refl}
use Rattle.base_exact.specs.Rational.{ℚ, den, int}
use Rattle.base_exact.specs.Order.{◌≤ᵠ◌, ◌<ᵠ◌}
use Rattle.base_exact.specs.Floor.{floor_div, nearest, floor}
use Rattle.base_exact.proofs.Integer as Z
use Rattle.base_exact.proofs.Integer.{ℤ-ring, readsℤ}
use Rattle.base_exact.proofs.Ring.{ring, reads}
use Rattle.base_exact.proofs.Rational.{◌is◌over◌, self, is_int}
use Rattle.base_exact.proofs.Order.{is_le, is_lt, le_is, lt_is, ≤_trans, ≤-<_trans, int_cancel_<, +_mono, +_mono_<}
pub use Rattle.base_exact.proofs.Integer.{floor_div_le, lt_floor_div, le_floor_div, floor_div_lt, floor_div_unique}

-- ---- the floored quotient of integers

-- it is the machine logic's shift, at every divisor
pub floor_div_shr_z : (z : ℤ) (d : ℕ) → floor_div z d ≡ shr_z z d
floor_div_shr_z (pos a) d = refl
floor_div_shr_z (negsuc a) d = refl

pub floor_div_mono : (x y : ℤ) (d : ℕ) → 0 < d → x ≤ℤ y → floor_div x d ≤ℤ floor_div y d
floor_div_mono x y d p h = le_floor_div (floor_div x d) y d p (Z.≤_trans _ x y (floor_div_le x d p) h)

-- a common factor cancels
pub floor_div_mul : (k : ℕ) (a : ℤ) (b : ℕ) → 0 < k → 0 < b → floor_div (pos k *ℤ a) (k * b) ≡ floor_div a b
floor_div_mul zero a b h p = absurd (omega arith)
floor_div_mul (suc k) a b h p = sym (floor_div_unique (floor_div a b) (pos (suc k) *ℤ a) (suc k * b) (mul-pos h p)
    (rw (alg (floor_div a b) (pos (suc k)) (pos b), Z.*-comm (pos (suc k)) a) (Z.*_mono _ a (suc k) (floor_div_le a b p)))
    (rw (alg (floor_div a b +ℤ pos 1) (pos (suc k)) (pos b), Z.*-comm (pos (suc k)) a) (Z.*_mono_< a _ k (lt_floor_div a b p))))
  where
    alg : (f k b : ℤ) → f *ℤ (k *ℤ b) ≡ f *ℤ b *ℤ k
    alg f k b = ring ℤ-ring (f ∷ k ∷ b ∷ []) (search reads) (search reads) refl

-- a multiple of the divisor comes out
pub floor_div-add : (x z : ℤ) (d : ℕ) → 0 < d → floor_div (x +ℤ z *ℤ pos d) d ≡ floor_div x d +ℤ z
floor_div-add x z d p = sym (floor_div_unique (floor_div x d +ℤ z) (x +ℤ z *ℤ pos d) d p
    (rw (alg (floor_div x d) z (pos d)) (Z.+_mono _ x _ _ (floor_div_le x d p) (≤ℤ_refl (z *ℤ pos d))))
    (rw (alg₁ (floor_div x d) z (pos d)) (Z.+_mono_< x _ _ _ (lt_floor_div x d p) (≤ℤ_refl (z *ℤ pos d)))))
  where
    alg : (f z d : ℤ) → (f +ℤ z) *ℤ d ≡ f *ℤ d +ℤ z *ℤ d
    alg f z d = ring ℤ-ring (f ∷ z ∷ d ∷ []) (search reads) (search reads) refl

    alg₁ : (f z d : ℤ) → (f +ℤ z +ℤ pos 1) *ℤ d ≡ (f +ℤ pos 1) *ℤ d +ℤ z *ℤ d
    alg₁ f z d = ring ℤ-ring (f ∷ z ∷ d ∷ []) (search readsℤ) (search readsℤ) refl

pub floor_div-exact : (z : ℤ) (d : ℕ) → 0 < d → floor_div (z *ℤ pos d) d ≡ z
floor_div-exact z d p = sym (floor_div_unique z (z *ℤ pos d) d p (≤ℤ_refl _)
    (Z.<_in _ _ (omega (arith, Z.bal_* z (pos d), Z.bal_* (z +ℤ pos 1) (pos d), ap (λ t. t * d) (Z.bal_+ z (pos 1))))))

-- ---- the nearest integer to a quotient

-- twice the error of q as the quotient z / d, by its parts
error_parts : (q z : ℤ) (d : ℕ) → Z.up (pos 2 *ℤ (z -ℤ q *ℤ pos d)) + 2 * Z.dn z + 2 * Z.up q * d ≡ Z.dn (pos 2 *ℤ (z -ℤ q *ℤ pos d)) + 2 * Z.up z
    + 2 * Z.dn q * d
error_parts q z d = omega (arith, Z.bal_* (pos 2) (z -ℤ q *ℤ pos d), Z.bal_+ z (neg_ℤ (q *ℤ pos d)), Z.bal_neg (q *ℤ pos d), Z.bal_* q (pos d))

-- 2 z + d by its parts
shifted-parts : (z : ℤ) (d : ℕ) → Z.up (pos 2 *ℤ z +ℤ pos d) + 2 * Z.dn z ≡ Z.dn (pos 2 *ℤ z +ℤ pos d) + 2 * Z.up z + d
shifted-parts z d = omega (arith, Z.bal_+ (pos 2 *ℤ z) (pos d), Z.bal_* (pos 2) z)

-- it is at most half the divisor away, and half of it only where a half goes up
pub nearest_error : (z : ℤ) (d : ℕ) → 0 < d → (neg_ℤ (pos d) ≤ℤ (pos 2 *ℤ (z -ℤ nearest z d *ℤ pos d))) × ((pos 2 *ℤ (z -ℤ nearest z d *ℤ pos d)) <ℤ pos d)
unfolding nearest
nearest_error z d p = let q = floor_div (pos 2 *ℤ z +ℤ pos d) (2 * d) in (
  Z.≤_in (neg_ℤ (pos d)) (pos 2 *ℤ (z -ℤ q *ℤ pos d)) (omega (
    arith,
    Z.≤_out _ _ (floor_div_le (pos 2 *ℤ z +ℤ pos d) (2 * d) (omega arith)),
    Z.bal_neg (pos d),
    error_parts q z d,
    shifted-parts z d,
    Z.bal_* q (pos (2 * d)),
  )),
  Z.<_in (pos 2 *ℤ (z -ℤ q *ℤ pos d)) (pos d) (omega (
    arith,
    Z.<_out _ _ (lt_floor_div (pos 2 *ℤ z +ℤ pos d) (2 * d) (omega arith)),
    error_parts q z d,
    shifted-parts z d,
    Z.bal_* (q +ℤ pos 1) (pos (2 * d)),
    ap (λ t. t * d) (Z.bal_+ q (pos 1)),
  )),
)

-- and no other number is
pub nearest_unique : (q z : ℤ) (d : ℕ) → 0 < d → neg_ℤ (pos d) ≤ℤ (pos 2 *ℤ (z -ℤ q *ℤ pos d)) → (pos 2 *ℤ (z -ℤ q *ℤ pos d)) <ℤ pos d → q ≡ nearest z d
unfolding nearest
nearest_unique q z d p h k = floor_div_unique q (pos 2 *ℤ z +ℤ pos d) (2 * d) (omega arith)
    (Z.≤_in (q *ℤ pos (2 * d)) (pos 2 *ℤ z +ℤ pos d) (omega (
      arith,
      Z.≤_out _ _ h,
      Z.bal_neg (pos d),
      error_parts q z d,
      shifted-parts z d,
      Z.bal_* q (pos (2 * d)),
    )))
    (Z.<_in (pos 2 *ℤ z +ℤ pos d) ((q +ℤ pos 1) *ℤ pos (2 * d))
    (omega (
      arith,
      Z.<_out _ _ k,
      error_parts q z d,
      shifted-parts z d,
      Z.bal_* (q +ℤ pos 1) (pos (2 * d)),
      ap (λ t. t * d) (Z.bal_+ q (pos 1)),
    )))

pub nearest_mono : (x y : ℤ) (d : ℕ) → 0 < d → x ≤ℤ y → nearest x d ≤ℤ nearest y d
unfolding nearest
nearest_mono x y d p h = floor_div_mono (pos 2 *ℤ x +ℤ pos d) (pos 2 *ℤ y +ℤ pos d) (2 * d) (omega arith)
    (Z.≤_in (pos 2 *ℤ x +ℤ pos d) (pos 2 *ℤ y +ℤ pos d) (omega (
      arith,
      Z.≤_out x y h,
      Z.bal_+ (pos 2 *ℤ x) (pos d),
      Z.bal_+ (pos 2 *ℤ y) (pos d),
      Z.bal_* (pos 2) x,
      Z.bal_* (pos 2) y,
    )))

-- a multiple of the divisor comes out
pub nearest-add : (x z : ℤ) (d : ℕ) → 0 < d → nearest (x +ℤ z *ℤ pos d) d ≡ nearest x d +ℤ z
unfolding nearest
nearest-add x z d p = ap (λ t. floor_div t (2 * d)) (alg x z (pos d)) ∙ floor_div-add (pos 2 *ℤ x +ℤ pos d) z (2 * d) (omega arith)
  where
    alg : (x z d : ℤ) → pos 2 *ℤ (x +ℤ z *ℤ d) +ℤ d ≡ pos 2 *ℤ x +ℤ d +ℤ z *ℤ (pos 2 *ℤ d)
    alg x z d = ring ℤ-ring (x ∷ z ∷ d ∷ []) (search readsℤ depth 20) (search readsℤ depth 20) refl

pub nearest-exact : (z : ℤ) (d : ℕ) → 0 < d → nearest (z *ℤ pos d) d ≡ z
nearest-exact z d p = sym (nearest_unique z (z *ℤ pos d) d p
    (Z.≤_in (neg_ℤ (pos d)) (pos 2 *ℤ (z *ℤ pos d -ℤ z *ℤ pos d)) (omega (arith, Z.bal_neg (pos d), none)))
    (Z.<_in (pos 2 *ℤ (z *ℤ pos d -ℤ z *ℤ pos d)) (pos d) (omega (arith, none))))
  where
    none : Z.up (pos 2 *ℤ (z *ℤ pos d -ℤ z *ℤ pos d)) ≡ Z.dn (pos 2 *ℤ (z *ℤ pos d -ℤ z *ℤ pos d))
    none = omega (arith, error_parts z (z *ℤ pos d) d, Z.bal_* z (pos d))

-- a number at most k times the divisor in size
pub nearest-abs : (z : ℤ) (d k : ℕ) → 0 < d → nat_abs z ≤ k * d → nat_abs (nearest z d) ≤ k
nearest-abs z d k p h = Z.abs_le_in (nearest z d) k
    (subst (λ t. t ≤ℤ nearest z d) (nearest-exact (neg_ℤ (pos k)) d p)
    (nearest_mono (neg_ℤ (pos k) *ℤ pos d) z d p
    (Z.≤_in (neg_ℤ (pos k) *ℤ pos d) z (omega (
      arith,
      Z.bal_* (neg_ℤ (pos k)) (pos d),
      ap (λ t. t * d) (Z.bal_neg (pos k)).0,
      ap (λ t. t * d) (Z.bal_neg (pos k)).1,
      Z.abs-parts z,
    )))))
    (subst (λ t. nearest z d ≤ℤ t) (nearest-exact (pos k) d p) (nearest_mono z (pos k *ℤ pos d) d p (Z.≤_in _ _ (omega (arith, Z.abs-parts z)))))

-- ---- the floor of a rational number: its two bounds
pub int_le : (z : ℤ) (q : ℚ) → (z *ℤ pos (den q)) ≤ℤ q.num → int z ≤ᵠ q
int_le z q h = is_le (is_int z) (self q) (rw (Z.*_one q.num) h)

pub lt_int : (q : ℚ) (z : ℤ) → q.num <ℤ (z *ℤ pos (den q)) → q <ᵠ int z
lt_int q z h = is_lt (self q) (is_int z) (rw (Z.*_one q.num) h)

pub floor_le : (q : ℚ) → int (floor q) ≤ᵠ q
unfolding floor
floor_le q = int_le (floor_div q.num (den q)) q (floor_div_le q.num (den q) (omega arith))

pub lt_floor : (q : ℚ) → q <ᵠ int (floor q +ℤ pos 1)
unfolding floor
lt_floor q = lt_int q (floor_div q.num (den q) +ℤ pos 1) (lt_floor_div q.num (den q) (omega arith))

-- ---- the bounds determine it
pub le_floor : (z : ℤ) (q : ℚ) → int z ≤ᵠ q → z ≤ℤ floor q
le_floor z q h = Z.<_suc_≤ z (floor q) (int_cancel_< z (floor q +ℤ pos 1) (≤-<_trans h (lt_floor q)))

pub floor_lt : (z : ℤ) (q : ℚ) → q <ᵠ int z → floor q <ℤ z
floor_lt z q h = int_cancel_< (floor q) z (≤-<_trans (floor_le q) h)

pub floor_unique : (z : ℤ) (q : ℚ) → int z ≤ᵠ q → q <ᵠ int (z +ℤ pos 1) → z ≡ floor q
floor_unique z q h k = Z.≤_antisym z (floor q) (le_floor z q h) (Z.<_suc_≤ (floor q) z (floor_lt (z +ℤ pos 1) q k))

pub floor_mono : {p q : ℚ} → p ≤ᵠ q → floor p ≤ℤ floor q
floor_mono {p} {q} h = le_floor (floor p) q (≤_trans (floor_le p) h)

-- the floor of a fraction in any terms is the floored quotient
pub floor_is : {q : ℚ} {a : ℤ} {b : ℕ} → q is a over b → floor q ≡ floor_div a b
floor_is {q} {a} {b} h = floor_div_unique (floor q) a b h.bpos
    (rw (Z.*_one a) at (le_is (is_int (floor q)) h (floor_le q))) (rw (Z.*_one a) at (lt_is h (is_int (floor q +ℤ pos 1)) (lt_floor q)))

pub floor-int : (z : ℤ) → floor (int z) ≡ z
floor-int z = floor_is (is_int z) ∙ ap (λ t. floor_div t 1) (sym (Z.*_one z)) ∙ floor_div-exact z 1 (omega arith)
