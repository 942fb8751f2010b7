-- The column of conditions of a join and an order: it is, up to a positive factor, the difference of two finite
-- differences of the ordinates on the two sides of the join; it vanishes on equal ordinates.
use mathlib.Core.Path.{◌≡◌, refl, sym, ◌∙◌, ap, ap₂, subst}
use mathlib.Core.List.{List, [], ◌∷◌, ◌++◌, map}
use Prim.Native.Nat.{ℕ, zero, suc, ◌+◌, ◌-◌, ◌*◌, ◌/◌, ◌<◌, ◌≤◌}
use native.Mathlib.Omega.{arith}
use native.Mathlib.Nat.{mul-div_cancel_left, mul_assoc, pow-zero, zero-mul as ℕ-zero-mul}
use lib.IntN.{ℤ, pos, negsuc, neg_ℤ, nat_abs, ◌*ℤ◌}
use Rattle.base_exact.specs.Gcd.{gcd}
use Rattle.base_exact.specs.Rational.{ℚ, ◌+ᵠ◌, ◌*ᵠ◌, -ᵠ◌, ◌-ᵠ◌, int, signed}
use Rattle.base_exact.specs.Sum.{sum}
use Rattle.base_exact.specs.Tabulate.{tab}
use Rattle.base_exact.proofs.Gcd.{gcd_div, gcd_pos, gcd_comm}
use Rattle.base_exact.proofs.Integer.{neg_*, *-comm, abs_mul, abs-zero}
use Rattle.base_exact.proofs.Ring.{ring, reads}
use Rattle.base_exact.proofs.Rational.{ℚ-ring, readsℚ, int_mul, int_neg, int_nonzero, mul_cancel, zero-mul, mul-zero, mul_comm}
use Rattle.base_exact.proofs.Sum.{sum_ext, sum_mul, sum-front}
use Rattle.spec_spline.specs.Space.{Space, degree, width, first_column}
use Rattle.spec_spline.specs.Conditions.{Entry, falling, binomial, alternating, scale, left_entry, right_entry, undivided, common_divisor, divided, conditions}
use Rattle.spec_spline.proofs.Conditions.{scale_pos, alternating-abs}
use Rattle.theorems_weights.proofs.Functional.{applied}
use Rattle.theorems_weights.proofs.Difference.{signed_binomial, difference, difference-constant}

-- ---- the functional of lists of entries

applied_append : (xs ys : List Entry) (z : ℕ → ℚ) → applied (xs ++ ys) z ≡ applied xs z +ᵠ applied ys z
unfolding applied
applied_append [] ys z = ring ℚ-ring (applied ys z ∷ []) (search readsℚ) (search readsℚ) refl
applied_append (e ∷ xs) ys z =
    ap (λ t. z e.column *ᵠ int e.condition +ᵠ t) (applied_append xs ys z)
    ∙ ring ℚ-ring (z e.column *ᵠ int e.condition ∷ applied xs z ∷ applied ys z ∷ []) (search reads) (search reads) refl

applied-tab : (n : ℕ) (f : ℕ → Entry) (z : ℕ → ℚ) → applied (tab n f) z ≡ sum n (λ t. z (f t).column *ᵠ int (f t).condition)
unfolding applied tab sum
applied-tab zero f z = refl
applied-tab (suc n) f z = ap (λ t. z (f 0).column *ᵠ int (f 0).condition +ᵠ t) (applied-tab n (λ t. f (suc t)) z) ∙ sym (sum-front n (λ t. z (f t).column *ᵠ int (f t).condition))

-- ---- the entries before the division

-- F(p, k) b^k and F(q, k) a^k.
unfoldable pub left_scale : Space → ℕ → ℕ → ℕ
left_scale s j k = scale (degree s j) k (width s (suc j))

unfoldable pub right_scale : Space → ℕ → ℕ → ℕ
right_scale s j k = scale (degree s (suc j)) k (width s j)

scaled-entry : (a k t : ℕ) (v : ℚ) → v *ᵠ int (pos (a * binomial k t) *ℤ alternating (k - t)) ≡ int (pos a) *ᵠ (signed_binomial k t *ᵠ v)
unfolding signed_binomial
scaled-entry a k t v = ap (λ u. v *ᵠ u) (int_mul (pos (a * binomial k t)) (alternating (k - t)) ∙ ap (λ u. u *ᵠ int (alternating (k - t))) (int_mul (pos a) (pos (binomial k t))))
    ∙ ring ℚ-ring (v ∷ int (pos a) ∷ int (pos (binomial k t)) ∷ int (alternating (k - t)) ∷ []) (search readsℚ depth 20) (search readsℚ depth 20) refl

left-applied : (s : Space) (j k : ℕ) (z : ℕ → ℚ) → applied (tab (suc k) (left_entry s j k)) z ≡ int (pos (left_scale s j k)) *ᵠ difference k (λ t. z (first_column s j + (degree s j - k + t)))
unfolding difference left_scale
left-applied s j k z = applied-tab (suc k) (left_entry s j k) z ∙ sum_ext (suc k) (λ t h. scaled-entry (scale (degree s j) k (width s (suc j))) k t (z (first_column s j + (degree s j - k + t))))
    ∙ sum_mul (suc k) (int (pos (scale (degree s j) k (width s (suc j))))) (λ t. signed_binomial k t *ᵠ z (first_column s j + (degree s j - k + t)))

right-applied : (s : Space) (j k : ℕ) (z : ℕ → ℚ) → applied (tab (suc k) (right_entry s j k)) z ≡ -ᵠ int (pos (right_scale s j k)) *ᵠ difference k (λ t. z (first_column s (suc j) + t))
unfolding difference right_scale
right-applied s j k z = applied-tab (suc k) (right_entry s j k) z
    ∙ sum_ext (suc k) (λ t h. ap (λ u. z (first_column s (suc j) + t) *ᵠ u) (int_neg _) ∙ out (z (first_column s (suc j) + t)) (int (pos (b * binomial k t) *ℤ alternating (k - t)))
    ∙ ap (λ u. int (negsuc 0) *ᵠ u) (scaled-entry b k t (z (first_column s (suc j) + t))) ∙ assoc (signed_binomial k t *ᵠ z (first_column s (suc j) + t)))
    ∙ sum_mul (suc k) (-ᵠ int (pos b)) (λ t. signed_binomial k t *ᵠ z (first_column s (suc j) + t))
  where
    b : ℕ
    b = scale (degree s (suc j)) k (width s j)

    out : (v u : ℚ) → v *ᵠ (-ᵠ u) ≡ int (negsuc 0) *ᵠ (v *ᵠ u)
    out v u = ring ℚ-ring (v ∷ u ∷ []) (search readsℚ) (search readsℚ) refl

    assoc : (u : ℚ) → int (negsuc 0) *ᵠ (int (pos b) *ᵠ u) ≡ -ᵠ int (pos b) *ᵠ u
    assoc u = ring ℚ-ring (int (pos b) ∷ u ∷ []) (search readsℚ) (search readsℚ) refl

-- a negative condition as a difference
pub neg_out : (a b c : ℚ) → a +ᵠ -ᵠ b *ᵠ c ≡ a -ᵠ b *ᵠ c
neg_out a b c = ring ℚ-ring (a ∷ b ∷ c ∷ []) (search readsℚ) (search readsℚ) refl

applied-undivided : (s : Space) (j k : ℕ) (z : ℕ → ℚ) → applied (undivided s j k) z
    ≡ int (pos (left_scale s j k)) *ᵠ difference k (λ t. z (first_column s j + (degree s j - k + t))) -ᵠ int (pos (right_scale s j k)) *ᵠ difference k (λ t. z (first_column s (suc j) + t))
unfolding undivided
applied-undivided s j k z = applied_append (tab (suc k) (left_entry s j k)) (tab (suc k) (right_entry s j k)) z ∙ ap₂ ◌+ᵠ◌ (left-applied s j k z) (right-applied s j k z) ∙ neg_out _ _ _

-- ---- the division by the greatest common divisor

-- g divides every condition
data Divides (g : ℕ) : List Entry → Type 0 where
  no-entry : Divides g []
  one_entry : {e : Entry} {es : List Entry} (m : ℕ) → nat_abs e.condition ≡ g * m → Divides g es → Divides g (e ∷ es)

divides_less : (g r : ℕ) {es : List Entry} → Divides (g * r) es → Divides g es
divides_less g r no-entry = no-entry
divides_less g r (one_entry m e d) = one_entry (r * m) (e ∙ mul_assoc g r m) (divides_less g r d)

common_divides : (es : List Entry) → Divides (common_divisor es) es
unfolding common_divisor
common_divides [] = no-entry
common_divides (e ∷ es) = let d = gcd_div (nat_abs e.condition) (common_divisor es) in
    one_entry d.left d.left_is (divides_less (gcd (nat_abs e.condition) (common_divisor es)) d.right (subst (λ g. Divides g es) d.right_is (common_divides es)))

signed-times : (z : ℤ) (g m : ℕ) → nat_abs z ≡ g * m → pos g *ℤ signed z m ≡ z
signed-times (pos a) g m e = ap pos (sym e)
signed-times (negsuc a) g m e = *-comm (pos g) (neg_ℤ (pos m)) ∙ neg_* (pos m) (pos g) ∙ ap (λ n. neg_ℤ (pos n)) (let h : m * g ≡ suc a = omega (arith, e) in h)

-- the divided condition times g
condition_times : (z : ℤ) (g m : ℕ) → nat_abs z ≡ g * m → int (pos g) *ᵠ int (signed z (nat_abs z / g)) ≡ int z
condition_times z zero m e = zero-mul _ ∙ ap int (sym (abs-zero z (e ∙ ℕ-zero-mul m)))
condition_times z (suc g) m e = ap (λ n. int (pos (suc g)) *ᵠ int (signed z n)) (ap (λ n. n / suc g) e ∙ mul-div_cancel_left m {n = suc g} (omega arith))
    ∙ sym (int_mul (pos (suc g)) (signed z m)) ∙ ap int (signed-times z (suc g) m e)

applied-divided : (g : ℕ) {es : List Entry} (z : ℕ → ℚ) → Divides g es → int (pos g) *ᵠ applied (map (divided g) es) z ≡ applied es z
unfolding applied
applied-divided g z no-entry = mul-zero _
applied-divided g z (one_entry {e = e} {es = es} m h d) =
    distribute (int (pos g)) (z e.column) (int (signed e.condition (nat_abs e.condition / g))) (applied (map (divided g) es) z)
    ∙ ap₂ (λ a b. z e.column *ᵠ a +ᵠ b) (condition_times e.condition g m h) (applied-divided g z d)
  where
    distribute : (a b c d : ℚ) → a *ᵠ (b *ᵠ c +ᵠ d) ≡ b *ᵠ (a *ᵠ c) +ᵠ a *ᵠ d
    distribute a b c d = ring ℚ-ring (a ∷ b ∷ c ∷ d ∷ []) (search reads depth 20) (search reads depth 20) refl

-- The common divisor of the entries of a join and an order.
pub divisor : Space → ℕ → ℕ → ℕ
divisor s j k = common_divisor (undivided s j k)

-- the conditions times their common divisor
pub applied-conditions : (s : Space) (j k : ℕ) (z : ℕ → ℚ) → int (pos (divisor s j k)) *ᵠ applied (conditions s j k) z
    ≡ int (pos (left_scale s j k)) *ᵠ difference k (λ t. z (first_column s j + (degree s j - k + t))) -ᵠ int (pos (right_scale s j k)) *ᵠ difference k (λ t. z (first_column s (suc j) + t))
unfolding conditions divisor
applied-conditions s j k z = applied-divided (common_divisor (undivided s j k)) z (common_divides (undivided s j k)) ∙ applied-undivided s j k z

-- ---- positive conditions

common_pos : (e : Entry) (es : List Entry) → 0 < nat_abs e.condition → 0 < common_divisor (e ∷ es)
unfolding common_divisor
common_pos e es h = rw (gcd_comm (nat_abs e.condition) (common_divisor es)) (gcd_pos (common_divisor es) (nat_abs e.condition) h)

first_entry : (s : Space) (j k : ℕ) → nat_abs (left_entry s j k 0).condition ≡ left_scale s j k
unfolding left_scale binomial
first_entry s j k = abs_mul (pos (left_scale s j k * 1)) (alternating (k - 0)) ∙ ap (λ n. left_scale s j k * 1 * n) (alternating-abs (k - 0)) ∙ omega arith

pub divisor_pos : (s : Space) (j k : ℕ) → k ≤ degree s j → 0 < width s (suc j) → 0 < divisor s j k
unfolding divisor undivided tab left_scale
divisor_pos s j k h l = common_pos (left_entry s j k 0) _ (rw (first_entry s j k) (scale_pos (degree s j) k (width s (suc j)) h l))

-- ---- equal ordinates

scales_equal : (s : Space) (j : ℕ) → left_scale s j 0 ≡ right_scale s j 0
unfolding left_scale right_scale falling
scales_equal s j = ap (λ n. 1 * n) (pow-zero (width s (suc j)) ∙ sym (pow-zero (width s j)))

pub conditions-constant : (s : Space) (j k : ℕ) → k ≤ degree s j → 0 < width s (suc j) → applied (conditions s j k) (λ c. int (pos 1)) ≡ int (pos 0)
conditions-constant s j k h l = cancel (divisor s j k) (divisor_pos s j k h l) (applied-conditions s j k (λ c. int (pos 1)) ∙ balanced k)
  where
    cancel : (g : ℕ) {v : ℚ} → 0 < g → int (pos g) *ᵠ v ≡ int (pos 0) → v ≡ int (pos 0)
    cancel zero p e = absurd (omega arith)
    cancel (suc g) {v} p e = mul_cancel (int_nonzero g) (mul_comm v (int (pos (suc g))) ∙ e ∙ sym (zero-mul (int (pos (suc g)))))

    balanced : (k : ℕ) → int (pos (left_scale s j k)) *ᵠ difference k (λ t. int (pos 1)) -ᵠ int (pos (right_scale s j k)) *ᵠ difference k (λ t. int (pos 1)) ≡ int (pos 0)
    balanced zero = ap (λ n. int (pos n) *ᵠ difference 0 (λ t. int (pos 1)) -ᵠ int (pos (right_scale s j 0)) *ᵠ difference 0 (λ t. int (pos 1))) (scales_equal s j)
        ∙ ring ℚ-ring (int (pos (right_scale s j 0)) ∷ difference 0 (λ t. int (pos 1)) ∷ []) (search readsℚ depth 20) (search readsℚ depth 20) refl
    balanced (suc k) = ap₂ (λ a b. int (pos (left_scale s j (suc k))) *ᵠ a -ᵠ int (pos (right_scale s j (suc k))) *ᵠ b) (difference-constant k (int (pos 1))) (difference-constant k (int (pos 1)))
        ∙ ring ℚ-ring (int (pos (left_scale s j (suc k))) ∷ int (pos (right_scale s j (suc k))) ∷ []) (search readsℚ depth 20) (search readsℚ depth 20) refl
