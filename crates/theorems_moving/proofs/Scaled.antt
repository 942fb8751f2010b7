-- Conditions, blends and comparisons of numbers that are all multiplied by one number above zero: the greatest common divisor takes it
-- out, and quotients and orders stay.
use mathlib.Core.Path.{◌≡◌, refl, sym, ◌∙◌, ap, ap₂, subst}
use mathlib.Core.Bool.{Bool, true, false}
use mathlib.Core.List.{List, [], ◌∷◌, map}
use Prim.Native.Nat.{ℕ, zero, suc, ◌+◌, ◌*◌, ◌-◌, ◌^◌, ◌/◌, ◌<◌}
use native.Mathlib.Omega.{arith}
use native.Mathlib.Nat.{mul-div-mul_left, pow-zero, pow-suc}
use lib.IntN.{ℤ, pos, negsuc, neg_ℤ, nat_abs, ◌+ℤ◌, ◌-ℤ◌, ◌*ℤ◌}
use lib.Signed.{le_z, lt_z, ◌≤ℤ◌, ◌<ℤ◌}
use Rattle.base_exact.specs.Gcd.{gcd}
use Rattle.base_exact.specs.Rational.{signed}
use Rattle.base_exact.specs.Floor.{nearest, floor_div}
use Rattle.base_exact.proofs.Floor.{floor_div_mul}
use Rattle.base_exact.proofs.Gcd.{gcd-scale}
use Rattle.base_exact.proofs.Integer as Z
use Rattle.base_exact.proofs.Integer.{ℤ-ring, readsℤ}
use Rattle.base_exact.proofs.Ring.{ring}
use Rattle.base_exact.proofs.Word.{lt_z_true, lt_z_false, le_z_true, le_z_false, lt_test, not_lt_test, le_test, not_le_test}
use Rattle.spec_spline.specs.Conditions.{Entry, common_divisor, divided}
use Rattle.spec_spline.specs.Reading.{rounded, blend, triangle}

-- ---- conditions

abbrev pub scaled_entry : ℕ → Entry → Entry
scaled_entry m e = record { column = e.column; condition = pos m *ℤ e.condition }

pub common_scaled : (m : ℕ) (es : List Entry) → common_divisor (map (scaled_entry m) es) ≡ m * common_divisor es
unfolding common_divisor
common_scaled m [] = let z : 0 ≡ m * 0 = omega arith in z
common_scaled m (e ∷ es) = ap₂ gcd (Z.abs_mul (pos m) e.condition) (common_scaled m es) ∙ gcd-scale m (nat_abs e.condition) (common_divisor es)

signed-scaled : (m : ℕ) → 0 < m → (c : ℤ) (q : ℕ) → signed (pos m *ℤ c) q ≡ signed c q
signed-scaled zero h c q = absurd (omega arith)
signed-scaled (suc m) h (pos a) q = refl
signed-scaled (suc m) h (negsuc a) q = ap (λ n. signed (neg_ℤ (pos n)) q) (let z : suc m * suc a ≡ suc (m * suc a + a) = omega arith in z)

entry_is : {c : ℕ} {x y : ℤ} → x ≡ y → ◌≡◌ {A = Entry} (record { column = c; condition = x }) (record { column = c; condition = y })
entry_is q = cc

divided-scaled : (m : ℕ) → 0 < m → (g : ℕ) (e : Entry) → divided (m * g) (scaled_entry m e) ≡ divided g e
divided-scaled m h g e = entry_is
    (signed-scaled m h e.condition (nat_abs (pos m *ℤ e.condition) / (m * g))
    ∙ ap (signed e.condition) (ap (λ n. n / (m * g)) (Z.abs_mul (pos m) e.condition) ∙ mul-div-mul_left (nat_abs e.condition) g h))

pub all_divided-scaled : (m : ℕ) → 0 < m → (g : ℕ) (es : List Entry) → map (divided (m * g)) (map (scaled_entry m) es) ≡ map (divided g) es
all_divided-scaled m h g [] = refl
all_divided-scaled m h g (e ∷ es) = ap₂ ◌∷◌ (divided-scaled m h g e) (all_divided-scaled m h g es)

pub power-scaled : (n w k : ℕ) → (n * w) ^ k ≡ n ^ k * w ^ k
power-scaled n w zero = pow-zero (n * w) ∙ (let z : 1 ≡ 1 * 1 = refl in z) ∙ sym (ap₂ ◌*◌ (pow-zero n) (pow-zero w))
power-scaled n w (suc k) = pow-suc (n * w) k ∙ ap (λ t. t * (n * w)) (power-scaled n w k) ∙ regroup (n ^ k) (w ^ k) n w ∙ sym (ap₂ ◌*◌ (pow-suc n k) (pow-suc w k))
  where
    regroup : (a b c d : ℕ) → a * b * (c * d) ≡ a * c * (b * d)
    regroup a b c d = omega arith

-- ---- blends

blend-scaled : (n d : ℕ) → 0 < n → 0 < d → (u g h : ℤ) → blend (n * d) (pos n *ℤ u) g h ≡ blend d u g h
unfolding blend rounded nearest
blend-scaled n d p q u g h =
    ap₂ floor_div (alg (pos n) (pos d) u g h) (let z : 2 * (n * d) ≡ n * (2 * d) = omega arith in z)
    ∙ floor_div_mul n (pos 2 *ℤ ((pos d -ℤ u) *ℤ g +ℤ u *ℤ h) +ℤ pos d) (2 * d) p (omega arith)
  where
    alg : (n d u g h : ℤ) → pos 2 *ℤ ((n *ℤ d -ℤ n *ℤ u) *ℤ g +ℤ n *ℤ u *ℤ h) +ℤ n *ℤ d ≡ n *ℤ (pos 2 *ℤ ((d -ℤ u) *ℤ g +ℤ u *ℤ h) +ℤ d)
    alg n d u g h = ring ℤ-ring (n ∷ d ∷ u ∷ g ∷ h ∷ []) (search readsℤ depth 30) (search readsℤ depth 30) refl

pub triangle-scaled : (n d : ℕ) → 0 < n → 0 < d → (u : ℤ) (g : ℕ → ℤ) (m k : ℕ) → triangle (n * d) (pos n *ℤ u) g m k ≡ triangle d u g m k
unfolding triangle
triangle-scaled n d p q u g zero k = refl
triangle-scaled n d p q u g (suc m) k =
    ap₂ (blend (n * d) (pos n *ℤ u)) (triangle-scaled n d p q u g m k) (triangle-scaled n d p q u g m (suc k)) ∙ blend-scaled n d p q u (triangle d u g m k) (triangle d u g m (suc k))

-- ---- comparisons

module _ (n : ℕ) (h : 0 < n) (z x y : ℤ) where
  scaled_lt : x <ℤ y → (pos n *ℤ x +ℤ z) <ℤ (pos n *ℤ y +ℤ z)
  scaled_lt l = Z.+_mono_< _ _ z z (subst (λ t. t <ℤ (pos n *ℤ y)) (Z.*-comm x (pos n)) (subst (λ t. (x *ℤ pos n) <ℤ t) (Z.*-comm y (pos n)) (positive n h))) (Z.≤-refl z)
    where
      positive : (n : ℕ) → 0 < n → (x *ℤ pos n) <ℤ (y *ℤ pos n)
      positive zero h = absurd (omega arith)
      positive (suc n) h = Z.*_mono_< x y n l

  scaled_le : x ≤ℤ y → (pos n *ℤ x +ℤ z) ≤ℤ (pos n *ℤ y +ℤ z)
  scaled_le l = Z.+_mono _ _ z z (Z.*_mono_left (pos n) x y (Z.≤_in (pos 0) (pos n) (omega arith)) l) (Z.≤-refl z)

module _ (n : ℕ) (h : 0 < n) (z x y : ℤ) where
  pub lt_z_scaled : lt_z (pos n *ℤ x +ℤ z) (pos n *ℤ y +ℤ z) ≡ lt_z x y
  lt_z_scaled = go (lt_z x y) refl
    where
      go : (b : Bool) → lt_z x y ≡ b → lt_z (pos n *ℤ x +ℤ z) (pos n *ℤ y +ℤ z) ≡ lt_z x y
      go true e = lt_test (scaled_lt n h z x y (lt_z_true x y e)) ∙ sym e
      go false e = not_lt_test (scaled_le n h z y x (lt_z_false x y e)) ∙ sym e

  pub le_z_scaled : le_z (pos n *ℤ x +ℤ z) (pos n *ℤ y +ℤ z) ≡ le_z x y
  le_z_scaled = go (le_z x y) refl
    where
      go : (b : Bool) → le_z x y ≡ b → le_z (pos n *ℤ x +ℤ z) (pos n *ℤ y +ℤ z) ≡ le_z x y
      go true e = le_test (scaled_le n h z x y (le_z_true x y e)) ∙ sym e
      go false e = not_le_test (scaled_lt n h z y x (le_z_false x y e)) ∙ sym e
