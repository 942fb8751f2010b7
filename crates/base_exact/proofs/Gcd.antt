-- Laws of the greatest common divisor: Euclid's step as a loop takes it, that it divides both numbers and is the
-- greatest that does, and that lowest terms are unique. `Div k a b` says that k divides a and b.
use mathlib.Core.Path.{◌≡◌, refl, sym, ◌∙◌, ap, ap₂, subst}
use Prim.Native.Nat.{ℕ, zero, suc, ◌*◌, ◌/◌, ◌%◌, ◌<◌, ◌≤◌, ◌∣◌}
use native.Mathlib.Omega.{arith}
use native.Mathlib.Decide.{dec_lt}
use native.Mathlib.Nat.{mod-lt, mod-eq_of_lt, mul-one, mul_comm, zero-mul, le-mul_of_pos_right, eq_of_mul-eq-mul_right, mul-div_cancel', dvd-mul_right, dvd_trans, dvd_antisymm}
use Rattle.base_exact.specs.Gcd.{gcd_f, gcd}
use Rattle.base_exact.specs.Lowest.{gcd_fuel}
pub use Rattle.base_exact.specs.Lowest.{Div, gcd_mul, gcd_div, Reduced, reduced}

-- ---- Euclid's loop: the end, and one step
pub gcd-zero : (a : ℕ) → gcd a 0 ≡ a
unfolding gcd gcd_f
gcd-zero a = refl

pub gcd-step : (a b : ℕ) → 0 < b → gcd a b ≡ gcd b (a % b)
unfolding gcd gcd_f
gcd-step a zero h = absurd (omega arith)
gcd-step a (suc b) h = let m = mod-lt a {m = suc b} h in gcd_fuel (suc b) (suc (a % suc b)) (suc b) (a % suc b) (omega arith) (omega arith)

pub gcd_comm : (a b : ℕ) → gcd a b ≡ gcd b a
gcd_comm a b = go (dec_lt a b) (dec_lt b a)
  where
    small : (a b : ℕ) → a < b → gcd a b ≡ gcd b a
    small a b h = gcd-step a b (omega arith) ∙ ap (gcd b) (mod-eq_of_lt h)

    go : Dec (a < b) → Dec (b < a) → gcd a b ≡ gcd b a
    go (yes h) d = small a b h
    go (no h) (yes k) = sym (small b a k)
    go (no h) (no k) = let e : a ≡ b = omega arith in ap₂ gcd e (sym e)

-- ---- the size
div_pos : (g a b : ℕ) → Div g a b → 0 < b → 0 < g
div_pos zero a b r h = absurd (omega (arith, r.right_is))
div_pos (suc g) a b r h = omega arith

pub gcd_pos : (a b : ℕ) → 0 < b → 0 < gcd a b
gcd_pos a b h = div_pos (gcd a b) a b (gcd_div a b) h

pub gcd_le : (a b : ℕ) → 0 < b → gcd a b ≤ b
gcd_le a b h = go (gcd a b) (gcd_div a b)
  where
    go : (g : ℕ) → Div g a b → g ≤ b
    go g r = rw r.right_is (le-mul_of_pos_right g (right_pos r.right r.right_is))
      where
        right_pos : (k : ℕ) → b ≡ g * k → 0 < k
        right_pos zero e = absurd (omega arith)
        right_pos (suc k) e = omega arith

pub gcd_one : (a : ℕ) → gcd a 1 ≡ 1
gcd_one a = omega (arith, gcd_pos a 1 (omega arith), gcd_le a 1 (omega arith))

-- ---- a common factor, also 0, comes out; every common divisor divides it
pub gcd-scale : (k a b : ℕ) → gcd (k * a) (k * b) ≡ k * gcd a b
gcd-scale zero a b = ap₂ gcd (zero-mul a) (zero-mul b) ∙ gcd-zero 0 ∙ sym (zero-mul (gcd a b))
gcd-scale (suc k) a b = gcd_mul k a b

pub gcd-greatest : (k a b : ℕ) → Div k a b → (m : ℕ) × (gcd a b ≡ k * m)
gcd-greatest k a b r = (gcd r.left r.right, ap₂ gcd r.left_is r.right_is ∙ gcd-scale k r.left r.right)

-- ---- lowest terms: two pairs without a common factor and with equal cross products are the same pair
pub lowest_unique : (a b c d : ℕ) → gcd a b ≡ 1 → gcd c d ≡ 1 → a * d ≡ c * b → (a ≡ c) × (b ≡ d)
lowest_unique a b c d h k e = (tops b d bottoms h k e, bottoms)
  where
    bottoms : b ≡ d
    bottoms =
        sym (mul-one b) ∙ ap (λ t. b * t) (sym k) ∙ sym (gcd-scale b c d)
        ∙ ap₂ gcd (mul_comm b c ∙ sym e ∙ mul_comm a d) (mul_comm b d)
        ∙ gcd-scale d a b ∙ ap (λ t. d * t) h ∙ mul-one d

    tops : (b d : ℕ) → b ≡ d → gcd a b ≡ 1 → gcd c d ≡ 1 → a * d ≡ c * b → a ≡ c
    tops b zero p h k e = sym (gcd-zero a) ∙ ap (gcd a) (sym p) ∙ h ∙ sym k ∙ gcd-zero c
    tops b (suc d) p h k e = eq_of_mul-eq-mul_right (suc d) (omega arith) a c (e ∙ ap (λ t. c * t) p)

-- ---- by divisibility: it divides both numbers, every common divisor divides it, and brackets may be moved
pub gcd_dvd_left : (a b : ℕ) → gcd a b ∣ a
gcd_dvd_left a b = let r = gcd_div a b in subst (λ (n : ℕ). gcd a b ∣ n) (sym r.left_is) (dvd-mul_right (gcd a b) r.left)

pub gcd_dvd_right : (a b : ℕ) → gcd a b ∣ b
gcd_dvd_right a b = let r = gcd_div a b in subst (λ (n : ℕ). gcd a b ∣ n) (sym r.right_is) (dvd-mul_right (gcd a b) r.right)

pub dvd_gcd : (k a b : ℕ) → k ∣ a → k ∣ b → k ∣ gcd a b
dvd_gcd k a b p q =
    let r = gcd-greatest k a b (record { left = a / k; right = b / k; left_is = sym (mul-div_cancel' k p); right_is = sym (mul-div_cancel' k q) }) in
    subst (λ (n : ℕ). k ∣ n) (sym r.1) (dvd-mul_right k r.0)

pub gcd_assoc : (a b c : ℕ) → gcd (gcd a b) c ≡ gcd a (gcd b c)
gcd_assoc a b c = dvd_antisymm
    (dvd_gcd _ a (gcd b c) (dvd_trans _ outer (gcd_dvd_left a b)) (dvd_gcd _ b c (dvd_trans _ outer (gcd_dvd_right a b)) (gcd_dvd_right (gcd a b) c)))
    (dvd_gcd _ (gcd a b) c (dvd_gcd _ a b (gcd_dvd_left a (gcd b c)) (dvd_trans _ inner (gcd_dvd_left b c))) (dvd_trans _ inner (gcd_dvd_right b c)))
  where
    outer : gcd (gcd a b) c ∣ gcd a b
    outer = gcd_dvd_left (gcd a b) c

    inner : gcd a (gcd b c) ∣ gcd b c
    inner = gcd_dvd_right a (gcd b c)

-- a number's divisor in common with a multiple of it is the number
pub gcd_multiple : (a c : ℕ) → gcd a (a * c) ≡ a
gcd_multiple a c = ap (λ t. gcd t (a * c)) (sym (mul-one a)) ∙ gcd-scale a 1 c ∙ ap (λ t. a * t) (gcd_comm 1 c ∙ gcd_one c) ∙ mul-one a
