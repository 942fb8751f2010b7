-- Why a pair of numbers divided by its gcd has no factor in common. These are lemmas, checked and not believed: they stand
-- among the definitions because a rational number carries the proof that it is in lowest terms.
use Rattle.std.specs.Prelude.{◌≡◌, refl, ℕ, zero, suc, ◌+◌, ◌*◌, ◌-◌, ◌/◌, ◌%◌, ◌<◌}
use Rattle.std.proofs.Common.{sym, ◌∙◌, ap, ap₂, arith, mod-eq_of_lt, mod-lt, div-add-mod', mul-zero}
use Rattle.std.proofs.Math.Nat.{mul-add-mod_self_left, mul-lt-mul_of_pos_left, mul-div_cancel_left, eq_of_mul-eq-mul_left}
use Rattle.base_exact.specs.Gcd.{gcd_f, gcd}

-- g divides a and b, with the quotients
pub record Div (g a b : ℕ) : Type 0 where
  pub left : ℕ
  pub right : ℕ
  pub left_is : a ≡ g * left
  pub right_is : b ≡ g * right

-- any fuel above b gives the same number
pub gcd_fuel : (f g a b : ℕ) → b < f → b < g → gcd_f f a b ≡ gcd_f g a b
unfolding gcd_f
gcd_fuel zero g a b h k = absurd (omega arith)
gcd_fuel (suc f) zero a b h k = absurd (omega arith)
gcd_fuel (suc f) (suc g) a zero h k = refl
gcd_fuel (suc f) (suc g) a (suc b) h k = let m = mod-lt a {m = suc b} (omega arith) in
    gcd_fuel f g (suc b) (a % suc b) (omega arith) (omega arith)

mul_mod : (k a b : ℕ) → (suc k * a) % (suc k * suc b) ≡ suc k * (a % suc b)
mul_mod k a b = ap (λ t. t % (suc k * suc b)) e ∙ mul-add-mod_self_left (suc k * suc b) (a / suc b) (suc k * (a % suc b))
    ∙ mod-eq_of_lt (mul-lt-mul_of_pos_left (mod-lt a {m = suc b} (omega arith)) (omega arith))
  where
    e : suc k * a ≡ suc k * suc b * (a / suc b) + suc k * (a % suc b)
    e = ap (λ t. suc k * t) (sym (div-add-mod' a (suc b))) ∙ omega arith

-- one step at a divisor that is not written as a successor
step : (f a b c : ℕ) → b ≡ suc c → gcd_f (suc f) a b ≡ gcd_f f b (a % b)
unfolding gcd_f
step f a zero c e = absurd (omega arith)
step f a (suc b) c e = refl

mul_f : (f k a b : ℕ) → gcd_f f (suc k * a) (suc k * b) ≡ suc k * gcd_f f a b
unfolding gcd_f
mul_f zero k a b = refl
mul_f (suc f) k a zero = rw (mul-zero (suc k))
mul_f (suc f) k a (suc b) = step f (suc k * a) (suc k * suc b) (suc k * suc b - 1) (omega arith)
    ∙ ap (λ t. gcd_f f (suc k * suc b) t) (mul_mod k a b) ∙ mul_f f k (suc b) (a % suc b)

-- a common factor comes out
pub gcd_mul : (k a b : ℕ) → gcd (suc k * a) (suc k * b) ≡ suc k * gcd a b
unfolding gcd
gcd_mul k a b = mul_f (suc (suc k * b)) k a b ∙ ap (λ t. suc k * t) (gcd_fuel (suc (suc k * b)) (suc b) a b (omega arith) (omega arith))

div_f : (f a b : ℕ) → b < f → Div (gcd_f f a b) a b
unfolding gcd_f
div_f zero a b h = absurd (omega arith)
div_f (suc f) a zero h = record { left = 1; right = 0; left_is = omega arith; right_is = omega arith }
div_f (suc f) a (suc b) h = go (gcd_f f (suc b) (a % suc b)) (div_f f (suc b) (a % suc b)
    (let m = mod-lt a {m = suc b} (omega arith) in omega arith))
  where
    go : (g : ℕ) → Div g (suc b) (a % suc b) → Div g a (suc b)
    go g r = record {
      left = a / suc b * r.left + r.right;
      right = r.left;
      left_is = sym (div-add-mod' a (suc b)) ∙ ap₂ (λ s t. a / suc b * s + t) r.left_is r.right_is ∙ omega arith;
      right_is = r.left_is;
    }

-- it divides both
pub gcd_div : (a b : ℕ) → Div (gcd a b) a b
unfolding gcd
gcd_div a b = div_f (suc b) a b (omega arith)

-- division by g takes n and d to lowest terms
pub record Reduced (n d : ℕ) (g : ℕ) : Type 0 where
  pub top : n / g * g ≡ n
  pub bot : d / g * g ≡ d
  pub one : gcd (n / g) (d / g) ≡ 1
  pub bot_pos : 0 < d / g

pub reduced : (n d : ℕ) → 0 < d → Reduced n d (gcd n d)
reduced n d h = go (gcd n d) (gcd_div n d) refl
  where
    go : (g : ℕ) → Div g n d → gcd n d ≡ g → Reduced n d g
    go zero r e = absurd (omega (arith, r.right_is))
    go (suc g) r e = record {
      top = ap (λ t. t * suc g) l ∙ omega (arith, r.left_is);
      bot = ap (λ t. t * suc g) b ∙ omega (arith, r.right_is);
      one = ap₂ gcd l b ∙ eq_of_mul-eq-mul_left (suc g) (omega arith) _ 1
          (sym (gcd_mul g r.left r.right) ∙ ap₂ gcd (sym r.left_is) (sym r.right_is) ∙ e ∙ omega arith);
      bot_pos = rw b (pos_right r.right r.right_is);
    }
      where
        l : n / suc g ≡ r.left
        l = ap (λ t. t / suc g) r.left_is ∙ mul-div_cancel_left r.left {n = suc g} (omega arith)

        b : d / suc g ≡ r.right
        b = ap (λ t. t / suc g) r.right_is ∙ mul-div_cancel_left r.right {n = suc g} (omega arith)

        pos_right : (k : ℕ) → d ≡ suc g * k → 0 < k
        pos_right zero e = absurd (omega arith)
        pos_right (suc k) e = omega arith
