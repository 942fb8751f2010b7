-- Laws of polynomials: coefficients and values of sums and products, and the derivative's coefficients. A list of
-- coefficients acts on sequences as its polynomial acts by multiplication; products act one after the other, and the
-- actions commute. The derivative and the value see coefficients only.
use mathlib.Core.Path.{◌≡◌, refl, sym, ◌∙◌, ap, ap₂, fun_ext}
use mathlib.Core.Logic.{◌⊎◌, inl, inr}
use mathlib.Core.List.{[], ◌∷◌}
use Prim.Native.Nat.{ℕ, zero, suc, ◌-◌, ◌<◌, ◌≤◌}
use native.Mathlib.Omega.{arith}
use lib.IntN.{pos}
use lib.ListN.{length, get_or-eq_default}
use Rattle.base_exact.specs.Rational.{ℚ, int, ◌+ᵠ◌, ◌*ᵠ◌}
use Rattle.base_exact.specs.Sum.{sum}
use Rattle.base_exact.specs.Tabulate.{tab}
use Rattle.base_exact.proofs.Decide.{le_or_lt}
use Rattle.base_exact.proofs.Ring.{ring, reads}
use Rattle.base_exact.proofs.Rational.{ℚ-ring, readsℚ, int_suc, mul-zero, mul_comm, zero-add, add-zero, zero-mul}
use Rattle.base_exact.proofs.Tabulate.{tab_length, tab_get_d}
use Rattle.spec_spline.specs.ExactCurve as Exact
use Rattle.theorems_weights.proofs.Basis.{zeros_mixed}
use Rattle.theorems_smoothness.specs.Polynomial.{Polynomial, coefficient, value, ◌+ᵖ◌, ◌·ᵖ◌, ◌*ᵖ◌, power, total, derivative, DerivativeIsSlope}

-- ---- coefficients

pub coefficient-add : (p q : Polynomial) (i : ℕ) → coefficient (p +ᵖ q) i ≡ coefficient p i +ᵠ coefficient q i
unfolding ◌+ᵖ◌
coefficient-add [] q i = sym (zero-add (coefficient q i))
coefficient-add (a ∷ p) [] i = sym (add-zero (coefficient (a ∷ p) i))
coefficient-add (a ∷ p) (b ∷ q) zero = refl
coefficient-add (a ∷ p) (b ∷ q) (suc i) = coefficient-add p q i

pub coefficient_multiple : (c : ℚ) (p : Polynomial) (i : ℕ) → coefficient (c ·ᵖ p) i ≡ c *ᵠ coefficient p i
unfolding ◌·ᵖ◌
coefficient_multiple c [] i = sym (mul-zero c)
coefficient_multiple c (a ∷ p) zero = refl
coefficient_multiple c (a ∷ p) (suc i) = coefficient_multiple c p i

pub coefficient-total : (n : ℕ) (f : ℕ → Polynomial) (i : ℕ) → coefficient (total n f) i ≡ sum n (λ t. coefficient (f t) i)
unfolding total sum
coefficient-total zero f i = refl
coefficient-total (suc n) f i = coefficient-add (total n f) (f n) i ∙ ap (λ u. u +ᵠ coefficient (f n) i) (coefficient-total n f i)

-- ---- multiplication as an action on sequences

-- A sequence times x.
unfoldable pub shift : (ℕ → ℚ) → ℕ → ℚ
shift f zero = int (pos 0)
shift f (suc i) = f i

-- an operation that keeps 0 may come before or after
pub shift_map : (φ : ℚ → ℚ → ℚ) → φ (int (pos 0)) (int (pos 0)) ≡ int (pos 0) → (f g : ℕ → ℚ) (i : ℕ) → shift (λ i. φ (f i) (g i)) i ≡ φ (shift f i) (shift g i)
unfolding shift
shift_map φ e f g zero = sym e
shift_map φ e f g (suc i) = refl

pub shift_mul : (c : ℚ) (f : ℕ → ℚ) (i : ℕ) → shift (λ i. c *ᵠ f i) i ≡ c *ᵠ shift f i
shift_mul c f i = shift_map (λ x y. c *ᵠ x) (mul-zero c) f f i

shift-add : (f g : ℕ → ℚ) (i : ℕ) → shift (λ i. f i +ᵠ g i) i ≡ shift f i +ᵠ shift g i
shift-add f g i = shift_map (λ x y. x +ᵠ y) (add-zero (int (pos 0))) f g i

shift_ext : {f g : ℕ → ℚ} → ((i : ℕ) → f i ≡ g i) → (i : ℕ) → shift f i ≡ shift g i
shift_ext h i = ap (λ f. shift f i) (fun_ext h)

-- a + b x times a sequence
unfoldable pub linear : ℚ → ℚ → (ℕ → ℚ) → ℕ → ℚ
linear a b f i = a *ᵠ f i +ᵠ b *ᵠ shift f i

-- p times a sequence
act : Polynomial → (ℕ → ℚ) → ℕ → ℚ
act [] f i = int (pos 0)
act (a ∷ p) f i = a *ᵠ f i +ᵠ shift (act p f) i

raised : (p : Polynomial) (i : ℕ) → coefficient (int (pos 0) ∷ p) i ≡ shift (coefficient p) i
unfolding shift
raised p zero = refl
raised p (suc i) = refl

coefficient-times : (p q : Polynomial) (i : ℕ) → coefficient (p *ᵖ q) i ≡ act p (coefficient q) i
unfolding ◌*ᵖ◌ act
coefficient-times [] q i = refl
coefficient-times (a ∷ p) q i = coefficient-add (a ·ᵖ q) (int (pos 0) ∷ (p *ᵖ q)) i
    ∙ ap₂ ◌+ᵠ◌ (coefficient_multiple a q i) (raised (p *ᵖ q) i ∙ shift_ext (coefficient-times p q) i)

act_ext : (p : Polynomial) {f g : ℕ → ℚ} → ((i : ℕ) → f i ≡ g i) → (i : ℕ) → act p f i ≡ act p g i
act_ext p h i = ap (λ f. act p f i) (fun_ext h)

act-add : (p q : Polynomial) (f : ℕ → ℚ) (i : ℕ) → act (p +ᵖ q) f i ≡ act p f i +ᵠ act q f i
unfolding ◌+ᵖ◌ act
act-add [] q f i = sym (zero-add (act q f i))
act-add (a ∷ p) [] f i = sym (add-zero (act (a ∷ p) f i))
act-add (a ∷ p) (b ∷ q) f i = ap (λ u. (a +ᵠ b) *ᵠ f i +ᵠ u) (shift_ext (act-add p q f) i ∙ shift-add (act p f) (act q f) i)
    ∙ ring ℚ-ring (a ∷ b ∷ f i ∷ shift (act p f) i ∷ shift (act q f) i ∷ []) (search reads depth 20) (search reads depth 20) refl

act_multiple : (c : ℚ) (p : Polynomial) (f : ℕ → ℚ) (i : ℕ) → act (c ·ᵖ p) f i ≡ c *ᵠ act p f i
unfolding ◌·ᵖ◌ act
act_multiple c [] f i = sym (mul-zero c)
act_multiple c (a ∷ p) f i = ap (λ u. c *ᵠ a *ᵠ f i +ᵠ u) (shift_ext (act_multiple c p f) i ∙ shift_mul c (act p f) i)
    ∙ ring ℚ-ring (c ∷ a ∷ f i ∷ shift (act p f) i ∷ []) (search reads depth 20) (search reads depth 20) refl

act-times : (p q : Polynomial) (f : ℕ → ℚ) (i : ℕ) → act (p *ᵖ q) f i ≡ act p (act q f) i
unfolding ◌*ᵖ◌ act
act-times [] q f i = refl
act-times (a ∷ p) q f i = act-add (a ·ᵖ q) (int (pos 0) ∷ (p *ᵖ q)) f i
    ∙ ap₂ ◌+ᵠ◌ (act_multiple a q f i) (ap₂ ◌+ᵠ◌ (zero-mul (f i)) (shift_ext (act-times p q f) i) ∙ zero-add _)

-- a linear factor, before or after
act_linear : (p : Polynomial) (a b : ℚ) (f : ℕ → ℚ) (i : ℕ) → act p (linear a b f) i ≡ linear a b (act p f) i
unfolding act linear
act_linear [] a b f i = sym (ap (λ u. a *ᵠ int (pos 0) +ᵠ b *ᵠ u) (shift_map (λ x y. int (pos 0)) refl f f i) ∙ ring ℚ-ring (a ∷ b ∷ []) (search readsℚ) (search readsℚ) refl)
act_linear (c ∷ p) a b f i =
    ap (λ u. c *ᵠ (a *ᵠ f i +ᵠ b *ᵠ shift f i) +ᵠ u) (shift_ext (act_linear p a b f) i ∙ shift_map (λ x y. a *ᵠ x +ᵠ b *ᵠ y) (zeros_mixed a b) (act p f) (shift (act p f)) i)
    ∙ ring ℚ-ring (a ∷ b ∷ c ∷ f i ∷ shift f i ∷ shift (act p f) i ∷ shift (shift (act p f)) i ∷ []) (search reads depth 20) (search reads depth 20) refl
    ∙ ap (λ u. a *ᵠ (c *ᵠ f i +ᵠ shift (act p f) i) +ᵠ b *ᵠ u) (sym (shift_map (λ x y. c *ᵠ x +ᵠ y) (ring ℚ-ring (c ∷ []) (search readsℚ) (search readsℚ) refl) f (shift (act p f)) i))

act-pair : (a b : ℚ) (f : ℕ → ℚ) (i : ℕ) → act (a ∷ b ∷ []) f i ≡ linear a b f i
unfolding act linear
act-pair a b f i = ap (λ u. a *ᵠ f i +ᵠ u) (shift_ext (λ i. ap (λ u. b *ᵠ f i +ᵠ u) (shift_map (λ x y. int (pos 0)) refl f f i) ∙ add-zero _) i ∙ shift_mul b f i)

pub linear_ext : (a b : ℚ) {f g : ℕ → ℚ} → ((i : ℕ) → f i ≡ g i) → (i : ℕ) → linear a b f i ≡ linear a b g i
linear_ext a b h i = ap (λ f. linear a b f i) (fun_ext h)

-- a linear factor of the left polynomial comes out of a product
pub times_linear_left : (a b : ℚ) (p q : Polynomial) (i : ℕ) → coefficient ((a ∷ b ∷ []) *ᵖ p *ᵖ q) i ≡ linear a b (coefficient (p *ᵖ q)) i
times_linear_left a b p q i = coefficient-times ((a ∷ b ∷ []) *ᵖ p) q i ∙ act-times (a ∷ b ∷ []) p (coefficient q) i
    ∙ act-pair a b (act p (coefficient q)) i ∙ linear_ext a b (λ i. sym (coefficient-times p q i)) i

-- and so does one of the right
pub times_linear_right : (a b : ℚ) (p q : Polynomial) (i : ℕ) → coefficient (p *ᵖ ((a ∷ b ∷ []) *ᵖ q)) i ≡ linear a b (coefficient (p *ᵖ q)) i
times_linear_right a b p q i = coefficient-times p ((a ∷ b ∷ []) *ᵖ q) i
    ∙ act_ext p (λ i. coefficient-times (a ∷ b ∷ []) q i ∙ act-pair a b (coefficient q) i) i
    ∙ act_linear p a b (coefficient q) i ∙ linear_ext a b (λ i. sym (coefficient-times p q i)) i

-- ---- values

-- equal coefficients, equal values
pub value_ext : (p q : Polynomial) (x : ℚ) → ((i : ℕ) → coefficient p i ≡ coefficient q i) → value p x ≡ value q x
unfolding value
value_ext [] [] x h = refl
value_ext [] (b ∷ q) x h = sym (ap₂ (λ u v. u +ᵠ x *ᵠ v) (sym (h 0)) (sym (value_ext [] q x (λ i. h (suc i)))) ∙ ring ℚ-ring (x ∷ []) (search readsℚ) (search readsℚ) refl)
value_ext (a ∷ p) [] x h = ap₂ (λ u v. u +ᵠ x *ᵠ v) (h 0) (value_ext p [] x (λ i. h (suc i))) ∙ ring ℚ-ring (x ∷ []) (search readsℚ) (search readsℚ) refl
value_ext (a ∷ p) (b ∷ q) x h = ap₂ (λ u v. u +ᵠ x *ᵠ v) (h 0) (value_ext p q x (λ i. h (suc i)))

pub value-add : (p q : Polynomial) (x : ℚ) → value (p +ᵖ q) x ≡ value p x +ᵠ value q x
unfolding value ◌+ᵖ◌
value-add [] q x = sym (zero-add (value q x))
value-add (a ∷ p) [] x = sym (add-zero (value (a ∷ p) x))
value-add (a ∷ p) (b ∷ q) x = ap (λ u. a +ᵠ b +ᵠ x *ᵠ u) (value-add p q x) ∙ ring ℚ-ring (a ∷ b ∷ x ∷ value p x ∷ value q x ∷ []) (search reads depth 20) (search reads depth 20) refl

pub value_multiple : (c : ℚ) (p : Polynomial) (x : ℚ) → value (c ·ᵖ p) x ≡ c *ᵠ value p x
unfolding value ◌·ᵖ◌
value_multiple c [] x = sym (mul-zero c)
value_multiple c (a ∷ p) x = ap (λ u. c *ᵠ a +ᵠ x *ᵠ u) (value_multiple c p x) ∙ ring ℚ-ring (a ∷ c ∷ x ∷ value p x ∷ []) (search reads depth 20) (search reads depth 20) refl

pub value-times : (p q : Polynomial) (x : ℚ) → value (p *ᵖ q) x ≡ value p x *ᵠ value q x
unfolding value ◌*ᵖ◌
value-times [] q x = sym (zero-mul (value q x))
value-times (a ∷ p) q x = value-add (a ·ᵖ q) (int (pos 0) ∷ (p *ᵖ q)) x ∙ ap₂ (λ u v. u +ᵠ (int (pos 0) +ᵠ x *ᵠ v)) (value_multiple a q x) (value-times p q x)
    ∙ ring ℚ-ring (a ∷ x ∷ value p x ∷ value q x ∷ []) (search readsℚ depth 20) (search readsℚ depth 20) refl

pub value-power : (p : Polynomial) (n : ℕ) (x : ℚ) → value (power p n) x ≡ Exact.power (value p x) n
unfolding value power Exact.power
value-power p zero x = ring ℚ-ring (x ∷ []) (search readsℚ) (search readsℚ) refl
value-power p (suc n) x = value-times p (power p n) x ∙ mul_comm (value p x) (value (power p n) x) ∙ ap (λ u. u *ᵠ value p x) (value-power p n x)

pub value-total : (n : ℕ) (f : ℕ → Polynomial) (x : ℚ) → value (total n f) x ≡ sum n (λ t. value (f t) x)
unfolding value total sum
value-total zero f x = refl
value-total (suc n) f x = value-add (total n f) (f n) x ∙ ap (λ u. u +ᵠ value (f n) x) (value-total n f x)

-- ---- derivatives

-- The derivative of a sequence of coefficients.
unfoldable pub differential : (ℕ → ℚ) → ℕ → ℚ
differential f i = int (pos (suc i)) *ᵠ f (suc i)

derivative_length : (p : Polynomial) → length (derivative p) ≡ length p - 1
unfolding derivative
derivative_length p = tab_length (length p - 1) _

pub coefficient-derivative : (p : Polynomial) (i : ℕ) → coefficient (derivative p) i ≡ differential (coefficient p) i
unfolding derivative differential
coefficient-derivative p i = go (le_or_lt (length p - 1) i)
  where
    rule : ℕ → ℚ
    rule i = int (pos (suc i)) *ᵠ coefficient p (suc i)

    go : (length p - 1 ≤ i) ⊎ (i < length p - 1) → coefficient (derivative p) i ≡ rule i
    go (inl h) = get_or-eq_default (derivative p) (int (pos 0)) (rw (derivative_length p) h)
        ∙ sym (ap (λ u. int (pos (suc i)) *ᵠ u) (get_or-eq_default p (int (pos 0)) (let l : length p ≤ suc i = omega arith in l)) ∙ mul-zero (int (pos (suc i))))
    go (inr h) = tab_get_d (length p - 1) rule i (int (pos 0)) h

-- x times the derivative
shift_differential : (f : ℕ → ℚ) (i : ℕ) → shift (differential f) i ≡ int (pos i) *ᵠ f i
unfolding shift differential
shift_differential f zero = sym (zero-mul (f 0))
shift_differential f (suc i) = refl

-- the product rule for a linear factor
pub differential_linear : (a b : ℚ) (f : ℕ → ℚ) (i : ℕ) → differential (linear a b f) i ≡ linear a b (differential f) i +ᵠ b *ᵠ f i
unfolding differential linear shift
differential_linear a b f i = ap (λ n. n *ᵠ (a *ᵠ f (suc i) +ᵠ b *ᵠ f i)) (int_suc i)
    ∙ ring ℚ-ring (int (pos i) ∷ a ∷ b ∷ f (suc i) ∷ f i ∷ []) (search readsℚ depth 20) (search readsℚ depth 20) refl
    ∙ ap₂ (λ n u. a *ᵠ (n *ᵠ f (suc i)) +ᵠ b *ᵠ u +ᵠ b *ᵠ f i) (sym (int_suc i)) (sym (shift_differential f i))

pub differential_ext : {f g : ℕ → ℚ} → ((i : ℕ) → f i ≡ g i) → (i : ℕ) → differential f i ≡ differential g i
differential_ext h i = ap (λ f. differential f i) (fun_ext h)

pub differential_add : (f g : ℕ → ℚ) (i : ℕ) → differential (λ i. f i +ᵠ g i) i ≡ differential f i +ᵠ differential g i
unfolding differential
differential_add f g i = ring ℚ-ring (int (pos (suc i)) ∷ f (suc i) ∷ g (suc i) ∷ []) (search reads) (search reads) refl

pub derivative_ext : (p q : Polynomial) → ((i : ℕ) → coefficient p i ≡ coefficient q i) → (i : ℕ) → coefficient (derivative p) i ≡ coefficient (derivative q) i
derivative_ext p q h i = coefficient-derivative p i ∙ differential_ext h i ∙ sym (coefficient-derivative q i)

-- ---- the slope

-- p' of c + x p
value-derivative : (c : ℚ) (p : Polynomial) (x : ℚ) → value (derivative (c ∷ p)) x ≡ value p x +ᵠ x *ᵠ value (derivative p) x
unfolding value differential
value-derivative c p x = value_ext (derivative (c ∷ p)) (p +ᵖ (int (pos 0) ∷ derivative p)) x same
    ∙ value-add p (int (pos 0) ∷ derivative p) x ∙ ap (λ u. value p x +ᵠ u) (zero-add _)
  where
    together : (n f : ℚ) → (n +ᵠ int (pos 1)) *ᵠ f ≡ f +ᵠ n *ᵠ f
    together n f = ring ℚ-ring (n ∷ f ∷ []) (search readsℚ) (search readsℚ) refl

    same : (i : ℕ) → coefficient (derivative (c ∷ p)) i ≡ coefficient (p +ᵖ (int (pos 0) ∷ derivative p)) i
    same i = coefficient-derivative (c ∷ p) i ∙ ap (λ n. n *ᵠ coefficient p i) (int_suc i) ∙ together (int (pos i)) (coefficient p i)
        ∙ sym (coefficient-add p (int (pos 0) ∷ derivative p) i
        ∙ ap (λ u. coefficient p i +ᵠ u) (raised (derivative p) i ∙ shift_ext (coefficient-derivative p) i ∙ shift_differential (coefficient p) i))

pub derivative_is_slope : DerivativeIsSlope
unfolding value derivative tab
derivative_is_slope [] x = ([], λ e. ring ℚ-ring (e ∷ []) (search readsℚ depth 20) (search readsℚ depth 20) refl)
derivative_is_slope (c ∷ p) x = go (derivative_is_slope p x)
  where
    -- (x + e) (P + e D + e^2 R), by powers of e
    expand : (c x e P D R : ℚ) → c +ᵠ (x +ᵠ e) *ᵠ (P +ᵠ e *ᵠ D +ᵠ e *ᵠ e *ᵠ R)
        ≡ c +ᵠ x *ᵠ P +ᵠ e *ᵠ (P +ᵠ x *ᵠ D) +ᵠ e *ᵠ e *ᵠ (D +ᵠ e *ᵠ int (pos 0) +ᵠ (x +ᵠ e *ᵠ (int (pos 1) +ᵠ e *ᵠ int (pos 0))) *ᵠ R)
    expand c x e P D R = ring ℚ-ring (c ∷ x ∷ e ∷ P ∷ D ∷ R ∷ []) (search readsℚ depth 20) (search readsℚ depth 20) refl

    go : (r : Polynomial) × ((e : ℚ) → value p (x +ᵠ e) ≡ value p x +ᵠ e *ᵠ value (derivative p) x +ᵠ e *ᵠ e *ᵠ value r e)
        → (r : Polynomial) × ((e : ℚ) → value (c ∷ p) (x +ᵠ e) ≡ value (c ∷ p) x +ᵠ e *ᵠ value (derivative (c ∷ p)) x +ᵠ e *ᵠ e *ᵠ value r e)
    go ih = (
      (value (derivative p) x ∷ []) +ᵖ (x ∷ int (pos 1) ∷ []) *ᵖ ih.0,
      λ e. ap (λ u. c +ᵠ (x +ᵠ e) *ᵠ u) (ih.1 e) ∙ expand c x e (value p x) (value (derivative p) x) (value ih.0 e)
          ∙ ap₂ (λ d r. value (c ∷ p) x +ᵠ e *ᵠ d +ᵠ e *ᵠ e *ᵠ r) (sym (value-derivative c p x))
          (sym (value-add (value (derivative p) x ∷ []) ((x ∷ int (pos 1) ∷ []) *ᵖ ih.0) e ∙ ap (λ u. value (value (derivative p) x ∷ []) e +ᵠ u) (value-times (x ∷ int (pos 1) ∷ []) ih.0 e))),
    )
