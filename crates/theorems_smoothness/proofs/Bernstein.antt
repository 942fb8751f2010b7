-- The polynomial with given Bernstein ordinates: degree n + 1 is a blend of two of degree n (Pascal's rule), so its
-- derivative is the one of degree n with the differences of the ordinates, times (n + 1) / h, and its values are de
-- Casteljau's triangle. At the two ends of the piece they are the first and the last ordinate.
use mathlib.Core.Path.{◌≡◌, refl, sym, ◌∙◌, ap, ap₂}
use mathlib.Core.List.{[], ◌∷◌}
use Prim.Native.Nat.{ℕ, zero, suc, ◌+◌, ◌-◌, ◌<◌, ◌≤◌}
use native.Mathlib.Omega.{arith}
use lib.IntN.{pos}
use Rattle.base_exact.specs.Rational.{ℚ, int, inv, ◌+ᵠ◌, ◌*ᵠ◌, -ᵠ◌, ◌-ᵠ◌, ◌/ᵠ◌}
use Rattle.base_exact.specs.Sum.{sum}
use Rattle.base_exact.proofs.Ring.{ring, reads}
use Rattle.base_exact.proofs.Rational.{ℚ-ring, readsℚ, int_suc, int_nonzero, mul_inv, mul_assoc, mul_comm, zero-mul}
use Rattle.base_exact.proofs.Sum.{sum_ext, sum_mul, sum_sub}
use Rattle.spec_spline.specs.Conditions.{binomial}
use Rattle.spec_spline.specs.ExactCurve as Exact
use Rattle.spec_published.specs.Published.{derivative_coefficient}
use Rattle.theorems_weights.proofs.Pascal.{binomial_sum_suc}
use Rattle.theorems_values.proofs.Bernstein.{bernstein, bernstein_sum, exact_triangle, triangle_is_sum, triangle-first, triangle-last}
use Rattle.theorems_smoothness.specs.Polynomial.{coefficient, value, ◌+ᵖ◌, ◌·ᵖ◌, ◌*ᵖ◌, power, derivative, iterated}
use Rattle.theorems_smoothness.specs.Bernstein.{passed, ahead, bernstein_polynomial, bernstein_form}
use Rattle.theorems_smoothness.proofs.Polynomial.{coefficient_multiple, coefficient-total, shift, shift_map, shift_mul, linear, linear_ext}
use Rattle.theorems_smoothness.proofs.Polynomial.{times_linear_left, times_linear_right, value_multiple, value-times, value-power, value-total}
use Rattle.theorems_smoothness.proofs.Polynomial.{differential, differential_ext, differential_add, differential_linear, coefficient-derivative}
use Rattle.theorems_smoothness.proofs.Polynomial.{derivative_ext}

-- ---- linear factors and sums

linear_mul : (a b c : ℚ) (f : ℕ → ℚ) (i : ℕ) → linear a b (λ i. c *ᵠ f i) i ≡ c *ᵠ linear a b f i
unfolding linear
linear_mul a b c f i = ap (λ u. a *ᵠ (c *ᵠ f i) +ᵠ b *ᵠ u) (shift_mul c f i) ∙ ring ℚ-ring (a ∷ b ∷ c ∷ f i ∷ shift f i ∷ []) (search reads depth 20) (search reads depth 20) refl

linear_mix : (a b c : ℚ) (f g : ℕ → ℚ) (i : ℕ) → linear a b (λ i. f i +ᵠ c *ᵠ g i) i ≡ linear a b f i +ᵠ c *ᵠ linear a b g i
unfolding linear
linear_mix a b c f g i = ap (λ u. a *ᵠ (f i +ᵠ c *ᵠ g i) +ᵠ b *ᵠ u) (shift_map (λ x y. x +ᵠ c *ᵠ y) (ring ℚ-ring (c ∷ []) (search readsℚ) (search readsℚ) refl) f g i)
    ∙ ring ℚ-ring (a ∷ b ∷ c ∷ f i ∷ g i ∷ shift f i ∷ shift g i ∷ []) (search reads depth 20) (search reads depth 20) refl

linear_sub : (a b c : ℚ) (f g : ℕ → ℚ) (i : ℕ) → linear a b (λ i. c *ᵠ (f i -ᵠ g i)) i ≡ c *ᵠ (linear a b f i -ᵠ linear a b g i)
unfolding linear
linear_sub a b c f g i = ap (λ u. a *ᵠ (c *ᵠ (f i -ᵠ g i)) +ᵠ b *ᵠ u) (shift_map (λ x y. c *ᵠ (x -ᵠ y)) (ring ℚ-ring (c ∷ []) (search readsℚ) (search readsℚ) refl) f g i)
    ∙ ring ℚ-ring (a ∷ b ∷ c ∷ f i ∷ g i ∷ shift f i ∷ shift g i ∷ []) (search reads depth 20) (search reads depth 20) refl

linear_none : (a b : ℚ) {f : ℕ → ℚ} → ((i : ℕ) → f i ≡ int (pos 0)) → (i : ℕ) → linear a b f i ≡ int (pos 0)
unfolding linear
linear_none a b h i =
    linear_ext a b h i ∙ ap (λ u. a *ᵠ int (pos 0) +ᵠ b *ᵠ u) (shift_map (λ x y. int (pos 0)) refl (λ i. a) (λ i. a) i)
    ∙ ring ℚ-ring (a ∷ b ∷ []) (search readsℚ) (search readsℚ) refl

linear_sum : (a b : ℚ) (n : ℕ) (o : ℕ → ℚ) (F : ℕ → ℕ → ℚ) (i : ℕ) → linear a b (λ i. sum n (λ t. o t *ᵠ F t i)) i ≡ sum n (λ t. o t *ᵠ linear a b (F t) i)
unfolding sum
linear_sum a b zero o F i = linear_none a b (λ i. refl) i
linear_sum a b (suc n) o F i = linear_mix a b (o n) (λ i. sum n (λ t. o t *ᵠ F t i)) (F n) i ∙ ap (λ u. u +ᵠ o n *ᵠ linear a b (F n) i) (linear_sum a b n o F i)

module _ (h : ℕ) where
  -- the factors x / h and 1 - x / h
  rise : (ℕ → ℚ) → ℕ → ℚ
  rise f = linear (int (pos 0)) (inv (int (pos h))) f

  sink : (ℕ → ℚ) → ℕ → ℚ
  sink f = linear (int (pos 1)) (-ᵠ inv (int (pos h))) f

  -- ---- Pascal's rule

  -- the coefficients of (x / h)^t (1 - x / h)^n
  monomial : ℕ → ℕ → ℕ → ℚ
  monomial t n = coefficient (power (passed h) t *ᵖ power (ahead h) n)

  monomial_left : (t n i : ℕ) → monomial (suc t) n i ≡ rise (monomial t n) i
  unfolding monomial rise power
  monomial_left t n i = times_linear_left (int (pos 0)) (inv (int (pos h))) (power (passed h) t) (power (ahead h) n) i

  monomial_right : (t n i : ℕ) → monomial t (suc n) i ≡ sink (monomial t n) i
  unfolding monomial sink power
  monomial_right t n i = times_linear_right (int (pos 1)) (-ᵠ inv (int (pos h))) (power (passed h) t) (power (ahead h) n) i

  -- the coefficients of Bernstein polynomial t
  basis : ℕ → ℕ → ℕ → ℚ
  basis n t i = int (pos (binomial n t)) *ᵠ monomial t (n - t) i

  -- the linear factors on it
  rise_basis : (n t i : ℕ) → rise (basis n t) i ≡ int (pos (binomial n t)) *ᵠ monomial (suc t) (n - t) i
  unfolding basis rise
  rise_basis n t i = linear_mul _ _ (int (pos (binomial n t))) (monomial t (n - t)) i ∙ ap (λ u. int (pos (binomial n t)) *ᵠ u) (sym (monomial_left t (n - t) i))

  sink_basis : (n t i : ℕ) → sink (basis n t) i ≡ int (pos (binomial n t)) *ᵠ monomial t (suc (n - t)) i
  unfolding basis sink
  sink_basis n t i = linear_mul _ _ (int (pos (binomial n t))) (monomial t (n - t)) i ∙ ap (λ u. int (pos (binomial n t)) *ᵠ u) (sym (monomial_right t (n - t) i))

  -- the coefficients of the polynomial with the ordinates o
  form : ℕ → (ℕ → ℚ) → ℕ → ℚ
  form n o i = sum (suc n) (λ t. o t *ᵠ basis n t i)

  form_is : (n : ℕ) (o : ℕ → ℚ) (i : ℕ) → coefficient (bernstein_form h n o) i ≡ form n o i
  unfolding bernstein_form bernstein_polynomial form basis monomial
  form_is n o i = coefficient-total (suc n) (λ t. o t ·ᵖ bernstein_polynomial h n t) i
      ∙ sum_ext (suc n) (λ t l. coefficient_multiple (o t) (bernstein_polynomial h n t) i
      ∙ ap (λ u. o t *ᵠ u) (coefficient_multiple (int (pos (binomial n t))) (power (passed h) t *ᵖ power (ahead h) (n - t)) i))

  -- the linear factors on a sum
  sunk : (n : ℕ) (o : ℕ → ℚ) (i : ℕ) → sum (suc n) (λ t. o t *ᵠ sink (basis n t) i) ≡ sink (form n o) i
  unfolding form sink
  sunk n o i = sym (linear_sum (int (pos 1)) (-ᵠ inv (int (pos h))) (suc n) o (basis n) i)

  risen : (n : ℕ) (o : ℕ → ℚ) (i : ℕ) → sum (suc n) (λ t. o t *ᵠ rise (basis n t) i) ≡ rise (form n o) i
  unfolding form rise
  risen n o i = sym (linear_sum (int (pos 0)) (inv (int (pos h))) (suc n) o (basis n) i)

  -- one more degree: the two neighbouring forms, blended
  form_suc : (n : ℕ) (o : ℕ → ℚ) (i : ℕ) → form (suc n) o i ≡ sink (form n o) i +ᵠ rise (form n (λ t. o (suc t))) i
  unfolding form basis
  form_suc n o i =
      sum_ext (suc (suc n)) (λ t l. swap (o t) (int (pos (binomial (suc n) t))) (monomial t (suc n - t) i))
      ∙ binomial_sum_suc n (λ t m. o t *ᵠ monomial t m i)
      ∙ ap₂ ◌+ᵠ◌
      (sum_ext (suc n) (λ t l. sym (swap (o t) (int (pos (binomial n t))) (monomial t (suc (n - t)) i)) ∙ ap (λ u. o t *ᵠ u) (sym (sink_basis n t i))) ∙ sunk n o i)
      (sum_ext (suc n) (λ t l. sym (swap (o (suc t)) (int (pos (binomial n t))) (monomial (suc t) (n - t) i)) ∙ ap (λ u. o (suc t) *ᵠ u) (sym (rise_basis n t i))) ∙ risen n (λ t. o (suc t)) i)
    where
      swap : (a b c : ℚ) → a *ᵠ (b *ᵠ c) ≡ b *ᵠ (a *ᵠ c)
      swap a b c = ring ℚ-ring (a ∷ b ∷ c ∷ []) (search reads) (search reads) refl

  -- ---- the derivative

  -- the product rule on the blend
  blend-derivative : (n : ℕ) (o : ℕ → ℚ) (i : ℕ) → differential (form (suc n) o) i
      ≡ sink (differential (form n o)) i +ᵠ rise (differential (form n (λ t. o (suc t)))) i +ᵠ inv (int (pos h)) *ᵠ (form n (λ t. o (suc t)) i -ᵠ form n o i)
  unfolding sink rise
  blend-derivative n o i = differential_ext (form_suc n o) i ∙ differential_add (sink (form n o)) (rise (form n (λ t. o (suc t)))) i
      ∙ ap₂ ◌+ᵠ◌ (differential_linear (int (pos 1)) (-ᵠ inv (int (pos h))) (form n o) i) (differential_linear (int (pos 0)) (inv (int (pos h))) (form n (λ t. o (suc t))) i)
      ∙ regroup (sink (differential (form n o)) i) (inv (int (pos h))) (form n o i) (rise (differential (form n (λ t. o (suc t)))) i) (form n (λ t. o (suc t)) i)
    where
      regroup : (s r f u g : ℚ) → s +ᵠ -ᵠ r *ᵠ f +ᵠ (u +ᵠ r *ᵠ g) ≡ s +ᵠ u +ᵠ r *ᵠ (g -ᵠ f)
      regroup s r f u g = ring ℚ-ring (s ∷ r ∷ f ∷ u ∷ g ∷ []) (search reads depth 20) (search reads depth 20) refl

  -- a constant
  form_constant : (o : ℕ → ℚ) (i : ℕ) → differential (form 0 o) i ≡ int (pos 0)
  unfolding differential form basis monomial power sum ◌*ᵖ◌ ◌·ᵖ◌ ◌+ᵖ◌
  form_constant o i = ring ℚ-ring (int (pos (suc i)) ∷ o 0 ∷ int (pos (binomial 0 0)) ∷ []) (search readsℚ depth 20) (search readsℚ depth 20) refl

  form_derivative : (n : ℕ) (o : ℕ → ℚ) (i : ℕ) → differential (form (suc n) o) i ≡ int (pos (suc n)) /ᵠ int (pos h) *ᵠ (form n (λ t. o (suc t)) i -ᵠ form n o i)
  unfolding sink rise
  form_derivative zero o i = blend-derivative 0 o i
      ∙ ap₂ (λ u v. u +ᵠ v +ᵠ inv (int (pos h)) *ᵠ (form 0 (λ t. o (suc t)) i -ᵠ form 0 o i)) (linear_none _ _ (form_constant o) i) (linear_none _ _ (form_constant (λ t. o (suc t))) i)
      ∙ ring ℚ-ring (inv (int (pos h)) ∷ form 0 (λ t. o (suc t)) i ∷ form 0 o i ∷ []) (search readsℚ depth 20) (search readsℚ depth 20) refl
  form_derivative (suc n) o i = blend-derivative (suc n) o i
      ∙ ap₂ (λ u v. u +ᵠ v +ᵠ inv (int (pos h)) *ᵠ (form (suc n) o' i -ᵠ form (suc n) o i))
      (linear_ext _ _ (form_derivative n o) i ∙ linear_sub _ _ c (form n o') (form n o) i)
      (linear_ext _ _ (form_derivative n o') i ∙ linear_sub _ _ c (form n (λ t. o (suc (suc t)))) (form n o') i)
      ∙ collect (int (pos (suc n))) (inv (int (pos h))) (sink (form n o') i) (sink (form n o) i) (rise (form n (λ t. o (suc (suc t)))) i) (rise (form n o') i) (form (suc n) o' i -ᵠ form (suc n) o i)
      ∙ ap₂ (λ u v. int (pos (suc n)) *ᵠ inv (int (pos h)) *ᵠ (u -ᵠ v) +ᵠ inv (int (pos h)) *ᵠ (form (suc n) o' i -ᵠ form (suc n) o i)) (sym (form_suc n o' i)) (sym (form_suc n o i))
      ∙ together (int (pos (suc n))) (inv (int (pos h))) (form (suc n) o' i -ᵠ form (suc n) o i)
      ∙ ap (λ m. m *ᵠ inv (int (pos h)) *ᵠ (form (suc n) o' i -ᵠ form (suc n) o i)) (sym (int_suc (suc n)))
    where
      o' : ℕ → ℚ
      o' t = o (suc t)

      c : ℚ
      c = int (pos (suc n)) /ᵠ int (pos h)

      collect : (m r a b c d e : ℚ) → m *ᵠ r *ᵠ (a -ᵠ b) +ᵠ m *ᵠ r *ᵠ (c -ᵠ d) +ᵠ r *ᵠ e ≡ m *ᵠ r *ᵠ ((a +ᵠ c) -ᵠ (b +ᵠ d)) +ᵠ r *ᵠ e
      collect m r a b c d e = ring ℚ-ring (m ∷ r ∷ a ∷ b ∷ c ∷ d ∷ e ∷ []) (search reads depth 20) (search reads depth 20) refl

      together : (m r e : ℚ) → m *ᵠ r *ᵠ e +ᵠ r *ᵠ e ≡ (m +ᵠ int (pos 1)) *ᵠ r *ᵠ e
      together m r e = ring ℚ-ring (m ∷ r ∷ e ∷ []) (search readsℚ depth 20) (search readsℚ depth 20) refl

  -- a form is linear in its ordinates
  form_sub : (n : ℕ) (c : ℚ) (x y : ℕ → ℚ) (i : ℕ) → form n (λ t. c *ᵠ (x t -ᵠ y t)) i ≡ c *ᵠ (form n x i -ᵠ form n y i)
  unfolding form
  form_sub n c x y i = sum_ext (suc n) (λ t l. spread c (x t) (y t) (basis n t i))
      ∙ sum_mul (suc n) c (λ t. x t *ᵠ basis n t i -ᵠ y t *ᵠ basis n t i) ∙ ap (λ u. c *ᵠ u) (sum_sub (suc n) (λ t. x t *ᵠ basis n t i) (λ t. y t *ᵠ basis n t i))
    where
      spread : (c x y b : ℚ) → c *ᵠ (x -ᵠ y) *ᵠ b ≡ c *ᵠ (x *ᵠ b -ᵠ y *ᵠ b)
      spread c x y b = ring ℚ-ring (c ∷ x ∷ y ∷ b ∷ []) (search reads depth 20) (search reads depth 20) refl

  -- The derivative is the form of one degree less whose ordinates are the differences, times the degree over the length.
  pub bernstein_form-derivative : (n : ℕ) (o : ℕ → ℚ) (i : ℕ) → coefficient (derivative (bernstein_form h (suc n) o)) i
      ≡ coefficient (bernstein_form h n (λ t. int (pos (suc n)) /ᵠ int (pos h) *ᵠ (o (suc t) -ᵠ o t))) i
  bernstein_form-derivative n o i = coefficient-derivative (bernstein_form h (suc n) o) i ∙ differential_ext (form_is (suc n) o) i
      ∙ form_derivative n o i ∙ sym (form_sub n _ (λ t. o (suc t)) o i) ∙ sym (form_is n (λ t. int (pos (suc n)) /ᵠ int (pos h) *ᵠ (o (suc t) -ᵠ o t)) i)

  -- The k-th derivative is the form with the published recurrence's coefficients.
  pub bernstein_form-iterated : (p k : ℕ) (o : ℕ → ℚ) → k ≤ p → (i : ℕ) → coefficient (iterated k (bernstein_form h p o)) i ≡ coefficient (bernstein_form h (p - k) (derivative_coefficient p h o k)) i
  unfolding iterated derivative_coefficient
  bernstein_form-iterated p zero o l i = ap (λ n. coefficient (bernstein_form h n o) i) (let e : p ≡ p - 0 = omega arith in e)
  bernstein_form-iterated p (suc k) o l i =
      derivative_ext (iterated k (bernstein_form h p o)) (bernstein_form h (p - k) (derivative_coefficient p h o k)) (bernstein_form-iterated p k o (omega arith)) i
      ∙ go (p - k) (let e : p - k ≡ suc (p - suc k) = omega arith in e)
    where
      go : (n : ℕ) → n ≡ suc (p - suc k) → coefficient (derivative (bernstein_form h n (derivative_coefficient p h o k))) i
          ≡ coefficient (bernstein_form h (p - suc k) (λ j. int (pos n) /ᵠ int (pos h) *ᵠ (derivative_coefficient p h o k (suc j) -ᵠ derivative_coefficient p h o k j))) i
      go n e = rw e (bernstein_form-derivative (p - suc k) (derivative_coefficient p h o k) i)

  -- ---- values

  passed-value : (x : ℚ) → value (passed h) x ≡ x /ᵠ int (pos h)
  unfolding value
  passed-value x = ring ℚ-ring (x ∷ inv (int (pos h)) ∷ []) (search readsℚ depth 20) (search readsℚ depth 20) refl

  ahead-value : (x : ℚ) → value (ahead h) x ≡ int (pos 1) -ᵠ x /ᵠ int (pos h)
  unfolding value
  ahead-value x = ring ℚ-ring (x ∷ inv (int (pos h)) ∷ []) (search readsℚ depth 20) (search readsℚ depth 20) refl

  polynomial_value : (n t : ℕ) (x : ℚ) → value (bernstein_polynomial h n t) x ≡ bernstein (int (pos 1) -ᵠ x /ᵠ int (pos h)) (x /ᵠ int (pos h)) n t
  unfolding bernstein_polynomial bernstein
  polynomial_value n t x = value_multiple (int (pos (binomial n t))) (power (passed h) t *ᵖ power (ahead h) (n - t)) x
      ∙ ap (λ u. int (pos (binomial n t)) *ᵠ u) (value-times (power (passed h) t) (power (ahead h) (n - t)) x
      ∙ ap₂ ◌*ᵠ◌ (value-power (passed h) t x ∙ ap (λ u. Exact.power u t) (passed-value x)) (value-power (ahead h) (n - t) x ∙ ap (λ u. Exact.power u (n - t)) (ahead-value x)))
      ∙ sym (mul_assoc _ _ _)

  -- The values are de Casteljau's triangle.
  pub bernstein_form-value : (n : ℕ) (o : ℕ → ℚ) (x : ℚ) → value (bernstein_form h n o) x ≡ exact_triangle (int (pos 1) -ᵠ x /ᵠ int (pos h)) (x /ᵠ int (pos h)) o n 0
  unfolding bernstein_form bernstein_sum
  bernstein_form-value n o x = value-total (suc n) (λ t. o t ·ᵖ bernstein_polynomial h n t) x
      ∙ sum_ext (suc n) (λ t l. value_multiple (o t) (bernstein_polynomial h n t) x ∙ mul_comm _ _ ∙ ap₂ ◌*ᵠ◌ (polynomial_value n t x) (ap o (let e : t ≡ 0 + t = omega arith in e)))
      ∙ sym (triangle_is_sum (int (pos 1) -ᵠ x /ᵠ int (pos h)) (x /ᵠ int (pos h)) o n 0)

  pub bernstein_form-start : (n : ℕ) (o : ℕ → ℚ) → value (bernstein_form h n o) (int (pos 0)) ≡ o 0
  bernstein_form-start n o = bernstein_form-value n o (int (pos 0))
      ∙ ap₂ (λ α β. exact_triangle α β o n 0) (ap (λ u. int (pos 1) -ᵠ u) (zero-mul (inv (int (pos h)))) ∙ ring ℚ-ring [] (search readsℚ) (search readsℚ) refl) (zero-mul (inv (int (pos h))))
      ∙ triangle-first o n 0

  pub bernstein_form_end : (n : ℕ) (o : ℕ → ℚ) → 0 < h → value (bernstein_form h n o) (int (pos h)) ≡ o n
  bernstein_form_end n o l = bernstein_form-value n o (int (pos h))
      ∙ ap₂ (λ α β. exact_triangle α β o n 0) (ap (λ u. int (pos 1) -ᵠ u) (whole h l) ∙ ring ℚ-ring [] (search readsℚ) (search readsℚ) refl) (whole h l)
      ∙ triangle-last o n 0 ∙ ap o (let e : n + 0 ≡ n = omega arith in e)
    where
      whole : (h : ℕ) → 0 < h → int (pos h) /ᵠ int (pos h) ≡ int (pos 1)
      whole zero l = absurd (omega arith)
      whole (suc h) l = mul_inv (int (pos (suc h))) (int_nonzero h)
