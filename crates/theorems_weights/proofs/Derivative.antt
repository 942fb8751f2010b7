-- The published constraints are the specification's conditions up to a factor: the derivatives of the Bernstein pieces at the
-- two sides of a join are finite differences of the ordinates, times falling factorials over powers of the lengths, and
-- clearing those powers gives the conditions before their division.
use mathlib.Core.Path.{◌≡◌, refl, sym, ◌∙◌, ap, ap₂}
use mathlib.Core.Logic.{◌≢◌, ◌⊎◌, inl, inr}
use mathlib.Core.Bool.{cond}
use mathlib.Core.List.{[], ◌∷◌}
use Prim.Native.Nat.{ℕ, zero, suc, ◌+◌, ◌-◌, ◌*◌, ◌^◌, ◌<◌, ◌≤◌}
use native.Mathlib.Omega.{arith}
use native.Mathlib.Nat.{pow-zero, pow-suc, zero-add, one-le-pow, mul-pos}
use lib.Dec.{eqb, leb, ltb, eqb→eq, eqb_refl, not_T, le→leb, lt→ltb}
use lib.Arith.{lt→nleb, le→nltb}
use lib.IntN.{pos}
use Rattle.base_exact.specs.Rational.{ℚ, ◌+ᵠ◌, ◌*ᵠ◌, -ᵠ◌, ◌-ᵠ◌, ◌/ᵠ◌, int, inv}
use Rattle.base_exact.specs.Sum.{sum}
use Rattle.base_exact.proofs.Decide.{le_or_lt, holds_true, fails_false, cond_true, cond_false}
use Rattle.base_exact.proofs.Ring.{ring, reads}
use Rattle.base_exact.proofs.Rational.{ℚ-ring, readsℚ, int_mul, int_nonzero, mul_inv, mul-zero, mul-one, mul_cancel, mul_nonzero, inv_nonzero, div_mul, one-mul}
use Rattle.base_exact.proofs.Sum.{sum_ext, sum-only, sum_mul, sum-split, sum-skip, sum_past}
use Rattle.spec_spline.specs.Space.{Space, segments, degree, width, first_column, column_count}
use Rattle.spec_spline.specs.Conditions.{falling, conditions}
use Rattle.spec_published.specs.Published.{derivative_coefficient, bernstein, derivative_at_left, derivative_at_right, left_constraint, right_constraint, constraint}
use Rattle.spec_spline.proofs.Space.{first_column_mono}
use Rattle.theorems_weights.proofs.Functional.{applied}
use Rattle.theorems_weights.proofs.Difference.{difference, difference_ext, difference-zero, difference_suc, difference-sum, difference-none}
use Rattle.theorems_weights.proofs.Condition.{left_scale, right_scale, divisor, divisor_pos, applied-conditions, neg_out}

-- ---- derivatives as differences

-- F(p, k) / h^k, as the recurrence makes it.
pub rate : ℕ → ℕ → ℕ → ℚ
rate p h zero = int (pos 1)
rate p h (suc k) = int (pos (p - k)) /ᵠ int (pos h) *ᵠ rate p h k

pub derivative-difference : (p h : ℕ) (f : ℕ → ℚ) (k j : ℕ) → derivative_coefficient p h f k j ≡ rate p h k *ᵠ difference k (λ t. f (j + t))
unfolding derivative_coefficient rate
derivative-difference p h f zero j = sym (ap (λ u. int (pos 1) *ᵠ u) (difference-zero (λ t. f (j + t)) ∙ ap f (let e : j + 0 ≡ j = omega arith in e)) ∙ one-mul (f j))
derivative-difference p h f (suc k) j =
    ap₂ (λ a b. int (pos (p - k)) /ᵠ int (pos h) *ᵠ (a -ᵠ b))
    (derivative-difference p h f k (suc j) ∙ ap (λ u. rate p h k *ᵠ u) (difference_ext k (λ t l. ap f (let e : suc j + t ≡ j + suc t = omega arith in e))))
    (derivative-difference p h f k j)
    ∙ factor_out (int (pos (p - k)) /ᵠ int (pos h)) (rate p h k) (difference k (λ t. f (j + suc t))) (difference k (λ t. f (j + t)))
    ∙ ap (λ u. int (pos (p - k)) /ᵠ int (pos h) *ᵠ rate p h k *ᵠ u) (sym (difference_suc k (λ t. f (j + t))))
  where
    factor_out : (c r a b : ℚ) → c *ᵠ (r *ᵠ a -ᵠ r *ᵠ b) ≡ c *ᵠ r *ᵠ (a -ᵠ b)
    factor_out c r a b = ring ℚ-ring (c ∷ r ∷ a ∷ b ∷ []) (search readsℚ depth 20) (search readsℚ depth 20) refl

rate_cleared : (p h k : ℕ) → 0 < h → rate p h k *ᵠ int (pos (h ^ k)) ≡ int (pos (falling p k))
unfolding rate falling
rate_cleared p h zero l = ap (λ n. int (pos 1) *ᵠ int (pos n)) (pow-zero h) ∙ one-mul (int (pos 1))
rate_cleared p h (suc k) l =
    ap (λ n. int (pos (p - k)) /ᵠ int (pos h) *ᵠ rate p h k *ᵠ n) (ap (λ n. int (pos n)) (pow-suc h k) ∙ int_mul (pos (h ^ k)) (pos h))
    ∙ regroup (int (pos (p - k))) (inv (int (pos h))) (rate p h k) (int (pos (h ^ k))) (int (pos h))
    ∙ ap₂ (λ a b. a *ᵠ (int (pos (p - k)) *ᵠ b)) (rate_cleared p h k l) (positive h l)
    ∙ ap (λ u. int (pos (falling p k)) *ᵠ u) (mul-one (int (pos (p - k)))) ∙ sym (int_mul (pos (falling p k)) (pos (p - k)))
  where
    regroup : (a b r e h : ℚ) → a *ᵠ b *ᵠ r *ᵠ (e *ᵠ h) ≡ r *ᵠ e *ᵠ (a *ᵠ (h *ᵠ b))
    regroup a b r e h = ring ℚ-ring (a ∷ b ∷ r ∷ e ∷ h ∷ []) (search reads depth 20) (search reads depth 20) refl

    positive : (h : ℕ) → 0 < h → int (pos h) *ᵠ inv (int (pos h)) ≡ int (pos 1)
    positive zero l = absurd (omega arith)
    positive (suc h) l = mul_inv (int (pos (suc h))) (int_nonzero h)

-- ---- the Bernstein pieces

bernstein-same : (t : ℕ) → bernstein t t ≡ int (pos 1)
bernstein-same t = cond_true (int (pos 1)) (int (pos 0)) (holds_true (eqb t t) (eqb_refl t))

bernstein_other : (t j : ℕ) → j ≢ t → bernstein t j ≡ int (pos 0)
bernstein_other t j h = cond_false (int (pos 1)) (int (pos 0)) (fails_false (eqb j t) (not_T (eqb j t) (λ u. h (eqb→eq j t u))))

-- ordinates times pieces: the ordinates
bernstein_picks : (n : ℕ) (z : ℕ → ℚ) (j : ℕ) → j < n → sum n (λ t. z t *ᵠ bernstein t j) ≡ z j
bernstein_picks n z j h = sum-only n j {f = λ t. z t *ᵠ bernstein t j} h (λ t l o. ap (λ u. z t *ᵠ u) (bernstein_other t j (λ e. o (sym e))) ∙ mul-zero (z t))
    ∙ ap (λ u. z j *ᵠ u) (bernstein-same j) ∙ mul-one (z j)

-- ---- the two sides of a join

left_constraint_is : (s : Space) (i k t : ℕ) → left_constraint s i k t ≡ rate (degree s i) (width s i) k *ᵠ difference k (λ u. bernstein t (degree s i - k + u))
unfolding left_constraint
left_constraint_is s i k t = go (le_or_lt (degree s i - k) t)
  where
    go : (degree s i - k ≤ t) ⊎ (t < degree s i - k)
        → cond (leb (degree s i - k) t) (derivative_at_right (degree s i) (width s i) k t) (int (pos 0))
        ≡ rate (degree s i) (width s i) k *ᵠ difference k (λ u. bernstein t (degree s i - k + u))
    go (inl h) = cond_true _ _ (holds_true (leb (degree s i - k) t) (le→leb (degree s i - k) t h)) ∙ derivative-difference (degree s i) (width s i) (bernstein t) k (degree s i - k)
    go (inr h) = cond_false _ _ (fails_false (leb (degree s i - k) t) (lt→nleb (degree s i - k) t h))
        ∙ sym (ap (λ u. rate (degree s i) (width s i) k *ᵠ u) (difference-none k (λ u l. bernstein_other t (degree s i - k + u) (λ e. omega arith))) ∙ mul-zero _)

right_constraint_is : (s : Space) (i k t : ℕ) → right_constraint s i k t ≡ -ᵠ rate (degree s (suc i)) (width s (suc i)) k *ᵠ difference k (λ u. bernstein t u)
unfolding right_constraint
right_constraint_is s i k t = go (le_or_lt t k)
  where
    r : ℚ
    r = rate (degree s (suc i)) (width s (suc i)) k

    neg_mul : (a b : ℚ) → -ᵠ (a *ᵠ b) ≡ -ᵠ a *ᵠ b
    neg_mul a b = ring ℚ-ring (a ∷ b ∷ []) (search reads) (search reads) refl

    go : (t ≤ k) ⊎ (k < t) → cond (leb t k) (-ᵠ derivative_at_left (degree s (suc i)) (width s (suc i)) k t) (int (pos 0)) ≡ -ᵠ r *ᵠ difference k (λ u. bernstein t u)
    go (inl h) = cond_true _ _ (holds_true (leb t k) (le→leb t k h))
        ∙ ap (λ u. -ᵠ u) (derivative-difference (degree s (suc i)) (width s (suc i)) (bernstein t) k 0 ∙ ap (λ u. r *ᵠ u) (difference_ext k (λ u l. ap (bernstein t) (zero-add u))))
        ∙ neg_mul r (difference k (λ u. bernstein t u))
    go (inr h) = cond_false _ _ (fails_false (leb t k) (lt→nleb t k h))
        ∙ sym (ap (λ u. -ᵠ r *ᵠ u) (difference-none k (λ u l. bernstein_other t u (λ e. omega arith))) ∙ mul-zero _)

-- a side's ordinates against its constraints
side-sum : (n k first : ℕ) (r : ℚ) (z : ℕ → ℚ) → first + k < n → sum n (λ t. z t *ᵠ (r *ᵠ difference k (λ u. bernstein t (first + u)))) ≡ r *ᵠ difference k (λ u. z (first + u))
side-sum n k first r z h =
    sum_ext n (λ t l. swap (z t) r (difference k (λ u. bernstein t (first + u)))) ∙ sum_mul n r (λ t. z t *ᵠ difference k (λ u. bernstein t (first + u)))
    ∙ ap (λ u. r *ᵠ u) (difference-sum k n z (λ t u. bernstein t (first + u)) ∙ difference_ext k (λ u l. bernstein_picks n z (first + u) (omega arith)))
  where
    swap : (a b c : ℚ) → a *ᵠ (b *ᵠ c) ≡ b *ᵠ (a *ᵠ c)
    swap a b c = ring ℚ-ring (a ∷ b ∷ c ∷ []) (search reads) (search reads) refl

-- ---- the whole column of constraints

module _ (s : Space) (i k : ℕ) where
  constraint-before : (c : ℕ) → c < first_column s i → constraint s i c k ≡ int (pos 0)
  unfolding constraint
  constraint-before c h = cond_true _ _ (holds_true (ltb c (first_column s i)) (lt→ltb c (first_column s i) h))

  constraint-left : (t : ℕ) → t < degree s i + 1 → constraint s i (first_column s i + t) k ≡ left_constraint s i k t
  unfolding constraint first_column
  constraint-left t h =
      cond_false _ _ (fails_false (ltb (first_column s i + t) (first_column s i)) (le→nltb (first_column s i + t) (first_column s i) (omega arith)))
      ∙ cond_true _ _ (holds_true (ltb (first_column s i + t) (first_column s (suc i))) (lt→ltb (first_column s i + t) (first_column s (suc i)) (omega arith)))
      ∙ ap (left_constraint s i k) (let e : first_column s i + t - first_column s i ≡ t = omega arith in e)

  constraint-right : (t : ℕ) → t < degree s (suc i) + 1 → constraint s i (first_column s (suc i) + t) k ≡ right_constraint s i k t
  unfolding constraint first_column
  constraint-right t h =
      cond_false _ _ (fails_false (ltb (first_column s (suc i) + t) (first_column s i)) (le→nltb (first_column s (suc i) + t) (first_column s i) (omega arith)))
      ∙ cond_false _ _ (fails_false (ltb (first_column s (suc i) + t) (first_column s (suc i))) (le→nltb (first_column s (suc i) + t) (first_column s (suc i)) (omega arith)))
      ∙ cond_true _ _ (holds_true (ltb (first_column s (suc i) + t) (first_column s (suc (suc i)))) (lt→ltb (first_column s (suc i) + t) (first_column s (suc (suc i))) (omega arith)))
      ∙ ap (right_constraint s i k) (let e : first_column s (suc i) + t - first_column s (suc i) ≡ t = omega arith in e)

  constraint-after : (c : ℕ) → first_column s (suc (suc i)) ≤ c → constraint s i c k ≡ int (pos 0)
  unfolding constraint first_column
  constraint-after c h =
      cond_false _ _ (fails_false (ltb c (first_column s i)) (le→nltb c (first_column s i) (omega arith)))
      ∙ cond_false _ _ (fails_false (ltb c (first_column s (suc i))) (le→nltb c (first_column s (suc i)) (omega arith)))
      ∙ cond_false _ _ (fails_false (ltb c (first_column s (suc (suc i)))) (le→nltb c (first_column s (suc (suc i))) h))

  module _ (z : ℕ → ℚ) (inner : suc i < segments s) (left : k ≤ degree s i) (right : k ≤ degree s (suc i)) where
    F : ℕ → ℚ
    F c = z c *ᵠ constraint s i c k

    left-sum : sum (first_column s (suc i)) F ≡ rate (degree s i) (width s i) k *ᵠ difference k (λ u. z (first_column s i + (degree s i - k + u)))
    unfolding F first_column
    left-sum = sum-skip (first_column s i) (degree s i + 1) F (λ c h. ap (λ u. z c *ᵠ u) (constraint-before c h) ∙ mul-zero (z c))
        ∙ sum_ext (degree s i + 1) (λ t h. ap (λ u. z (first_column s i + t) *ᵠ u) (constraint-left t h ∙ left_constraint_is s i k t))
        ∙ side-sum (degree s i + 1) k (degree s i - k) (rate (degree s i) (width s i) k) (λ t. z (first_column s i + t)) (omega arith)

    right-sum : sum (degree s (suc i) + 1) (λ t. F (first_column s (suc i) + t)) ≡ -ᵠ rate (degree s (suc i)) (width s (suc i)) k *ᵠ difference k (λ u. z (first_column s (suc i) + u))
    unfolding F
    right-sum =
        sum_ext (degree s (suc i) + 1)
        (λ t h. ap (λ u. z (first_column s (suc i) + t) *ᵠ u)
        (constraint-right t h ∙ right_constraint_is s i k t
        ∙ ap (λ u. -ᵠ rate (degree s (suc i)) (width s (suc i)) k *ᵠ u) (difference_ext k (λ u l. ap (bernstein t) (sym (zero-add u))))))
        ∙ side-sum (degree s (suc i) + 1) k 0 (-ᵠ rate (degree s (suc i)) (width s (suc i)) k) (λ t. z (first_column s (suc i) + t)) (omega arith)
        ∙ ap (λ u. -ᵠ rate (degree s (suc i)) (width s (suc i)) k *ᵠ u) (difference_ext k (λ u l. ap (λ n. z (first_column s (suc i) + n)) (zero-add u)))

    pub constraint-sum : sum (column_count s) (λ c. z c *ᵠ constraint s i c k)
        ≡ rate (degree s i) (width s i) k *ᵠ difference k (λ u. z (first_column s i + (degree s i - k + u))) -ᵠ rate (degree s (suc i))
        (width s (suc i)) k *ᵠ difference k (λ u. z (first_column s (suc i) + u))
    unfolding F first_column
    constraint-sum =
        sum_past (first_column s (suc (suc i))) (column_count s) F (first_column_mono s (suc (suc i)) (segments s) inner)
        (λ c h l. ap (λ u. z c *ᵠ u) (constraint-after c h) ∙ mul-zero (z c))
        ∙ sum-split (first_column s (suc i)) (degree s (suc i) + 1) F ∙ ap₂ ◌+ᵠ◌ left-sum right-sum ∙ neg_out _ _ _

-- The constraints are the conditions times a number that is not zero.
pub ratio : Space → ℕ → ℕ → ℚ
ratio s i k = int (pos (divisor s i k)) /ᵠ int (pos (width s i ^ k * width s (suc i) ^ k))

pub constraints_are_conditions : (s : Space) (i k : ℕ) (z : ℕ → ℚ) → suc i < segments s → k ≤ degree s i → k ≤ degree s (suc i) → 0 < width s i → 0 < width s (suc i)
    → sum (column_count s) (λ c. z c *ᵠ constraint s i c k) ≡ ratio s i k *ᵠ applied (conditions s i k) z
unfolding ratio left_scale right_scale
constraints_are_conditions s i k z inner left right a b =
    positive (width s i ^ k * width s (suc i) ^ k) (int (pos (divisor s i k))) (applied (conditions s i k) z) (sum (column_count s) (λ c. z c *ᵠ constraint s i c k))
    (mul-pos (one-le-pow k (width s i) a) (one-le-pow k (width s (suc i)) b))
    (ap₂ (λ u v. u *ᵠ v) (constraint-sum s i k z inner left right) (int_mul (pos (width s i ^ k)) (pos (width s (suc i) ^ k)))
    ∙ cleared (rate (degree s i) (width s i) k) (rate (degree s (suc i)) (width s (suc i)) k) _ _ (int (pos (width s i ^ k))) (int (pos (width s (suc i) ^ k)))
    ∙ scales (difference k (λ u. z (first_column s i + (degree s i - k + u)))) (difference k (λ u. z (first_column s (suc i) + u))) ∙ sym (applied-conditions s i k z))
  where
    cleared : (r q d e a b : ℚ) → (r *ᵠ d -ᵠ q *ᵠ e) *ᵠ (a *ᵠ b) ≡ r *ᵠ a *ᵠ b *ᵠ d -ᵠ q *ᵠ b *ᵠ a *ᵠ e
    cleared r q d e a b = ring ℚ-ring (r ∷ q ∷ d ∷ e ∷ a ∷ b ∷ []) (search readsℚ depth 20) (search readsℚ depth 20) refl

    scales : (d e : ℚ) → rate (degree s i) (width s i) k *ᵠ int (pos (width s i ^ k)) *ᵠ int (pos (width s (suc i) ^ k)) *ᵠ d -ᵠ rate (degree s (suc i))
        (width s (suc i)) k *ᵠ int (pos (width s (suc i) ^ k)) *ᵠ int (pos (width s i ^ k)) *ᵠ e
        ≡ int (pos (left_scale s i k)) *ᵠ d -ᵠ int (pos (right_scale s i k)) *ᵠ e
    scales d e = ap₂ (λ u v. u *ᵠ d -ᵠ v *ᵠ e)
        (ap (λ u. u *ᵠ int (pos (width s (suc i) ^ k))) (rate_cleared (degree s i) (width s i) k a) ∙ sym (int_mul (pos (falling (degree s i) k)) (pos (width s (suc i) ^ k))))
        (ap (λ u. u *ᵠ int (pos (width s i ^ k))) (rate_cleared (degree s (suc i)) (width s (suc i)) k b) ∙ sym (int_mul (pos (falling (degree s (suc i)) k)) (pos (width s i ^ k))))

    positive : (m : ℕ) (g x y : ℚ) → 0 < m → y *ᵠ int (pos m) ≡ g *ᵠ x → y ≡ g /ᵠ int (pos m) *ᵠ x
    positive zero g x y h e = absurd (omega arith)
    positive (suc m) g x y h e = mul_cancel (int_nonzero m) (e ∙ sym (regroup g (inv (int (pos (suc m)))) x (int (pos (suc m))) ∙ ap (λ u. u *ᵠ x) (div_mul g (int (pos (suc m))) (int_nonzero m))))
      where
        regroup : (g v x m : ℚ) → g *ᵠ v *ᵠ x *ᵠ m ≡ g *ᵠ v *ᵠ m *ᵠ x
        regroup g v x m = ring ℚ-ring (g ∷ v ∷ x ∷ m ∷ []) (search reads) (search reads) refl

pub ratio_nonzero : (s : Space) (i k : ℕ) → k ≤ degree s i → 0 < width s i → 0 < width s (suc i) → ratio s i k ≢ int (pos 0)
unfolding ratio
ratio_nonzero s i k h a b = go (divisor s i k) (width s i ^ k * width s (suc i) ^ k) (divisor_pos s i k h b) (mul-pos (one-le-pow k (width s i) a) (one-le-pow k (width s (suc i)) b))
  where
    go : (g m : ℕ) → 0 < g → 0 < m → int (pos g) /ᵠ int (pos m) ≢ int (pos 0)
    go zero m p q = absurd (omega arith)
    go (suc g) zero p q = absurd (omega arith)
    go (suc g) (suc m) p q = mul_nonzero (int_nonzero g) (inv_nonzero (int_nonzero m))
