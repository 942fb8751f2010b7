-- Straight lines, proved: their first differences are the slope times the length over the degree, and their second ones vanish, so they
-- meet every join condition; the published rows are a basis of what does.
use mathlib.Core.Path.{◌≡◌, refl, sym, ◌∙◌, ap, ap₂, subst}
use mathlib.Core.List.{[], ◌∷◌}
use Prim.Native.Nat.{ℕ, zero, suc, ◌+◌, ◌*◌, ◌-◌, ◌<◌, ◌≤◌}
use native.Mathlib.Omega.{arith}
use native.Mathlib.Nat.{pow-zero, pow-suc}
use lib.IntN.{pos, ◌-ℤ◌}
use lib.Signed.{pos-nat_abs}
use Rattle.base_exact.specs.Rational.{ℚ, int, inv, ◌+ᵠ◌, ◌-ᵠ◌, ◌*ᵠ◌, -ᵠ◌}
use Rattle.base_exact.proofs.Integer as Z
use Rattle.base_exact.proofs.Order.{pos_nonzero, pos_of_nat}
use Rattle.base_exact.proofs.Ring.{ring, by_eq}
use Rattle.base_exact.proofs.Rational.{ℚ-ring, readsℚ, mul_cancel, mul_comm, zero-mul, mul_inv, int_mul, int-add, int_sub, int_nonzero}
use Rattle.spec_spline.specs.Space.{Space, segments, break, degree, width, condition_count, first_column}
use Rattle.spec_spline.specs.Conditions.{falling, scale, conditions}
use Rattle.spec_spline.specs.Table.{Row, entry}
use Rattle.spec_spline.specs.Piecewise.{MeetsAll, Meets}
use Rattle.spec_spline.proofs.Legal.{Checked, Legal, checked_inverts, legal}
use Rattle.theorems_weights.specs.PublishedBasis.{OneCombination}
use Rattle.theorems_weights.proofs.Condition.{left_scale, right_scale, divisor, applied-conditions, divisor_pos}
use Rattle.theorems_weights.proofs.Difference.{difference, difference-zero, difference_suc}
use Rattle.theorems_weights.proofs.Published.{weights_are_published}
use Rattle.theorems_weights.proofs.PublishedBasis.{pairing-applied}
use Rattle.theorems_values.proofs.Segment.{accepted-checked, breaks_rise}
use Rattle.theorems_stages.proofs.Limits.{limits}
use Rattle.theorems_basis.proofs.Basis.{published_is_a_basis}
use Rattle.theorems_lines.specs.Lines.{place_of, Line, LinesHaveOneList, AcceptedLinesHaveOneList}

-- ---- differences of three numbers

first-difference : (x : ℕ → ℚ) → difference 1 x ≡ x 1 -ᵠ x 0
first-difference x = difference_suc 0 x ∙ ap₂ ◌-ᵠ◌ (difference-zero (λ t. x (suc t))) (difference-zero x)

second-difference : (x : ℕ → ℚ) → difference 2 x ≡ x 2 -ᵠ x 1 -ᵠ (x 1 -ᵠ x 0)
second-difference x = difference_suc 1 x ∙ ap₂ ◌-ᵠ◌ (first-difference (λ t. x (suc t))) (first-difference x)

module _ (s : Space) (c : Checked s) (start slope : ℕ → ℚ) (o : Row) (L : Line s start slope o) (j : ℕ) (inner : suc j < segments s) where
  g : Legal s
  g = legal s c

  -- the ordinates on the two sides, and their steps
  abbrev on : ℕ → ℕ → ℚ
  on i t = entry o (first_column s i + t)

  abbrev part : ℕ → ℚ
  part i = int (pos (width s i)) *ᵠ inv (int (pos (degree s i)))

  line_at : (i t : ℕ) → i < segments s → t ≤ degree s i → on i t ≡ start i +ᵠ slope i *ᵠ (int (break s i) +ᵠ part i *ᵠ int (pos t))
  unfolding place_of
  line_at i t h l = L.ordinates i t h l ∙ ap (λ q. start i +ᵠ slope i *ᵠ (int (break s i) +ᵠ q)) (alg (int (pos (width s i))) (int (pos t)) (inv (int (pos (degree s i)))))
    where
      alg : (w t d : ℚ) → w *ᵠ t *ᵠ d ≡ w *ᵠ d *ᵠ t
      alg w t d = ring ℚ-ring (w ∷ t ∷ d ∷ []) (search readsℚ depth 20) (search readsℚ depth 20) refl

  -- one step along a segment
  step : (i t : ℕ) → i < segments s → suc t ≤ degree s i → on i (suc t) -ᵠ on i t ≡ slope i *ᵠ part i
  step i t h l = ap₂ ◌-ᵠ◌ (line_at i (suc t) h l) (line_at i t h (omega arith))
      ∙ ap (λ q. start i +ᵠ slope i *ᵠ (int (break s i) +ᵠ part i *ᵠ q) -ᵠ (start i +ᵠ slope i *ᵠ (int (break s i) +ᵠ part i *ᵠ int (pos t)))) (ap (λ n. int (pos n))
      (let z : suc t ≡ t + 1 = omega arith in z) ∙ int-add (pos t) (pos 1))
      ∙ alg (start i) (slope i) (int (break s i)) (part i) (int (pos t))
    where
      alg : (a b x d t : ℚ) → a +ᵠ b *ᵠ (x +ᵠ d *ᵠ (t +ᵠ int (pos 1))) -ᵠ (a +ᵠ b *ᵠ (x +ᵠ d *ᵠ t)) ≡ b *ᵠ d
      alg a b x d t = ring ℚ-ring (a ∷ b ∷ x ∷ d ∷ t ∷ []) (search readsℚ depth 30) (search readsℚ depth 30) refl

  -- the degree times a part is the length
  whole : (i : ℕ) → 0 < degree s i → int (pos (degree s i)) *ᵠ inv (int (pos (degree s i))) ≡ int (pos 1)
  whole i h = mul_inv (int (pos (degree s i))) (pos_nonzero (pos_of_nat (degree s i) h))

  -- a condition is met where the two sides balance
  balance : (k : ℕ) → k ≤ degree s j
      → int (pos (left_scale s j k)) *ᵠ difference k (λ t. entry o (first_column s j + (degree s j - k + t))) -ᵠ int (pos (right_scale s j k)) *ᵠ difference k
      (λ t. entry o (first_column s (suc j) + t)) ≡ int (pos 0)
      → Meets s o j k
  balance k h e = pairing-applied o (conditions s j k) ∙ cancel (divisor s j k) (divisor_pos s j k h (g.positive_width (suc j) inner)) (applied-conditions s j k (entry o) ∙ e)
    where
      cancel : (d : ℕ) {v : ℚ} → 0 < d → int (pos d) *ᵠ v ≡ int (pos 0) → v ≡ int (pos 0)
      cancel zero p e = absurd (omega arith)
      cancel (suc d) {v} p e = mul_cancel (int_nonzero d) (mul_comm v (int (pos (suc d))) ∙ e ∙ sym (zero-mul (int (pos (suc d)))))

  module _ (joined : 0 < condition_count s j) where
    left-degree : condition_count s j ≤ degree s j
    left-degree = g.below-left-degree j (omega arith)

    right-degree : condition_count s j ≤ degree s (suc j)
    right-degree = g.below-right-degree j (omega arith)

    -- the next breakpoint
    next : int (break s j) +ᵠ int (pos (width s j)) ≡ int (break s (suc j))
    next = ap (λ z. int (break s j) +ᵠ int z) (pos-nat_abs (break s (suc j) -ℤ break s j) (Z.le_sub (break s j) (break s (suc j)) (Z.<-≤ _ _ (breaks_rise s c j (omega arith)))))
        ∙ ap (λ q. int (break s j) +ᵠ q) (int_sub (break s (suc j)) (break s j)) ∙ alg (int (break s j)) (int (break s (suc j)))
      where
        alg : (x y : ℚ) → x +ᵠ (y -ᵠ x) ≡ y
        alg x y = ring ℚ-ring (x ∷ y ∷ []) (search readsℚ depth 20) (search readsℚ depth 20) refl

    -- the two ordinates at the join
    meet_values : on j (degree s j) ≡ on (suc j) 0
    meet_values =
        line_at j (degree s j) (omega arith) (omega arith)
        ∙ ap (λ q. start j +ᵠ slope j *ᵠ (int (break s j) +ᵠ q)) (by_eq ℚ-ring (int (pos (width s j))) (whole j (omega (arith, left-degree)))
        (ring ℚ-ring (int (pos (width s j)) ∷ int (pos (degree s j)) ∷ inv (int (pos (degree s j))) ∷ []) (search readsℚ depth 20) (search readsℚ depth 20) refl))
        ∙ ap (λ q. start j +ᵠ slope j *ᵠ q) next
        ∙ ap₂ (λ a b. a +ᵠ b *ᵠ int (break s (suc j))) (L.kept j inner joined).0 (L.kept j inner joined).1
        ∙ alg (start (suc j)) (slope (suc j)) (int (break s (suc j))) (part (suc j))
        ∙ sym (line_at (suc j) 0 inner (omega arith))
      where
        alg : (a b x d : ℚ) → a +ᵠ b *ᵠ x ≡ a +ᵠ b *ᵠ (x +ᵠ d *ᵠ int (pos 0))
        alg a b x d = ring ℚ-ring (a ∷ b ∷ x ∷ d ∷ []) (search readsℚ depth 20) (search readsℚ depth 20) refl

    at_left : (k t : ℕ) (n : ℕ) → degree s j - k + t ≡ n → entry o (first_column s j + (degree s j - k + t)) ≡ on j n
    at_left k t n e = ap (λ m. entry o (first_column s j + m)) e

    zero-balance : (a b x y : ℚ) → a ≡ b → x ≡ y → a *ᵠ x -ᵠ b *ᵠ y ≡ int (pos 0)
    zero-balance a b x y e f = ap₂ (λ p q. p *ᵠ q -ᵠ b *ᵠ y) e f ∙ ring ℚ-ring (b ∷ y ∷ []) (search readsℚ depth 20) (search readsℚ depth 20) refl

    order_0 : Meets s o j 0
    unfolding left_scale right_scale falling
    order_0 = balance 0 (omega arith) (zero-balance _ _ _ _ (ap (λ n. int (pos n)) (ap (λ m. 1 * m) (pow-zero (width s (suc j)) ∙ sym (pow-zero (width s j)))))
        (difference-zero (λ t. entry o (first_column s j + (degree s j - 0 + t))) ∙ at_left 0 0 (degree s j) (omega arith) ∙ meet_values
        ∙ sym (difference-zero (λ t. entry o (first_column s (suc j) + t)))))

    order_1 : 1 < condition_count s j → Meets s o j 1
    unfolding left_scale right_scale falling
    order_1 h = balance 1 (omega (arith, left-degree))
        (ap₂ (λ x y. int (pos (scale (degree s j) 1 (width s (suc j)))) *ᵠ x -ᵠ int (pos (scale (degree s (suc j)) 1 (width s j))) *ᵠ y)
        (first-difference (λ t. entry o (first_column s j + (degree s j - 1 + t)))
        ∙ ap₂ ◌-ᵠ◌ (at_left 1 1 (suc (degree s j - 1)) (omega (arith, left-degree))) (at_left 1 0 (degree s j - 1) (omega arith))
        ∙ step j (degree s j - 1) (omega arith) (omega (arith, left-degree)))
        (first-difference (λ t. entry o (first_column s (suc j) + t)) ∙ step (suc j) 0 inner (omega (arith, right-degree)))
        ∙ ap₂ (λ x y. x *ᵠ (slope j *ᵠ part j) -ᵠ y *ᵠ (slope (suc j) *ᵠ part (suc j))) (sized (degree s j) (width s (suc j))) (sized (degree s (suc j)) (width s j))
        ∙ ap (λ b. int (pos (degree s j)) *ᵠ int (pos (width s (suc j))) *ᵠ (b *ᵠ part j) -ᵠ int (pos (degree s (suc j))) *ᵠ int (pos (width s j)) *ᵠ (slope
        (suc j) *ᵠ part (suc j))) (L.kept j inner joined).1
        ∙ by_eq ℚ-ring (slope (suc j) *ᵠ int (pos (width s j)) *ᵠ int (pos (width s (suc j)))) (whole j (omega (arith, left-degree)))
        (by_eq ℚ-ring (-ᵠ (slope (suc j) *ᵠ int (pos (width s j)) *ᵠ int (pos (width s (suc j))))) (whole (suc j) (omega (arith, right-degree)))
        (ring ℚ-ring (slope (suc j) ∷ int (pos (width s j)) ∷ int (pos (width s (suc j))) ∷ int (pos (degree s j)) ∷ inv (int (pos (degree s j))) ∷ int (pos (degree s
        (suc j))) ∷ inv (int (pos (degree s (suc j)))) ∷ [])
        (search readsℚ depth 30) (search readsℚ depth 30) refl)))
      where
        sized : (p w : ℕ) → int (pos (scale p 1 w)) ≡ int (pos p) *ᵠ int (pos w)
        sized p w = ap (λ n. int (pos n)) (ap₂ ◌*◌ (let z : 1 * (p - 0) ≡ p = omega arith in z) (pow-suc w 0 ∙ ap (λ n. n * w) (pow-zero w)
            ∙ (let z : 1 * w ≡ w = omega arith in z))) ∙ int_mul (pos p) (pos w)

    order_2 : 2 < condition_count s j → Meets s o j 2
    order_2 h = balance 2 (omega (arith, left-degree))
        (ap₂ (λ x y. int (pos (left_scale s j 2)) *ᵠ x -ᵠ int (pos (right_scale s j 2)) *ᵠ y)
        (second-difference (λ t. entry o (first_column s j + (degree s j - 2 + t)))
        ∙ ap₂ ◌-ᵠ◌ (ap₂ ◌-ᵠ◌ (at_left 2 2 (suc (suc (degree s j - 2))) (omega (arith, left-degree))) (at_left 2 1 (suc (degree s j - 2)) (omega (arith, left-degree)))
        ∙ step j (suc (degree s j - 2)) (omega arith) (omega (arith, left-degree)))
        (ap₂ ◌-ᵠ◌ (at_left 2 1 (suc (degree s j - 2)) (omega (arith, left-degree))) (at_left 2 0 (degree s j - 2) (omega arith)) ∙ step j (degree s j - 2) (omega arith) (omega (arith, left-degree))))
        (second-difference (λ t. entry o (first_column s (suc j) + t)) ∙ ap₂ ◌-ᵠ◌ (step (suc j) 1 inner (omega (arith, right-degree))) (step (suc j) 0 inner (omega (arith, right-degree))))
        ∙ ring ℚ-ring (int (pos (left_scale s j 2)) ∷ int (pos (right_scale s j 2)) ∷ slope j *ᵠ part j ∷ slope (suc j) *ᵠ part (suc j) ∷ []) (search readsℚ depth 20) (search readsℚ depth 20) refl)

-- ---- the statements

line_meets : (s : Space) → Checked s → (start slope : ℕ → ℚ) (o : Row) → Line s start slope o → MeetsAll s o
line_meets s c start slope o L = record { columns = L.columns; meets = met }
  where
    met : (j k : ℕ) → j < segments s - 1 → k < condition_count s j → Meets s o j k
    met j zero h l = order_0 s c start slope o L j (omega arith) (omega arith)
    met j (suc zero) h l = order_1 s c start slope o L j (omega arith) (omega arith) (omega arith)
    met j (suc (suc zero)) h l = order_2 s c start slope o L j (omega arith) (omega arith) (omega arith)
    met j (suc (suc (suc k))) h l = absurd (omega (arith, (limits s c).few_conditions j h))

pub lines_have_one_list : LinesHaveOneList
lines_have_one_list s e start slope o L = (published_is_a_basis s e).one_combination o (line_meets s (checked_inverts s e).1 start slope o L)

pub accepted-lines_have_one_list : AcceptedLinesHaveOneList
accepted-lines_have_one_list s a start slope o L = let p = accepted-checked s a in
    subst (λ t. OneCombination s t o) (sym (weights_are_published s a)) (lines_have_one_list s p.0 start slope o L)
