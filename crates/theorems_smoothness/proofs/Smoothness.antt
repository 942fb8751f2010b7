-- The join conditions are smoothness, proved: the one-sided derivatives at a join are the published recurrence's
-- coefficients at the two ends, so their difference is the published constraint, and that is the condition times a
-- number that is not zero.
use mathlib.Core.Path.{◌≡◌, refl, sym, ◌∙◌, ap, ap₂}
use mathlib.Core.Logic.{◌≢◌, ◌↔◌}
use mathlib.Core.List.{[], ◌∷◌}
use Prim.Native.Nat.{ℕ, suc, ◌+◌, ◌-◌, ◌<◌, ◌≤◌}
use native.Mathlib.Omega.{arith}
use native.Mathlib.Nat.{zero-add}
use lib.IntN.{pos}
use Rattle.base_exact.specs.Rational.{ℚ, int, ◌*ᵠ◌, -ᵠ◌, ◌-ᵠ◌}
use Rattle.base_exact.proofs.Ring.{ring}
use Rattle.base_exact.proofs.Rational.{ℚ-ring, readsℚ, mul_cancel, mul_comm, mul-zero, sub_zero_eq}
use Rattle.spec_spline.specs.Space.{Space, segments, degree, width, first_column}
use Rattle.spec_spline.specs.Conditions.{conditions}
use Rattle.spec_spline.specs.Table.{Row, entry}
use Rattle.spec_spline.specs.Piecewise.{pairing, Meets}
use Rattle.spec_published.specs.Published.{derivative_coefficient}
use Rattle.spec_spline.proofs.Legal.{Legal, checked_inverts, legal}
use Rattle.theorems_weights.proofs.Difference.{difference, difference_ext}
use Rattle.theorems_weights.proofs.Derivative.{rate, derivative-difference, constraint-sum, ratio, constraints_are_conditions, ratio_nonzero}
use Rattle.theorems_values.proofs.Segment.{accepted-checked}
use Rattle.theorems_weights.proofs.PublishedBasis.{pairing-applied, combinations_meet_conditions, conditions_give_one_combination}
use Rattle.theorems_smoothness.specs.Smoothness.{piece, left_derivative, right_derivative, ConditionsAreSmoothness, CombinationsAreSmooth, SmoothCurvesAreCombinations}
use Rattle.theorems_smoothness.proofs.Polynomial.{value_ext}
use Rattle.theorems_smoothness.proofs.Bernstein.{bernstein_form-iterated, bernstein_form-start, bernstein_form_end}

module _ (s : Space) (o : Row) (j k : ℕ) where
  left_is : k ≤ degree s j → 0 < width s j → left_derivative s o j k ≡ rate (degree s j) (width s j) k *ᵠ difference k (λ t. entry o (first_column s j + (degree s j - k + t)))
  unfolding piece
  left_is d w = value_ext _ _ (int (pos (width s j))) (bernstein_form-iterated (width s j) (degree s j) k z d)
      ∙ bernstein_form_end (width s j) (degree s j - k) (derivative_coefficient (degree s j) (width s j) z k) w
      ∙ derivative-difference (degree s j) (width s j) z k (degree s j - k)
    where
      z : ℕ → ℚ
      z t = entry o (first_column s j + t)

  right_is : k ≤ degree s (suc j) → right_derivative s o j k ≡ rate (degree s (suc j)) (width s (suc j)) k *ᵠ difference k (λ t. entry o (first_column s (suc j) + t))
  unfolding piece
  right_is d = value_ext _ _ (int (pos 0)) (bernstein_form-iterated (width s (suc j)) (degree s (suc j)) k z d)
      ∙ bernstein_form-start (width s (suc j)) (degree s (suc j) - k) (derivative_coefficient (degree s (suc j)) (width s (suc j)) z k)
      ∙ derivative-difference (degree s (suc j)) (width s (suc j)) z k 0
      ∙ ap (λ u. rate (degree s (suc j)) (width s (suc j)) k *ᵠ u) (difference_ext k (λ t l. ap z (zero-add t)))
    where
      z : ℕ → ℚ
      z t = entry o (first_column s (suc j) + t)

  -- What the two derivatives differ by.
  pub derivatives_differ : suc j < segments s → k ≤ degree s j → k ≤ degree s (suc j) → 0 < width s j → 0 < width s (suc j)
      → left_derivative s o j k -ᵠ right_derivative s o j k ≡ ratio s j k *ᵠ pairing o (conditions s j k)
  derivatives_differ inner p q a b = ap₂ ◌-ᵠ◌ (left_is p a) (right_is q) ∙ sym (constraint-sum s j k (entry o) inner p q)
      ∙ constraints_are_conditions s j k (entry o) inner p q a b ∙ ap (λ u. ratio s j k *ᵠ u) (sym (pairing-applied o (conditions s j k)))

-- a product is zero with its second factor, if the first is not
zero_exactly : {l r c m : ℚ} → c ≢ int (pos 0) → l -ᵠ r ≡ c *ᵠ m → (m ≡ int (pos 0)) ↔ (l ≡ r)
zero_exactly {l} {r} {c} {m} n e = (
  λ z. sub_zero_eq (e ∙ ap (λ u. c *ᵠ u) z ∙ mul-zero c),
  λ z. mul_cancel n (mul_comm m c ∙ sym e ∙ ap (λ u. u -ᵠ r) z ∙ ring ℚ-ring (r ∷ c ∷ []) (search readsℚ) (search readsℚ) refl),
)

pub conditions_are_smoothness : ConditionsAreSmoothness
conditions_are_smoothness s c o j k h l = go (legal s (checked_inverts s c).1)
  where
    go : Legal s → Meets s o j k ↔ (left_derivative s o j k ≡ right_derivative s o j k)
    go L = zero_exactly (ratio_nonzero s j k p a b) (derivatives_differ s o j k (omega arith) p q a b)
      where
        p : k ≤ degree s j
        p = omega (arith, L.below-left-degree j h)

        q : k ≤ degree s (suc j)
        q = omega (arith, L.below-right-degree j h)

        a : 0 < width s j
        a = L.positive_width j (omega arith)

        b : 0 < width s (suc j)
        b = L.positive_width (suc j) (omega arith)

pub combinations_are_smooth : CombinationsAreSmooth
combinations_are_smooth s a multipliers = let m = combinations_meet_conditions s a multipliers in
    record { columns = m.columns; agree = λ j k h l. (conditions_are_smoothness s (accepted-checked s a).0 _ j k h l).0 (m.meets j k h l) }

pub smooth_curves_are_combinations : SmoothCurvesAreCombinations
smooth_curves_are_combinations s a o m = conditions_give_one_combination s a o
    (record { columns = m.columns; meets = λ j k h l. (conditions_are_smoothness s (accepted-checked s a).0 o j k h l).1 (m.agree j k h l) })
