-- A sum over the Bernstein polynomials at a position is what exact blends leave; so the specification's exact curve, a double sum over
-- rows and ordinates, is what they leave of the exact ordinates.
use mathlib.Core.Path.{◌≡◌, refl, sym, ◌∙◌, ap, ap₂}
use mathlib.Core.List.{List, [], ◌∷◌}
use Prim.Native.Nat.{ℕ, suc, ◌+◌, ◌<◌}
use native.Mathlib.Omega.{arith}
use lib.IntN.{ℤ, pos, ◌-ℤ◌}
use lib.ListN.{length}
use Rattle.base_exact.specs.Rational.{ℚ, int, inv, ◌*ᵠ◌}
use Rattle.base_exact.specs.Sum.{sum}
use Rattle.base_exact.proofs.Ring.{ring, reads}
use Rattle.base_exact.proofs.Rational.{ℚ-ring}
use Rattle.base_exact.proofs.Order.{pos_nonzero}
use Rattle.base_exact.proofs.Sum.{sum_ext, sum-swap, sum_mul_right}
use Rattle.spec_spline.specs.Space.{Space, degree, first_column}
use Rattle.spec_spline.specs.Table.{Table, cell}
use Rattle.spec_spline.specs.Reading.{fine, Wood, coefficient, fine_width, offset}
use Rattle.spec_spline.specs.ExactCurve.{power, bernstein_at, exact_term, exact_on}
use Rattle.theorems_values.proofs.Rounding.{pos_of_nat}
use Rattle.theorems_values.proofs.Bernstein.{power-inv, bernstein, bernstein_sum, bernstein_sum_ext, exact_triangle, triangle_is_sum, triangle-scale}
use Rattle.theorems_values.proofs.Triangle.{left_factor, right_factor}
use Rattle.theorems_values.proofs.Ordinate.{exact_ordinate}

-- ordinates times the polynomials of degree p at u/D, summed: the blends of the ordinates
module _ (p d : ℕ) (u : ℤ) (e : ℕ → ℚ) where
  bernstein_at-sum : sum (suc p) (λ t. e t *ᵠ bernstein_at p d u t) ≡ bernstein_sum (int (pos d -ℤ u)) (int u) p e *ᵠ inv (power (int (pos d)) p)
  unfolding bernstein_at bernstein bernstein_sum
  bernstein_at-sum = sum_ext (suc p) (λ t h. swap (e t) (bernstein (int (pos d -ℤ u)) (int u) p t) (inv (power (int (pos d)) p)))
      ∙ sum_mul_right (suc p) (inv (power (int (pos d)) p)) (λ t. bernstein (int (pos d -ℤ u)) (int u) p t *ᵠ e t)
    where
      swap : (e b δ : ℚ) → e *ᵠ (b *ᵠ δ) ≡ b *ᵠ e *ᵠ δ
      swap e b δ = ring ℚ-ring (e ∷ b ∷ δ ∷ []) (search reads) (search reads) refl

  pub bernstein_at-triangle : 0 < d → sum (suc p) (λ t. e t *ᵠ bernstein_at p d u t) ≡ exact_triangle (left_factor d u) (right_factor d u) e p 0
  bernstein_at-triangle h = bernstein_at-sum
      ∙ ap₂ ◌*ᵠ◌ (bernstein_sum_ext α β p (λ t. ap e (let z : t ≡ 0 + t = omega arith in z)) ∙ sym (triangle_is_sum α β e p 0))
      (sym (power-inv (int (pos d)) p (pos_nonzero (pos_of_nat d h))))
      ∙ sym (triangle-scale α β (inv (int (pos d))) e p 0)
    where
      α : ℚ
      α = int (pos d -ℤ u)

      β : ℚ
      β = int u

-- The exact ordinates of segment j.
abbrev pub exact_ordinates : Space → Table → Wood → List ℤ → ℕ → ℕ → ℚ
exact_ordinates s w wood coefs j k = exact_ordinate w (coefficient wood coefs) (first_column s j + k)

module _ (s : Space) (w : Table) (wood : Wood) (coefs : List ℤ) (j : ℕ) (x : ℤ) where
  -- the sum over the rows first
  ordinate-term : (t : ℕ) → sum (length w) (λ i. exact_term s w wood coefs j x i t) ≡ exact_ordinates s w wood coefs j t *ᵠ bernstein_at (degree s j) (fine_width s j) (offset s j x) t
  unfolding exact_term exact_ordinate
  ordinate-term t = sum_mul_right (length w) (bernstein_at (degree s j) (fine_width s j) (offset s j x) t) (λ i. int (fine (coefficient wood coefs i)) *ᵠ cell w i (first_column s j + t))

  pub exact_on_is_triangle : 0 < fine_width s j
      → exact_on s w wood coefs j x ≡ exact_triangle (left_factor (fine_width s j) (offset s j x)) (right_factor (fine_width s j) (offset s j x)) (exact_ordinates s w wood coefs j)
      (degree s j) 0
  unfolding exact_on
  exact_on_is_triangle h = sum-swap (length w) (suc (degree s j)) (λ i t. exact_term s w wood coefs j x i t)
      ∙ sum_ext (suc (degree s j)) (λ t h. ordinate-term t)
      ∙ bernstein_at-triangle (degree s j) (fine_width s j) (offset s j x) (exact_ordinates s w wood coefs j) h
