-- The triangle at the two ends of a segment: at u = 0 it is the first number, at u = D the last, rounded and exact. And exact
-- triangles of numbers that differ by at most b differ by at most b.
use mathlib.Core.Path.{◌≡◌, refl, ◌∙◌, ap, ap₂}
use mathlib.Core.List.{[], ◌∷◌}
use Prim.Native.Nat.{ℕ, zero, suc, ◌+◌, ◌<◌, ◌≤◌}
use native.Mathlib.Omega.{arith}
use lib.IntN.{ℤ, pos, ◌+ℤ◌, ◌-ℤ◌, ◌*ℤ◌}
use Rattle.base_exact.specs.Rational.{ℚ, int, inv, ◌+ᵠ◌, ◌*ᵠ◌}
use Rattle.base_exact.specs.Order.{◌≤ᵠ◌}
use Rattle.base_exact.proofs.Ring.{ring}
use Rattle.base_exact.proofs.Integer.{ℤ-ring, readsℤ, +-zero, +-neg}
use Rattle.base_exact.proofs.Rational.{mul_inv, zero-mul}
use Rattle.base_exact.proofs.Order.{pos_nonzero}
use Rattle.base_exact.proofs.Floor.{nearest-exact}
use Rattle.spec_spline.specs.Reading.{rounded, blend, triangle}
use Rattle.theorems_values.proofs.Rounding.{pos_of_nat}
use Rattle.theorems_values.proofs.Mean.{Factors, mean_within}
use Rattle.theorems_values.proofs.Bernstein.{exact_triangle, triangle-first, triangle-last}
use Rattle.theorems_values.proofs.Triangle.{left_factor, right_factor}

-- ---- the factors

module _ (d : ℕ) (positive : 0 < d) where
  whole : int (pos d) *ᵠ inv (int (pos d)) ≡ int (pos 1)
  whole = mul_inv (int (pos d)) (pos_nonzero (pos_of_nat d positive))

  left_at_start : left_factor d (pos 0) ≡ int (pos 1)
  left_at_start = ap (λ z. int z *ᵠ inv (int (pos d))) (+-zero (pos d)) ∙ whole

  right_at_start : right_factor d (pos 0) ≡ int (pos 0)
  right_at_start = zero-mul (inv (int (pos d)))

  left_at_end : left_factor d (pos d) ≡ int (pos 0)
  left_at_end = ap (λ z. int z *ᵠ inv (int (pos d))) (+-neg (pos d)) ∙ zero-mul (inv (int (pos d)))

  -- ---- the exact triangle

  pub exact_triangle_start : (e : ℕ → ℚ) (n : ℕ) → exact_triangle (left_factor d (pos 0)) (right_factor d (pos 0)) e n 0 ≡ e 0
  exact_triangle_start e n = ap₂ (λ α β. exact_triangle α β e n 0) left_at_start right_at_start ∙ triangle-first e n 0

  pub exact_triangle_end : (e : ℕ → ℚ) (n : ℕ) → exact_triangle (left_factor d (pos d)) (right_factor d (pos d)) e n 0 ≡ e n
  exact_triangle_end e n =
      ap₂ (λ α β. exact_triangle α β e n 0) left_at_end whole ∙ triangle-last e n 0 ∙ ap e (let z : n + 0 ≡ n = omega arith in z)

  -- ---- the rounded triangle

  blend-start : (g h : ℤ) → blend d (pos 0) g h ≡ g
  unfolding blend rounded
  blend-start g h = ap (λ z. rounded z d) (first (pos d) g h) ∙ nearest-exact g d positive
    where
      first : (D g h : ℤ) → (D -ℤ pos 0) *ℤ g +ℤ pos 0 *ℤ h ≡ g *ℤ D
      first D g h = ring ℤ-ring (D ∷ g ∷ h ∷ []) (search readsℤ depth 20) (search readsℤ depth 20) refl

  blend_end : (g h : ℤ) → blend d (pos d) g h ≡ h
  unfolding blend rounded
  blend_end g h = ap (λ z. rounded z d) (second (pos d) g h) ∙ nearest-exact h d positive
    where
      second : (D g h : ℤ) → (D -ℤ D) *ℤ g +ℤ D *ℤ h ≡ h *ℤ D
      second D g h = ring ℤ-ring (D ∷ g ∷ h ∷ []) (search readsℤ depth 20) (search readsℤ depth 20) refl

  pub triangle-start : (g : ℕ → ℤ) (n k : ℕ) → triangle d (pos 0) g n k ≡ g k
  unfolding triangle
  triangle-start g zero k = refl
  triangle-start g (suc n) k = blend-start (triangle d (pos 0) g n k) (triangle d (pos 0) g n (suc k)) ∙ triangle-start g n k

  pub triangle_end : (g : ℕ → ℤ) (n k : ℕ) → triangle d (pos d) g n k ≡ g (k + n)
  unfolding triangle
  triangle_end g zero k = ap g (let z : k ≡ k + 0 = omega arith in z)
  triangle_end g (suc n) k =
      blend_end (triangle d (pos d) g n k) (triangle d (pos d) g n (suc k)) ∙ triangle_end g n (suc k)
      ∙ ap g (let z : suc k + n ≡ k + suc n = omega arith in z)

-- ---- two exact triangles

pub exact_triangle_within : {α β : ℚ} → Factors α β → (b : ℚ) (e f : ℕ → ℚ) (p : ℕ) → ((k : ℕ) → k ≤ p → e k ≤ᵠ f k +ᵠ b)
    → (n k : ℕ) → k + n ≤ p → exact_triangle α β e n k ≤ᵠ exact_triangle α β f n k +ᵠ b
unfolding exact_triangle
exact_triangle_within F b e f p all zero k h = all k (omega arith)
exact_triangle_within {α} {β} F b e f p all (suc n) k h = mean_within F b (exact_triangle α β f n k) (exact_triangle α β f n (suc k))
    (exact_triangle_within F b e f p all n k (omega arith)) (exact_triangle_within F b e f p all n (suc k) (omega arith))
