-- Means of two rational numbers with factors that are not negative and sum to one: they keep the order, and bounds.
-- A blend of the triangle is the rounded one of these.
use mathlib.Core.Path.{◌≡◌, refl, subst}
use mathlib.Core.List.{[], ◌∷◌}
use lib.IntN.{pos}
use Rattle.base_exact.specs.Rational.{ℚ, int, ◌+ᵠ◌, ◌*ᵠ◌}
use Rattle.base_exact.specs.Order.{◌≤ᵠ◌, Nn}
use Rattle.base_exact.proofs.Ring.{ring, reads, by_eq}
use Rattle.base_exact.proofs.Rational.{ℚ-ring, readsℚ}
use Rattle.base_exact.proofs.Order.{nn_add, nn_mul, le_nn, le_by}

-- The factors of a mean.
pub record Factors (α β : ℚ) : Type 0 where
  pub left : Nn α
  pub right : Nn β
  pub whole : α +ᵠ β ≡ int (pos 1)

module _ {α β : ℚ} (F : Factors α β) where
  pub mean_mono : {x y X Y : ℚ} → x ≤ᵠ X → y ≤ᵠ Y → α *ᵠ x +ᵠ β *ᵠ y ≤ᵠ α *ᵠ X +ᵠ β *ᵠ Y
  mean_mono {x} {y} {X} {Y} h k = le_by (nn_add (nn_mul F.left (le_nn h)) (nn_mul F.right (le_nn k)))
      (ring ℚ-ring (α ∷ β ∷ x ∷ y ∷ X ∷ Y ∷ []) (search reads depth 20) (search reads depth 20) refl)

  -- a mean of two equal numbers
  pub mean_same : (b : ℚ) → α *ᵠ b +ᵠ β *ᵠ b ≡ b
  mean_same b = by_eq ℚ-ring b F.whole (ring ℚ-ring (α ∷ β ∷ b ∷ []) (search readsℚ depth 20) (search readsℚ depth 20) refl)

  pub mean_at_least : {b x y : ℚ} → b ≤ᵠ x → b ≤ᵠ y → b ≤ᵠ α *ᵠ x +ᵠ β *ᵠ y
  mean_at_least {b} {x} {y} h k = subst (λ t. t ≤ᵠ α *ᵠ x +ᵠ β *ᵠ y) (mean_same b) (mean_mono h k)

  pub mean_at_most : {b x y : ℚ} → x ≤ᵠ b → y ≤ᵠ b → α *ᵠ x +ᵠ β *ᵠ y ≤ᵠ b
  mean_at_most {b} {x} {y} h k = subst (λ t. α *ᵠ x +ᵠ β *ᵠ y ≤ᵠ t) (mean_same b) (mean_mono h k)

  -- numbers that are each at most b above others have a mean that is
  pub mean_within : (b x y : ℚ) {X Y : ℚ} → X ≤ᵠ x +ᵠ b → Y ≤ᵠ y +ᵠ b → α *ᵠ X +ᵠ β *ᵠ Y ≤ᵠ α *ᵠ x +ᵠ β *ᵠ y +ᵠ b
  mean_within b x y {X} {Y} h k = subst (λ t. α *ᵠ X +ᵠ β *ᵠ Y ≤ᵠ t)
      (by_eq ℚ-ring b F.whole (ring ℚ-ring (α ∷ β ∷ x ∷ y ∷ b ∷ []) (search readsℚ depth 20) (search readsℚ depth 20) refl)) (mean_mono h k)
