-- The rounding alone: how far `rounded z d` is from z / d, and that whole bounds of z / d bound it. All that the closeness of
-- the values needs of the rounding stands here, its error in `rounded-within`: another rounding changes this module and the
-- count of its errors, and no other argument.
use mathlib.Core.Path.{◌≡◌, refl, sym, ◌∙◌, ap, ap₂, subst}
use mathlib.Core.List.{[], ◌∷◌}
use Prim.Native.Nat.{ℕ, ◌<◌}
use lib.IntN.{ℤ, pos, neg_ℤ, ◌-ℤ◌, ◌*ℤ◌}
use lib.Signed.{◌≤ℤ◌, ◌<ℤ◌}
use Rattle.base_exact.specs.Rational.{ℚ, int, inv, ◌+ᵠ◌, ◌*ᵠ◌, -ᵠ◌, ◌-ᵠ◌, ◌/ᵠ◌}
use Rattle.base_exact.specs.Order.{◌≤ᵠ◌, Nn}
use Rattle.base_exact.specs.Floor.{nearest}
use Rattle.base_exact.proofs.Integer as Z
use Rattle.base_exact.proofs.Ring.{ring, by_eq}
use Rattle.base_exact.proofs.Floor.{nearest_error, nearest_mono, nearest-exact}
use Rattle.base_exact.proofs.Rational.{ℚ-ring, readsℚ, div_mul, mul_inv, int_nonzero, int_mul, int_neg, int_sub}
pub use Rattle.base_exact.proofs.Order.{pos_of_nat}
use Rattle.base_exact.proofs.Order.{pos_nonzero, nn_int, nn_inv, nn_mul, le_nn, le_by, int_mono, int_cancel, *_mono}
use Rattle.spec_spline.specs.Reading.{rounded}
use Rattle.theorems_values.proofs.Within.{Within, halves}

-- The quotient that is rounded.
abbrev pub quotient : ℤ → ℕ → ℚ
quotient z d = int z /ᵠ int (pos d)

-- it is undone by the divisor
pub quotient_mul : (z : ℤ) (d : ℕ) → 0 < d → quotient z d *ᵠ int (pos d) ≡ int z
quotient_mul z d h = div_mul (int z) (int (pos d)) (pos_nonzero (pos_of_nat d h))

-- ---- the error

-- twice the error times the divisor, as it is of fractions
twice_error : (z q : ℤ) (d : ℕ) → int (pos 2 *ℤ (z -ℤ q *ℤ pos d)) ≡ int (pos 2) *ᵠ (int z -ᵠ int q *ᵠ int (pos d))
twice_error z q d = int_mul (pos 2) (z -ℤ q *ℤ pos d) ∙ ap (λ t. int (pos 2) *ᵠ t) (int_sub z (q *ℤ pos d) ∙ ap (λ t. int z -ᵠ t) (int_mul q (pos d)))

-- the rounded number and the quotient differ by at most one half
pub rounded-within : (z : ℤ) (d : ℕ) → 0 < d → Within (halves 1) (quotient z d) (rounded z d)
unfolding rounded
rounded-within z d h = record {
  not_above =
      le_by (nn_mul (subst Nn (ap₂ ◌-ᵠ◌ (twice_error z q d) (int_neg (pos d))) (le_nn (int_mono error.0))) scale)
      (above (int z) (int q) (int (pos d)) (inv (int (pos d))) (inv (int (pos 2))) cancelled half);
  not_below =
      le_by (nn_mul (subst Nn (ap (λ t. int (pos d) -ᵠ t) (twice_error z q d)) (le_nn (int_mono (Z.<-≤ _ _ error.1)))) scale)
      (below (int z) (int q) (int (pos d)) (inv (int (pos d))) (inv (int (pos 2))) cancelled half);
}
  where
    q : ℤ
    q = nearest z d

    error : (neg_ℤ (pos d) ≤ℤ (pos 2 *ℤ (z -ℤ nearest z d *ℤ pos d))) × ((pos 2 *ℤ (z -ℤ nearest z d *ℤ pos d)) <ℤ pos d)
    error = nearest_error z d h

    scale : Nn (inv (int (pos d)) *ᵠ inv (int (pos 2)))
    scale = nn_mul (nn_inv (nn_int d)) (nn_inv (nn_int 2))

    cancelled : int (pos d) *ᵠ inv (int (pos d)) ≡ int (pos 1)
    cancelled = mul_inv (int (pos d)) (pos_nonzero (pos_of_nat d h))

    half : int (pos 2) *ᵠ inv (int (pos 2)) ≡ int (pos 1)
    half = mul_inv (int (pos 2)) (int_nonzero 1)

    above : (z q d δ κ : ℚ) → d *ᵠ δ ≡ int (pos 1) → int (pos 2) *ᵠ κ ≡ int (pos 1) → (int (pos 2) *ᵠ (z -ᵠ q *ᵠ d) -ᵠ (-ᵠ d)) *ᵠ (δ *ᵠ κ) ≡ z *ᵠ δ +ᵠ int (pos 1) *ᵠ κ -ᵠ q
    above z q d δ κ e f = by_eq ℚ-ring (κ -ᵠ int (pos 2) *ᵠ κ *ᵠ q) e (by_eq ℚ-ring (z *ᵠ δ -ᵠ q) f
        (ring ℚ-ring (z ∷ q ∷ d ∷ δ ∷ κ ∷ []) (search readsℚ depth 30) (search readsℚ depth 30) refl))

    below : (z q d δ κ : ℚ) → d *ᵠ δ ≡ int (pos 1) → int (pos 2) *ᵠ κ ≡ int (pos 1) → (d -ᵠ int (pos 2) *ᵠ (z -ᵠ q *ᵠ d)) *ᵠ (δ *ᵠ κ) ≡ q +ᵠ int (pos 1) *ᵠ κ -ᵠ z *ᵠ δ
    below z q d δ κ e f = by_eq ℚ-ring (κ +ᵠ int (pos 2) *ᵠ κ *ᵠ q) e (by_eq ℚ-ring (q -ᵠ z *ᵠ δ) f
        (ring ℚ-ring (z ∷ q ∷ d ∷ δ ∷ κ ∷ []) (search readsℚ depth 30) (search readsℚ depth 30) refl))

-- ---- whole bounds of the quotient are bounds of the rounded number

pub rounded_at_least : (b z : ℤ) (d : ℕ) → 0 < d → int b ≤ᵠ quotient z d → b ≤ℤ rounded z d
unfolding rounded
rounded_at_least b z d h k = subst (λ t. t ≤ℤ nearest z d) (nearest-exact b d h) (nearest_mono (b *ℤ pos d) z d h
    (int_cancel (b *ℤ pos d) z (subst (λ t. t ≤ᵠ int z) (sym (int_mul b (pos d))) (subst (λ t. int b *ᵠ int (pos d) ≤ᵠ t) (quotient_mul z d h) (*_mono (nn_int d) k)))))

pub rounded_at_most : (b z : ℤ) (d : ℕ) → 0 < d → quotient z d ≤ᵠ int b → rounded z d ≤ℤ b
unfolding rounded
rounded_at_most b z d h k = subst (λ t. nearest z d ≤ℤ t) (nearest-exact b d h) (nearest_mono z (b *ℤ pos d) d h
    (int_cancel z (b *ℤ pos d) (subst (λ t. int z ≤ᵠ t) (sym (int_mul b (pos d))) (subst (λ t. t ≤ᵠ int b *ᵠ int (pos d)) (quotient_mul z d h) (*_mono (nn_int d) k)))))
