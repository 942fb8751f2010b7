-- The sizes of the conditions of order 2 at a join balance on its middle node: the algebra, with degree p and length a on the left, q and b
-- on the right, their inverses, and B the balance of both sides.
use mathlib.Core.Path.{◌≡◌, refl}
use mathlib.Core.Logic.{◌≢◌}
use mathlib.Core.List.{[], ◌∷◌}
use lib.IntN.{pos}
use Rattle.base_exact.specs.Rational.{ℚ, int, ◌+ᵠ◌, ◌*ᵠ◌, ◌-ᵠ◌, -ᵠ◌}
use Rattle.base_exact.proofs.Ring.{ring, by_eq}
use Rattle.base_exact.proofs.Rational.{ℚ-ring, readsℚ, mul_cancel}

module _ (p q a b : ℚ) where
  -- p (p - 1) b², q (q - 1) a², p b + q a, and (p - 1) b + (q - 1) a
  abbrev pub left : ℚ
  left = p *ᵠ (p -ᵠ int (pos 1)) *ᵠ (b *ᵠ b)

  abbrev pub right : ℚ
  right = q *ᵠ (q -ᵠ int (pos 1)) *ᵠ (a *ᵠ a)

  abbrev pub both : ℚ
  both = p *ᵠ b +ᵠ q *ᵠ a

  abbrev pub reach : ℚ
  reach = (p -ᵠ int (pos 1)) *ᵠ b +ᵠ (q -ᵠ int (pos 1)) *ᵠ a

  pub balance_is : (S : ℚ) → S *ᵠ both ≡ q *ᵠ a → (left *ᵠ S +ᵠ right *ᵠ (int (pos 1) -ᵠ S)) *ᵠ both ≡ p *ᵠ q *ᵠ (a *ᵠ b) *ᵠ reach
  balance_is S h = by_eq ℚ-ring (left -ᵠ right) h (ring ℚ-ring (p ∷ q ∷ a ∷ b ∷ S ∷ []) (search readsℚ depth 40) (search readsℚ depth 40) refl)

  module _ (B i k : ℚ) (pi : p *ᵠ i ≡ int (pos 1)) (qk : q *ᵠ k ≡ int (pos 1)) (balanced : B *ᵠ both ≡ p *ᵠ q *ᵠ (a *ᵠ b) *ᵠ reach) (some : both ≢ int (pos 0)) where
    -- the two sides of the join, one ordinate away from it
    pub sides : B *ᵠ (b *ᵠ k +ᵠ a *ᵠ i) ≡ right *ᵠ (b *ᵠ k) +ᵠ left *ᵠ (a *ᵠ i)
    sides = mul_cancel some
        (by_eq ℚ-ring (b *ᵠ k +ᵠ a *ᵠ i) balanced
        (by_eq ℚ-ring (q *ᵠ (a *ᵠ a) *ᵠ b *ᵠ reach -ᵠ (p -ᵠ int (pos 1)) *ᵠ (b *ᵠ b) *ᵠ a *ᵠ both) pi
        (by_eq ℚ-ring (p *ᵠ a *ᵠ (b *ᵠ b) *ᵠ reach -ᵠ (q -ᵠ int (pos 1)) *ᵠ (a *ᵠ a) *ᵠ b *ᵠ both) qk
        (ring ℚ-ring (p ∷ q ∷ a ∷ b ∷ B ∷ i ∷ k ∷ []) (search readsℚ depth 60) (search readsℚ depth 60) refl))))

    -- what balances from the left balances from the right
    pub from_right : (m x : ℚ) → B *ᵠ (m -ᵠ (x -ᵠ a *ᵠ i)) ≡ left *ᵠ (a *ᵠ i) → B *ᵠ (x +ᵠ b *ᵠ k -ᵠ m) ≡ right *ᵠ (b *ᵠ k)
    from_right m x h = turned B m x (a *ᵠ i) (b *ᵠ k) left right h sides
      where
        turned : (B m x u v l r : ℚ) → B *ᵠ (m -ᵠ (x -ᵠ u)) ≡ l *ᵠ u → B *ᵠ (v +ᵠ u) ≡ r *ᵠ v +ᵠ l *ᵠ u → B *ᵠ (x +ᵠ v -ᵠ m) ≡ r *ᵠ v
        turned B m x u v l r g e = by_eq ℚ-ring (int (pos 1)) e (by_eq ℚ-ring (-ᵠ int (pos 1)) g
            (ring ℚ-ring (B ∷ m ∷ x ∷ u ∷ v ∷ l ∷ r ∷ []) (search readsℚ depth 40) (search readsℚ depth 40) refl))

    -- and gives the middle node
    pub middle_is : (n m x : ℚ) → p *ᵠ q *ᵠ reach *ᵠ n ≡ int (pos 1) → B ≢ int (pos 0) → B *ᵠ (m -ᵠ (x -ᵠ a *ᵠ i)) ≡ left *ᵠ (a *ᵠ i) → m ≡ x +ᵠ (left -ᵠ right) *ᵠ n
    middle_is n m x nn positive h = mul_cancel positive (mul_cancel some
        (by_eq ℚ-ring both h
        (by_eq ℚ-ring (-ᵠ (a *ᵠ i) -ᵠ (left -ᵠ right) *ᵠ n) balanced
        (by_eq ℚ-ring ((p -ᵠ int (pos 1)) *ᵠ (b *ᵠ b) *ᵠ a *ᵠ both -ᵠ q *ᵠ (a *ᵠ a) *ᵠ b *ᵠ reach) pi
        (by_eq ℚ-ring (-ᵠ ((left -ᵠ right) *ᵠ (a *ᵠ b))) nn
        (ring ℚ-ring (p ∷ q ∷ a ∷ b ∷ B ∷ i ∷ n ∷ m ∷ x ∷ []) (search readsℚ depth 80) (search readsℚ depth 80) refl))))))
