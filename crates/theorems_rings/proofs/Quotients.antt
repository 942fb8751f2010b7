-- Quotients of one number by two that lie near each other, and their floors.
use mathlib.Core.Path.{◌≡◌, refl, sym, ◌∙◌, ap, subst}
use mathlib.Core.List.{[], ◌∷◌}
use Prim.Native.Nat.{◌≤◌}
use native.Mathlib.Omega.{arith}
use lib.IntN.{ℤ, pos, neg_ℤ, nat_abs, ◌+ℤ◌, ◌-ℤ◌}
use lib.Signed.{◌≤ℤ◌}
use Rattle.base_exact.specs.Rational.{ℚ, int, ◌+ᵠ◌, ◌*ᵠ◌, ◌/ᵠ◌}
use Rattle.base_exact.specs.Order.{◌≤ᵠ◌, ◌<ᵠ◌, Nn}
use Rattle.base_exact.specs.Floor.{floor}
use Rattle.base_exact.proofs.Integer as Z
use Rattle.base_exact.proofs.Floor.{floor_le, lt_floor}
use Rattle.base_exact.proofs.Order as Q
use Rattle.base_exact.proofs.Ring.{ring}
use Rattle.base_exact.proofs.Rational.{ℚ-ring, readsℚ, div_mul, mul_comm, int-add}

-- a larger divisor gives no larger quotient
pub quotient_falls : (a x y : ℚ) → Nn a → int (pos 0) <ᵠ x → x ≤ᵠ y → a /ᵠ y ≤ᵠ a /ᵠ x
quotient_falls a x y n p h = Q.*_cancel positive
    (subst (λ q. q ≤ᵠ a /ᵠ x *ᵠ y) (sym (div_mul a y (Q.pos_nonzero positive)))
    (subst (λ q. q ≤ᵠ a /ᵠ x *ᵠ y) (div_mul a x (Q.pos_nonzero p))
    (subst (λ q. q ≤ᵠ a /ᵠ x *ᵠ y) (mul_comm x (a /ᵠ x)) (subst (λ q. x *ᵠ (a /ᵠ x) ≤ᵠ q) (mul_comm y (a /ᵠ x)) (Q.*_mono (Q.nn_mul n (Q.nn_inv (Q.pos_nn p))) h)))))
  where
    positive : int (pos 0) <ᵠ y
    positive = Q.<-≤_trans p h

-- two divisors at most d apart, whose product is more than d times the number: the quotients differ by less than one
pub quotient_near : (a v x d : ℚ) → Nn a → int (pos 0) <ᵠ v → int (pos 0) <ᵠ x → x ≤ᵠ v +ᵠ d → a *ᵠ d <ᵠ v *ᵠ x → a /ᵠ v <ᵠ a /ᵠ x +ᵠ int (pos 1)
quotient_near a v x d n p q h k = Q.*_cancel_< (Q.pos_nn (Q.pos_mul p q))
    (subst (λ l. l <ᵠ (a /ᵠ x +ᵠ int (pos 1)) *ᵠ (v *ᵠ x)) (sym left)
    (subst (λ r. a *ᵠ x <ᵠ r) (sym right) (Q.≤-<_trans most more)))
  where
    left : a /ᵠ v *ᵠ (v *ᵠ x) ≡ a *ᵠ x
    left = alg (a /ᵠ v) v x ∙ ap (λ t. t *ᵠ x) (div_mul a v (Q.pos_nonzero p))
      where
        alg : (t v x : ℚ) → t *ᵠ (v *ᵠ x) ≡ t *ᵠ v *ᵠ x
        alg t v x = ring ℚ-ring (t ∷ v ∷ x ∷ []) (search readsℚ depth 20) (search readsℚ depth 20) refl

    right : (a /ᵠ x +ᵠ int (pos 1)) *ᵠ (v *ᵠ x) ≡ a *ᵠ v +ᵠ v *ᵠ x
    right = alg (a /ᵠ x) v x ∙ ap (λ t. t *ᵠ v +ᵠ v *ᵠ x) (div_mul a x (Q.pos_nonzero q))
      where
        alg : (t v x : ℚ) → (t +ᵠ int (pos 1)) *ᵠ (v *ᵠ x) ≡ t *ᵠ x *ᵠ v +ᵠ v *ᵠ x
        alg t v x = ring ℚ-ring (t ∷ v ∷ x ∷ []) (search readsℚ depth 20) (search readsℚ depth 20) refl

    most : a *ᵠ x ≤ᵠ a *ᵠ v +ᵠ a *ᵠ d
    most = subst (λ l. l ≤ᵠ a *ᵠ v +ᵠ a *ᵠ d) (mul_comm x a) (subst (λ r. x *ᵠ a ≤ᵠ r) (alg a v d) (Q.*_mono n h))
      where
        alg : (a v d : ℚ) → (v +ᵠ d) *ᵠ a ≡ a *ᵠ v +ᵠ a *ᵠ d
        alg a v d = ring ℚ-ring (a ∷ v ∷ d ∷ []) (search readsℚ depth 20) (search readsℚ depth 20) refl

    more : a *ᵠ v +ᵠ a *ᵠ d <ᵠ a *ᵠ v +ᵠ v *ᵠ x
    more = subst (λ l. l <ᵠ a *ᵠ v +ᵠ v *ᵠ x) (alg (a *ᵠ v) (a *ᵠ d)) (subst (λ r. a *ᵠ d +ᵠ a *ᵠ v <ᵠ r) (alg (a *ᵠ v) (v *ᵠ x)) (Q.+_mono_< k (Q.≤-refl (a *ᵠ v))))
      where
        alg : (s t : ℚ) → t +ᵠ s ≡ s +ᵠ t
        alg s t = ring ℚ-ring (s ∷ t ∷ []) (search readsℚ depth 20) (search readsℚ depth 20) refl

-- numbers that differ by less than one have floors that differ by at most one
floor-below : (p q : ℚ) → p <ᵠ q +ᵠ int (pos 1) → floor p ≤ℤ (floor q +ℤ pos 1)
floor-below p q h = Z.<_suc_≤ (floor p) (floor q +ℤ pos 1)
    (Q.int_cancel_< (floor p) (floor q +ℤ pos 1 +ℤ pos 1) (Q.≤-<_trans (floor_le p) (Q.<_trans h
    (subst (λ r. q +ᵠ int (pos 1) <ᵠ r) (sym (int-add (floor q +ℤ pos 1) (pos 1))) (Q.+_mono_< (lt_floor q) (Q.≤-refl (int (pos 1))))))))

pub floors_near : (p q : ℚ) → p <ᵠ q +ᵠ int (pos 1) → q <ᵠ p +ᵠ int (pos 1) → nat_abs (floor p -ℤ floor q) ≤ 1
floors_near p q h k = go (floor p) (floor q) (floor-below p q h) (floor-below q p k)
  where
    go : (x y : ℤ) → x ≤ℤ (y +ℤ pos 1) → y ≤ℤ (x +ℤ pos 1) → nat_abs (x -ℤ y) ≤ 1
    go x y h k = Z.abs_le (x -ℤ y) 1 (omega (arith, Z.≤_out _ _ h, Z.bal_+ x (neg_ℤ y), Z.bal_neg y, Z.bal_+ y (pos 1))) (omega (
      arith,
      Z.≤_out _ _ k,
      Z.bal_+ x
          (neg_ℤ y),
      Z.bal_neg y,
      Z.bal_+ x (pos 1),
    ))
