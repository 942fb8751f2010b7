-- How far a value can rise from one position to a later one of the same segment. Neighbouring numbers of each stage of the
-- triangle differ by at most Δ upwards, as the ordinates do; so k positions on, with k·Δ at most c·D, one blend more adds at
-- most c, and p blends p·c. Rounding to the nearest keeps these whole bounds: it keeps the order, and multiples of D come out.
use mathlib.Core.Path.{◌≡◌, refl, sym, ◌∙◌, ap, subst}
use mathlib.Core.List.{[], ◌∷◌}
use Prim.Native.Nat.{ℕ, zero, suc, ◌+◌, ◌*◌, ◌<◌, ◌≤◌}
use native.Mathlib.Omega.{arith}
use lib.IntN.{ℤ, pos, ◌+ℤ◌, ◌-ℤ◌, ◌*ℤ◌, neg_ℤ}
use lib.Signed.{◌≤ℤ◌}
use Rattle.base_exact.specs.Floor.{nearest}
use Rattle.base_exact.proofs.Integer as Z
use Rattle.base_exact.proofs.Integer.{ℤ-ring}
use Rattle.base_exact.proofs.Ring.{ring, reads}
use Rattle.base_exact.proofs.Floor.{nearest_mono, nearest-add}
use Rattle.spec_spline.specs.Reading.{rounded, blend, triangle}

module _ (d : ℕ) (positive : 0 < d) where
  -- what is rounded at u + k of d, and at u
  moved : (u k g h : ℤ) → (pos d -ℤ (u +ℤ k)) *ℤ g +ℤ (u +ℤ k) *ℤ h ≡ (pos d -ℤ u) *ℤ g +ℤ u *ℤ h +ℤ k *ℤ (h -ℤ g)
  moved u k g h = alg (pos d) u k g h
    where
      alg : (d u k g h : ℤ) → (d -ℤ (u +ℤ k)) *ℤ g +ℤ (u +ℤ k) *ℤ h ≡ (d -ℤ u) *ℤ g +ℤ u *ℤ h +ℤ k *ℤ (h -ℤ g)
      alg d u k g h = ring ℤ-ring (d ∷ u ∷ k ∷ g ∷ h ∷ []) (search reads depth 20) (search reads depth 20) refl

  -- both numbers raised by a
  pub blend-raised : (u g h a : ℤ) → blend d u (g +ℤ a) (h +ℤ a) ≡ blend d u g h +ℤ a
  unfolding blend rounded
  blend-raised u g h a = ap (λ z. nearest z d) (alg (pos d) u g h a) ∙ nearest-add ((pos d -ℤ u) *ℤ g +ℤ u *ℤ h) a d positive
    where
      alg : (d u g h a : ℤ) → (d -ℤ u) *ℤ (g +ℤ a) +ℤ u *ℤ (h +ℤ a) ≡ (d -ℤ u) *ℤ g +ℤ u *ℤ h +ℤ a *ℤ d
      alg d u g h a = ring ℤ-ring (d ∷ u ∷ g ∷ h ∷ a ∷ []) (search reads depth 20) (search reads depth 20) refl

  -- ---- at one position

  module _ (u : ℤ) (from : pos 0 ≤ℤ u) (to : u ≤ℤ pos d) where
    pub blend_mono : (g g' h h' : ℤ) → g ≤ℤ g' → h ≤ℤ h' → blend d u g h ≤ℤ blend d u g' h'
    unfolding blend rounded
    blend_mono g g' h h' p q =
        nearest_mono _ _ d positive (Z.+_mono _ _ _ _ (Z.*_mono_left (pos d -ℤ u) g g' (Z.non_neg_le _ (Z.le_sub u (pos d) to)) p)
        (Z.*_mono_left u h h' from q))

    -- a stage's neighbours rise by at most Δ
    pub triangle-rise : (p : ℕ) (Δ : ℤ) (g : ℕ → ℤ) → ((j : ℕ) → j < p → g (suc j) ≤ℤ (g j +ℤ Δ)) → (n j : ℕ) → j + n < p
        → triangle d u g n (suc j) ≤ℤ (triangle d u g n j +ℤ Δ)
    unfolding triangle
    triangle-rise p Δ g rise zero j h = rise j (omega arith)
    triangle-rise p Δ g rise (suc n) j h =
        subst (λ z. triangle d u g (suc n) (suc j) ≤ℤ z) (blend-raised u (triangle d u g n j) (triangle d u g n (suc j)) Δ)
        (blend_mono _ _ _ _ (triangle-rise p Δ g rise n j (omega arith)) (triangle-rise p Δ g rise n (suc j) (omega arith)))

  -- ---- from u to u + k

  -- one blend: k·(h - g) is at most c·d
  blend-moved : (u k g h c : ℤ) → (k *ℤ (h -ℤ g)) ≤ℤ (c *ℤ pos d) → blend d (u +ℤ k) g h ≤ℤ (blend d u g h +ℤ c)
  unfolding blend rounded
  blend-moved u k g h c l = subst (λ z. nearest z d ≤ℤ (nearest ((pos d -ℤ u) *ℤ g +ℤ u *ℤ h) d +ℤ c)) (sym (moved u k g h))
      (subst (λ z. nearest ((pos d -ℤ u) *ℤ g +ℤ u *ℤ h +ℤ k *ℤ (h -ℤ g)) d ≤ℤ z) (nearest-add ((pos d -ℤ u) *ℤ g +ℤ u *ℤ h) c d positive)
      (nearest_mono _ _ d positive (Z.+_mono _ _ _ _ (Z.≤-refl ((pos d -ℤ u) *ℤ g +ℤ u *ℤ h)) l)))

  module _ (u k : ℤ) (from : pos 0 ≤ℤ u) (onward : pos 0 ≤ℤ k) (to : (u +ℤ k) ≤ℤ pos d) where
    -- u itself lies in the segment, u + k not before its start
    start_to : u ≤ℤ pos d
    start_to = Z.≤_in u (pos d) (omega (arith, Z.≤_out _ _ to, Z.≤_out (pos 0) k onward, Z.bal_+ u k))

    end_from : pos 0 ≤ℤ (u +ℤ k)
    end_from = Z.≤_in (pos 0) (u +ℤ k) (omega (arith, Z.≤_out (pos 0) u from, Z.≤_out (pos 0) k onward, Z.bal_+ u k))

    pub triangle-moved : (p c : ℕ) (Δ : ℤ) (g : ℕ → ℤ) → ((j : ℕ) → j < p → g (suc j) ≤ℤ (g j +ℤ Δ)) → (k *ℤ Δ) ≤ℤ (pos c *ℤ pos d)
        → (n j : ℕ) → j + n ≤ p → triangle d (u +ℤ k) g n j ≤ℤ (triangle d u g n j +ℤ pos (n * c))
    unfolding triangle
    triangle-moved p c Δ g rise l zero j h = Z.≤_in _ _ (omega (arith, Z.bal_+ (g j) (pos (0 * c))))
    triangle-moved p c Δ g rise l (suc n) j h =
        Z.≤_trans _ (blend d (u +ℤ k) (x +ℤ pos (n * c)) (y +ℤ pos (n * c))) _
        (blend_mono (u +ℤ k) end_from to _ _ _ _ (triangle-moved p c Δ g rise l n j (omega arith))
        (triangle-moved p c Δ g rise l n (suc j) (omega arith)))
        (subst (λ z. z ≤ℤ (blend d u x y +ℤ pos (suc n * c))) (sym (blend-raised (u +ℤ k) x y (pos (n * c))))
        (Z.≤_trans _ (blend d u x y +ℤ pos c +ℤ pos (n * c)) _
        (Z.+_mono _ _ _ _ (blend-moved u k x y (pos c) (Z.≤_trans _ (k *ℤ Δ) _ (Z.*_mono_left k (y -ℤ x) Δ onward rises) l))
        (Z.≤-refl (pos (n * c))))
        (Z.≤_in _ _ (omega (
          arith,
          Z.bal_+ (blend d u x y +ℤ pos c) (pos (n * c)),
          Z.bal_+ (blend d u x y) (pos c),
          Z.bal_+ (blend d u x y) (pos (suc n * c)),
        )))))
      where
        x : ℤ
        x = triangle d u g n j

        y : ℤ
        y = triangle d u g n (suc j)

        rises : (y -ℤ x) ≤ℤ Δ
        rises =
            Z.≤_in _ _ (omega (
              arith,
              Z.≤_out _ _ (triangle-rise u from start_to p Δ g rise n j (omega arith)),
              Z.bal_+ x Δ,
              Z.bal_+ y (neg_ℤ x),
              Z.bal_neg x,
            ))
