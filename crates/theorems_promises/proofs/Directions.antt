-- The two directions of a list, falling and climbing, and what both keep: rounding, sums, products by a number at or above zero,
-- the limits of an ordinate, and the ends of a blend. One argument then serves for both.
use mathlib.Core.Path.{◌≡◌, refl, subst}
use mathlib.Core.Bool.{true}
use mathlib.Core.List.{[], ◌∷◌}
use Prim.Native.Nat.{ℕ, zero, suc, ◌+◌, ◌<◌, ◌≤◌}
use native.Mathlib.Omega.{arith}
use lib.IntN.{ℤ, pos, ◌+ℤ◌, ◌-ℤ◌, ◌*ℤ◌}
use lib.ListN.{length}
use lib.Signed.{◌≤ℤ◌}
use Rattle.base_exact.proofs.Floor.{nearest_mono}
use Rattle.base_exact.proofs.Integer as Z
use Rattle.base_exact.proofs.Integer.{ℤ-ring, readsℤ}
use Rattle.base_exact.proofs.Ring.{ring}
use Rattle.spec_spline.specs.Table.{Table}
use Rattle.spec_spline.specs.Reading.{fine, rounded, has_weight, ordinate, blend, triangle}
use Rattle.theorems_values.proofs.Triangle.{blend-between}
use Rattle.theorems_values.proofs.Weights.{Column}
use Rattle.theorems_values.proofs.Ordinate.{ordinate-between}

-- `before x y`: going in this direction, y may follow x.
pub record Direction (before : ℤ → ℤ → Type 0) : Type 0 where
  pub same : (x : ℤ) → before x x
  pub chain : (x y z : ℤ) → before x y → before y z → before x z
  pub rounds : (x y : ℤ) (d : ℕ) → 0 < d → before x y → before (rounded x d) (rounded y d)
  pub adds : (x y z w : ℤ) → before x y → before z w → before (x +ℤ z) (y +ℤ w)
  pub scales : (k x y : ℤ) → pos 0 ≤ℤ k → before x y → before (k *ℤ x) (k *ℤ y)
  pub limits : (t : Table) (a : ℕ → ℤ) (c : ℕ) → Column t c → (p q : ℤ) → ((i : ℕ) → i < length t → has_weight t c i ≡ true → before p (a i))
      → ((i : ℕ) → i < length t → has_weight t c i ≡ true → before (a i) q) → before (fine p) (ordinate t a c) × before (ordinate t a c) (fine q)
  pub mixes : (d : ℕ) (u x y : ℤ) → 0 < d → pos 0 ≤ℤ u → u ≤ℤ pos d → before x y → before x (blend d u x y) × before (blend d u x y) y

-- ---- the two

rounded_le : (x y : ℤ) (d : ℕ) → 0 < d → x ≤ℤ y → rounded x d ≤ℤ rounded y d
unfolding rounded
rounded_le x y d h l = nearest_mono x y d h l

pub climbing : Direction (λ x y. x ≤ℤ y)
climbing = record {
  same = λ x. Z.≤-refl x;
  chain = λ x y z p q. Z.≤_trans x y z p q;
  rounds = λ x y d h l. rounded_le x y d h l;
  adds = λ x y z w p q. Z.+_mono x y z w p q;
  scales = λ k x y h l. Z.*_mono_left k x y h l;
  limits = λ t a c C p q from to. let b = ordinate-between t a c C p q from to in (b.at-least, b.at-most);
  mixes =
      λ d u x y h p q l. let b = blend-between d u h p q {low = x} {high = y} {g = x} {g' = y} (record { at-least = Z.≤-refl x; at-most = l })
      (record { at-least = l; at-most = Z.≤-refl y }) in (b.at-least, b.at-most);
}

pub falling : Direction (λ x y. y ≤ℤ x)
falling = record {
  same = λ x. Z.≤-refl x;
  chain = λ x y z p q. Z.≤_trans z y x q p;
  rounds = λ x y d h l. rounded_le y x d h l;
  adds = λ x y z w p q. Z.+_mono y x w z p q;
  scales = λ k x y h l. Z.*_mono_left k y x h l;
  limits = λ t a c C p q from to. let b = ordinate-between t a c C q p to from in (b.at-most, b.at-least);
  mixes =
      λ d u x y h p q l. let b = blend-between d u h p q {low = y} {high = x} {g = x} {g' = y} (record { at-least = l; at-most = Z.≤-refl x })
      (record { at-least = Z.≤-refl y; at-most = l }) in (b.at-most, b.at-least);
}

-- ---- a blend goes with its ends, and with its place between them

module _ {before : ℤ → ℤ → Type 0} (D : Direction before) (d : ℕ) (positive : 0 < d) where
  pub blend-follows : (u : ℤ) → pos 0 ≤ℤ u → u ≤ℤ pos d → (g h g' h' : ℤ) → before g g' → before h h' → before (blend d u g h) (blend d u g' h')
  unfolding blend
  blend-follows u from to g h g' h' p q = D.rounds _ _ d positive
      (D.adds ((pos d -ℤ u) *ℤ g) ((pos d -ℤ u) *ℤ g') (u *ℤ h) (u *ℤ h') (D.scales (pos d -ℤ u) g g' (Z.non_neg_le (pos d -ℤ u) (Z.le_sub u (pos d) to)) p) (D.scales u h h' from q))

  pub blend_moves : (u v : ℤ) → u ≤ℤ v → (g h : ℤ) → before g h → before (blend d u g h) (blend d v g h)
  unfolding blend
  blend_moves u v l g h p = D.rounds _ _ d positive
      (subst (λ x. before x ((pos d -ℤ v) *ℤ g +ℤ v *ℤ h)) (earlier (pos d) u v g h)
      (subst (λ y. before ((pos d -ℤ v) *ℤ g +ℤ u *ℤ h +ℤ (v -ℤ u) *ℤ g) y) (later (pos d) u v g h)
      (D.adds ((pos d -ℤ v) *ℤ g +ℤ u *ℤ h) ((pos d -ℤ v) *ℤ g +ℤ u *ℤ h) ((v -ℤ u) *ℤ g) ((v -ℤ u) *ℤ h) (D.same _) (D.scales (v -ℤ u) g h (Z.non_neg_le (v -ℤ u) (Z.le_sub u v l)) p))))
    where
      earlier : (d u v g h : ℤ) → (d -ℤ v) *ℤ g +ℤ u *ℤ h +ℤ (v -ℤ u) *ℤ g ≡ (d -ℤ u) *ℤ g +ℤ u *ℤ h
      earlier d u v g h = ring ℤ-ring (d ∷ u ∷ v ∷ g ∷ h ∷ []) (search readsℤ depth 30) (search readsℤ depth 30) refl

      later : (d u v g h : ℤ) → (d -ℤ v) *ℤ g +ℤ u *ℤ h +ℤ (v -ℤ u) *ℤ h ≡ (d -ℤ v) *ℤ g +ℤ v *ℤ h
      later d u v g h = ring ℤ-ring (d ∷ u ∷ v ∷ g ∷ h ∷ []) (search readsℤ depth 30) (search readsℤ depth 30) refl

  -- ---- so does every number of the triangle of ordinates 0 to p that follow one another
  module _ (g : ℕ → ℤ) (p : ℕ) (follow : (k : ℕ) → k < p → before (g k) (g (suc k))) where
    module _ (u : ℤ) (from : pos 0 ≤ℤ u) (to : u ≤ℤ pos d) where
      pub triangle-follows : (n k : ℕ) → k + n < p → before (triangle d u g n k) (triangle d u g n (suc k))
      unfolding triangle
      triangle-follows zero k h = follow k (omega arith)
      triangle-follows (suc n) k h = blend-follows u from to _ _ _ _ (triangle-follows n k (omega arith)) (triangle-follows n (suc k) (omega arith))

      pub after_first : (n k : ℕ) → k + n ≤ p → before (g k) (triangle d u g n k)
      unfolding triangle
      after_first zero k h = D.same (g k)
      after_first (suc n) k h = D.chain _ _ _ (after_first n k (omega arith)) (D.mixes d u _ _ positive from to (triangle-follows n k (omega arith))).0

      pub before_last : (n k : ℕ) → k + n ≤ p → before (triangle d u g n k) (g (k + n))
      unfolding triangle
      before_last zero k h = subst (λ i. before (g k) (g i)) (let z : k ≡ k + 0 = omega arith in z) (D.same (g k))
      before_last (suc n) k h = subst (λ i. before (triangle d u g (suc n) k) (g i)) (let z : suc k + n ≡ k + suc n = omega arith in z)
          (D.chain _ _ _ (D.mixes d u _ _ positive from to (triangle-follows n k (omega arith))).1 (before_last n (suc k) (omega arith)))

    pub triangle_moves : (u v : ℤ) → pos 0 ≤ℤ u → u ≤ℤ v → v ≤ℤ pos d → (n k : ℕ) → k + n ≤ p → before (triangle d u g n k) (triangle d v g n k)
    unfolding triangle
    triangle_moves u v from l to zero k h = D.same (g k)
    triangle_moves u v from l to (suc n) k h = D.chain _ _ _
        (blend_moves u v l _ _ (triangle-follows u from (Z.≤_trans u v (pos d) l to) n k (omega arith)))
        (blend-follows v (Z.≤_trans (pos 0) u v from l) to _ _ _ _ (triangle_moves u v from l to n k (omega arith)) (triangle_moves u v from l to n (suc k) (omega arith)))
