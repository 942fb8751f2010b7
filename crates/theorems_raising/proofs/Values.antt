-- A value against that of coefficients that are at most d higher: every ordinate of its segment moves by at most e, and a blend of
-- numbers that move by at most e does too.
use mathlib.Core.Path.{◌≡◌, refl, ◌∙◌, ap, subst}
use mathlib.Core.Bool.{true}
use mathlib.Core.List.{[], ◌∷◌}
use Prim.Native.Nat.{ℕ, zero, suc, ◌+◌, ◌<◌, ◌≤◌}
use native.Mathlib.Omega.{arith}
use lib.IntN.{ℤ, pos, ◌+ℤ◌, ◌-ℤ◌, ◌*ℤ◌}
use lib.ListN.{length, get_or}
use lib.Signed.{◌≤ℤ◌}
use Rattle.base_exact.specs.Floor.{nearest}
use Rattle.base_exact.proofs.Floor.{nearest-add}
use Rattle.base_exact.proofs.Integer as Z
use Rattle.base_exact.proofs.Integer.{ℤ-ring, readsℤ}
use Rattle.base_exact.proofs.Ring.{ring}
use Rattle.base_exact.proofs.Tabulate.{tab_get_d}
use Rattle.spec_spline.specs.Space.{Space, degree, first_column, column_count}
use Rattle.spec_spline.specs.Piecewise.{Accepted}
use Rattle.spec_spline.specs.Reading.{fine, rounded, has_weight, term_sum, ordinate, ordinates, fine_width, offset, blend, triangle, blended}
use Rattle.spec_spline.specs.ExactCurve.{weighs_on}
use Rattle.theorems_values.proofs.Segment.{Located}
use Rattle.theorems_values.proofs.Value.{segment-column}
use Rattle.theorems_values.proofs.OnSegment.{weighs_in_column}
use Rattle.theorems_values.proofs.Weights.{Column, accepted-column}
use Rattle.theorems_promises.proofs.Directions.{climbing, blend-follows}
use Rattle.theorems_raising.proofs.Ordinates.{ordinate_moves}

-- ---- the triangle

-- a blend of two numbers moved by e is moved by e
pub blend-shift : (d : ℕ) → 0 < d → (u g h e : ℤ) → blend d u (g +ℤ e) (h +ℤ e) ≡ blend d u g h +ℤ e
unfolding blend rounded
blend-shift d p u g h e = ap (λ z. nearest z d) (alg (pos d) u g h e) ∙ nearest-add ((pos d -ℤ u) *ℤ g +ℤ u *ℤ h) e d p
  where
    alg : (d u g h e : ℤ) → (d -ℤ u) *ℤ (g +ℤ e) +ℤ u *ℤ (h +ℤ e) ≡ (d -ℤ u) *ℤ g +ℤ u *ℤ h +ℤ e *ℤ d
    alg d u g h e = ring ℤ-ring (d ∷ u ∷ g ∷ h ∷ e ∷ []) (search readsℤ depth 30) (search readsℤ depth 30) refl

pub triangle_moves_by : (d : ℕ) → 0 < d → (u : ℤ) → pos 0 ≤ℤ u → u ≤ℤ pos d → (e : ℤ) (g h : ℕ → ℤ) (p : ℕ) → ((k : ℕ) → k ≤ p → h k ≤ℤ (g k +ℤ e))
    → (n k : ℕ) → k + n ≤ p → triangle d u h n k ≤ℤ (triangle d u g n k +ℤ e)
unfolding triangle
triangle_moves_by d m u from to e g h p all zero k l = all k (omega arith)
triangle_moves_by d m u from to e g h p all (suc n) k l =
    subst (λ z. blend d u (triangle d u h n k) (triangle d u h n (suc k)) ≤ℤ z) (blend-shift d m u (triangle d u g n k) (triangle d u g n (suc k)) e)
    (blend-follows climbing d m u from to _ _ _ _ (triangle_moves_by d m u from to e g h p all n k (omega arith)) (triangle_moves_by d m u from to e g h p all n (suc k) (omega arith)))

-- ---- a value

module _ (s : Space) (a : Accepted s) (x : ℤ) (j : ℕ) (at : Located s x j) (f g : ℕ → ℤ) (d e : ℤ) (enough : fine d ≤ℤ e)
    (off : (i : ℕ) → i < length a.table → weighs_on s a.table j i ≡ true → g i ≤ℤ (f i +ℤ d))
    (sums : (k : ℕ) → k ≤ degree s j → Column a.table (first_column s j + k)
    → ((i : ℕ) → i < length a.table → has_weight a.table (first_column s j + k) i ≡ true → g i ≤ℤ (f i +ℤ d))
    → term_sum a.table g (first_column s j + k) (length a.table) ≤ℤ (term_sum a.table f (first_column s j + k) (length a.table) +ℤ e)) where
  abbrev given : (ℕ → ℤ) → ℕ → ℤ
  given r k = get_or (ordinates s a.table r) (first_column s j + k) (pos 0)

  given_is : (r : ℕ → ℤ) (k : ℕ) → k ≤ degree s j → given r k ≡ ordinate a.table r (first_column s j + k)
  unfolding ordinates
  given_is r k h = tab_get_d (column_count s) (ordinate a.table r) (first_column s j + k) (pos 0) (segment-column s j k at.below h)

  given_moves : (k : ℕ) → k ≤ degree s j → given g k ≤ℤ (given f k +ℤ e)
  given_moves k h = rw (given_is g k h, given_is f k h) (ordinate_moves a.table (first_column s j + k) column f g d e weighs enough (sums k h column weighs))
    where
      column : Column a.table (first_column s j + k)
      column = accepted-column s a (first_column s j + k) (segment-column s j k at.below h)

      weighs : (i : ℕ) → i < length a.table → has_weight a.table (first_column s j + k) i ≡ true → g i ≤ℤ (f i +ℤ d)
      weighs i l w = off i l (weighs_in_column s a.table j k i h w)

  pub blended_moves : blended s (ordinates s a.table g) j x ≤ℤ (blended s (ordinates s a.table f) j x +ℤ e)
  unfolding blended
  blended_moves = triangle_moves_by (fine_width s j) at.positive (offset s j x) at.from at.to e (given f) (given g) (degree s j) given_moves (degree s j) 0 (omega arith)
