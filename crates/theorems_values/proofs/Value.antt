-- A value against the exact curve on a segment that holds the position: the ordinates are within s/2 of the exact ones and
-- between 256 times the coefficients with weight, so p blends leave a number within (s + p)/2 and between the same limits.
-- Which segment a position belongs to is not used.
use mathlib.Core.Path.{◌≡◌, sym, subst}
use mathlib.Core.List.{List}
use Prim.Native.Nat.{ℕ, ◌+◌, ◌≤◌}
use native.Mathlib.Omega.{arith}
use lib.IntN.{ℤ, pos}
use lib.ListN.{get_or}
use Rattle.base_exact.proofs.Tabulate.{tab_get_d}
use Rattle.spec_spline.specs.Space.{Space, degree, first_column, column_count}
use Rattle.spec_spline.specs.Piecewise.{Accepted}
use Rattle.spec_spline.specs.Reading.{fine, Wood, coefficient, ordinate, ordinates, fine_width, offset, triangle, blended}
use Rattle.spec_spline.specs.ExactCurve.{exact_on, most_weights, least_on, greatest_on}
pub use Rattle.spec_spline.proofs.Space.{segment-column}
use Rattle.theorems_values.proofs.Within.{Within, halves, halves_mono, within_more}
use Rattle.theorems_values.proofs.Triangle.{Between, triangle-within, triangle-between}
use Rattle.theorems_values.proofs.Weights.{Column, accepted-column}
use Rattle.theorems_values.proofs.Ordinate.{ordinate-within, ordinate-between}
use Rattle.theorems_values.proofs.Segment.{Located}
use Rattle.theorems_values.proofs.ExactSum.{exact_ordinates, exact_on_is_triangle}
use Rattle.theorems_values.proofs.OnSegment.{column_at_most_s, weighs_in_column, least_on_le, le_greatest_on}

module _ (s : Space) (a : Accepted s) (wood : Wood) (coefs : List ℤ) (x : ℤ) (j : ℕ) (at : Located s x j) where
  abbrev given : ℕ → ℤ
  given k = get_or (ordinates s a.table (coefficient wood coefs)) (first_column s j + k) (pos 0)

  given_is : (k : ℕ) → k ≤ degree s j → given k ≡ ordinate a.table (coefficient wood coefs) (first_column s j + k)
  unfolding ordinates
  given_is k h = tab_get_d (column_count s) (ordinate a.table (coefficient wood coefs)) (first_column s j + k) (pos 0) (segment-column s j k at.below h)

  column : (k : ℕ) → k ≤ degree s j → Column a.table (first_column s j + k)
  column k h = accepted-column s a (first_column s j + k) (segment-column s j k at.below h)

  given-within : (k : ℕ) → k ≤ degree s j → Within (halves (most_weights s a.table j)) (exact_ordinates s a.table wood coefs j k) (given k)
  given-within k h = subst (Within (halves (most_weights s a.table j)) (exact_ordinates s a.table wood coefs j k)) (sym (given_is k h))
      (within_more (halves_mono _ _ (column_at_most_s s a.table j k h)) (ordinate-within a.table (coefficient wood coefs) (first_column s j + k) (column k h)))

  given-between : (k : ℕ) → k ≤ degree s j → Between (fine (least_on s a.table wood coefs j)) (fine (greatest_on s a.table wood coefs j)) (given k)
  given-between k h = subst (Between (fine (least_on s a.table wood coefs j)) (fine (greatest_on s a.table wood coefs j))) (sym (given_is k h))
      (ordinate-between a.table (coefficient wood coefs) (first_column s j + k) (column k h) (least_on s a.table wood coefs j) (greatest_on s a.table wood coefs j)
      (λ i l p. least_on_le s a.table j wood coefs i l (weighs_in_column s a.table j k i h p))
      (λ i l p. le_greatest_on s a.table j wood coefs i l (weighs_in_column s a.table j k i h p)))

  -- the value is within (s + p)/2 of the exact curve
  pub blended-within : Within (halves (most_weights s a.table j + degree s j)) (exact_on s a.table wood coefs j x) (blended s (ordinates s a.table (coefficient wood coefs)) j x)
  unfolding blended
  blended-within =
      subst (λ e. Within (halves (most_weights s a.table j + degree s j)) e (triangle (fine_width s j) (offset s j x) given (degree s j) 0))
      (sym (exact_on_is_triangle s a.table wood coefs j x at.positive))
      (triangle-within (fine_width s j) (offset s j x) at.positive at.from at.to (degree s j) (most_weights s a.table j)
      (exact_ordinates s a.table wood coefs j) given given-within (degree s j) 0 (omega arith))

  -- and between 256 times the coefficients with weight on the segment
  pub blended-between : Between (fine (least_on s a.table wood coefs j)) (fine (greatest_on s a.table wood coefs j)) (blended s (ordinates s a.table (coefficient wood coefs)) j x)
  unfolding blended
  blended-between =
      triangle-between (fine_width s j) (offset s j x) at.positive at.from at.to (degree s j) (fine (least_on s a.table wood coefs j))
      (fine (greatest_on s a.table wood coefs j)) given given-between (degree s j) 0 (omega arith)
