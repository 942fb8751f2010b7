-- The exact curve (§ 7), of each wood by its own coefficients (§ 8): the sum that values are held against, s, the coefficients with
-- weight on a segment, and which curve calls are within the specification's limits. p is `degree s (segment_at s x)`.
use Rattle.std.specs.Prelude.{◌≡◌, Bool, not, List, ℕ, zero, suc, ◌+◌, ◌*◌, ◌-◌, ◌<◌, ◌≤◌, max, T, ℤ, pos, ◌-ℤ◌, length}
use Rattle.std.proofs.Math.Option.{get_or}
use Rattle.base_exact.specs.Rational.{ℚ, int, ◌*ᵠ◌, ◌/ᵠ◌}
use Rattle.base_exact.specs.Sum.{sum}
use Rattle.base_outcome.specs.Search.{first, found, how_many}
use Rattle.spec_spline.specs.Space.{Space, degree, first_column, row_count}
use Rattle.spec_spline.specs.Conditions.{binomial}
use Rattle.spec_spline.specs.Table.{Table, cell, table_cells}
use Rattle.spec_spline.specs.Piecewise.{Accepted}
use Rattle.spec_spline.specs.Reading.{Wood, fine, segment_at, coefficient, has_weight, least, greatest, fine_width, offset}
use Rattle.spec_spline.specs.CurveCall.{position_limit, bad_coefficient, bad_position}

-- q to the power n, "where 0^0 is 1" (§ 7).
unfoldable pub power : ℚ → ℕ → ℚ
power q zero = int (pos 1)
power q (suc n) = power q n *ᵠ q

-- "C(p, t)·u^t·(D - u)^(p - t)/D^p" (§ 7).
unfoldable pub bernstein_at : ℕ → ℕ → ℤ → ℕ → ℚ
bernstein_at p d u t = int (pos (binomial p t)) *ᵠ power (int u) t *ᵠ power (int (pos d -ℤ u)) (p - t) /ᵠ power (int (pos d)) p

-- "256·(coefficient of row i)·(weight of row i on ordinate t)·C(p, t)·u^t·(D - u)^(p - t)/D^p" (§ 7), at a position x of segment j.
unfoldable pub exact_term : Space → Table → Wood → List ℤ → ℕ → ℤ → ℕ → ℕ → ℚ
exact_term s w wood coefs j x i t = int (fine (coefficient wood coefs i)) *ᵠ cell w i (first_column s j + t) *ᵠ bernstein_at (degree s j)
    (fine_width s j) (offset s j x) t

-- "the sum over all rows i and the segment's ordinates t = 0 to p" (§ 7), for segment j.
unfoldable pub exact_on : Space → Table → Wood → List ℤ → ℕ → ℤ → ℚ
exact_on s w wood coefs j x = sum (length w) (λ i. sum (suc (degree s j)) (λ t. exact_term s w wood coefs j x i t))

-- "the exact curve of a wood at a position" (§ 7): on the position's segment.
unfoldable pub exact_curve : Space → Table → Wood → List ℤ → ℤ → ℚ
exact_curve s w wood coefs x = exact_on s w wood coefs (segment_at s x) x

-- The greatest of f 0, .., f (n - 1), and 0 for n = 0.
unfoldable pub largest : ℕ → (ℕ → ℕ) → ℕ
largest zero f = 0
largest (suc n) f = max (largest n f) (f n)

-- "s is the largest count of rows with non-zero weight in one column of the segment." (§ 7)
unfoldable pub most_weights : Space → Table → ℕ → ℕ
most_weights s w j = largest (suc (degree s j)) (λ t. how_many (length w) (has_weight w (first_column s j + t)))

-- "A coefficient has weight on a segment where its row has a non-zero weight in one of the segment's columns." (§ 7)
unfoldable pub weighs_on : Space → Table → ℕ → ℕ → Bool
weighs_on s w j i = found (first (suc (degree s j)) (λ t. has_weight w (first_column s j + t) i))

-- The least coefficient of a wood part with weight on segment j; 0 if there is none, which no accepted space has.
unfoldable pub least_on : Space → Table → Wood → List ℤ → ℕ → ℤ
least_on s w wood coefs j = get_or (least (length w) (weighs_on s w j) (coefficient wood coefs)) (pos 0)

-- The greatest coefficient with weight on segment j, likewise.
unfoldable pub greatest_on : Space → Table → Wood → List ℤ → ℕ → ℤ
greatest_on s w wood coefs j = get_or (greatest (length w) (weighs_on s w j) (coefficient wood coefs)) (pos 0)

-- Coefficients, positions and buffers within the limits of § 1 and § 2, beside an accepted space (§ 5).
pub record Legal (s : Space) (coefs positions : List ℤ) (num_length den_length values_length : ℕ) : Type 0 where
  pub accepted : Accepted s
  pub coefficient_count : length coefs ≡ 2 * row_count s
  pub coefficients : (i : ℕ) → i < length coefs → T (not (bad_coefficient coefs i))
  pub position_count : length positions ≤ position_limit
  pub in_span : (i : ℕ) → i < length positions → T (not (bad_position s positions i))
  pub numerators : table_cells ≤ num_length
  pub denominators : table_cells ≤ den_length
  pub values : 2 * length positions ≤ values_length
