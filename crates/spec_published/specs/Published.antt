-- The published successive null_space construction: H. Speleers, Computation of multi-degree B-splines, 2019 (doi
-- 10.1145/3321514; § 5), sections 2 and 3.2 with Figures 1 and 2, written from that paper alone. The segments are its Bernstein
-- pieces (its Remark 2) and all numbers are exact fractions. The paper counts from 1, this file from 0: its segment join
-- i is join i - 1 here, its k-th column order k - 1. Its mu is first_column, its kappa + 1 condition_count.
use Rattle.std.specs.Prelude.{cond, not, ℕ, zero, suc, ◌-◌, eqb, leb, ltb, pos, length}
use Rattle.std.proofs.Math.Option.{get_or}
use Rattle.base_exact.specs.Rational.{ℚ, int, ◌*ᵠ◌, -ᵠ◌, ◌-ᵠ◌, ◌/ᵠ◌}
use Rattle.base_exact.specs.Order.{is_zero}
use Rattle.base_exact.specs.Sum.{sum}
use Rattle.base_exact.specs.Tabulate.{tab}
use Rattle.base_outcome.specs.Search.{first, last}
use Rattle.spec_spline.specs.Space.{Space, segments, degree, width, first_column, column_count, condition_count}
use Rattle.spec_spline.specs.Table.{Row, Table, entry, cell, identity}

-- ---- derivatives at the ends of a piece of degree p and length h (section 2)

-- The coefficients of the k-th derivative: f_(j,k) := alpha_k (f_(j+1,k-1) - f_(j,k-1)), alpha_k := (p - k + 1) / h.
unfoldable pub derivative_coefficient : ℕ → ℕ → (ℕ → ℚ) → ℕ → ℕ → ℚ
derivative_coefficient p h f zero j = f j
derivative_coefficient p h f (suc k) j = int (pos (p - k)) /ᵠ int (pos h) *ᵠ
    (derivative_coefficient p h f k (suc j) -ᵠ derivative_coefficient p h f k j)

-- The coefficients of the Bernstein polynomial b_t itself.
abbrev pub bernstein : ℕ → ℕ → ℚ
bernstein t j = cond (eqb j t) (int (pos 1)) (int (pos 0))

-- The k-th derivative of b_t at the left end: the first coefficient, by interpolation at the end points.
abbrev pub derivative_at_left : ℕ → ℕ → ℕ → ℕ → ℚ
derivative_at_left p h k t = derivative_coefficient p h (bernstein t) k 0

-- The k-th derivative of b_t at the right end: the last of the p + 1 - k coefficients.
abbrev pub derivative_at_right : ℕ → ℕ → ℕ → ℕ → ℚ
derivative_at_right p h k t = derivative_coefficient p h (bernstein t) k (p - k)

-- ---- the continuity constraint matrix of join i (section 3.2.1)

-- (6): zeros, then the derivatives of the last pieces of the left segment at its right end.
unfoldable pub left_constraint : Space → ℕ → ℕ → ℕ → ℚ
left_constraint s i k t = cond (leb (degree s i - k) t) (derivative_at_right (degree s i) (width s i) k t) (int (pos 0))

-- (7): the derivatives of the first pieces of the right segment at its left end, negated, then zeros. (7) prints the
-- index of its first entry as mu_(i+1), the segment's last piece; mu_i + 1, its first, is meant: the last entry has mu_i + k.
unfoldable pub right_constraint : Space → ℕ → ℕ → ℕ → ℚ
right_constraint s i k t = cond (leb t k) (-ᵠ derivative_at_left (degree s (suc i)) (width s (suc i)) k t) (int (pos 0))

-- Row c, column k of K: the rows of (6) and (7) at the places of the two segments, all other rows zero.
unfoldable pub constraint : Space → ℕ → ℕ → ℕ → ℚ
constraint s i c k =
    cond (ltb c (first_column s i)) (int (pos 0))
    (cond (ltb c (first_column s (suc i))) (left_constraint s i k (c - first_column s i))
    (cond (ltb c (first_column s (suc (suc i)))) (right_constraint s i k (c - first_column s (suc i)))
    (int (pos 0))))

-- K, a row for each column of the space.
unfoldable pub constraints : Space → ℕ → Table
constraints s i = tab (column_count s) (λ c. tab (condition_count s i) (λ k. constraint s i c k))

-- ---- the sparse null_space of a vector l (section 3.2.2, Figure 2)

-- The figure's - l(j-1) / l(j) H(j-1, j-1), with j for its j - 1 and d for that entry of the matrix.
abbrev pub carried : Row → ℕ → ℚ → ℚ
carried l j d = -ᵠ (entry l j /ᵠ entry l (suc j)) *ᵠ d

-- H(j, j): 1 up to i1, 1 - H(j-1, j) between i1 and i2, 0 from i2 on.
unfoldable pub diagonal : Row → ℕ → ℕ → ℕ → ℚ
diagonal l i1 i2 zero = int (pos 1)
diagonal l i1 i2 (suc j) =
    cond (leb (suc j) i1) (int (pos 1))
    (cond (ltb (suc j) i2) (int (pos 1) -ᵠ carried l j (diagonal l i1 i2 j))
    (int (pos 0)))

-- H(j, j+1): 1 from column i2 on, the carried entry between i1 and i2, 0 up to i1.
unfoldable pub above_diagonal : Row → ℕ → ℕ → ℕ → ℚ
above_diagonal l i1 i2 j =
    cond (leb i2 (suc j)) (int (pos 1))
    (cond (leb (suc j) i1) (int (pos 0))
    (carried l j (diagonal l i1 i2 j)))

-- The matrix with one row less than l has entries, zero off the two diagonals.
unfoldable pub bidiagonal : Row → ℕ → ℕ → Table
bidiagonal l i1 i2 = tab (length l - 1) (λ r. tab (length l) (λ c.
    cond (eqb c r) (diagonal l i1 i2 r)
    (cond (eqb c (suc r)) (above_diagonal l i1 i2 r)
    (int (pos 0)))))

-- i1 and i2 are the first and the last non-zero entry of l; 0 if there is none, which does not occur in the construction.
unfoldable pub nullspace : Row → Table
nullspace l = bidiagonal l (get_or (first (length l) (λ i. not (is_zero (entry l i)))) 0)
    (get_or (last (length l) (λ i. not (is_zero (entry l i)))) 0)

-- ---- the extraction matrix (Figure 1)

-- The product of two matrices, the second with this many columns.
unfoldable pub product : ℕ → Table → Table → Table
product columns a b = tab (length a) (λ r. tab columns (λ c. sum (length b) (λ i. cell a r i *ᵠ cell b i c)))

-- Column k of a matrix.
abbrev pub column : Table → ℕ → Row
column a k = tab (length a) (λ r. cell a r k)

-- H and L of Figure 1.
pub record Matrices : Type 0 where
  pub H : Table
  pub L : Table

-- The body of the inner loop: the null_space of column k of L, multiplied to H and to L.
unfoldable pub constrain : Space → ℕ → ℕ → Matrices → Matrices
constrain s i k m =
    let null = nullspace (column m.L k) in
    record { H = product (column_count s) null m.H; L = product (condition_count s i) null m.L }

-- a changed by f 0, f 1, .., f (n - 1) in this order: a for-loop.
unfoldable pub for : {A : Type 0} → ℕ → (ℕ → A → A) → A → A
for zero f a = a
for (suc n) f a = f n (for n f a)

-- The body of the outer loop: L := H K, and then all orders at join i.
unfoldable pub smooth : Space → ℕ → Table → Table
smooth s i h = (for (condition_count s i) (constrain s i) (record { H = h; L = product (condition_count s i) h (constraints s i) })).H

-- The extraction matrix of the space: the construction's weights.
unfoldable pub extraction : Space → Table
extraction s = for (segments s - 1) (smooth s) (identity (column_count s))
