-- The column of conditions of a join and an order (§ 5), as its few non-zero entries.
use Rattle.std.specs.Prelude.{List, [], ◌∷◌, ◌++◌, map, ℕ, zero, suc, ◌+◌, ◌-◌, ◌*◌, ◌^◌, ◌/◌, ℤ, pos, ◌*ℤ◌, neg_ℤ, nat_abs}
use Rattle.base_exact.specs.Gcd.{gcd}
use Rattle.base_exact.specs.Rational.{signed}
use Rattle.base_exact.specs.Tabulate.{tab}
use Rattle.spec_spline.specs.Space.{Space, degree, width, first_column}

-- One non-zero entry of a column of conditions.
pub record Entry : Type 0 where
  pub column : ℕ
  pub condition : ℤ

-- F(p, k) = p (p - 1) .. (p - k + 1), and F(p, 0) = 1.
unfoldable pub falling : ℕ → ℕ → ℕ
falling p zero = 1
falling p (suc k) = falling p k * (p - k)

-- C(k, t), by Pascal's rule.
unfoldable pub binomial : ℕ → ℕ → ℕ
binomial k zero = 1
binomial zero (suc t) = 0
binomial (suc k) (suc t) = binomial k t + binomial k (suc t)

-- (-1)^n.
unfoldable pub alternating : ℕ → ℤ
alternating zero = pos 1
alternating (suc n) = neg_ℤ (alternating n)

-- The size of the entries on one side of the join before the binomial: F(p, k) times the k-th power of the other side's length.
abbrev pub scale : ℕ → ℕ → ℕ → ℕ
scale p k other = falling p k * other ^ k

-- "the left segment's ordinate p - k + t has F(p, k)·b^k·(-1)^(k - t)·C(k, t)" (§ 5).
abbrev pub left_entry : Space → ℕ → ℕ → ℕ → Entry
left_entry s j k t = record {
  column = first_column s j + (degree s j - k + t);
  condition = pos (scale (degree s j) k (width s (suc j)) * binomial k t) *ℤ alternating (k - t);
}

-- "the right segment's ordinate t has -F(q, k)·a^k·(-1)^(k - t)·C(k, t)" (§ 5).
abbrev pub right_entry : Space → ℕ → ℕ → ℕ → Entry
right_entry s j k t = record {
  column = first_column s (suc j) + t;
  condition = neg_ℤ (pos (scale (degree s (suc j)) k (width s j) * binomial k t) *ℤ alternating (k - t));
}

-- The entries before the division, for t = 0 to k on the left and then on the right: columns rising.
unfoldable pub undivided : Space → ℕ → ℕ → List Entry
undivided s j k = tab (suc k) (left_entry s j k) ++ tab (suc k) (right_entry s j k)

-- The greatest common divisor of all conditions.
unfoldable pub common_divisor : List Entry → ℕ
common_divisor [] = 0
common_divisor (e ∷ es) = gcd (nat_abs e.condition) (common_divisor es)

-- The entry with its condition divided by g; the sign is kept.
abbrev pub divided : ℕ → Entry → Entry
divided g e = record { column = e.column; condition = signed e.condition (nat_abs e.condition / g) }

-- The column of conditions of join j and order k.
unfoldable pub conditions : Space → ℕ → ℕ → List Entry
conditions s j k = map (divided (common_divisor (undivided s j k))) (undivided s j k)
