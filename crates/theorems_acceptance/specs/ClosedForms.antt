-- Every weight of every accepted space as a formula in the lengths and degrees of a few segments. WeightCount says which
-- ordinates have one, two or three weights; those with more than one are the ordinate of a join of order 1, and that of a join
-- of order 2 with the two beside it.
use Rattle.std.specs.Prelude.{◌≡◌, cond, ◌&&◌, ℕ, suc, ◌+◌, ◌-◌, ◌<◌, ◌≤◌, eqb, pos}
use Rattle.base_exact.specs.Rational.{ℚ, int, ◌+ᵠ◌, ◌*ᵠ◌, ◌-ᵠ◌, ◌/ᵠ◌}
use Rattle.spec_spline.specs.Space.{Space, segments, order, degree, width, condition_count, first_column, conditions_before}
use Rattle.spec_spline.specs.Conditions.{scale}
use Rattle.spec_spline.specs.Table.{cell}
use Rattle.spec_spline.specs.Piecewise.{Accepted}
use Rattle.theorems_stages.specs.Counts.{full_count}
use Rattle.theorems_acceptance.specs.WeightCount.{left_conditions, right_conditions}

-- The sizes of the conditions of order k on the two sides of join j, before the binomials and the division.
unfoldable pub left_size : Space → ℕ → ℕ → ℚ
left_size s j k = int (pos (scale (degree s j) k (width s (suc j))))

unfoldable pub right_size : Space → ℕ → ℕ → ℚ
right_size s j k = int (pos (scale (degree s (suc j)) k (width s j)))

-- The right side's share of the two at order 1: q a / (p b + q a).
unfoldable pub share : Space → ℕ → ℚ
share s j = right_size s j 1 /ᵠ (left_size s j 1 +ᵠ right_size s j 1)

-- The sizes at order 2, each with the other side's share.
unfoldable pub balance : Space → ℕ → ℚ
balance s j = left_size s j 2 *ᵠ share s j +ᵠ right_size s j 2 *ᵠ (int (pos 1) -ᵠ share s j)

-- The factor of the last row that a step of order 2 mixes.
unfoldable pub upper_factor : Space → ℕ → ℚ
upper_factor s j = right_size s j 2 /ᵠ (right_size s j 2 +ᵠ balance s j)

-- The degree of a cubic segment.
abbrev pub cubic : ℕ
cubic = 3

-- What the join before has taken of the ordinate where this join's step of order 2 begins: something only where the segment
-- between them is cubic and that join has order 2.
unfoldable pub taken_before : Space → ℕ → ℚ
taken_before s j = cond (eqb (degree s j) cubic && eqb (left_conditions s j) full_count) (upper_factor s (j - 1)) (int (pos 0))

-- The factor of the first row that a step of order 2 mixes.
unfoldable pub lower_factor : Space → ℕ → ℚ
lower_factor s j = balance s j /ᵠ (balance s j +ᵠ left_size s j 2 *ᵠ (int (pos 1) -ᵠ taken_before s j))

-- What the next join leaves of a last weight: less than all only where the segment between them is cubic and that join has order 2.
unfoldable pub left_over : Space → ℕ → ℚ
left_over s j = cond (eqb (degree s (suc j)) cubic && eqb (right_conditions s (suc j)) full_count) (lower_factor s (suc j)) (int (pos 1))

-- The row of ordinate u of segment j if no join reaches it; the last row with weight on the ordinate of join j is that of its
-- left segment's last ordinate.
unfoldable pub own_row : Space → ℕ → ℕ → ℕ
own_row s j u = first_column s j + u - conditions_before s j

abbrev pub join_row : Space → ℕ → ℕ
join_row s j = own_row s j (degree s j)

-- The column of the join's ordinate: the last one of its left segment.
abbrev pub join_column : Space → ℕ → ℕ
join_column s j = first_column s j + degree s j

-- The two weights on the ordinate of a join of order 1.
abbrev pub JoinWeightsAtOrderOne : Type 0
JoinWeightsAtOrderOne = (s : Space) (a : Accepted s) (j : ℕ) → suc j < segments s → order s j ≡ pos 1
    → (cell a.table (join_row s j - 1) (join_column s j) ≡ int (pos 1) -ᵠ share s j)
    × (cell a.table (join_row s j) (join_column s j) ≡ share s j)

-- The first and the last weight on the ordinate of a join of order 2.
unfoldable pub first_weight : Space → ℕ → ℚ
first_weight s j = (int (pos 1) -ᵠ lower_factor s j) *ᵠ (int (pos 1) -ᵠ share s j)

unfoldable pub last_weight : Space → ℕ → ℚ
last_weight s j = left_over s j *ᵠ (upper_factor s j *ᵠ share s j)

-- Its three weights.
abbrev pub JoinWeightsAtOrderTwo : Type 0
JoinWeightsAtOrderTwo = (s : Space) (a : Accepted s) (j : ℕ) → suc j < segments s → order s j ≡ pos 2
    → (cell a.table (join_row s j - 2) (join_column s j) ≡ first_weight s j)
    × (cell a.table (join_row s j - 1) (join_column s j) ≡ int (pos 1) -ᵠ first_weight s j -ᵠ last_weight s j)
    × (cell a.table (join_row s j) (join_column s j) ≡ last_weight s j)

-- The two weights on the ordinate before it.
abbrev pub WeightsBeforeJoin : Type 0
WeightsBeforeJoin = (s : Space) (a : Accepted s) (j : ℕ) → suc j < segments s → order s j ≡ pos 2
    → (cell a.table (join_row s j - 2) (join_column s j - 1) ≡ int (pos 1) -ᵠ lower_factor s j)
    × (cell a.table (join_row s j - 1) (join_column s j - 1) ≡ lower_factor s j)

-- The two weights on the ordinate after it.
abbrev pub WeightsAfterJoin : Type 0
WeightsAfterJoin = (s : Space) (a : Accepted s) (j : ℕ) → suc j < segments s → order s j ≡ pos 2
    → (cell a.table (join_row s j - 1) (first_column s (suc j) + 1) ≡ int (pos 1) -ᵠ left_over s j *ᵠ upper_factor s j)
    × (cell a.table (join_row s j) (first_column s (suc j) + 1) ≡ left_over s j *ᵠ upper_factor s j)

-- At a join of order 0 or more the first ordinate after it has the weights of the last one before it.
abbrev pub JoinOrdinatesAgree : Type 0
JoinOrdinatesAgree = (s : Space) (a : Accepted s) (j : ℕ) → suc j < segments s → 0 < condition_count s j
    → (i : ℕ) → cell a.table i (join_column s j) ≡ cell a.table i (first_column s (suc j))

-- An ordinate that no join reaches has the weight 1 in its own row.
abbrev pub OwnOrdinatesAreRows : Type 0
OwnOrdinatesAreRows = (s : Space) (a : Accepted s) (j u : ℕ) → j < segments s → u ≤ degree s j
    → left_conditions s j ≤ u + 1 → right_conditions s j ≤ degree s j - u + 1
    → cell a.table (own_row s j u) (first_column s j + u) ≡ int (pos 1)
