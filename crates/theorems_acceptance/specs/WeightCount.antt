-- How many rows have weight on an ordinate of an accepted space (§ 5): exactly one, and one more for each
-- condition of its two joins that reaches it; so never more than three.
use Rattle.std.specs.Prelude.{◌≡◌, cond, ℕ, zero, suc, ◌+◌, ◌-◌, ◌<◌, ◌≤◌, ltb, length}
use Rattle.base_outcome.specs.Search.{how_many}
use Rattle.spec_spline.specs.Space.{Space, segments, degree, condition_count, first_column, column_count}
use Rattle.spec_spline.specs.Table.{Table}
use Rattle.spec_spline.specs.Piecewise.{Accepted}
use Rattle.spec_spline.specs.Reading.{has_weight}
use Rattle.theorems_acceptance.specs.Acceptance.{OrdersAtMostOne}

-- The conditions at the left join of segment j; the first segment has no such join.
abbrev pub left_conditions : Space → ℕ → ℕ
left_conditions s zero = 0
left_conditions s (suc j) = condition_count s j

-- The conditions at its right join; the last segment has no such join.
unfoldable pub right_conditions : Space → ℕ → ℕ
right_conditions s j = cond (ltb (suc j) (segments s)) (condition_count s j) 0

-- How many rows have a non-zero weight in this column.
abbrev pub weight_count : Table → ℕ → ℕ
weight_count t c = how_many (length t) (has_weight t c)

-- On ordinate u of a segment of degree p: 1 + max(0, r(left) - u) + max(0, r(right) - (p - u)), where r + 1 is a join's count
-- of conditions and a difference stops at 0.
abbrev pub WeightsAreCounted : Type 0
WeightsAreCounted = (s : Space) (a : Accepted s) (j u : ℕ) → j < segments s → u ≤ degree s j
    → weight_count a.table (first_column s j + u) ≡ 1 + (left_conditions s j - (u + 1)) + (right_conditions s j - (degree s j - u + 1))

-- Three: the largest number of non-zero weights that an ordinate has.
abbrev pub weight_limit : ℕ
weight_limit = 3

abbrev pub AtMostThreeWeights : Type 0
AtMostThreeWeights = (s : Space) (a : Accepted s) (c : ℕ) → c < column_count s → weight_count a.table c ≤ weight_limit

-- And none more than two where the orders are all at most 1.
abbrev pub low_weight_limit : ℕ
low_weight_limit = 2

abbrev pub AtMostTwoWeights : Type 0
AtMostTwoWeights = (s : Space) (a : Accepted s) → OrdersAtMostOne s → (c : ℕ) → c < column_count s
    → weight_count a.table c ≤ low_weight_limit
