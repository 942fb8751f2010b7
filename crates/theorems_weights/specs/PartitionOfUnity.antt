-- A partition of unity: no weight is negative, and the weights on each ordinate sum to exactly one.
use Rattle.std.specs.Prelude.{◌≡◌, ℕ, ◌<◌, pos}
use Rattle.base_exact.specs.Rational.{int}
use Rattle.base_exact.specs.Order.{◌≤ᵠ◌}
use Rattle.base_exact.specs.Sum.{sum}
use Rattle.spec_spline.specs.Space.{Space, column_count, row_count}
use Rattle.spec_spline.specs.Table.{cell}
use Rattle.spec_spline.specs.Piecewise.{Accepted}

-- No weight of an accepted space is negative.
abbrev pub NoWeightNegative : Type 0
NoWeightNegative = (s : Space) (a : Accepted s) (i c : ℕ) → int (pos 0) ≤ᵠ cell a.table i c

-- The weights of all n rows on an ordinate sum to one.
abbrev pub ColumnSumsOne : Type 0
ColumnSumsOne = (s : Space) (a : Accepted s) (c : ℕ) → c < column_count s → sum (row_count s) (λ i. cell a.table i c) ≡ int (pos 1)
