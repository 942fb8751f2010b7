-- At every order, and across discontinuities: multipliers that do not rise from row to row give a curve whose exact ordinates do not rise
-- from column to column. What rises at order 2 in the values of a list that does not rise is rounding alone.
use Rattle.std.specs.Prelude.{List, ℕ, suc, ◌<◌}
use Rattle.base_exact.specs.Rational.{ℚ}
use Rattle.base_exact.specs.Order.{◌≤ᵠ◌}
use Rattle.spec_spline.specs.Space.{Space, column_count, row_count}
use Rattle.spec_spline.specs.Table.{entry}
use Rattle.spec_spline.specs.Piecewise.{Accepted, combination}

-- None of the n multipliers is above the one before it.
abbrev pub DoNotRise : Space → List ℚ → Type 0
DoNotRise s multipliers = (i : ℕ) → suc i < row_count s → entry multipliers (suc i) ≤ᵠ entry multipliers i

abbrev pub ExactOrdinatesFall : Type 0
ExactOrdinatesFall = (s : Space) (a : Accepted s) (multipliers : List ℚ) → DoNotRise s multipliers
    → (c : ℕ) → suc c < column_count s
    → entry (combination (column_count s) multipliers a.table) (suc c) ≤ᵠ entry (combination (column_count s) multipliers a.table) c
