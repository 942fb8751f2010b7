-- A number that the laws of stages and the formulas of weights share.
use Rattle.std.specs.Prelude.{ℕ}

-- The conditions of a join of order 2: one for each of the orders 0, 1 and 2.
abbrev pub full_count : ℕ
full_count = 3
