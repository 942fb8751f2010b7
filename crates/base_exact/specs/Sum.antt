-- Finite sums of rational numbers, over the places 0 .. n - 1 of a function.
use Rattle.std.specs.Prelude.{ℕ, zero, suc, pos}
use Rattle.base_exact.specs.Rational.{ℚ, ◌+ᵠ◌, int}

unfoldable pub sum : ℕ → (ℕ → ℚ) → ℚ
sum zero f = int (pos 0)
sum (suc n) f = sum n f +ᵠ f n
