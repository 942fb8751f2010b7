-- The greatest common divisor of two natural numbers, by Euclid's algorithm. Its laws are in proofs/Gcd.
use Rattle.std.specs.Prelude.{ℕ, zero, suc, ◌%◌}

-- Euclid's algorithm, with fuel for the number of steps
unfoldable pub gcd_f : ℕ → ℕ → ℕ → ℕ
gcd_f zero a b = a
gcd_f (suc f) a zero = a
gcd_f (suc f) a (suc b) = gcd_f f (suc b) (a % suc b)

-- b + 1 steps are enough: each makes the second number smaller
unfoldable pub gcd : ℕ → ℕ → ℕ
gcd a b = gcd_f (suc b) a b
