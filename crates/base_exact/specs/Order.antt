-- The order of the rational numbers, as tests that compute: denominators are positive, so two fractions compare as the
-- cross products of their parts do. The relations are records over the tests, so that the two numbers can be inferred.
use Rattle.std.specs.Prelude.{Bool, ◌&&◌, T, eqb, pos, ◌*ℤ◌, nat_abs}
use Rattle.std.specs.Int.Signed.{non_neg, le_z, lt_z}
use Rattle.base_exact.specs.Rational.{ℚ, den}

unfoldable pub leᵠ : ℚ → ℚ → Bool
leᵠ p q = le_z (p.num *ℤ pos (den q)) (q.num *ℤ pos (den p))

unfoldable pub ltᵠ : ℚ → ℚ → Bool
ltᵠ p q = lt_z (p.num *ℤ pos (den q)) (q.num *ℤ pos (den p))

unfoldable pub eqᵠ : ℚ → ℚ → Bool
eqᵠ p q = leᵠ p q && leᵠ q p

-- a number is zero where its numerator is
unfoldable pub is_zero : ℚ → Bool
is_zero q = eqb (nat_abs q.num) 0

infix 50 ◌≤ᵠ◌ ◌<ᵠ◌
pub record ◌≤ᵠ◌ (p q : ℚ) : Type 0 where
  pub le : T (leᵠ p q)

pub record ◌<ᵠ◌ (p q : ℚ) : Type 0 where
  pub lt : T (ltᵠ p q)

-- not negative
pub record Nn (q : ℚ) : Type 0 where
  pub nn : T (non_neg q.num)

-- the absolute value
unfoldable pub absᵠ : ℚ → ℚ
absᵠ q = record { num = pos (nat_abs q.num); dm = q.dm; low = q.low }
