-- Counted fractions: the size test of § 5. The test stands here alone;
-- every operation and the definition of the build use it.
use Rattle.std.specs.Prelude.{ℕ, ◌^◌, Bool, ◌&&◌, cond, ltb, nat_abs}
use Rattle.base_exact.specs.Rational.{ℚ, den}

-- the least size that is too large
abbrev pub limit : ℕ
limit = 2 ^ 31

-- in lowest terms, the numerator's size and the denominator are both below the limit
unfoldable pub fits : ℚ → Bool
fits q = ltb (nat_abs q.num) limit && ltb (den q) limit

-- a counted fraction, or that it was too large
pub data Counting (A : Type 0) : Type 0 where
  counted : A → Counting A
  too_large : Counting A

-- a fraction is counted: it is the result if it fits
unfoldable pub count : ℚ → Counting ℚ
count q = cond (fits q) (counted q) too_large
