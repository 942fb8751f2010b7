-- Machine fractions and the fractions that they stand for. An operand need not be in lowest terms; an answer is.
use Rattle.std.specs.Prelude.{zero, suc, ◌<◌, ℤ, pos, negsuc, nat_abs, ◌<ℤ◌, Option, Some, None}
use Rattle.base_exact.specs.Rational.{ℚ, den, mk, int, suc_pos}
use Rattle.base_fraction.specs.Size.{limit, Counting, counted, too_large}
use Rattle.base_fraction.specs.declared.Fraction.{Fraction}

-- a fraction as the machine holds it: in lowest terms, the denominator positive
unfoldable pub fraction : ℚ → Fraction
fraction q = record { num = q.num; den = pos (den q) }

-- n over d, and 0 where d is not positive
unfoldable pub ratio : ℤ → ℤ → ℚ
ratio n (pos zero) = int (pos 0)
ratio n (pos (suc d)) = mk n (suc d) (suc_pos d)
ratio n (negsuc d) = int (pos 0)

-- the fraction that a machine fraction stands for
unfoldable pub value : Fraction → ℚ
value f = ratio f.num f.den

-- a counted fraction as the machine answers it
unfoldable pub answer : Counting ℚ → Option Fraction
answer (counted q) = Some (fraction q)
answer too_large = None

-- a machine fraction whose parts are below the limit: no operation on two of these can overflow
pub record FractionFits (f : Fraction) : Type 0 where
  pub num_small : nat_abs f.num < limit
  pub den_pos : pos 0 <ℤ f.den
  pub den-small : nat_abs f.den < limit
