-- The operands of the operations on machine fractions.
use Rattle.std.specs.Prelude.{◌≢◌, pos}
use Rattle.base_fraction.specs.Machine.{FractionFits}
use Rattle.base_fraction.specs.declared.Fraction.{Fraction}

-- Both operands of a product or a sum have parts below the limit.
pub record OperandsFit (a b : Fraction) : Type 0 where
  pub first : FractionFits a
  pub second : FractionFits b

-- Both operands of a quotient have parts below the limit, and the divisor is not zero.
pub record QuotientAsks (a b : Fraction) : Type 0 where
  pub first : FractionFits a
  pub second : FractionFits b
  pub divisor_nonzero : b.num ≢ pos 0
