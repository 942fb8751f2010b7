-- What an entry of a new row asks of its factors and of the two entries.
use Rattle.std.specs.Prelude.{true, ◌≡◌, pos}
use Rattle.base_exact.specs.Rational.{ℚ, int}
use Rattle.base_exact.specs.Order.{leᵠ}
use Rattle.base_fraction.specs.Size.{fits}
use Rattle.base_fraction.specs.Machine.{fraction, FractionFits}
use Rattle.base_fraction.specs.declared.Fraction.{Fraction}

-- A machine fraction in lowest terms that fits, from 0 to 1.
pub record UnitFactor (w : Fraction) : Type 0 where
  pub of : ℚ
  pub is : w ≡ fraction of
  pub fit : fits of ≡ true
  pub low : leᵠ (int (pos 0)) of ≡ true
  pub high : leᵠ of (int (pos 1)) ≡ true

-- Both factors and both entries have parts below the limit.
pub record NewEntryAsks (w u x y : Fraction) : Type 0 where
  pub first-factor : FractionFits w
  pub second-factor : FractionFits u
  pub first_entry : FractionFits x
  pub second-entry : FractionFits y
