-- What the new rows of a step ask of the factors.
use Rattle.std.specs.Prelude.{true, List, ◌≡◌, ℕ, pos}
use Rattle.base_exact.specs.Rational.{ℚ, int}
use Rattle.base_exact.specs.Order.{leᵠ}
use Rattle.base_fraction.specs.Size.{fits}
use Rattle.spec_spline.specs.Table.{entry}
use Rattle.base_fraction.specs.Fractions.{fractions}
use Rattle.base_fraction.specs.declared.arrays.Fractions.{Fractions}

-- Factors that all fit, from 0 to 1.
pub record UnitFactors (ws : Fractions) : Type 0 where
  pub of : List ℚ
  pub is : ws ≡ fractions of
  pub fit : (i : ℕ) → fits (entry of i) ≡ true
  pub low : (i : ℕ) → leᵠ (int (pos 0)) (entry of i) ≡ true
  pub high : (i : ℕ) → leᵠ (entry of i) (int (pos 1)) ≡ true
