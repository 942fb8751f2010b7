-- The machine's form of the new coefficients that the definitions of crate theorems_recovery give, and what undoing asks.
use Rattle.std.specs.Prelude.{Option, Some, None, List, ◌≢◌, ◌≡◌, ℕ, suc, ◌-◌, ◌<◌, ◌≤◌, pos}
use Rattle.base_exact.specs.Rational.{ℚ, int}
use Rattle.base_outcome.specs.Outcome.{Outcome, answer, refusal}
use Rattle.spec_spline.specs.Table.{entry, row_cells}
use Rattle.base_fraction.specs.Fractions.{fractions}
use Rattle.base_fraction.specs.declared.arrays.Fractions.{Fractions}
use Rattle.build_rows.specs.Rows.{UnitFactors}
use Rattle.recover_counted.specs.Machine.{FractionsFit}

-- The new coefficients, or code 20.
unfoldable pub undone_of : Outcome (List ℚ) → Option Fractions
undone_of (answer cs) = Some (fractions cs)
undone_of (refusal code place) = None

-- No factor below index n is zero.
abbrev pub NonZero : Fractions → ℕ → Type 0
NonZero ws n = (us : List ℚ) → ws ≡ fractions us → (d : ℕ) → d < n → entry us d ≢ int (pos 0)

-- Row i is not before row f, the coefficients up to row i fit, and the factors are from 0 to 1, with no zero from row f to row i.
pub record RowAsks (cs ws : Fractions) (f i : ℕ) : Type 0 where
  pub order : f ≤ i
  pub within : i < row_cells
  pub coefficients : FractionsFit cs (suc i)
  pub factors : UnitFactors ws
  pub nonzero : NonZero ws (suc (i - f))

-- Row l is not before row f, the coefficients before row l fit, and the factors are from 0 to 1, with no zero from row f to row l - 1.
pub record RowsAsk (cs ws : Fractions) (f l : ℕ) : Type 0 where
  pub order : f ≤ l
  pub within : l < row_cells
  pub coefficients : FractionsFit cs l
  pub factors : UnitFactors ws
  pub nonzero : NonZero ws (l - f)
