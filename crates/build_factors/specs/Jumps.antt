-- What the factors of a step ask of its jumps, and where a factor lies.
use Rattle.std.specs.Prelude.{Bool, true, false, ◌&&◌, List, ◌≢◌, ◌≡◌, ℕ, ◌<◌, ◌≤◌, pos, length}
use Rattle.base_exact.specs.Rational.{ℚ, int}
use Rattle.base_exact.specs.Order.{is_zero, ltᵠ}
use Rattle.base_fraction.specs.Size.{fits}
use Rattle.base_fraction.specs.Machine.{FractionFits}
use Rattle.spec_spline.specs.Table.{entry, row_cells}
use Rattle.base_fraction.specs.Fractions.{fractions}
use Rattle.base_fraction.specs.declared.Fraction.{Fraction}
use Rattle.base_fraction.specs.declared.arrays.Fractions.{Fractions}

-- Strictly between 0 and 1.
abbrev pub between : ℚ → Bool
between w = ltᵠ (int (pos 0)) w && ltᵠ w (int (pos 1))

-- Every fraction of the list fits.
abbrev pub AllFit : List ℚ → Type 0
AllFit qs = (i : ℕ) → fits (entry qs i) ≡ true

-- The arrays hold a fraction for each row, and all of them fit.
pub record Present (qs : Fractions) (rows : ℕ) : Type 0 where
  pub of : List ℚ
  pub is : qs ≡ fractions of
  pub fit : AllFit of
  pub count : length of ≡ rows

-- Jumps that all fit, with no zero from row f to row l.
pub record Spanned (js : Fractions) (f l : ℕ) : Type 0 where
  pub of : List ℚ
  pub is : js ≡ fractions of
  pub fit : AllFit of
  pub order : f ≤ l
  pub within : l < row_cells
  pub jump : (i : ℕ) → f ≤ i → i ≤ l → is_zero (entry of i) ≡ false

-- The sum of the jumps before fits, and so does the jump, which is not zero.
pub record FactorAsks (before jump : Fraction) : Type 0 where
  pub before-fits : FractionFits before
  pub jump_fits : FractionFits jump
  pub jump_nonzero : jump.num ≢ pos 0
