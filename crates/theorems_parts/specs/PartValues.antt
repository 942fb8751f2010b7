-- A beam's values are its parts' own: at each position of a part the value is that of the part as a space by itself, with the coefficients
-- of its own rows. A position on a discontinuity belongs to the part that ends there, so of the part that starts there the first
-- breakpoint alone is left out.
use Rattle.std.specs.Prelude.{◌≡◌, List, ℕ, ◌*◌, ℤ, take, drop}
use Rattle.spec_spline.specs.Space.{Space, row_count, rows_before}
use Rattle.spec_spline.specs.Piecewise.{Accepted}
use Rattle.spec_spline.specs.Reading.{Wood, value_at}
use Rattle.theorems_beams.specs.Sections.{part_at}
use Rattle.theorems_beams.specs.Parts.{Starts}
use Rattle.theorems_values.specs.ValueLimits.{InSpan}
use Rattle.theorems_promises.specs.FallingCurves.{InPart}

-- The coefficients of the rows of the part that starts with segment a, of both wood parts.
abbrev pub part_coefficients : Space → ℕ → List ℤ → List ℤ
part_coefficients s a coefs = take (2 * row_count (part_at s a)) (drop (2 * rows_before s a) coefs)

-- The position lies in the part's own span, and the part's own value there is the beam's.
pub record OwnValue (s : Space) (x : Accepted s) (a : ℕ) (p : Accepted (part_at s a)) (wood : Wood) (coefs : List ℤ) (y : ℤ) : Type 0 where
  pub inside : InSpan (part_at s a) y
  pub same : value_at s x.table wood coefs y ≡ value_at (part_at s a) p.table wood (part_coefficients s a coefs) y

abbrev pub BeamValuesAreTheParts : Type 0
BeamValuesAreTheParts = (s : Space) (x : Accepted s) (a : ℕ) → Starts s a
    → (p : Accepted (part_at s a)) (wood : Wood) (coefs : List ℤ) (y : ℤ)
    → InPart s a y → OwnValue s x a p wood coefs y
