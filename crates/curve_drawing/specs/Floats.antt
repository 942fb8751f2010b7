-- The machine's form of numbers that are drawn: each float is a whole number over 1 or over 256, exactly.
use Rattle.std.specs.Prelude.{not, List, [], ◌∷◌, ℕ, ◌+◌, ◌<◌, ◌≤◌, Float, ℤ, nat_abs, length}
use Rattle.std.specs.Float.Ieee.Exact.{HasValue}
use Rattle.std.specs.Int.Signed.{non_neg}
use Rattle.curve_places.specs.Offsets.{column_limit}
use Rattle.curve_drawing.specs.declared.Curve.{Curve}
use Rattle.curve_drawing.specs.declared.Curve.TheVariants.{Line, Quadratic, Cubic}

-- The float is z / d itself; the float of 0 is +0.0.
abbrev pub Is : Float → ℤ → ℕ → Type 0
Is x z d = HasValue x (not (non_neg z)) (nat_abs z) d

-- Each float is the number beside it, over d.
pub data Each (d : ℕ) : List Float → List ℤ → Type 0 where
  none : Each d [] []
  more : {x : Float} {z : ℤ} {xs : List Float} {zs : List ℤ} → Is x z d → Each d xs zs → Each d (x ∷ xs) (z ∷ zs)

-- The floats of a curve: two of a line, three of a quadratic, four of a cubic.
abbrev pub floats : Curve → List Float
floats (Line a b) = a ∷ b ∷ []
floats (Quadratic a b c) = a ∷ b ∷ c ∷ []
floats (Cubic a b c d) = a ∷ b ∷ c ∷ d ∷ []

-- Ordinates from a column on, as many as a line, a quadratic or a cubic asks.
pub record CurveAsks (os : List ℤ) (column degree : ℕ) : Type 0 where
  pub degree_some : 1 ≤ degree
  pub drawable : degree ≤ 3
  pub within : column + degree < length os
  pub long : length os ≤ column_limit
