-- Values as the buffers hold them, two numbers a position (§ 13: the v lines).
use Rattle.std.specs.Prelude.{List, [], ◌∷◌, ℕ, ◌/◌, ◌^◌, ◌≤◌, ℤ, length}
use Rattle.spec_spline.specs.Reading.{Pair}
use Rattle.spec_spline.specs.CurveCall.{position_limit}

-- The pairs of numbers that stand side by side.
unfoldable pub paired : List ℤ → List Pair
paired [] = []
paired (early ∷ []) = []
paired (early ∷ late ∷ vs) = record { early = early; late = late } ∷ paired vs

-- What printing them asks: an index to write at, no more positions than a call has, and two numbers for each.
pub record ValuesAsk (at : ℕ) (positions values : List ℤ) : Type 0 where
  pub near : at ≤ 2 ^ 41
  pub few : length positions ≤ position_limit
  pub valued : length positions ≤ length values / 2
