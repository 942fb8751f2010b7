-- Both values at a position from the ordinates of the two wood parts, and what writing them for all positions asks and leaves.
use Rattle.std.specs.Prelude.{List, ◌++◌, map, ℕ, ◌*◌, ◌<◌, ◌≤◌, ℤ, pos, length, get_or, drop}
use Rattle.spec_spline.specs.Space.{Space, segment_limit}
use Rattle.spec_spline.specs.Reading.{Pair, side_by_side, segment_at, blended}
use Rattle.build_space.specs.Legal.{DegreesLegal, ListsLegal}
use Rattle.curve_places.specs.Offsets.{BeamOrdinates, Within}

-- The pair of values at position x, given the ordinates of all columns for earlywood and for latewood.
unfoldable pub pair_of : Space → List ℤ → List ℤ → ℤ → Pair
pair_of s earlywood latewood x = record { early = blended s earlywood (segment_at s x) x; late = blended s latewood (segment_at s x) x }

-- The pairs at these positions side by side, and then what the list held.
abbrev pub pairs_written : Space → List ℤ → List ℤ → List ℤ → List ℤ → List ℤ
pairs_written s earlywood latewood positions values =
    side_by_side (map (pair_of s earlywood latewood) positions) ++ drop (2 * length positions) values

-- Legal degrees, no more than a beam has.
pub record FewDegrees (degrees : List ℤ) : Type 0 where
  pub few : length degrees ≤ segment_limit
  pub legal : DegreesLegal degrees

-- Legal lists, positions within their span, two cells a position, and the ordinates of both wood parts.
pub record ValuesAsk (s : Space) (earlywood latewood positions values : List ℤ) : Type 0 where
  pub legal : ListsLegal s.breaks s.degrees s.orders
  pub within : (k : ℕ) → k < length positions → Within s (get_or positions k (pos 0))
  pub room : 2 * length positions ≤ length values
  pub early_ordinates : BeamOrdinates earlywood
  pub late_ordinates : BeamOrdinates latewood
