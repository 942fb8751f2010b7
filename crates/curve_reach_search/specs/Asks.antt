-- What the functions of the search ask of the lists and of the ordinates.
use Rattle.std.specs.Prelude.{List, ◌≡◌, ℕ, ◌+◌, ◌*◌, ◌≤◌, ℤ, length}
use Rattle.spec_spline.specs.Space.{Space, span_limit}
use Rattle.spec_spline.specs.Reading.{fineness}
use Rattle.build_space.specs.Legal.{ListsLegal}
use Rattle.curve_places.specs.Offsets.{BeamOrdinates, BreakAt}

-- Legal lists, and the ordinates of a wood part.
pub record SearchAsks (s : Space) (os : List ℤ) : Type 0 where
  pub legal : ListsLegal s.breaks s.degrees s.orders
  pub ordinates : BeamOrdinates os

-- Segment i, or the end of the last one.
pub record BoundaryAsks (degrees orders : List ℤ) (i : ℕ) : Type 0 where
  pub order-count : length orders + 1 ≡ length degrees
  pub within : i ≤ length degrees

-- An offset from a breakpoint of a legal list.
pub record PositionAsks (breaks : List ℤ) (i u : ℕ) : Type 0 where
  pub break : BreakAt breaks i
  pub short : u ≤ fineness * span_limit
