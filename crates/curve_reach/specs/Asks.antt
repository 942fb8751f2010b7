-- What the call's search for a wood part asks of the lists and of the ordinates.
use Rattle.std.specs.Prelude.{List, ℤ}
use Rattle.spec_spline.specs.Space.{Space}
use Rattle.build_space.specs.Legal.{ListsLegal}
use Rattle.curve_places.specs.Offsets.{BeamOrdinates}

-- Legal lists, and the ordinates of both wood parts.
pub record ReachAsks (s : Space) (early late : List ℤ) : Type 0 where
  pub legal : ListsLegal s.breaks s.degrees s.orders
  pub early_ordinates : BeamOrdinates early
  pub late_ordinates : BeamOrdinates late
