-- The first positions of the segments: what they are, and what finding one asks.
use Rattle.std.specs.Prelude.{cond, List, ℕ, ◌<◌, ◌≤◌, ltb, ℤ, pos, ◌+ℤ◌, length}
use Rattle.base_exact.specs.Tabulate.{tab}
use Rattle.spec_spline.specs.Space.{Space, segment_limit, break, segments}
use Rattle.spec_spline.specs.Reading.{fine, starts_at_discontinuity}
use Rattle.build_space.specs.Legal.{BreaksLegal}

-- The first position of segment i: where it starts, and one further where that is a discontinuity.
unfoldable pub first_position : Space → ℕ → ℤ
first_position s i = cond (starts_at_discontinuity s i) (fine (break s i) +ℤ pos 1) (fine (break s i))

-- The first positions of the segments in an array, 0 past them.
unfoldable pub first_positions_of : Space → List ℤ
first_positions_of s = tab segment_limit (λ i. cond (ltb i (segments s)) (first_position s i) (pos 0))

-- Segment i starts at a breakpoint of a legal list, and at a join or at the beam's first breakpoint.
pub record StartAt (breaks orders : List ℤ) (i : ℕ) : Type 0 where
  pub within : i < length breaks
  pub legal : BreaksLegal breaks
  pub join-within : i ≤ length orders
