-- The machine's form of the search: a segment's offsets, the value at a position by held ordinates, and what is found.
use Rattle.std.specs.Prelude.{Bool, cond, ◌||◌, List, ℕ, suc, ◌+◌, eqb, ℤ, Option, Some, None}
use Rattle.std.proofs.Math.Option as math
use Rattle.std.specs.Int.Signed.{le_z}
use Rattle.spec_spline.specs.Space.{Space, segments}
use Rattle.spec_spline.specs.Reading.{starts_at_discontinuity, segment_at, fine_width, blended}
use Rattle.spec_calls.specs.Positions.{position}

-- ---- the offsets of a segment

-- The first offset that belongs to segment i: 1 where it starts at a discontinuity, which belongs to the segment before. The
-- end of the last segment is as such a start.
unfoldable pub start_offset : Space → ℕ → ℕ
start_offset s i = cond (eqb i (segments s) || starts_at_discontinuity s i) 1 0

-- The first offset past those of segment i: up to its end, with it where the next segment starts after it.
abbrev pub end_offset : Space → ℕ → ℕ
end_offset s i = fine_width s i + start_offset s (suc i)

-- ---- values by held ordinates

-- The value at a position, of the ordinates of all columns.
unfoldable pub held_value : Space → List ℤ → ℤ → ℤ
held_value s os x = blended s os (segment_at s x) x

-- Position i of the span reaches the target.
abbrev pub reaches_held : Space → List ℤ → ℤ → ℕ → Bool
reaches_held s os target i = le_z target (held_value s os (position s i))

-- What is found, as a position.
unfoldable pub found : Space → math.Option ℕ → Option ℤ
found s math.none = None
found s (math.some i) = Some (position s i)
