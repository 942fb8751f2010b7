-- The segment of a position (§ 6) in a space that passes the checks of its lists: each position of the span lies between two breakpoints
-- or on one, and belongs to one segment.
use Rattle.std.specs.Prelude.{◌≡◌, ℕ, suc, ◌<◌, ℤ, negsuc, ◌<ℤ◌}
use Rattle.base_outcome.specs.Outcome.{answer}
use Rattle.spec_spline.specs.Space.{Space, segments, break, order, checked}
use Rattle.spec_spline.specs.Reading.{fine, segment_at}

-- Between two breakpoints it is the segment between them.
abbrev pub PositionsBetweenBelongBetween : Type 0
PositionsBetweenBelongBetween = (s : Space) → checked s ≡ answer s → (i : ℕ) → i < segments s → (x : ℤ) → fine (break s i) <ℤ x
    → x <ℤ fine (break s (suc i))
    → segment_at s x ≡ i

-- On a join of order -1 it is the segment that ends there.
abbrev pub DiscontinuitiesBelongBefore : Type 0
DiscontinuitiesBelongBefore = (s : Space) → checked s ≡ answer s → (i : ℕ) → suc i < segments s → order s i ≡ negsuc 0
    → segment_at s (fine (break s (suc i))) ≡ i

-- On a join of any other order it is the segment that starts there.
abbrev pub OtherJoinsBelongAfter : Type 0
OtherJoinsBelongAfter = (s : Space) → checked s ≡ answer s → (i : ℕ) → suc i < segments s → ¬ (order s i ≡ negsuc 0)
    → segment_at s (fine (break s (suc i))) ≡ suc i

-- On the first breakpoint it is the first segment.
abbrev pub FirstBreakpointBelongsFirst : Type 0
FirstBreakpointBelongsFirst = (s : Space) → checked s ≡ answer s → segment_at s (fine (break s 0)) ≡ 0

-- On the last breakpoint it is the last segment.
abbrev pub LastBreakpointBelongsLast : Type 0
LastBreakpointBelongsLast = (s : Space) → checked s ≡ answer s → suc (segment_at s (fine (break s (segments s)))) ≡ segments s
