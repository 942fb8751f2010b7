-- What the functions of the steps ask of a segment and its columns, and of the numbers that they pass on.
use Rattle.std.specs.Prelude.{List, ℕ, suc, ◌+◌, ◌*◌, ◌<◌, ◌≤◌, ℤ, pos, nat_abs, ◌≤ℤ◌}
use Rattle.spec_spline.specs.Space.{span_limit, degree_limit}
use Rattle.spec_spline.specs.Reading.{fineness}
use Rattle.curve_ordinates.specs.Ordinates.{ordinate_limit}
use Rattle.curve_places.specs.Offsets.{column_limit, BeamOrdinates}

-- The p + 1 ordinates from column c on.
pub record ColumnsAsk (os : List ℤ) (c p : ℕ) : Type 0 where
  pub columns-within : c + p < column_limit
  pub ordinates : BeamOrdinates os

-- A segment of degree p and length d, whose columns begin at c.
pub record SegmentAsks (os : List ℤ) (c p d : ℕ) : Type 0 where
  pub columns : ColumnsAsk os c p
  pub degree_some : 1 ≤ p
  pub degree_low : p ≤ degree_limit
  pub long : 0 < d
  pub short : d ≤ fineness * span_limit

-- An offset in it.
pub record OffsetAsks (os : List ℤ) (c p d u : ℕ) : Type 0 where
  pub segment : SegmentAsks os c p d
  pub within : u ≤ d

-- The offsets before `end`, and a target that is no larger than an ordinate can be.
pub record StepAsks (os : List ℤ) (c p d end : ℕ) (target : ℤ) : Type 0 where
  pub segment : SegmentAsks os c p d
  pub end_within : end ≤ suc d
  pub target_small : target ≤ℤ pos ordinate_limit

-- The offsets from `start` on and before `end`.
pub record OffsetsAsk (os : List ℤ) (c p d start end : ℕ) : Type 0 where
  pub segment : SegmentAsks os c p d
  pub end_within : end ≤ suc d
  pub start-within : start ≤ end

-- A rise so far, and two ordinates.
pub record RiseAsks (rise : ℕ) (low high : ℤ) : Type 0 where
  pub rise-small : rise ≤ 2 * ordinate_limit
  pub low_small : nat_abs low ≤ ordinate_limit
  pub high_small : nat_abs high ≤ ordinate_limit

-- What lies between a value and the target, the length of the segment, and what a position costs.
pub record AheadAsks (gap d cost : ℕ) : Type 0 where
  pub gap-small : gap ≤ 2 * ordinate_limit
  pub short : d ≤ fineness * span_limit
  pub cost_some : 0 < cost
