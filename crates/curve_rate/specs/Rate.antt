-- The rate of a position in its segment: u / d as two whole numbers, taken once for all blends there, from the inverse of d.
use Rattle.std.specs.Prelude.{◌≡◌, ◌+◌, ◌*◌, ◌^◌, ◌≤◌, ℤ, pos, nat_abs, ◌-ℤ◌, ◌*ℤ◌, ◌<ℤ◌, ◌≤ℤ◌}
use Rattle.base_exact.specs.Floor.{floor_div}
use Rattle.spec_spline.specs.Space.{span_limit}
use Rattle.spec_spline.specs.Reading.{fineness}

-- The length of a segment of at most 2,000 rings.
pub record Length (d : ℤ) : Type 0 where
  pub long : pos 0 <ℤ d
  pub short : d ≤ℤ pos (fineness * span_limit)

-- u of d: an offset in a segment of at most 2,000 rings.
pub record Offset (u d : ℤ) : Type 0 where
  pub above : pos 0 ≤ℤ u
  pub below : u ≤ℤ d
  pub long : pos 0 <ℤ d
  pub short : d ≤ℤ pos (fineness * span_limit)

-- 2^62 / d, rounded down: with what follows it is the inverse of a segment's length, worked out once for all positions there.
unfoldable pub whole_of : ℤ → ℤ
whole_of d = floor_div (pos 4611686018427387904) (nat_abs d)

-- What that leaves of 2^62, times 2^29 / d, rounded down: with the first it makes 2^91 / d, rounded down.
unfoldable pub tail_of : ℤ → ℤ
tail_of d = floor_div ((pos 4611686018427387904 -ℤ whole_of d *ℤ d) *ℤ pos 536870912) (nat_abs d)

-- The inverse of length d, as its two numbers.
pub record Inverted (whole tail d : ℤ) : Type 0 where
  pub whole_is : whole ≡ whole_of d
  pub tail_is : tail ≡ tail_of d

-- What a rate of h 2^33ths and l 2^62ths lacks of u / d, times 2^62 d.
abbrev pub lack : ℤ → ℤ → ℤ → ℤ → ℤ
lack u h l d = (u *ℤ pos 8589934592 -ℤ h *ℤ d) *ℤ pos 536870912 -ℤ l *ℤ d

-- A rate of offset u in a segment of length d, as its two numbers: it lacks at most two 2^62ths.
pub record Rated (high low u d : ℤ) : Type 0 where
  pub inside : Offset u d
  pub high_small : nat_abs high ≤ 2 ^ 33 + 2 ^ 19
  pub low_small : nat_abs low ≤ 2 ^ 29
  pub lacks : nat_abs (lack u high low d) ≤ 2 * nat_abs d

-- Two numbers that are the rate of some offset.
pub record SomeRate (high low : ℤ) : Type 0 where
  pub offset : ℤ
  pub width : ℤ
  pub rated : Rated high low offset width

-- ---- what is asked

-- An offset in a segment, and the inverse of the segment's length.
pub record RateAsks (u whole tail : ℤ) : Type 0 where
  pub width : ℤ
  pub inside : Offset u width
  pub inverted : Inverted whole tail width

-- The sizes of a rise or an offset, and of a number of 2^29ths.
pub record CarryAsks (rise low : ℤ) : Type 0 where
  pub rise-small : nat_abs rise ≤ 2 ^ 29
  pub low_small : nat_abs low ≤ 2 ^ 29

-- A rise between two ordinates, and a rate.
pub record ShareAsks (rise high low : ℤ) : Type 0 where
  pub rise-small : nat_abs rise ≤ 2 ^ 29
  pub rate : SomeRate high low

-- ---- what is left

-- The rate of the offset in every segment of this inverse.
abbrev pub RateIs : ℤ → ℤ → ℤ → ℤ → ℤ → Type 0
RateIs u whole tail high low = (d : ℤ) → Offset u d → Inverted whole tail d → Rated high low u d
