-- What is proved of the buffer for the lines of a table (§ 17): 87 bytes for each ring are always enough.
use Rattle.std.specs.Prelude.{◌≡◌, ℕ, ◌*◌, ◌^◌, ◌≤◌, ℤ, pos, nat_abs, length, get_or}
use Rattle.base_outcome.specs.Outcome.{refuse}
use Rattle.spec_spline.specs.Reading.{Wood}
use Rattle.spec_tucson.specs.Line.{name_columns}
use Rattle.spec_table.specs.RingLines.{IndexedSeries, ring_lines}
use Rattle.spec_table.specs.RingLinesCall.{ring_lines_outcome}

-- What the types of the call give: years, widths and values of 32 bits, indices of 64, and no more rings than 64 bits can count.
pub record CallTypes (s : IndexedSeries) : Type 0 where
  pub year : nat_abs s.first_year ≤ 2 ^ 31
  pub rings : length s.widths ≤ 2 ^ 64
  pub widths : (j : ℕ) → nat_abs (get_or s.widths j (pos 0)) ≤ 2 ^ 31
  pub values : (j : ℕ) → nat_abs (get_or s.values j (pos 0)) ≤ 2 ^ 31
  pub indices : (j : ℕ) → nat_abs (get_or s.indices j (pos 0)) ≤ 2 ^ 63

-- The most bytes of a ring's line.
abbrev pub bytes_per_ring : ℕ
bytes_per_ring = 87

abbrev pub RoomByRings : Type 0
RoomByRings =
    (wood : Wood) (s : IndexedSeries) → length s.name ≡ name_columns → CallTypes s →
    length (ring_lines wood s) ≤ bytes_per_ring * length s.widths

-- With such a buffer the call never ends with code 1.
abbrev pub NeverShortByRings : Type 0
NeverShortByRings =
    (wood : Wood) (s : IndexedSeries) (room : ℕ) → CallTypes s → bytes_per_ring * length s.widths ≤ room →
    ring_lines_outcome wood s room ≡ refuse 1 0 → ⊥
