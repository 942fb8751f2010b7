-- A space: breakpoints, degrees and continuity orders, the parts of a beam, and the refusals 2 to 5 and 15 (§ 1, § 3, § 4). The lists
-- hold any whole numbers and have any length; all functions here are total. A segment is the laboratory's stretch; an order of -1 is its
-- scar.
use Rattle.std.specs.Prelude.{Bool, true, false, cond, not, ◌&&◌, ◌||◌, List, ℕ, zero, suc, ◌+◌, ◌-◌, eqb, leb, ltb, ℤ, pos, ◌-ℤ◌, ◌+ℤ◌, nat_abs, neg_ℤ, length, get_or}
use Rattle.std.proofs.Math.Option
use Rattle.std.proofs.Math.Option.{Option, some, none}
use Rattle.std.specs.Int.Signed.{le_z, lt_z}
use Rattle.base_outcome.specs.Codes as codes
use Rattle.base_outcome.specs.Tests.{between, refuse_first}
use Rattle.base_outcome.specs.Outcome.{Outcome, answer, refuse}
use Rattle.base_outcome.specs.Search.{first, last}

-- The three lists.
pub record Space : Type 0 where
  pub breaks : List ℤ
  pub degrees : List ℤ
  pub orders : List ℤ

-- m, the number of segments.
abbrev pub segments : Space → ℕ
segments s = length s.degrees

-- Breakpoint i.
abbrev pub break : Space → ℕ → ℤ
break s i = get_or s.breaks i (pos 0)

-- The degree of segment i, as the list has it.
abbrev pub degree_entry : Space → ℕ → ℤ
degree_entry s i = get_or s.degrees i (pos 0)

-- The order of join i.
abbrev pub order : Space → ℕ → ℤ
order s i = get_or s.orders i (pos 0)

-- "m from 1 to 48" (§ 1).
abbrev pub segment_limit : ℕ
segment_limit = 48

-- "A part has at most 12 segments" (§ 1).
abbrev pub part_segment_limit : ℕ
part_segment_limit = 12

-- "each from -10,000 to 10,000" (§ 1).
abbrev pub break_limit : ℕ
break_limit = 10000

-- "a span, from its first breakpoint to its last, of at most 2,000" (§ 1), for each part of a beam.
abbrev pub span_limit : ℕ
span_limit = 2000

-- "Degrees, one for each segment, each from 1 to 5." (§ 1)
abbrev pub degree_limit : ℕ
degree_limit = 5

-- Code 2, place 0: the lengths are m + 1, m and m - 1 for one m in 1 to 48.
unfoldable pub lengths_fit : Space → Bool
lengths_fit s = leb 1 (segments s) && leb (segments s) segment_limit && eqb (length s.breaks) (segments s + 1)
    && eqb (length s.orders + 1) (segments s)

-- Code 3: out of -10,000 to 10,000, or not above the one before.
unfoldable pub bad_break : Space → ℕ → Bool
bad_break s zero = not (between (neg_ℤ (pos break_limit)) (pos break_limit) (break s zero))
bad_break s (suc i) = not (between (neg_ℤ (pos break_limit)) (pos break_limit) (break s (suc i))) || le_z (break s (suc i)) (break s i)

-- The number of conditions at join i: one for each order from 0 to its own.
abbrev pub condition_count : Space → ℕ → ℕ
condition_count s i = nat_abs (order s i +ℤ pos 1)

-- Join i is "a discontinuity, a scar: no condition" (§ 1): its order is -1. The library tests no integers for equality, so this says
-- that order + 1 has size 0, which -1 alone has.
abbrev pub is_discontinuity : Space → ℕ → Bool
is_discontinuity s i = eqb (condition_count s i) 0

-- "The parts of a space are what lies between its discontinuities" (§ 1): segment i is the first of a part.
unfoldable pub starts_part : Space → ℕ → Bool
starts_part s zero = true
starts_part s (suc i) = is_discontinuity s i

-- Where the part of segment i ends: the first later segment that starts a part, or m.
unfoldable pub part_end : Space → ℕ → ℕ
part_end s i = Option.get_or (first (segments s) (λ k. ltb i k && starts_part s k)) (segments s)

-- The first segment of the last part.
unfoldable pub last_part_start : Space → ℕ
last_part_start s = Option.get_or (last (segments s) (starts_part s)) 0

-- Code 3, at its last breakpoint: the part that starts with segment i has a span over 2,000.
unfoldable pub span_too_long : Space → ℕ → Bool
span_too_long s i = starts_part s i && lt_z (pos span_limit) (break s (part_end s i) -ℤ break s i)

-- Code 15: the part that starts with segment i has more than 12 segments.
unfoldable pub too_many_segments : Space → ℕ → Bool
too_many_segments s i = starts_part s i && ltb part_segment_limit (part_end s i - i)

-- Code 4: out of 1 to 5.
unfoldable pub bad_degree : Space → ℕ → Bool
bad_degree s i = not (between (pos 1) (pos degree_limit) (degree_entry s i))

-- Code 5: out of -1 to 2, or above the smaller neighbouring degree minus 1.
unfoldable pub bad_order : Space → ℕ → Bool
bad_order s i = not (between (neg_ℤ (pos 1)) (pos 2) (order s i)) || le_z (degree_entry s i) (order s i)
    || le_z (degree_entry s (suc i)) (order s i)

-- Code 2, place 0, or the value given.
abbrev pub fitting : {A : Type 0} → Space → Outcome A → Outcome A
fitting s rest = cond (lengths_fit s) rest (refuse codes.lengths 0)

-- The end of the part that starts with the segment found.
abbrev pub part_end_at : Space → Option ℕ → Option ℕ
part_end_at s none = none
part_end_at s (some i) = some (part_end s i)

-- The space itself, or the first of the refusals 3 to 5 and 15, where the lengths fit: "Numbers are tested in the order of this
-- table" (§ 3); of 3 all breakpoints first, then the first part whose span is too long.
unfoldable pub checked_entries : Space → Outcome Space
checked_entries s =
    refuse_first codes.breakpoint (first (segments s + 1) (bad_break s))
    (refuse_first codes.breakpoint (part_end_at s (first (segments s) (span_too_long s)))
    (refuse_first codes.degree (first (segments s) (bad_degree s))
    (refuse_first codes.order (first (segments s - 1) (bad_order s))
    (refuse_first codes.long_part (first (segments s) (too_many_segments s))
    (answer s)))))

-- The space itself, or the first of the refusals 2 to 5 and 15.
unfoldable pub checked : Space → Outcome Space
checked s = fitting s (checked_entries s)

-- The degree p of segment i.
abbrev pub degree : Space → ℕ → ℕ
degree s i = nat_abs (degree_entry s i)

-- The length of segment i, in rings.
abbrev pub width : Space → ℕ → ℕ
width s i = nat_abs (break s (suc i) -ℤ break s i)

-- The first column of segment i: the segments before it have degree + 1 columns each.
unfoldable pub first_column : Space → ℕ → ℕ
first_column s zero = 0
first_column s (suc i) = first_column s i + (degree s i + 1)

-- The number of columns.
abbrev pub column_count : Space → ℕ
column_count s = first_column s (segments s)

-- The number of conditions at the joins before join i.
unfoldable pub conditions_before : Space → ℕ → ℕ
conditions_before s zero = 0
conditions_before s (suc i) = conditions_before s i + condition_count s i

-- n = (sum of degrees + m) - (sum over joins of (order + 1)).
abbrev pub row_count : Space → ℕ
row_count s = column_count s - conditions_before s (segments s - 1)

-- The number of rows of the parts before the one that starts with segment i.
abbrev pub rows_before : Space → ℕ → ℕ
rows_before s i = first_column s i - conditions_before s i
