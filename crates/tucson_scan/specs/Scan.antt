-- The machine's form of what the definitions of reading say of a line and of a whole text: what is kept of a series of which
-- more lines come, and what the functions of the first pass answer.
use Rattle.std.specs.Prelude.{Bool, true, false, Result, Ok, Err, Some, List, [], ◌≡◌, ℕ, ◌+◌, ◌<◌, ◌≤◌, ℤ, nat_abs, length, drop}
use Rattle.std.proofs.Math.Option.{Option, some, none}
use Rattle.std.proofs.Math.Seq.{slice}
use Rattle.base_outcome.specs.Outcome.{Outcome, answer, refusal, capped}
use Rattle.base_outcome.specs.Machine.{refused}
use Rattle.base_outcome.specs.declared.Refusal.{Refusal}
use Rattle.base_text.specs.Bytes.{Text}
use Rattle.base_text.specs.Numeral.{numeral_limit}
use Rattle.spec_tucson.specs.Line.{lines_of, decade, good_line}
use Rattle.spec_tucson.specs.Series.{Series, all_hundredths}
use Rattle.spec_tucson.specs.TextReading.{Begun, goes_on, next_year, Step, opened, closed, read_line}
use Rattle.spec_tucson.specs.ReadCall.{widths_of}
use Rattle.tucson_lines.specs.Machine.{numbers, line_told}
use Rattle.tucson_scan.specs.declared.Passed.{Passed}
use Rattle.tucson_scan.specs.declared.Totals.{Totals}

-- The widths so far of the series that is begun; none if none is.
abbrev pub so_far : Option Begun → List ℤ
so_far none = []
so_far (some b) = b.widths

-- What is kept of the series that is begun: that one is, the year that must come next, and whether all widths so far are at
-- most 9,999.
pub record Kept (b : Begun) (begun : Bool) (next : ℤ) (small : Bool) : Type 0 where
  pub is_begun : begun ≡ true
  pub next-year : next_year b ≡ next
  pub all_small : all_hundredths b.widths ≡ small

-- The same where none may be begun.
abbrev pub Tracks : Option Begun → Bool → ℤ → Bool → Type 0
Tracks none begun next small = (begun ≡ false) × (small ≡ true)
Tracks (some b) begun next small = Kept b begun next small

-- A series that is whole, n widths of it on its last line.
pub record Whole (b : Option Begun) (s : Series) (more : Bool) (n : ℕ) (small : Bool) : Type 0 where
  pub over : more ≡ false
  pub none_large : small ≡ true
  pub count : length s.widths ≡ length (so_far b) + n

-- What a line leaves.
abbrev pub leaves : Bool → ℕ → ℤ → Bool → Passed
leaves more count next small = record { more = more; count = count; next = next; small = small }

-- The answer for the line at this place: what it leaves, and how many widths it has, or the code of its refusal.
abbrev pub Told : ℕ → Option Begun → Outcome Step → Result Passed ℕ → Type 0
Told place b (answer (opened c)) (Ok p) = Kept c p.more p.next p.small × (length c.widths ≡ length (so_far b) + p.count)
Told place b (answer (closed s)) (Ok p) = Whole b s p.more p.count p.small
Told place b (answer step) (Err code) = ⊥
Told place b (refusal code at) (Ok p) = ⊥
Told place b (refusal code at) (Err told) = (code ≡ told) × (at ≡ capped place)

-- A line of n fields that is not refused has at most n widths, and it is known whether its series goes on.
abbrev pub Within : Bool → ℕ → Result Passed ℕ → Type 0
Within goes n (Ok p) = (p.more ≡ goes) × (p.count ≤ n)
Within goes n (Err code) = Unit {0}

-- A line that is not refused ends with byte 10, has more bytes than widths, and is followed by another where its series goes
-- on.
pub record Ahead (text : Text) (from end : ℕ) (more : Bool) (n : ℕ) : Type 0 where
  pub ended : end < length text
  pub longer : from + n ≤ end
  pub followed : more ≡ true → end + 1 < length text

abbrev pub Advances : Text → ℕ → ℕ → Result Passed ℕ → Type 0
Advances text from end (Ok p) = Ahead text from end p.more p.count
Advances text from end (Err code) = Unit {0}

-- ---- what is asked, and what is left

-- A year, and one to ten fields.
pub record ExtendAsks (year : ℤ) (n : ℕ) : Type 0 where
  pub year-small : nat_abs year < numeral_limit
  pub some_field : 1 ≤ n
  pub few : n ≤ decade

-- The answer for every good line that is told so, by whether its series goes on.
pub record GoodPassed (goes begun : Bool) (next : ℤ) (small : Bool) (year : ℤ) (n : ℕ) (front : Bool) (last : ℤ)
    (r : Result Passed ℕ) : Type 0 where
  pub told : (place : ℕ) (b : Option Begun) (t : Text) → Tracks b begun next small
      → line_told (good_line true t) ≡ Some (numbers year n front last)
      → Told place b (read_line place b goes t) r
  pub within : Within goes n r

-- The answer for the line from the one index up to the other.
pub record LinePassed (text : Text) (from end : ℕ) (begun : Bool) (next : ℤ) (small : Bool) (r : Result Passed ℕ) : Type 0 where
  pub told : (place : ℕ) (b : Option Begun) → Tracks b begun next small → (let line = slice from (end + 1) text in
      Told place b (read_line place b (goes_on line (lines_of (drop (end + 1) text))) line) r)
  pub advances : Advances text from end r

-- So many series and widths.
abbrev pub totals : ℕ → ℕ → Totals
totals series widths = record { series = series; widths = widths }

-- What the first pass answers after so many series and widths, from what reading the other lines ends with.
unfoldable pub scan_told : ℕ → ℕ → Outcome (List Series) → Result Totals Refusal
scan_told series total (answer ss) = Ok (totals (series + length ss) (total + length (widths_of ss)))
scan_told series total (refusal code place) = Err (refused code place)
