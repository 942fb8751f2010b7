-- What the machine keeps of the lines so far, and what it stands for: with the lines to come it gives the verdict on all lines.
use Rattle.std.specs.Prelude.{Some, None, Result, Ok, Err}
use Rattle.std.specs.Prelude as machine
use Rattle.std.specs.Prelude.{Bool, true, cond, ◌≡◌, ℕ, zero, suc, ◌<◌, ◌≤◌, ℤ, nat_abs, length}
use mathlib.Core.List.{List, [], ◌∷◌, drop_last}
use Rattle.std.proofs.Math.Option.{Option, some, none}
use Rattle.base_outcome.specs.Codes as codes
use Rattle.base_outcome.specs.Outcome.{Outcome, refusal, capped}
use Rattle.base_outcome.specs.Search.{or_else}
use Rattle.base_outcome.specs.Machine.{reply, passed}
use Rattle.base_outcome.specs.declared.Refusal.{Refusal}
use Rattle.base_text.specs.Bytes.{Text}
use Rattle.base_text.specs.Numeral.{numeral_limit}
use Rattle.spec_tucson.specs.Line.{Line, decade, line_of, line_in_columns}
use Rattle.spec_tucson.specs.Series.{all_hundredths}
use Rattle.spec_tucson.specs.TextReading.{Begun, last_field, read_line}
use Rattle.spec_tucson.specs.Writing.{all_widths}
use Rattle.spec_tucson.specs.StrictLine.{Kept, is_strict}
use Rattle.spec_tucson.specs.CleanSeries.{follows_its, continues, year_fault, closing_after, is_unit_fault, if_hundredths, Fault, fault, or_fault}
use Rattle.spec_tucson.specs.CleanSeries.{series_fault, closed_lines, read_kept}
use Rattle.tucson_fields.specs.Machine.{NumbersOf}
use Rattle.tucson_fields.specs.declared.Facts.{Facts}
use Rattle.tucson_scan.specs.Scan.{Tracks, Told}
use Rattle.tucson_scan.specs.declared.Passed.{Passed}
use Rattle.tucson_lines.specs.Machine.{line_found}
use Rattle.tucson_judge.specs.declared.Mark.{Mark}
use Rattle.tucson_judge.specs.declared.Reader.{Reader}
use Rattle.tucson_judge.specs.declared.Judged.{Judged}

-- ---- what the machine's numbers stand for

-- A code with its line, if there is one.
unfoldable pub mark_found : machine.Option Mark → Option Fault
mark_found None = none
mark_found (Some m) = some (fault m.code m.line)

-- Codes 24 and 25 of a series whose last line has this number and this last field.
unfoldable pub closing_fault_of : ℕ → Option ℕ → ℕ → ℤ → Option Fault
closing_fault_of unit seen line last =
    cond (is_unit_fault unit last) (some (fault codes.file_unit line)) (if_hundredths (closing_after unit last) seen)

-- The last field of a line, as the unit makes it where the series does not go on.
unfoldable pub last_after : ℕ → Bool → ℤ → ℤ
last_after unit goes last = cond goes last (closing_after unit last)

-- ---- the reader

-- A line has these numbers, and this last field.
pub record ReadsAs (l : Line) (f : Facts) (last : ℤ) : Type 0 where
  pub year_is : l.year ≡ f.year
  pub count_is : length l.fields ≡ f.count
  pub widths_are : all_widths (drop_last l.fields) ≡ f.widths
  pub small_are : all_hundredths (drop_last l.fields) ≡ f.small
  pub last_is : last_field l.fields ≡ last

-- A year of four columns, and one to ten fields.
pub record FactsFit (f : Facts) : Type 0 where
  pub year-small : nat_abs f.year < numeral_limit
  pub some_field : 1 ≤ f.count
  pub few : f.count ≤ decade

-- The answer for every line that has these numbers.
abbrev pub PassedOf : Facts → ℤ → Bool → Reader → Result Passed ℕ → Type 0
PassedOf f last goes r p = (place : ℕ) (b : Option Begun) (t : Text) (l : Line) → line_of t ≡ some l → ReadsAs l f last
    → Tracks b r.begun r.next r.small → Told place b (read_line place b goes t) p

-- What the reader keeps of the series that is begun, unless it has refused.
abbrev pub TracksReader : Option Begun → Result Reader Mark → Type 0
TracksReader b (Ok r) = Tracks b r.begun r.next r.small
TracksReader b (Err m) = Unit {0}

-- Whether all lines pass, or the first refusal.
abbrev pub Verdict : Type 0
Verdict = Outcome (Unit {0})

-- What the reader ends with behind the lines to come.
unfoldable pub reader_told : Result Reader Mark → Option Begun → List Kept → Verdict
reader_told (Ok r) b ks = passed (read_kept b ks)
reader_told (Err m) b ks = refusal m.code (capped m.line)

-- The reader behind a line: what is begun, and that it ends as the one before the line does.
pub record ReaderBehind (unit : ℕ) (goes : Bool) (k : Kept) (b : Option Begun) (r n : Result Reader Mark) : Type 0 where
  pub begun-behind : Option Begun
  pub tracks : TracksReader begun-behind n
  pub same_end : (ks : List Kept) → continues k ks ≡ goes
      → reader_told r b (closed_lines unit (k ∷ ks)) ≡ reader_told n begun-behind (closed_lines unit ks)

abbrev pub ReaderNext : ℕ → Facts → Bool → ℕ → Result Reader Mark → Result Reader Mark → Type 0
ReaderNext unit f goes number r n = (k : Kept) (l : Line) (b : Option Begun) → k.line ≡ number → line_in_columns k.text ≡ some l
    → NumbersOf l f
    → TracksReader b r → ReaderBehind unit goes k b r n

-- ---- all codes

-- The refusal of code 23, else that of 24 or 25, else the reader's end.
abbrev pub pick : Option ℕ → Option Fault → Verdict → Verdict
pick (some line) f rest = refusal codes.file_name (capped line)
pick none (some f) rest = refusal f.code (capped f.line)
pick none none rest = rest

-- The verdict on all lines, from what was found so far and the lines to come, behind this line.
unfoldable pub verdict : ℕ → Judged → Option Begun → Option Kept → List Kept → Verdict
verdict unit j b before ks =
    pick (or_else (line_found j.year) (year_fault before ks)) (or_fault (mark_found j.fault) (series_fault unit (line_found j.seen) ks))
    (reader_told j.reader b (closed_lines unit ks))

-- What is found behind a line: the verdict stays the same.
pub record Behind (unit : ℕ) (goes : Bool) (k : Kept) (before : Option Kept) (b : Option Begun) (j n : Judged) : Type 0 where
  pub begun-behind : Option Begun
  pub tracks : TracksReader begun-behind n.reader
  pub same-verdict : (ks : List Kept) → continues k ks ≡ goes → verdict unit j b before (k ∷ ks) ≡ verdict unit n begun-behind (some k) ks

abbrev pub JudgedNext : ℕ → Text → ℕ → Bool → Bool → Judged → Judged → Type 0
JudgedNext unit t number follows goes j n = (k : Kept) (before : Option Kept) (b : Option Begun) → k.text ≡ t → k.line ≡ number
    → follows_its before k ≡ follows → TracksReader b j.reader → Behind unit goes k before b j n

-- A strict line with a number from 1 on.
pub record LineAsks (t : Text) (number : ℕ) : Type 0 where
  pub strict : is_strict t ≡ true
  pub numbered : 1 ≤ number

-- Where no line is to come, what was found is the verdict.
abbrev pub Concluded : Judged → Result (Unit {0}) Refusal → Type 0
Concluded j r = (unit : ℕ) (b : Option Begun) (before : Option Kept) → reply r ≡ verdict unit j b before []
