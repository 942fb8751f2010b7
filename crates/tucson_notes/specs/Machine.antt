-- The machine's form of a line's fields and of what stands ahead in its series.
use Rattle.std.specs.Prelude.{Bool, true, cond, not, ◌≡◌, ℕ, ◌+◌, ◌-◌, ◌*◌, ◌^◌, ◌<◌, ◌≤◌, ltb, ℤ, pos, length, take, get_or}
use mathlib.Core.List.{List, [], ◌++◌, drop_last}
use Rattle.std.proofs.Math.Option.{Option, some, none}
use Rattle.std.proofs.Math.Seq.{slice}
use Rattle.base_print.specs.Buffer.{Puts}
use Rattle.base_text.specs.Bytes.{Text}
use Rattle.spec_tucson.specs.Columns.{in_columns, columns}
use Rattle.spec_tucson.specs.Line.{head_columns, field_columns}
use Rattle.spec_tucson.specs.TextReading.{last_field}
use Rattle.spec_tucson.specs.StrictLine.{is_strict, line_columns}
use Rattle.spec_tucson.specs.CleanSeries.{closing_of, with_end}
use Rattle.spec_tucson.specs.CleanNotes.{Ahead, widths_in, is_empty, is_absent_end, is_like_closing, remarks, note_if, at_line}
use Rattle.tucson_notes.specs.declared.Ending as machine-ending
use Rattle.tucson_notes.specs.declared.Fields as machine-fields
use Rattle.tucson_notes.specs.declared.Ahead as machine-ahead
use Rattle.tucson_notes.specs.declared.Marks as machine-marks
use Rattle.spec_tucson.specs.Notes as kinds

-- The number, 0 where there is none.
unfoldable pub number_in : Option ℤ → ℤ
number_in none = pos 0
number_in (some z) = z

-- The field before the last of so many, in a line of n bytes; 0 where there is one alone.
unfoldable pub before_in : ℕ → ℕ → Text → ℤ
before_in count n line = cond (ltb count 2) (pos 0)
    (number_in (in_columns (slice (n - 2 * field_columns) (n - 2 * field_columns + field_columns) line)))

-- A line of n bytes has so many fields, and this is the first.
pub record BeforeAsks (line : Text) (count n : ℕ) (first : ℤ) : Type 0 where
  pub within : n ≤ length line
  pub some_field : 1 ≤ count
  pub columns_are : n ≡ head_columns + count * field_columns
  pub first_is : first ≡ number_in (in_columns (slice head_columns (head_columns + field_columns) line))

-- What is told of some fields.
pub record SumsUp (fs : List ℤ) (f : machine-fields.Fields) : Type 0 where
  pub some_field : 1 ≤ length fs
  pub count_is : f.count ≡ length fs
  pub first_is : f.first ≡ get_or fs 0 (pos 0)
  pub last_is : f.last ≡ last_field fs
  pub before_is : f.before ≡ last_field (drop_last fs)

-- What is told of the end of some fields.
pub record EndsWith (fs : List ℤ) (f : machine-ending.Ending) : Type 0 where
  pub count_is : f.count ≡ length fs
  pub last_is : f.last ≡ last_field fs

-- A strict line of n bytes at the front of a text.
pub record FieldsAsk (line : Text) (n : ℕ) : Type 0 where
  pub within : n ≤ length line
  pub strict : is_strict (take n line) ≡ true

-- What stands ahead, in the words of the definition.
unfoldable pub ahead_of : machine-ahead.Ahead → Ahead
ahead_of a = record { count = a.count; closing = a.closing; last_fields = a.fields }

-- The widths of fields on a series' last line, or on another.
abbrev pub widths_on : Bool → List ℤ → List ℤ
widths_on last fs = cond last (drop_last fs) fs

-- What is told of whether some fields have a width.
pub record TellsWidth (last : Bool) (f : machine-fields.Fields) (r : Bool) : Type 0 where
  pub told : (fs : List ℤ) → SumsUp fs f → is_empty (widths_on last fs) ≡ not r

-- What is told of remark 12.
pub record TellsAbsent (first : Bool) (a : machine-ahead.Ahead) (f : machine-fields.Fields) (r : Bool) : Type 0 where
  pub told : (fs : List ℤ) → SumsUp fs f → r ≡ is_absent_end first (ahead_of a) (widths_in (ahead_of a) fs)

-- Of remark 13.
pub record TellsLike (a : machine-ahead.Ahead) (f : machine-fields.Fields) (r : Bool) : Type 0 where
  pub told : (fs : List ℤ) → SumsUp fs f → r ≡ is_like_closing (ahead_of a) (widths_in (ahead_of a) fs)

-- The remarks put from index `at` on.
pub record PutsRemarks (at line : ℕ) (first_closing : ℤ) (first : Bool) (a : machine-ahead.Ahead) (f : machine-fields.Fields)
    (before after : List ℕ) (next : ℕ) : Type 0 where
  pub told : (fs : List ℤ) → SumsUp fs f → Puts 6 at (at_line line (remarks first_closing first (ahead_of a) fs)) before after next

-- ---- what was changed in a line

-- The notes of what is not shown, with these behind them.
unfoldable pub shown_marked : machine-marks.Marks → List ℕ → List ℕ
shown_marked m ns =
    note_if m.cut kinds.cut (note_if m.returned kinds.returned
    (note_if m.tabbed kinds.tabbed (note_if m.trailing kinds.trailing ns)))

-- The notes of what is changed in what is shown.
unfoldable pub form_marked : machine-marks.Marks → List ℕ → List ℕ
form_marked m ns =
    note_if m.site kinds.site (note_if m.unended kinds.unended (note_if m.high kinds.high (note_if m.reclosed kinds.reclosed ns)))

-- The notes of what was changed, with these behind them.
abbrev pub marked : machine-marks.Marks → List ℕ → List ℕ
marked m ns = shown_marked m (form_marked m ns)

-- The notes of what was changed put from index `at` on, before all that may come behind them.
pub record PutsMarks (at line : ℕ) (m : machine-marks.Marks) (before after : List ℕ) (next : ℕ) : Type 0 where
  pub puts : Puts 16 at (at_line line (marked m [])) before after next
  pub before_all : (ns : List ℕ) → at_line line (marked m []) ++ at_line line ns ≡ at_line line (marked m ns)

-- ---- what one line takes at most

-- Bytes of the strict text: a line with all its fields, one field more, and its end.
abbrev pub bytes_per_line : ℕ
bytes_per_line = 79

-- Cells of notes: two for each of eleven notes.
abbrev pub cells_per_line : ℕ
cells_per_line = 22

-- Cells of the notes that are on the file as a whole: two notes.
abbrev pub cells_per_file : ℕ
cells_per_file = 4

-- ---- a strict line in the text

-- A line of n bytes, at least one field, at the front of a text; the index is far from its limit.
pub record StrictAsks (line : Text) (n at : ℕ) : Type 0 where
  pub within : n ≤ length line
  pub short : n ≤ line_columns
  pub some_field : field_columns ≤ n
  pub near : at < 2 ^ 61

-- The bytes of the line, its last field the unit's closing or its own, and its end.
unfoldable pub strict_put : Text → ℕ → Bool → ℕ → Text
strict_put line n reclosed unit =
    with_end (cond reclosed (take (n - field_columns) line ++ columns field_columns (closing_of unit)) (take n line))
