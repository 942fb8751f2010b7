-- The machine's form of what the definitions of a line say: what the functions on one line answer.
use Rattle.std.specs.Prelude.{Bool, true, cond, Option, Some, None, ◌&&◌, ◌≡◌, ℕ, zero, suc, ◌+◌, ◌*◌, ◌≤◌, ℤ, length, take, drop}
use mathlib.Core.List.{List, drop_last}
use Rattle.std.proofs.Math.Option as math
use Rattle.std.proofs.Math.Seq.{slice}
use Rattle.base_text.specs.Bytes.{Text, newline, index_of, Range}
use Rattle.spec_tucson.specs.Columns.{in_columns}
use Rattle.spec_tucson.specs.Line.{name_columns, year_columns, head_columns, field_columns, field_numerals, is_name, Line}
use Rattle.spec_tucson.specs.Line.{with_numerals, if_allowed}
use Rattle.spec_tucson.specs.Series.{all_hundredths}
use Rattle.spec_tucson.specs.TextReading.{last_field}
use Rattle.spec_tucson.specs.Writing.{all_widths}
use Rattle.tucson_lines.specs.declared.LineNumbers.{LineNumbers}

-- The line that begins at the one index ends at the other: at its byte 10, or at the end of the text.
pub record LineEnd (text : Text) (from end : ℕ) : Type 0 where
  pub within : from ≤ length text
  pub is : end ≡ from + index_of newline (slice from (length text) text)

-- A line by its number, or none where that is 0.
unfoldable pub line_found : ℕ → math.Option ℕ
line_found zero = math.none
line_found (suc n) = math.some (suc n)

-- A range of a text with n fields.
pub record FieldsWithin (text : Text) (from to n : ℕ) : Type 0 where
  pub range : Range text from to
  pub longer : from + n * field_columns ≤ to

-- A range of a text that has the columns of a line with n fields, one or more.
pub record ColumnsOf (text : Text) (from end n : ℕ) : Type 0 where
  pub range : Range text from end
  pub some_field : 1 ≤ n
  pub size : end ≡ from + head_columns + n * field_columns

-- A line with a good name that byte 10 ends.
pub record NamedLine (text : Text) (from end : ℕ) : Type 0 where
  pub longer : from + name_columns ≤ end
  pub ended : end + 1 ≤ length text
  pub named : is_name (slice from (from + name_columns) text) ≡ true

-- Whether the fields are widths, and if so whether these and those before them are all at most 9,999.
unfoldable pub widths_told : Bool → math.Option (List ℤ) → Option Bool
widths_told small math.none = None
widths_told small (math.some ws) = cond (all_widths ws) (Some (small && all_hundredths ws)) None

-- The numbers of a good line.
abbrev pub numbers : ℤ → ℕ → Bool → ℤ → LineNumbers
numbers year count small last = record { year = year; count = count; small = small; last = last }

-- What is told of a good line.
unfoldable pub line_told : math.Option Line → Option LineNumbers
line_told math.none = None
line_told (math.some l) = Some (numbers l.year (length l.fields) (all_hundredths (drop_last l.fields)) (last_field l.fields))

-- What is told of n fields behind the name and the year of these columns.
abbrev pub numerals_told : Text → ℕ → Option LineNumbers
numerals_told body n =
    line_told (if_allowed true (with_numerals (take name_columns body) (in_columns (take year_columns (drop name_columns body)))
    (field_numerals n (drop head_columns body))))
