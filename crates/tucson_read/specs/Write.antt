-- What the functions of the second pass write, which begins once a text is known to be good and the buffers long enough.
use Rattle.std.specs.Prelude.{true, cond, List, [], ◌≡◌, ℕ, ◌+◌, ◌*◌, ◌<◌, ◌≤◌, ℤ, length, set}
use Rattle.std.proofs.Math.Option.{Option, some, none}
use Rattle.std.proofs.Math.Seq.{slice}
use Rattle.std.proofs.lemmas.List.Edits.{sets}
use Rattle.base_outcome.specs.Outcome.{Outcome, answer, refusal}
use Rattle.base_text.specs.Bytes.{Text}
use Rattle.spec_tucson.specs.Line.{name_columns, field_columns, field_numerals, same}
use Rattle.spec_tucson.specs.Series.{Series, hundredths, from_hundredths}
use Rattle.spec_tucson.specs.TextReading.{read_text}
use Rattle.spec_tucson.specs.ReadCall.{names_of, years_of, counts_of, widths_of}
use Rattle.spec_tucson.specs.Writing.{all_widths}

-- The numbers of some fields; none if they are no numbers.
abbrev pub numerals_of : Option (List ℤ) → List ℤ
numerals_of none = []
numerals_of (some fs) = fs

-- The series of a text that is good; none if it is refused.
abbrev pub series_in : Outcome (List Series) → List Series
series_in (answer ss) = ss
series_in (refusal code place) = []

-- The widths in thousandths, by the closing.
unfoldable pub in_thousandths : ℤ → List ℤ → List ℤ
in_thousandths closing ws = cond (same closing hundredths) (from_hundredths ws) ws

-- ---- what is asked

-- The fields from the one index up to the other: n of them are numbers, and a buffer of this length has room for them from
-- index `at` on.
pub record FieldsAt (text : Text) (from to n at room : ℕ) : Type 0 where
  pub within : to ≤ length text
  pub longer : from + n * field_columns ≤ to
  pub numerals : field_numerals n (slice from to text) ≡ some (numerals_of (field_numerals n (slice from to text)))
  pub fits : at + n ≤ room

-- A name of the text from the one index on, and room for its bytes in the names from index `at` on.
pub record NameAt (text : Text) (from : ℕ) (names : Text) (at : ℕ) : Type 0 where
  pub within : from + name_columns ≤ length text
  pub fits : at + name_columns ≤ length names

-- What stands from the one index up to the other is widths.
pub record WidthsAt (widths : List ℤ) (from to : ℕ) : Type 0 where
  pub rising : from ≤ to
  pub within : to ≤ length widths
  pub all : all_widths (slice from to widths) ≡ true

-- A name of the text, room for one series more in each buffer, and a count of 32 bits.
pub record EntryAsks (text : Text) (from count : ℕ) (names : Text) (years : List ℤ) (counts : List ℕ) (series : ℕ) : Type 0 where
  pub name : NameAt text from names (series * name_columns)
  pub year-fits : series < length years
  pub count_fits : series < length counts
  pub count_small : count < 4294967296

-- A good text, and room for its series in each buffer.
pub record WriteAsks (text names : Text) (years : List ℤ) (counts : List ℕ) (widths : List ℤ) : Type 0 where
  pub good : read_text text ≡ answer (series_in (read_text text))
  pub names_fit : length (names_of (series_in (read_text text))) ≤ length names
  pub years-fit : length (series_in (read_text text)) ≤ length years
  pub counts_fit : length (series_in (read_text text)) ≤ length counts
  pub widths_fit : length (widths_of (series_in (read_text text))) ≤ length widths

-- ---- what is left

-- One series more: its name, its first year and its count.
pub record Entered (text : Text) (from : ℕ) (first : ℤ) (count series : ℕ) (names : Text) (years : List ℤ) (counts : List ℕ)
    (names-now : Text) (years-now : List ℤ) (counts-now : List ℕ) : Type 0 where
  pub name-put : names-now ≡ sets names (series * name_columns) (slice from (from + name_columns) text)
  pub year-put : years-now ≡ set years series first
  pub count-put : counts-now ≡ set counts series count

-- All series of the text at the fronts of the buffers.
pub record Written (text names : Text) (years : List ℤ) (counts : List ℕ) (widths : List ℤ)
    (names-now : Text) (years-now : List ℤ) (counts-now : List ℕ) (widths-now : List ℤ) : Type 0 where
  pub names_are : names-now ≡ sets names 0 (names_of (series_in (read_text text)))
  pub years_are : years-now ≡ sets years 0 (years_of (series_in (read_text text)))
  pub counts_are : counts-now ≡ sets counts 0 (counts_of (series_in (read_text text)))
  pub widths_are : widths-now ≡ sets widths 0 (widths_of (series_in (read_text text)))
