-- What the machine keeps of a strict line's numbers.
use mathlib.Core.List.{List, drop_last}
use Rattle.std.proofs.Math.Option.{some}
use Rattle.std.specs.Prelude.{◌≡◌, ℕ, ◌<◌, ◌≤◌, ℤ, nat_abs, length}
use Rattle.std.proofs.Math.Seq.{slice}
use Rattle.base_text.specs.Bytes.{Text}
use Rattle.base_text.specs.Numeral.{numeral_limit}
use Rattle.spec_tucson.specs.Line.{Line, decade, field_numerals, line_in_columns}
use Rattle.spec_tucson.specs.Series.{all_hundredths}
use Rattle.spec_tucson.specs.TextReading.{last_field}
use Rattle.spec_tucson.specs.Writing.{all_widths}
use Rattle.spec_tucson.specs.CleanSeries.{any999}
use Rattle.tucson_fields.specs.declared.Facts.{Facts}
use Rattle.tucson_fields.specs.declared.FrontFacts.{FrontFacts}

-- What is kept of some fields.
pub record FrontOf (ws : List ℤ) (r : FrontFacts) : Type 0 where
  pub widths_are : all_widths ws ≡ r.widths
  pub small_are : all_hundredths ws ≡ r.small
  pub nine_is : any999 ws ≡ r.nine

-- What is kept of the first n fields of a line, where they are numbers.
abbrev pub FrontTold : Text → ℕ → FrontFacts → Type 0
FrontTold t n r = (ws : List ℤ) → field_numerals n (slice 12 (length t) t) ≡ some ws → FrontOf ws r

-- What is kept of a line's numbers.
pub record NumbersOf (l : Line) (r : Facts) : Type 0 where
  pub year_is : l.year ≡ r.year
  pub year-small : nat_abs r.year < numeral_limit
  pub count_is : length l.fields ≡ r.count
  pub some_field : 1 ≤ r.count
  pub few : r.count ≤ decade
  pub widths_are : all_widths (drop_last l.fields) ≡ r.widths
  pub small_are : all_hundredths (drop_last l.fields) ≡ r.small
  pub nine_is : any999 (drop_last l.fields) ≡ r.nine
  pub last_is : last_field l.fields ≡ r.last

-- What is kept of a strict line.
pub record FactsOf (t : Text) (r : Facts) : Type 0 where
  pub line : Line
  pub is : line_in_columns t ≡ some line
  pub numbers : NumbersOf line r
