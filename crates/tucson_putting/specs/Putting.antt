-- What the writing functions ask and leave: a text from an index on, for which there is room.
use Rattle.std.specs.Prelude.{true, List, ◌++◌, ◌≡◌, ℕ, ◌+◌, ◌*◌, ◌≤◌, ℤ, length}
use Rattle.std.proofs.Math.Option.{none}
use Rattle.base_outcome.specs.Tests.{between}
use Rattle.base_text.specs.Bytes.{Text}
use Rattle.base_text.specs.Numeral.{decimal}
use Rattle.base_print.specs.Buffer
use Rattle.spec_tucson.specs.Columns.{columns}
use Rattle.spec_tucson.specs.Line.{Line, year_columns, field_columns, is_name}
use Rattle.spec_tucson.specs.Writing.{least_year, greatest_year, all_widths, fields_text, lines_text, series_lines, written, unwritable}
use Rattle.spec_tucson.specs.WriteCall.{lists_fit, series_of}
use Rattle.tucson_series.specs.Sizes.{series, closing_fits}

-- The buffer with the text from index `at` on, and the index `next` after it.
pub record Wrote (at : ℕ) (text : Text) (before after : List ℕ) (next : ℕ) : Type 0 where
  pub contents : after ≡ Buffer.written at text before
  pub behind : next ≡ at + length text

-- A line of these.
abbrev pub line : Text → ℤ → List ℤ → Line
line name year fields = record { name = name; year = year; fields = fields }

-- A line up to its last width.
abbrev pub begun : Text → ℤ → List ℤ → Text
begun name year widths = name ++ (columns year_columns year ++ fields_text widths)

-- The number has room in so many columns, and they in the buffer.
pub record NumberFits (z : ℤ) (size at room : ℕ) : Type 0 where
  pub short : length (decimal z) ≤ size
  pub fits : at + size ≤ room

-- Widths that can be written, and there is room for them.
pub record FieldsFit (widths : List ℤ) (at room : ℕ) : Type 0 where
  pub allowed : all_widths widths ≡ true
  pub fits : at + length widths * field_columns ≤ room

-- A line of these can be written, and there is room for so many bytes beside its widths.
pub record LineFits (name : Text) (year : ℤ) (widths : List ℤ) (bytes at room : ℕ) : Type 0 where
  pub named : is_name name ≡ true
  pub dated : between least_year greatest_year year ≡ true
  pub allowed : all_widths widths ≡ true
  pub fits : at + bytes + length widths * field_columns ≤ room

-- A series of these can be written, and there is room for it.
pub record SeriesFits (name : Text) (year : ℤ) (widths : List ℤ) (at room : ℕ) : Type 0 where
  pub named : is_name name ≡ true
  pub dated : closing_fits year (length widths) ≡ true
  pub allowed : all_widths widths ≡ true
  pub fits : at + length (lines_text (series_lines (series name year widths))) ≤ room

-- The series of these lists can be written, and there is room for all.
pub record AllFit (names : Text) (years : List ℤ) (counts : List ℕ) (widths : List ℤ) (room : ℕ) : Type 0 where
  pub lists : lists_fit names years counts widths ≡ true
  pub writable : unwritable (series_of names years counts widths) ≡ none
  pub fits : length (written (series_of names years counts widths)) ≤ room
