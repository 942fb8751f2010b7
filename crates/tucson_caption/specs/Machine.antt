-- The first columns of a shown line, and what a header line is by them.
use Rattle.std.specs.Prelude.{Bool, cond, ◌&&◌, ◌||◌, not, ◌≡◌, ℕ, ◌<◌, ◌≤◌, eqb, ltb, length, take}
use Rattle.base_text.specs.Bytes.{Text}
use Rattle.base_text.specs.Numeral.{is_digit}
use Rattle.spec_tucson.specs.Columns.{blank}
use Rattle.spec_tucson.specs.Line.{name_columns}
use Rattle.spec_tucson.specs.KeptLines.{column}
use Rattle.tucson_lines.specs.Machine.{LineEnd}
use Rattle.tucson_columns.specs.Machine.{cells}

-- The last column that is looked at by its number.
abbrev pub last_column : ℕ
last_column = 24

-- A line, and an array.
pub record FrontAsks (text : Text) (from end : ℕ) (bytes : Text) : Type 0 where
  pub at : LineEnd text from end
  pub size : length bytes ≡ cells

-- The first columns of a shown line at the front of an array.
pub record FrontTold (t : Text) (n : ℕ) (bytes : Text) : Type 0 where
  pub few : n ≤ last_column
  pub are : take n bytes ≡ take last_column t

-- A column, from 1, and so many bytes at the front of an array.
pub record ColumnAsks (bytes : Text) (count n : ℕ) : Type 0 where
  pub within : count ≤ length bytes
  pub some_column : 1 ≤ n

-- So many bytes at the fronts of two arrays.
pub record PairAsks (head : Text) (past : ℕ) (bytes : Text) (count : ℕ) : Type 0 where
  pub head-within : past ≤ length head
  pub within : count ≤ length bytes

-- Two lines, a number below ten, and two arrays.
pub record HeaderAsks (text : Text) (first past k from end : ℕ) (head bytes : Text) : Type 0 where
  pub first_at : LineEnd text first past
  pub at : LineEnd text from end
  pub digit : k < 10
  pub head-size : length head ≡ cells
  pub size : length bytes ≡ cells

-- At most six of so many columns.
abbrev pub name_front : ℕ → ℕ
name_front n = cond (ltb n 6) n 6

-- A header line's columns 9 and on, by its first columns, their count, and whether column 9 or a later one has a word's byte.
unfoldable pub caption_by : Text → ℕ → Bool → Bool
caption_by t n spoken = eqb n name_columns
    || (eqb (column 9 t) blank && (spoken && (not (is_digit (column 12 t)) && (not (is_digit (column 18 t)) && not (is_digit (column 24 t))))))
