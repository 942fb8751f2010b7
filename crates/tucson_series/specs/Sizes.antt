-- The sizes of series (§ 14), from the first year and the count of widths: whether all lines' years
-- can be written, and how many bytes the lines take. That the lines of crate spec_tucson have these years and bytes is proved
-- in proofs/Sizes.
use Rattle.std.specs.Prelude.{Bool, true, ◌&&◌, List, [], ◌∷◌, ◌≡◌, ℕ, ◌+◌, ◌*◌, ◌-◌, ◌/◌, ◌%◌, ◌≤◌, leb, ℤ, pos, nat_abs, ◌-ℤ◌, length}
use Rattle.base_outcome.specs.Tests.{between}
use Rattle.base_text.specs.Bytes.{Text}
use Rattle.spec_tucson.specs.Line.{name_columns, head_columns, field_columns, decade}
use Rattle.spec_tucson.specs.Series.{Series}
use Rattle.spec_tucson.specs.Writing.{least_year, greatest_year}

-- A series of these.
abbrev pub series : Text → ℤ → List ℤ → Series
series name year widths = record { name = name; first_year = year; widths = widths }

-- How many years after this one can be written.
abbrev pub years_left : ℤ → ℕ
years_left year = nat_abs (greatest_year -ℤ year)

-- The year after which so many can be written.
abbrev pub year_at : ℕ → ℤ
year_at left = greatest_year -ℤ pos left

-- How many are left after the least year.
abbrev pub most_left : ℕ
most_left = years_left least_year

-- The first year can be written, and so can the closing's, with so many widths before it.
unfoldable pub closing_fits : ℤ → ℕ → Bool
closing_fits year count = between least_year greatest_year year && leb count (years_left year)

-- The same of each series.
unfoldable pub closings_fit : List ℤ → List ℕ → Bool
closings_fit [] counts = true
closings_fit (y ∷ ys) [] = true
closings_fit (y ∷ ys) (n ∷ ns) = closing_fits y n && closings_fit ys ns

-- How many fields after its first a line from this year on has room for.
abbrev pub line_room : ℤ → ℕ
line_room year = years_left year % decade

-- The bytes of a line beside its fields.
abbrev pub line_bytes : ℕ
line_bytes = head_columns + 1

-- The bytes of a series.
unfoldable pub series_bytes : ℤ → ℕ → ℕ
series_bytes year count = (count + 1) * field_columns + ((decade - 1 - line_room year + count) / decade + 1) * line_bytes

-- The bytes of all series.
unfoldable pub text_bytes : List ℤ → List ℕ → ℕ
text_bytes [] counts = 0
text_bytes (y ∷ ys) [] = 0
text_bytes (y ∷ ys) (n ∷ ns) = series_bytes y n + text_bytes ys ns

-- ---- what is asked

-- A name from index `at` on, behind the name from the index before.
pub record NameBehind (names : Text) (before at : ℕ) : Type 0 where
  pub ordered : before ≤ at
  pub within : at + name_columns ≤ length names

-- A count for each year, and closings that can be written.
pub record ClosedSeries (years : List ℤ) (counts : List ℕ) : Type 0 where
  pub counted : length counts ≡ length years
  pub closed : closings_fit years counts ≡ true
