-- What is proved of a text and the series that the strict reader finds in it (§ 14, § 16): every width stands in a field of a line, in
-- the year that the line's year and the field's place give. The lines of a cleaned file stand in it in turn, as they are shown
-- (`AnswersAreShown`).
use Rattle.std.specs.Prelude.{List, [], ◌∷◌, ◌++◌, map, ◌≡◌, ℕ, suc, ℤ, pos, ◌+ℤ◌, ◌*ℤ◌, length}
use Rattle.std.proofs.Math.Option.{some}
use Rattle.base_outcome.specs.Outcome.{answer}
use Rattle.base_text.specs.Bytes.{Text, newline}
use Rattle.spec_tucson.specs.Line.{Line, thousandths, lines_of, line_in_columns}
use Rattle.spec_tucson.specs.Series.{Series, hundredths}
use Rattle.spec_tucson.specs.TextReading.{read_text}
use Rattle.theorems_clean.specs.Places.{At}

-- The number stands in a field of one of the lines, which has this name; the line's year and the field's place give this year.
pub record InField (lines : List Text) (name : Text) (year number : ℤ) : Type 0 where
  pub index : ℕ
  pub body : Text
  pub at : At (body ++ (newline ∷ [])) index lines
  pub line : Line
  pub reads : line_in_columns body ≡ some line
  pub named : line.name ≡ name
  pub place : ℕ
  pub field : At number place line.fields
  pub dated : line.year +ℤ pos place ≡ year

-- The widths in thousandths of a series with these numbers and this closing: the numbers, times ten where 999 closes it.
pub data Scaled (closing : ℤ) (numbers : List ℤ) : List ℤ → Type 0 where
  in_thousandths : closing ≡ thousandths → Scaled closing numbers numbers
  in_hundredths : closing ≡ hundredths → Scaled closing numbers (map (λ n. n *ℤ pos 10) numbers)

-- The numbers of a series stand in the lines in consecutive years, and behind them the closing that says their unit.
pub record SeriesStands (lines : List Text) (s : Series) : Type 0 where
  pub numbers : List ℤ
  pub stand : (j : ℕ) (number : ℤ) → At number j numbers → InField lines s.name (s.first_year +ℤ pos j) number
  pub closing : ℤ
  pub closes : InField lines s.name (s.first_year +ℤ pos (length numbers)) closing
  pub scaled : Scaled closing numbers s.widths

abbrev pub WidthsStand : Type 0
WidthsStand = (t : Text) (ss : List Series) → read_text t ≡ answer ss → (n : ℕ) (s : Series) → At s n ss → SeriesStands (lines_of t) s
