-- Writing a Tucson text: "It writes thousandths: the first line from the first year to its decade's end, then whole decades, -9999
-- after the last width." (§ 14)
use Rattle.std.specs.Prelude.{Bool, true, cond, ◌&&◌, not, List, [], ◌∷◌, ◌++◌, ℕ, zero, suc, ◌-◌, ℤ, pos, neg_ℤ, ◌+ℤ◌, length}
use Rattle.std.proofs.Math.Option.{Option, some, none}
use Rattle.base_outcome.specs.Tests.{between}
use Rattle.base_text.specs.Bytes.{Text, newline, begins_with}
use Rattle.spec_tucson.specs.Columns.{columns}
use Rattle.spec_tucson.specs.Line.{Line, year_columns, field_columns, decade, thousandths, is_name, is_width, year_in_decade}
use Rattle.spec_tucson.specs.Series.{Series}

-- ---- the lines of a series

-- One field more at the front of the first line.
abbrev pub onto_first : ℤ → List (List ℤ) → List (List ℤ)
onto_first f [] = (f ∷ []) ∷ []
onto_first f (fs ∷ lines) = (f ∷ fs) ∷ lines

-- The fields cut into lines: the first line has room for so many after its first field, each later one for a decade's ten.
unfoldable pub in_lines : ℕ → List ℤ → List (List ℤ)
in_lines zero [] = []
in_lines zero (f ∷ fs) = (f ∷ []) ∷ in_lines (decade - 1) fs
in_lines (suc room) [] = []
in_lines (suc room) (f ∷ fs) = onto_first f (in_lines room fs)

-- Lines of these fields with this name, from this year on.
unfoldable pub lines_from : Text → ℤ → List (List ℤ) → List Line
lines_from name year [] = []
lines_from name year (fs ∷ more) = record { name = name; year = year; fields = fs } ∷ lines_from name (year +ℤ pos (length fs)) more

-- The widths and the closing, in lines.
unfoldable pub series_lines : Series → List Line
series_lines s = lines_from s.name s.first_year (in_lines (decade - 1 - year_in_decade s.first_year) (s.widths ++ (thousandths ∷ [])))

-- ---- their text

-- Fields of six columns.
unfoldable pub fields_text : List ℤ → Text
fields_text [] = []
fields_text (f ∷ fs) = columns field_columns f ++ fields_text fs

-- A line, ended by byte 10.
unfoldable pub line_text : Line → Text
line_text l = l.name ++ (columns year_columns l.year ++ (fields_text l.fields ++ (newline ∷ [])))

-- Lines one after another.
unfoldable pub lines_text : List Line → Text
lines_text [] = []
lines_text (l ∷ ls) = line_text l ++ lines_text ls

-- The text of a list of series.
unfoldable pub written : List Series → Text
written [] = []
written (s ∷ ss) = lines_text (series_lines s) ++ written ss

-- ---- code 11

-- The least year that four columns hold.
abbrev pub least_year : ℤ
least_year = neg_ℤ (pos 999)

-- The greatest.
abbrev pub greatest_year : ℤ
greatest_year = pos 9999

-- Every line's year fits its columns.
unfoldable pub years_fit : List Line → Bool
years_fit [] = true
years_fit (l ∷ ls) = between least_year greatest_year l.year && years_fit ls

-- Every width is allowed.
unfoldable pub all_widths : List ℤ → Bool
all_widths [] = true
all_widths (w ∷ ws) = is_width w && all_widths ws

-- "a name that the form does not allow, a line's year outside -999 to 9,999 (the closing's line too), a width outside 0 to 99,999,
-- or a name equal to the one before" (§ 14): the series has none of these. (Before the first there are no bytes, with which no name
-- begins.)
unfoldable pub is_writable : Text → Series → Bool
is_writable before s = is_name s.name && years_fit (series_lines s) && all_widths s.widths && not (begins_with s.name before)

-- The first series that can't be written, of a list whose first has this place and follows this name.
unfoldable pub first_unwritable : ℕ → Text → List Series → Option ℕ
first_unwritable place before [] = none
first_unwritable place before (s ∷ ss) = cond (is_writable before s) (first_unwritable (suc place) s.name ss) (some place)

-- The first series of a whole list that can't be written.
abbrev pub unwritable : List Series → Option ℕ
unwritable ss = first_unwritable 0 [] ss
