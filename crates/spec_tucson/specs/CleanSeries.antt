-- The series of strict lines (§ 16, the series): codes 23, 24 and 25, the closing that the caller's unit gives, and the strict
-- reader's own codes at the lines of the file.
use Rattle.std.specs.Prelude.{Bool, true, false, cond, ◌&&◌, ◌||◌, not, ℕ, zero, suc, ◌+◌, ◌-◌, ◌*◌, eqb, leb, ltb, ℤ, pos, neg_ℤ, length, take, drop}
use mathlib.Core.List.{List, [], ◌∷◌, ◌++◌, drop_last, map}
use Rattle.std.proofs.Math.Option.{Option, some, none}
use Rattle.base_outcome.specs.Codes as codes
use Rattle.base_outcome.specs.Outcome.{Outcome, answer, refuse, ◌then◌, with_answer}
use Rattle.base_text.specs.Bytes.{Text, newline, minus}
use Rattle.base_text.specs.Numeral.{is_digit}
use Rattle.spec_tucson.specs.Columns.{blank, columns}
use Rattle.spec_tucson.specs.Line.{Line, name_columns, head_columns, field_columns, same, thousandths, line_in_columns}
use Rattle.spec_tucson.specs.Series.{Series, hundredths}
use Rattle.spec_tucson.specs.TextReading.{Begun, last_field, read_line, after}
use Rattle.spec_tucson.specs.Shown.{trimmed}
use Rattle.spec_tucson.specs.StrictLine.{question_mark, Kept, name_of}
use Rattle.spec_tucson.specs.KeptLines.{same_text, column}

-- ---- neighbours

-- The two lines have the same name.
abbrev pub same_name : Kept → Kept → Bool
same_name k l = same_text (name_of k.text) (name_of l.text)

-- The series of this line goes on in the next.
unfoldable pub continues : Kept → List Kept → Bool
continues k [] = false
continues k (l ∷ ls) = same_name k l

abbrev pub follows_its : Option Kept → Kept → Bool
follows_its none k = false
follows_its (some b) k = same_name b k

abbrev pub fields_in : Option Line → List ℤ
fields_in none = []
fields_in (some l) = l.fields

-- The numbers of a strict line's fields.
unfoldable pub fields_of : Text → List ℤ
fields_of t = fields_in (line_in_columns t)

-- ---- code 23: the year runs into the name

-- A minus, or a ? as a minus that is not ASCII becomes.
abbrev pub is_sign : ℕ → Bool
is_sign c = eqb c minus || eqb c question_mark

-- The columns from the one to the other, so many, are digits.
unfoldable pub digits_in : ℕ → ℕ → Text → Bool
digits_in from zero t = true
digits_in from (suc n) t = is_digit (column from t) && digits_in (suc from) n t

-- A sign in the name's last column, or a year of five columns behind a sign or a blank.
unfoldable pub year_in_name : Text → Bool
year_in_name t = is_sign (column name_columns t)
    || (digits_in name_columns 5 t && (is_sign (column 7 t) || eqb (column 7 t) blank))

-- The columns up to this one end with digits behind a blank or a ?.
unfoldable pub digits_behind : ℕ → Text → Bool
digits_behind zero t = false
digits_behind (suc n) t = cond (is_digit (column (suc n) t)) (digits_behind n t)
    (eqb (column (suc n) t) blank || eqb (column (suc n) t) question_mark)

-- The name ends, in its last column, with digits behind a blank or a ?.
unfoldable pub ends_in_number : Text → Bool
ends_in_number t = is_digit (column name_columns t) && digits_behind name_columns t

-- There is a blank.
unfoldable pub any_blank : Text → Bool
any_blank [] = false
any_blank (c ∷ cs) = eqb c blank || any_blank cs

-- The line is shifted: its name begins with a blank, ends in a number, or has a blank inside while there is one field alone.
unfoldable pub is_shifted : Text → Bool
is_shifted t = eqb (column 1 t) blank || (ends_in_number t
    || (eqb (length t) (head_columns + field_columns) && any_blank (trimmed (name_of t))))

-- Code 23 of a line, which is a series by itself or not.
unfoldable pub runs_in : Bool → Text → Bool
runs_in alone t = year_in_name t || (alone && is_shifted t)

-- The first line of code 23, behind this one.
unfoldable pub year_fault : Option Kept → List Kept → Option ℕ
year_fault before [] = none
year_fault before (k ∷ ks) = cond (runs_in (not (follows_its before k) && not (continues k ks)) k.text) (some k.line)
    (year_fault (some k) ks)

-- ---- codes 24 and 25: the closing

-- -999, which closes a series in a unit that nobody knows.
abbrev pub unknown_unit : ℤ
unknown_unit = neg_ℤ (pos 999)

-- What the caller says of the unit: nothing, hundredths or thousandths of a millimetre.
abbrev pub unit_not_said : ℕ
unit_not_said = 0

abbrev pub hundredths_said : ℕ
hundredths_said = 100

abbrev pub thousandths_said : ℕ
thousandths_said = 1000

-- The closing of a unit that is said.
unfoldable pub closing_of : ℕ → ℤ
closing_of unit = cond (eqb unit hundredths_said) hundredths thousandths

-- The closing does not fit what is said of the unit.
unfoldable pub is_unit_fault : ℕ → ℤ → Bool
is_unit_fault unit c =
    cond (eqb unit unit_not_said) (same c unknown_unit)
    (cond (eqb unit hundredths_said) (same c thousandths) (same c hundredths))

-- The last field of a series, as the unit that is said makes it.
unfoldable pub closing_after : ℕ → ℤ → ℤ
closing_after unit c = cond (same c unknown_unit && not (eqb unit unit_not_said)) (closing_of unit) c

-- 999 is one of the numbers.
unfoldable pub any999 : List ℤ → Bool
any999 [] = false
any999 (z ∷ zs) = same z hundredths || any999 zs

-- The fields of a line before the closing of its series: all of them, where the series goes on.
abbrev pub width_fields : Bool → Text → List ℤ
width_fields goes t = cond goes (fields_of t) (drop_last (fields_of t))

-- The first line of a series with 999 before the closing: the one before this line, or this line.
unfoldable pub seen999 : Option ℕ → Bool → Kept → Option ℕ
seen999 (some line) goes k = some line
seen999 none goes k = cond (any999 (width_fields goes k.text)) (some k.line) none

-- A code and a line.
pub record Fault : Type 0 where
  pub code : ℕ
  pub line : ℕ

abbrev pub fault : ℕ → ℕ → Fault
fault c l = record { code = c; line = l }

abbrev pub if_hundredths : ℤ → Option ℕ → Option Fault
if_hundredths c none = none
if_hundredths c (some line) = cond (same c hundredths) (some (fault codes.file_closing line)) none

-- Codes 24 and 25 of a series with this last line and this first line with 999.
unfoldable pub closing_fault : ℕ → Option ℕ → Kept → Option Fault
closing_fault unit seen k =
    cond (is_unit_fault unit (last_field (fields_of k.text))) (some (fault codes.file_unit k.line))
    (if_hundredths (closing_after unit (last_field (fields_of k.text))) seen)

abbrev pub or_fault : Option Fault → Option Fault → Option Fault
or_fault none other = other
or_fault (some f) other = some f

-- The first of codes 24 and 25, series by series; so far the first line of this series with 999 before the closing is that.
unfoldable pub series_fault : ℕ → Option ℕ → List Kept → Option Fault
series_fault unit seen [] = none
series_fault unit seen (k ∷ ks) =
    cond (continues k ks) (series_fault unit (seen999 seen true k) ks)
    (or_fault (closing_fault unit (seen999 seen false k) k) (series_fault unit none ks))

-- ---- the strict text

-- A series' last line closes with -999, and the unit is said.
unfoldable pub is_reclosed : ℕ → Bool → Text → Bool
is_reclosed unit goes t = not goes && (same (last_field (fields_of t)) unknown_unit && not (eqb unit unit_not_said))

-- The line with its unit's closing for -999, where its series does not go on and the unit is said.
unfoldable pub reclosed : ℕ → Bool → Text → Text
reclosed unit goes t = cond (is_reclosed unit goes t) (take (length t - field_columns) t ++ columns field_columns (closing_of unit)) t

-- The lines with the closings that the unit gives.
unfoldable pub closed_lines : ℕ → List Kept → List Kept
closed_lines unit [] = []
closed_lines unit (k ∷ ks) = record { line = k.line; raw = k.raw; text = reclosed unit (continues k ks) k.text } ∷ closed_lines unit ks

-- A line with byte 10 at its end.
abbrev pub with_end : Text → Text
with_end t = t ++ (newline ∷ [])

-- The strict text of the lines.
unfoldable pub strict_text : List Kept → Text
strict_text [] = []
strict_text (k ∷ ks) = with_end k.text ++ strict_text ks

-- What the strict reader makes of the lines, at the places that they have in the file.
unfoldable pub read_kept : Option Begun → List Kept → Outcome (List Series)
read_kept b [] = answer []
read_kept b (k ∷ ks) = read_line k.line b (continues k ks) (with_end k.text) then after (λ b'. read_kept b' ks)

-- The refusal of the code at the line, if there is a fault.
abbrev pub refuse_fault : {A : Type 0} → Option Fault → Outcome A → Outcome A
refuse_fault none rest = rest
refuse_fault (some f) rest = refuse f.code f.line
