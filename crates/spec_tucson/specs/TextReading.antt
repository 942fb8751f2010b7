-- Reading a Tucson text: its series, or the first refusal. "Lines are tested from the top" (§ 14): each line for 11, then 12, then
-- 13, before the next; "place the line, from 1" (§ 14).
use Rattle.std.specs.Prelude.{Bool, true, false, cond, ◌&&◌, not, ℕ, suc, eqb, ℤ, pos, ◌+ℤ◌, length, take}
use mathlib.Core.List.{List, [], ◌∷◌, ◌++◌, drop_last}
use Rattle.std.proofs.Math.Option.{Option, some, none}
use Rattle.base_outcome.specs.Codes as codes
use Rattle.base_outcome.specs.Outcome.{Outcome, answer, refuse, ◌then◌, with_answer}
use Rattle.base_text.specs.Bytes.{Text, begins_with}
use Rattle.spec_tucson.specs.Line.{Line, name_columns, lines_of, year_in_decade, same, good_line}
use Rattle.spec_tucson.specs.Series.{Series, closed_by}

-- Whether the line goes on in the next: that has the same name in its first eight bytes. It is its series' last otherwise.
unfoldable pub goes_on : Text → List Text → Bool
goes_on t [] = false
goes_on t (next ∷ later) = begins_with (take name_columns t) next

-- A series of which more lines come: its first year, and its widths so far, in the unit that its closing will say.
pub record Begun : Type 0 where
  pub first_year : ℤ
  pub widths : List ℤ

-- What is begun where a line stands: the series so far, or one that begins with the line's year.
abbrev pub begun_by : Option Begun → Line → Begun
begun_by none l = record { first_year = l.year; widths = [] }
begun_by (some b) l = b

-- The year after those of the widths so far.
abbrev pub next_year : Begun → ℤ
next_year b = b.first_year +ℤ pos (length b.widths)

-- Code 12: "a later line of a series whose year is not that of the line before plus its count of fields, or does not end in 0"
-- (§ 14).
unfoldable pub year_follows : Option Begun → Line → Bool
year_follows none l = true
year_follows (some b) l = same l.year (next_year b) && eqb (year_in_decade l.year) 0

-- What a line leaves: a series of which more lines come, or a whole one.
pub data Step : Type 0 where
  opened : Begun → Step
  closed : Series → Step

-- The series with this line's fields too.
abbrev pub extended : Begun → Line → Begun
extended b l = record { first_year = b.first_year; widths = b.widths ++ l.fields }

-- The last of the fields.
unfoldable pub last_field : List ℤ → ℤ
last_field [] = pos 0
last_field (f ∷ []) = f
last_field (f ∷ g ∷ fs) = last_field (g ∷ fs)

-- The whole series, if there are widths for it.
abbrev pub whole_series : ℕ → Text → ℤ → Option (List ℤ) → Outcome Step
whole_series place name year none = refuse codes.tucson_closing place
whole_series place name year (some ws) = answer (closed (record { name = name; first_year = year; widths = ws }))

-- Code 13 on a series' last line, or the series that its last field closes.
unfoldable pub closing : ℕ → Begun → Line → Outcome Step
closing place b l = whole_series place l.name b.first_year (closed_by (last_field l.fields) (b.widths ++ drop_last l.fields))

-- What a good line leaves, its series going on or not.
unfoldable pub line_step : ℕ → Option Begun → Bool → Line → Outcome Step
line_step place b more l =
    cond (year_follows b l)
    (cond more (answer (opened (extended (begun_by b l) l))) (closing place (begun_by b l) l))
    (refuse codes.tucson_year place)

-- Code 11, or what a good line leaves.
abbrev pub if_good : ℕ → Option Begun → Bool → Option Line → Outcome Step
if_good place b more none = refuse codes.tucson_line place
if_good place b more (some l) = line_step place b more l

-- The tests of the line at this place, in the order of the codes, and what it leaves.
unfoldable pub read_line : ℕ → Option Begun → Bool → Text → Outcome Step
read_line place b more t = if_good place b more (good_line (not more) t)

-- The later lines' series, with that of this line in front if it is whole.
abbrev pub after : (Option Begun → Outcome (List Series)) → Step → Outcome (List Series)
after later (opened b) = later (some b)
after later (closed s) = with_answer (λ ss. s ∷ ss) (later none)

-- The series of these lines, the first of which has this place, after what was begun.
unfoldable pub read_lines : ℕ → Option Begun → List Text → Outcome (List Series)
read_lines place b [] = answer []
read_lines place b (t ∷ ts) = read_line place b (goes_on t ts) t then after (λ b'. read_lines (suc place) b' ts)

-- The series of a text, or its first refusal.
unfoldable pub read_text : Text → Outcome (List Series)
read_text t = read_lines 1 none (lines_of t)
