-- The notes (§ 16, remarks): what was changed or left out, and what a reader should look at, a number and a line each, by rising
-- line, then number.
use Rattle.std.specs.Prelude.{Bool, true, false, cond, ◌&&◌, ◌||◌, not, ℕ, zero, suc, ◌+◌, ◌-◌, eqb, leb, ltb, ℤ, pos, length}
use mathlib.Core.List.{List, [], ◌∷◌, ◌++◌, drop_last}
use Rattle.std.proofs.Math.Option.{Option, some, none}
use Rattle.base_text.specs.Bytes.{Text}
use Rattle.spec_tucson.specs.Line.{same, thousandths}
use Rattle.spec_tucson.specs.Series.{hundredths}
use Rattle.spec_tucson.specs.TextReading.{last_field}
use Rattle.spec_tucson.specs.Shown.{shown, is_blank_line, has_end, has_return, has_tab, has_trailing}
use Rattle.spec_tucson.specs.StrictLine.{has_site, any_high, shown_fields, Kept}
use Rattle.spec_tucson.specs.KeptLines.{is_data}
use Rattle.spec_tucson.specs.CleanSeries.{continues, follows_its, fields_of, is_reclosed, closing_after}
use Rattle.spec_tucson.specs.Notes as kinds

-- The number, where it applies.
abbrev pub note_if : Bool → ℕ → List ℕ → List ℕ
note_if true n ns = n ∷ ns
note_if false n ns = ns

-- ---- a series from one of its lines on

-- What stands ahead of a line in its series: how many lines there are with this one, the last field, and how many fields the last line has.
pub record Ahead : Type 0 where
  pub count : ℕ
  pub closing : ℤ
  pub last_fields : ℕ

-- One line more in front.
abbrev pub one_more : Ahead → Ahead
one_more a = record { count = suc a.count; closing = a.closing; last_fields = a.last_fields }

-- What stands ahead, from the first of these lines on; the closing is the unit's where -999 closes and a unit is said.
unfoldable pub ahead : ℕ → List Kept → Ahead
ahead unit [] = record { count = 0; closing = pos 0; last_fields = 0 }
ahead unit (k ∷ ks) =
    cond (continues k ks) (one_more (ahead unit ks))
    (record { count = 1; closing = closing_after unit (last_field (fields_of k.text)); last_fields = length (fields_of k.text) })

-- ---- remarks

-- The first of the numbers is 0.
unfoldable pub begins_absent : List ℤ → Bool
begins_absent [] = false
begins_absent (z ∷ zs) = same z (pos 0)

-- The last of them is the number.
unfoldable pub ends_with : ℤ → List ℤ → Bool
ends_with z [] = false
ends_with z (f ∷ fs) = same (last_field (f ∷ fs)) z

-- The line is its series' last.
abbrev pub is_last : Ahead → Bool
is_last a = eqb a.count 1

-- The line has its series' last width: it is the last line, or the one before a last line that has the closing alone.
unfoldable pub has_last_width : Ahead → Bool
has_last_width a = is_last a || (eqb a.count 2 && eqb a.last_fields 1)

-- The widths of a line of the series.
abbrev pub widths_in : Ahead → List ℤ → List ℤ
widths_in a fs = cond (is_last a) (drop_last fs) fs

-- A series' first line, which has no width: there is none in the series.
abbrev pub is_empty : List ℤ → Bool
is_empty [] = true
is_empty (z ∷ zs) = false

-- Remark 12: the series' first or last width is here and is 0, or the series has no width.
unfoldable pub is_absent_end : Bool → Ahead → List ℤ → Bool
is_absent_end first a ws = (first && (is_empty ws || begins_absent ws)) || (has_last_width a && ends_with (pos 0) ws)

-- Remark 13: the last width of a line is 999 in a series of thousandths.
unfoldable pub is_like_closing : Ahead → List ℤ → Bool
is_like_closing a ws = same a.closing thousandths && ends_with hundredths ws

-- Remark 14: the last line of a series whose closing is not that of the file's first series.
unfoldable pub is_other_unit : ℤ → Ahead → Bool
is_other_unit first_closing a = is_last a && not (same a.closing first_closing)

-- The remarks on a line with these fields, first of its series or not; the file's first series closes so.
unfoldable pub remarks : ℤ → Bool → Ahead → List ℤ → List ℕ
remarks first_closing first a fs =
    note_if (is_absent_end first a (widths_in a fs)) kinds.absent_end
    (note_if (is_like_closing a (widths_in a fs)) kinds.like_closing
    (note_if (is_other_unit first_closing a) kinds.other_unit []))

-- ---- a line's notes

-- Byte 26 ends the text within this line, and it is the last one: note 2.
abbrev pub is_cut_line : Bool → Text → Bool
is_cut_line early raw = early && not (has_end raw)

-- The notes of a line that is kept.
unfoldable pub kept_notes : ℕ → ℤ → Bool → Ahead → Kept → List ℕ
kept_notes unit first_closing first a k =
    note_if (has_trailing k.raw) kinds.trailing
    (note_if (has_site (shown k.raw)) kinds.site
    (note_if (not (has_end k.raw)) kinds.unended
    (note_if (any_high (shown_fields k.raw)) kinds.high
    (note_if (is_reclosed unit (not (is_last a)) k.text) kinds.reclosed
    (remarks first_closing first a (fields_of k.text))))))

-- The notes of a header line.
unfoldable pub header_notes : Text → List ℕ
header_notes raw = note_if (has_trailing raw) kinds.trailing (note_if (not (has_end raw)) kinds.unended (kinds.header ∷ []))

-- The notes of a line, with these of what becomes of it.
unfoldable pub line_notes : Bool → Text → List ℕ → List ℕ
line_notes early raw others =
    note_if (is_cut_line early raw) kinds.cut (note_if (has_return raw) kinds.returned (note_if (has_tab raw) kinds.tabbed others))

-- Each number with the line, two cells a note.
unfoldable pub at_line : ℕ → List ℕ → List ℕ
at_line line [] = []
at_line line (n ∷ ns) = n ∷ line ∷ at_line line ns

-- ---- all notes

-- The line before, if it is kept, and the closing of the file's first series, once there is one.
pub record Before : Type 0 where
  pub kept : Option Kept
  pub closing : Option ℤ

abbrev pub closing_or : Option ℤ → ℤ → ℤ
closing_or none c = c
closing_or (some d) c = d

-- What stands before the next line, behind this one.
abbrev pub behind : ℤ → Kept → Before
behind first_closing k = record { kept = some k; closing = some first_closing }

-- The notes of these raw lines, the first of which has this number, with the lines that are kept of them.
unfoldable pub notes_of : ℕ → ℕ → Bool → ℕ → Before → List Text → List Kept → List ℕ
notes_of unit h early i b [] ks = []
notes_of unit h early i b (r ∷ rs) [] =
    at_line i (line_notes early r (cond (is_blank_line r) (kinds.blank ∷ []) (header_notes r))) ++ notes_of unit h early (suc i) b rs []
notes_of unit h early i b (r ∷ rs) (k ∷ ks) =
    cond (is_data h i r)
    (at_line i (line_notes early r (kept_notes unit (closing_or b.closing (ahead unit (k ∷ ks)).closing)
    (not (follows_its b.kept k)) (ahead unit (k ∷ ks)) k))
    ++ notes_of unit h early (suc i) (behind (closing_or b.closing (ahead unit (k ∷ ks)).closing) k) rs ks)
    (at_line i (line_notes early r (cond (is_blank_line r) (kinds.blank ∷ []) (header_notes r))) ++ notes_of unit h early (suc i) b rs (k ∷ ks))
