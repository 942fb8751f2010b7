-- What is known between two raw lines, and what one raw line leaves.
use Rattle.std.specs.Prelude.{Bool, true, false, cond, ◌&&◌, not, List, [], ◌∷◌, ◌++◌, map, ◌≡◌, ℕ, suc, ◌+◌, ◌*◌, ◌^◌, ◌<◌, ◌≤◌, eqb, ℤ, length, take, drop}
use Rattle.std.proofs.Math.Option.{Option, some, none}
use Rattle.std.proofs.Math.Seq.{slice}
use Rattle.base_outcome.specs.Outcome.{answer}
use Rattle.base_print.specs.Buffer.{Puts}
use Rattle.base_text.specs.Bytes.{Text}
use Rattle.spec_tucson.specs.Line.{head_columns, field_columns, lines_of, same}
use Rattle.spec_tucson.specs.Shown as lines-shown
use Rattle.spec_tucson.specs.Shown.{is_blank_line, has_end, has_return, has_tab, has_trailing}
use Rattle.spec_tucson.specs.StrictLine.{has_site, line_columns, shown_fields, Kept}
use Rattle.spec_tucson.specs.KeptLines.{kept_lines}
use Rattle.spec_tucson.specs.CleanSeries.{unknown_unit, unit_not_said, continues, follows_its, reclosed, closed_lines, with_end, strict_text}
use Rattle.spec_tucson.specs.CleanNotes.{ahead, is_cut_line, kept_notes, header_notes, line_notes, at_line, remarks, Before, closing_or, behind}
use Rattle.spec_tucson.specs.CleanNotes.{notes_of}
use Rattle.spec_tucson.specs.CleanCall.{at_start}
use Rattle.tucson_lines.specs.Machine.{LineEnd}
use Rattle.tucson_notes.specs.Machine.{SumsUp, ahead_of, marked, bytes_per_line, cells_per_line, strict_put}
use Rattle.tucson_notes.specs.declared.Fields as machine-fields
use Rattle.tucson_notes.specs.declared.Marks as machine-marks
use Rattle.tucson_walk.specs.declared.Series.{Series}
use Rattle.tucson_walk.specs.declared.Walked.{Walked}
use Rattle.tucson_walk.specs.declared.Turn.{Turn}
use Rattle.tucson_walk.specs.Following.{KeptBehind, StandsIn}
use Rattle.tucson_walk.specs.Tracking.{Tracks}
use Rattle.spec_tucson.specs.Notes as kinds

-- ---- the series

-- The closing of the file's first series is held once there is one.
abbrev pub Knows : Option ℤ → Series → Type 0
Knows none s = (s.known ≡ false) × (s.ahead.count ≡ 0)
Knows (some c) s = (s.known ≡ true) × (s.first ≡ c)

-- What is held of the series of these lines.
pub record Holds (unit : ℕ) (b : Before) (ks : List Kept) (s : Series) : Type 0 where
  pub tracks : Tracks unit b.kept ks s.ahead.count s.ahead.closing s.ahead.fields
  pub knows : Knows b.closing s

-- What is held at the line in front.
pub record Entered (unit : ℕ) (b : Before) (k : Kept) (ks : List Kept) (s r : Series) : Type 0 where
  pub ahead_is : ahead_of r.ahead ≡ ahead unit (k ∷ ks)
  pub first_is : eqb s.ahead.count 0 ≡ not (follows_its b.kept k)
  pub closing_is : r.first ≡ closing_or b.closing (ahead unit (k ∷ ks)).closing
  pub known_is : r.known ≡ true

abbrev pub EnterTold : ℕ → Text → ℕ → Text → ℕ → Series → Series → Type 0
EnterTold unit text past line n s r = (h i : ℕ) (b : Before) (k : Kept) (ks : List Kept) → k.text ≡ take n line
    → KeptBehind text h i k past ks
    → Holds unit b (k ∷ ks) s → Entered unit b k ks s r

-- One line of the series less is ahead.
abbrev pub LeaveTold : Series → Series → Type 0
LeaveTold s r = (n : ℕ) → s.ahead.count ≡ suc n
    → r ≡ record {
      ahead = record { count = n; closing = s.ahead.closing; fields = s.ahead.fields };
      known = s.known;
      first =
          s.first;
    }

-- ---- one line

-- A series' last line closes with -999, and the unit is said.
abbrev pub reclosing : ℕ → Bool → ℤ → Bool
reclosing unit last z = last && (same z unknown_unit && not (eqb unit unit_not_said))

-- What was changed in a line.
abbrev pub marks_of : Bool → Text → Bool → Bool → Bool → machine-marks.Marks
marks_of early raw site high reclosed = record {
  cut = is_cut_line early raw;
  returned = has_return raw;
  tabbed = has_tab raw;
  trailing = has_trailing raw;
  site = site;
  unended = not (has_end raw);
  high = high;
  reclosed = reclosed;
}

-- The notes of a line that is left out.
abbrev pub other_notes : Bool → Text → List ℕ
other_notes early raw = line_notes early raw (cond (is_blank_line raw) (kinds.blank ∷ []) (header_notes raw))

-- A line of the text, and an index that is far from its limit.
pub record OtherAsks (text : Text) (from end at : ℕ) : Type 0 where
  pub line : LineEnd text from end
  pub near : at < 2 ^ 60

-- Indices that are far from their limits.
pub record FarFrom (w : Walked) : Type 0 where
  pub bytes_near : w.bytes < 2 ^ 60
  pub lines_near : w.lines < 2 ^ 60
  pub cells_near : w.cells < 2 ^ 60

-- A strict line, and such indices.
pub record KeptAsks (line : Text) (w : Walked) : Type 0 where
  pub short : length line ≤ line_columns
  pub long : head_columns + field_columns ≤ length line
  pub near : FarFrom w

-- The strict line, its number and its notes are put.
pub record PutsKept (line : Text) (number unit : ℕ) (m : machine-marks.Marks) (first : Bool) (s : Series) (f : machine-fields.Fields)
    (w : Walked)
    (out out_after : Text) (lines lines_after notes notes_after : List ℕ) (r : Walked) : Type 0 where
  pub text-put : Puts bytes_per_line w.bytes (strict_put line (length line) m.reclosed unit) out out_after r.bytes
  pub line-put : Puts 1 w.lines (number ∷ []) lines lines_after r.lines
  pub notes_put : (fs : List ℤ) → SumsUp fs f
      → Puts cells_per_line w.cells (at_line number (marked m (remarks s.first first (ahead_of s.ahead) fs)))
      notes notes_after r.cells

-- ---- one raw line

-- The lines that are kept from this index on, and what is held of their series.
pub record Walks (unit h : ℕ) (text : Text) (from i : ℕ) (b : Before) (ks : List Kept) (s : Series) : Type 0 where
  pub kept : kept_lines h i b.kept (lines_of (drop from text)) ≡ answer ks
  pub holds : Holds unit b ks s

-- The indices go on by no more than a line takes.
pub record NearTo (w r : Walked) : Type 0 where
  pub bytes_near : r.bytes ≤ w.bytes + bytes_per_line
  pub lines_near : r.lines ≤ w.lines + 1
  pub cells_near : r.cells ≤ w.cells + cells_per_line

abbrev pub numbers_of : List Kept → List ℕ
numbers_of ks = map (λ k. k.line) ks

-- What is put for a raw line, and what is left.
pub record Stepped (unit h : ℕ) (early : Bool) (text : Text) (from past i : ℕ) (b : Before) (ks : List Kept) (w : Walked)
    (out out_after : Text) (lines lines_after notes notes_after : List ℕ) (r : Turn) : Type 0 where
  pub later : Before
  pub others : List Kept
  pub walks : Walks unit h text past (i + 1) later others r.series
  pub bytes : Text
  pub bytes-put : Puts bytes_per_line w.bytes bytes out out_after r.walked.bytes
  pub bytes_are : strict_text (closed_lines unit ks) ≡ bytes ++ strict_text (closed_lines unit others)
  pub numbers : List ℕ
  pub numbers-put : Puts 1 w.lines numbers lines lines_after r.walked.lines
  pub numbers_are : numbers_of (closed_lines unit ks) ≡ numbers ++ numbers_of (closed_lines unit others)
  pub cells : List ℕ
  pub cells-put : Puts cells_per_line w.cells cells notes notes_after r.walked.cells
  pub cells_are : notes_of unit h early i b (lines_of (drop from text)) ks ≡ cells
      ++ notes_of unit h early (i + 1) later (lines_of (drop past text)) others

-- What is told of a turn.
pub record TurnTold (unit h : ℕ) (early : Bool) (text : Text) (from past i : ℕ) (t : Turn)
    (out out_after : Text) (lines lines_after notes notes_after : List ℕ) (r : Turn) : Type 0 where
  pub near : NearTo t.walked r.walked
  pub told : (b : Before) (ks : List Kept) → Walks unit h text from i b ks t.series
      → Stepped unit h early text from past i b ks t.walked out out_after lines lines_after notes notes_after r

-- A raw line, and indices that are far from their limits.
pub record TurnAsks (text : Text) (from end : ℕ) (t : Turn) : Type 0 where
  pub line : LineEnd text from end
  pub more : from < length text
  pub near : FarFrom t.walked

-- A strict line of n bytes in an array, its raw line, and such indices.
pub record TakeAsks (text : Text) (from end : ℕ) (line : Text) (n : ℕ) (t : Turn) : Type 0 where
  pub raw : LineEnd text from end
  pub more : from < length text
  pub stands : StandsIn line n
  pub short : n ≤ line_columns
  pub near : FarFrom t.walked

-- What is told of the strict line in front of others: it is put as the definitions say.
pub record Took (unit : ℕ) (early : Bool) (b : Before) (k : Kept) (ks : List Kept) (t : Turn)
    (out out_after : Text) (lines lines_after notes notes_after : List ℕ) (r : Turn) : Type 0 where
  pub closing : ℤ
  pub closing_is : closing ≡ closing_or b.closing (ahead unit (k ∷ ks)).closing
  pub holds : Holds unit (behind closing k) ks r.series
  pub bytes-put : Puts bytes_per_line t.walked.bytes (with_end (reclosed unit (continues k ks) k.text)) out out_after r.walked.bytes
  pub number_put : Puts 1 t.walked.lines (k.line ∷ []) lines lines_after r.walked.lines
  pub cells-put : Puts cells_per_line t.walked.cells
      (at_line k.line (line_notes early k.raw (kept_notes unit closing (not (follows_its b.kept k)) (ahead unit (k ∷ ks)) k)))
      notes notes_after r.walked.cells

pub record TakeTold (unit : ℕ) (early : Bool) (text : Text) (from end number : ℕ) (shown line : Text) (n : ℕ) (site : Bool) (t : Turn)
    (out out_after : Text) (lines lines_after notes notes_after : List ℕ) (r : Turn) : Type 0 where
  pub near : NearTo t.walked r.walked
  pub told : (h i : ℕ) (b : Before) (k : Kept) (ks : List Kept) → k.line ≡ number → k.raw ≡ slice from (end + 1) text
      → k.text ≡ take n line
      → shown_fields k.raw ≡ shown → site ≡ has_site (lines-shown.shown k.raw) → KeptBehind text h i k (end + 1) ks
      → Holds unit b (k ∷ ks) t.series
      → Took unit early b k ks t out out_after lines lines_after notes notes_after r

-- ---- all lines

-- A text with fewer lines than places, and an index.
pub record WalkAsks (text : Text) (at : ℕ) : Type 0 where
  pub few : length text < 2 ^ 32
  pub near : at < 2 ^ 32

-- All that is put, and that it is no more than so many lines take.
pub record WalkedAll (unit h : ℕ) (early : Bool) (text : Text) (at : ℕ) (ks : List Kept)
    (out out_after : Text) (lines lines_after notes notes_after : List ℕ) (r : Walked) : Type 0 where
  pub bytes-put : Puts (bytes_per_line * (length (lines_of text) + 1)) 0 (strict_text (closed_lines unit ks)) out out_after r.bytes
  pub numbers-put : Puts (length (lines_of text) + 1) 0 (numbers_of (closed_lines unit ks)) lines lines_after r.lines
  pub cells-put : Puts (cells_per_line * (length (lines_of text) + 1)) at (notes_of unit h early 1 at_start (lines_of text) ks)
      notes notes_after r.cells

-- What is told of the walk: how far the notes go at most, and what is put where all lines are strict lines.
pub record WalkTold (unit h : ℕ) (early : Bool) (text : Text) (at : ℕ) (out out_after : Text) (lines lines_after notes notes_after : List ℕ)
    (r : Walked) : Type 0 where
  pub near : r.cells ≤ at + cells_per_line * (length text + 1)
  pub told : (ks : List Kept) → kept_lines h 1 none (lines_of text) ≡ answer ks
      → WalkedAll unit h early text at ks out out_after lines lines_after notes notes_after r
