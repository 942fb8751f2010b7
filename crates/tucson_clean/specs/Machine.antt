-- The machine's form of the call: where the text of a file stands, and what is put for the whole of it.
use Rattle.std.specs.Prelude.{Bool, true, List, ◌≡◌, ℕ, ◌+◌, ◌-◌, ◌*◌, ◌^◌, ◌<◌, ◌≤◌, ltb, length, take, drop}
use Rattle.std.specs.Prelude.{Result, Ok, Err}
use Rattle.std.proofs.Math.Option.{none}
use Rattle.base_outcome.specs.Outcome.{Outcome, answer, refusal, with_answer}
use Rattle.base_outcome.specs.declared.Refusal.{Refusal}
use Rattle.base_print.specs.Buffer.{Puts}
use Rattle.base_text.specs.Bytes.{Text}
use Rattle.spec_tucson.specs.Line.{lines_of}
use Rattle.spec_tucson.specs.FileText.{text_of, ends_early}
use Rattle.spec_tucson.specs.StrictLine.{Kept}
use Rattle.spec_tucson.specs.KeptLines.{kept_lines}
use Rattle.spec_tucson.specs.CleanSeries.{closed_lines, strict_text}
use Rattle.spec_tucson.specs.CleanCall.{Cleaned, all_ended, all_notes, if_room, Counts, counts_of, laid}
use Rattle.tucson_notes.specs.Machine.{bytes_per_line, cells_per_line, cells_per_file}
use Rattle.tucson_walk.specs.declared.Walked.{Walked}
use Rattle.tucson_walk.specs.Walking.{numbers_of}
use Rattle.tucson_clean.specs.declared.Tail.{Tail}
use Rattle.tucson_clean.specs.declared.Counts as machine

-- How many lines a text has, and whether the last one has its end.
pub record TailIs (body : Text) (r : Tail) : Type 0 where
  pub count_is : r.count ≡ length (lines_of body)
  pub ended_is : r.ended ≡ all_ended (lines_of body)
  pub few : r.count ≤ length body

-- The bytes from the one index up to the other.
abbrev pub part : ℕ → ℕ → Text → Text
part from stop t = take (stop - from) (drop from t)

-- The text of a file stands from the one index up to the other.
pub record BodyAt (t : Text) (from stop : ℕ) : Type 0 where
  pub after : from ≤ stop
  pub within : stop ≤ length t
  pub short : length t < 2 ^ 32
  pub body_is : part from stop t ≡ text_of t
  pub early_is : ltb stop (length t) ≡ ends_early t

-- How many bytes, numbers of lines and cells of notes are enough for a text of so many lines.
abbrev pub ample : ℕ → ℕ × (ℕ × ℕ)
ample count = (bytes_per_line * (count + 1), (count + 1, cells_per_line * (count + 1) + cells_per_file))

-- The buffers have so many.
pub record RoomFor (count text_length lines_length notes_length : ℕ) : Type 0 where
  pub bytes_fit : (ample count).0 ≤ text_length
  pub lines_fit : (ample count).1.0 ≤ lines_length
  pub cells_fit : (ample count).1.1 ≤ notes_length

-- Whether it is known that the buffers have so many.
abbrev pub AmpleTold : ℕ → ℕ → ℕ → ℕ → Bool → Type 0
AmpleTold count text_length lines_length notes_length r = r ≡ true → RoomFor count text_length lines_length notes_length

-- The text of a file stands from the one index up to the other, and its lines are counted.
pub record CountedAt (t : Text) (from stop : ℕ) (r : Tail) : Type 0 where
  pub body : BodyAt t from stop
  pub counted : TailIs (part from stop t) r

-- The strict text, the numbers of its lines and all notes, put from the beginnings of the buffers on.
pub record AllPut (t : Text) (h unit : ℕ) (ks : List Kept) (out out_after : Text) (lines lines_after notes notes_after : List ℕ)
    (r : Walked) : Type 0 where
  pub bytes-put : Puts (ample (length (lines_of (text_of t)))).0 0 (strict_text (closed_lines unit ks)) out out_after r.bytes
  pub numbers-put : Puts (ample (length (lines_of (text_of t)))).1.0 0 (numbers_of (closed_lines unit ks)) lines lines_after r.lines
  pub cells-put : Puts (ample (length (lines_of (text_of t)))).1.1 0 (all_notes t unit h ks) notes notes_after r.cells

abbrev pub PutTold : Text → ℕ → ℕ → Text → Text → List ℕ → List ℕ → List ℕ → List ℕ → Walked → Type 0
PutTold t h unit out out_after lines lines_after notes notes_after r = (ks : List Kept) → kept_lines h 1 none (lines_of (text_of t)) ≡ answer ks
    → AllPut t h unit ks out out_after lines lines_after notes notes_after r

-- How much is put.
pub record Measured (t : Text) (h unit : ℕ) (ks : List Kept) (r : Walked) : Type 0 where
  pub bytes_are : r.bytes ≡ length (strict_text (closed_lines unit ks))
  pub lines_are : r.lines ≡ length (numbers_of (closed_lines unit ks))
  pub cells_are : r.cells ≡ length (all_notes t unit h ks)

abbrev pub MeasureTold : Text → ℕ → ℕ → Walked → Type 0
MeasureTold t h unit r = (ks : List Kept) → kept_lines h 1 none (lines_of (text_of t)) ≡ answer ks → Measured t h unit ks r

-- The specification's words for what is answered.
unfoldable pub counts : Result machine.Counts Refusal → Outcome Counts
counts (Ok c) = answer (record { bytes = c.bytes; lines = c.lines; notes = c.notes })
counts (Err r) = refusal r.code r.place

-- What the call ends with, where this is made of the file.
pub record Ends (o : Outcome Cleaned) (out out_after : Text) (lines lines_after notes notes_after : List ℕ)
    (r : Result machine.Counts Refusal) : Type 0 where
  pub answers : counts r ≡ with_answer counts_of o
  pub text_is : out_after ≡ laid (λ c. c.text) o out
  pub lines_are : lines_after ≡ laid (λ c. c.lines) o lines
  pub notes_are : notes_after ≡ laid (λ c. c.notes) o notes

-- What is made of the lines that are kept.
abbrev pub made_of : Text → ℕ → ℕ → List Kept → Cleaned
made_of t h unit ks = record {
  text = strict_text (closed_lines unit ks);
  lines = numbers_of (closed_lines unit ks);
  notes =
      all_notes t unit h ks;
}

abbrev pub FillTold : Text → ℕ → ℕ → Text → Text → List ℕ → List ℕ → List ℕ → List ℕ
    → Result machine.Counts Refusal → Type 0
FillTold t h unit out out_after lines lines_after notes notes_after r = (ks : List Kept) → kept_lines h 1 none (lines_of (text_of t)) ≡ answer ks
    → Ends (if_room (length out) (length lines) (length notes) (made_of t h unit ks)) out out_after lines lines_after notes notes_after r
