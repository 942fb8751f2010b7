-- Which refusals the two calls can give (§ 14), whatever the text, the lists and the buffers are. The
-- proofs are in proofs/Refusals.
use Rattle.std.specs.Prelude.{true, false, List, ◌≡◌, ℕ, ◌≤◌, ◌<◌, ℤ, pos, ◌+ℤ◌, length}
use Rattle.std.proofs.Math.Option.{Option, some}
use Rattle.base_outcome.specs.Codes as codes
use Rattle.base_outcome.specs.Outcome.{answer, refusal, capped}
use Rattle.base_text.specs.Bytes.{Text}
use Rattle.spec_tucson.specs.Line.{Line, lines_of, good_line}
use Rattle.spec_tucson.specs.TextReading.{Begun, next_year, opened, read_line}
use Rattle.spec_tucson.specs.ReadCall.{read_end}
use Rattle.spec_tucson.specs.WriteCall.{write_end}

-- A refusal of the read call: 1 at place 0, or 11, 12 or 13 at a line of the text, from 1.
pub data ReadRefusal (t : Text) : ℕ → ℕ → Type 0 where
  short_buffers : ReadRefusal t codes.short_buffer 0
  at_line : {code : ℕ} (line : ℕ) → codes.tucson_line ≤ code → code ≤ codes.tucson_closing
      → 1 ≤ line → line ≤ length (lines_of t) → ReadRefusal t code (capped line)

-- The read call refuses so, and leaves all four buffers.
abbrev pub ReadRefuses : Type 0
ReadRefuses =
    (t names : Text) (years : List ℤ) (counts : List ℕ) (widths : List ℤ) (code place : ℕ) →
    (read_end t names years counts widths).answers ≡ refusal code place →
    ReadRefusal t code place × (read_end t names years counts widths
    ≡ record { answers = refusal code place; names = names; years = years; counts = counts; widths = widths })

-- The year that code 12 asks of the line after one that goes on: that line's year and its count of fields.
abbrev pub NextYearByLine : Type 0
NextYearByLine =
    (place : ℕ) (b : Option Begun) (t : Text) (c : Begun) → read_line place b true t ≡ answer (opened c) →
    (l : Line) × (good_line false t ≡ some l) × (next_year c ≡ l.year +ℤ pos (length l.fields))

-- A refusal of the write call: 2 or 1 at place 0, or 11 at a series, from 0.
pub data WriteRefusal (years : List ℤ) : ℕ → ℕ → Type 0 where
  unfitting : WriteRefusal years codes.lengths 0
  at_series : (series : ℕ) → series < length years → WriteRefusal years codes.tucson_line (capped series)
  short_buffer : WriteRefusal years codes.short_buffer 0

-- The write call refuses so, and leaves its buffer.
abbrev pub WriteRefuses : Type 0
WriteRefuses =
    (names : Text) (years : List ℤ) (counts : List ℕ) (widths : List ℤ) (text : Text) (code place : ℕ) →
    (write_end names years counts widths text).answers ≡ refusal code place →
    WriteRefusal years code place × (write_end names years counts widths text ≡ record { answers = refusal code place; text = text })
