-- What is proved of the buffers for a laboratory's file (§ 16): those that the header calls enough are enough.
use Rattle.std.specs.Prelude.{Bool, cond, List, [], ◌∷◌, ◌≡◌, ℕ, suc, ◌+◌, ◌*◌, ◌/◌, ◌≤◌, eqb, length}
use Rattle.base_outcome.specs.Outcome.{answer, ◌then◌}
use Rattle.base_text.specs.Bytes.{Text, newline}
use Rattle.spec_tucson.specs.CleanCall.{Cleaned, cleaned, if_room}
use Rattle.tucson_notes.specs.Machine.{bytes_per_line, cells_per_line, cells_per_file}

-- How many bytes 10 a file has.
unfoldable pub line_ends : Text → ℕ
line_ends [] = 0
line_ends (c ∷ cs) = cond (eqb c newline) (suc (line_ends cs)) (line_ends cs)

-- An answer is no longer than these lengths of text, lines and notes.
pub record Within (c : Cleaned) (text_length lines_length notes_length : ℕ) : Type 0 where
  pub text : length c.text ≤ text_length
  pub lines : length c.lines ≤ lines_length
  pub notes : length c.notes ≤ notes_length

-- For a file of n bytes 2 n bytes, n / 10 cells of lines and 2 n + 4 cells of notes.
abbrev pub RoomByBytes : Type 0
RoomByBytes =
    (t : Text) (header unit : ℕ) (c : Cleaned) → cleaned t header unit ≡ answer c →
    Within c (2 * length t) (length t / 10) (2 * length t + cells_per_file)

-- With such buffers the call ends as if they had no end: never with code 1.
abbrev pub NeverShortByBytes : Type 0
NeverShortByBytes =
    (t : Text) (header unit text_length lines_length notes_length : ℕ) →
    2 * length t ≤ text_length → length t / 10 ≤ lines_length → 2 * length t + cells_per_file ≤ notes_length →
    (cleaned t header unit then if_room text_length lines_length notes_length) ≡ cleaned t header unit

-- 79 bytes, one cell and 22 cells for each byte 10 of the file and for two more, and 4 cells of notes besides.
abbrev pub RoomByLines : Type 0
RoomByLines =
    (t : Text) (header unit : ℕ) (c : Cleaned) → cleaned t header unit ≡ answer c →
    Within c (bytes_per_line * (line_ends t + 2)) (line_ends t + 2) (cells_per_line * (line_ends t + 2) + cells_per_file)

-- So with such buffers.
abbrev pub NeverShortByLines : Type 0
NeverShortByLines =
    (t : Text) (header unit text_length lines_length notes_length : ℕ) →
    bytes_per_line * (line_ends t + 2) ≤ text_length → line_ends t + 2 ≤ lines_length →
    cells_per_line * (line_ends t + 2) + cells_per_file ≤ notes_length →
    (cleaned t header unit then if_room text_length lines_length notes_length) ≡ cleaned t header unit
