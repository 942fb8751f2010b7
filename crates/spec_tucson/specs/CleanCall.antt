-- The call that brings a laboratory's file into the strict form (§ 16, the call): what it ends with, and what the three lent
-- buffers hold afterwards.
use Rattle.std.specs.Prelude.{Bool, true, false, cond, ◌&&◌, ◌||◌, not, List, [], ◌∷◌, ◌++◌, map, ℕ, suc, ◌+◌, ◌/◌, eqb, leb, length}
use Rattle.std.proofs.Math.Option.{Option, some, none}
use Rattle.base_outcome.specs.Codes as codes
use Rattle.base_outcome.specs.Outcome.{Outcome, answer, refusal, largest_place, refuse, ◌then◌, with_answer}
use Rattle.base_outcome.specs.Tests.{refuse_first}
use Rattle.base_text.specs.Bytes.{Text, newline}
use Rattle.spec_tucson.specs.Line.{lines_of}
use Rattle.spec_tucson.specs.ReadCall.{overwritten}
use Rattle.spec_tucson.specs.FileText.{is_marked, text_of, ends_early, text_fault}
use Rattle.spec_tucson.specs.Shown.{has_end}
use Rattle.spec_tucson.specs.StrictLine.{Kept}
use Rattle.spec_tucson.specs.KeptLines.{no_header_named, header_of, kept_lines}
use Rattle.spec_tucson.specs.CleanSeries.{unit_not_said, hundredths_said, thousandths_said, year_fault, series_fault, refuse_fault}
use Rattle.spec_tucson.specs.CleanSeries.{closed_lines, strict_text, read_kept}
use Rattle.spec_tucson.specs.Notes as kinds
use Rattle.spec_tucson.specs.CleanNotes.{Before, at_line, notes_of}

-- The strict text, the line of the file of each of its lines, and the notes, two cells each.
pub record Cleaned : Type 0 where
  pub text : Text
  pub lines : List ℕ
  pub notes : List ℕ

-- ---- the options

-- The header is named or not named.
unfoldable pub is_header_option : ℕ → Bool
is_header_option header = leb header no_header_named

-- The unit is not said, hundredths or thousandths.
unfoldable pub is_unit_option : ℕ → Bool
is_unit_option unit = eqb unit unit_not_said || (eqb unit hundredths_said || eqb unit thousandths_said)

-- ---- the lines that are kept

-- Codes 23, 24 and 25 and the strict reader's, or the lines with their closings.
unfoldable pub checked_lines : ℕ → List Kept → Outcome (List Kept)
checked_lines unit ks =
    refuse_first codes.file_name (year_fault none ks)
    (refuse_fault (series_fault unit none ks)
    (read_kept none (closed_lines unit ks) then λ ss. answer (closed_lines unit ks)))

-- ---- the notes of the whole file

-- Note 1, on line 1, where the file begins with a mark.
unfoldable pub mark_note : Text → List ℕ
mark_note t = cond (is_marked t) (kinds.marked ∷ 1 ∷ []) []

-- The last of the raw lines has its end, or there is none.
unfoldable pub all_ended : List Text → Bool
all_ended [] = true
all_ended (r ∷ []) = has_end r
all_ended (r ∷ s ∷ rs) = all_ended (s ∷ rs)

-- Note 2 on a line of its own, where byte 26 stands at the beginning of a line.
unfoldable pub end_note : Text → List ℕ
end_note t = cond (ends_early t && all_ended (lines_of (text_of t))) (kinds.cut ∷ suc (length (lines_of (text_of t))) ∷ []) []

-- Nothing stands before the first line.
abbrev pub at_start : Before
at_start = record { kept = none; closing = none }

-- All notes, with the header's last line and the lines that are kept.
unfoldable pub all_notes : Text → ℕ → ℕ → List Kept → List ℕ
all_notes t unit h ks = mark_note t ++ (notes_of unit h (ends_early t) 1 at_start (lines_of (text_of t)) ks ++ end_note t)

-- ---- the call

-- What is made of the lines, below a header that ends with line h.
unfoldable pub cleaned_below : Text → ℕ → ℕ → Outcome Cleaned
cleaned_below t unit h =
    kept_lines h 1 none (lines_of (text_of t)) then λ ks.
    checked_lines unit ks then λ cs.
    answer (record { text = strict_text cs; lines = map (λ k. k.line) cs; notes = all_notes t unit h ks })

-- The most bytes of a file: so each of its lines has a place of its own.
abbrev pub file_limit : ℕ
file_limit = largest_place

-- What is made of a file that is not too long, or its first refusal.
unfoldable pub cleaned_file : Text → ℕ → ℕ → Outcome Cleaned
cleaned_file t header unit = refuse_first codes.file_text (text_fault t) (header_of header (lines_of (text_of t)) then cleaned_below t unit)

-- The file in the strict form, or its first refusal.
unfoldable pub cleaned : Text → ℕ → ℕ → Outcome Cleaned
cleaned t header unit =
    cond (is_header_option header)
    (cond (is_unit_option unit)
    (cond (leb (length t) file_limit) (cleaned_file t header unit) (refuse codes.file_text largest_place))
    (refuse codes.file_unit 0))
    (refuse codes.file_header 0)

-- The first buffer that is too short for what it takes: a text, lines, notes.
unfoldable pub if_room : ℕ → ℕ → ℕ → Cleaned → Outcome Cleaned
if_room text_length lines_length notes_length c =
    cond (leb (length c.text) text_length)
    (cond (leb (length c.lines) lines_length)
    (cond (leb (length c.notes) notes_length) (answer c) (refuse codes.short_buffer 2))
    (refuse codes.short_buffer 1))
    (refuse codes.short_buffer 0)

-- How many bytes, lines and notes there are.
pub record Counts : Type 0 where
  pub bytes : ℕ
  pub lines : ℕ
  pub notes : ℕ

abbrev pub counts_of : Cleaned → Counts
counts_of c = record { bytes = length c.text; lines = length c.lines; notes = length c.notes / 2 }

-- A buffer after the call: a list at its front after an answer, unchanged after a refusal.
unfoldable pub laid : {A : Type 0} → (Cleaned → List A) → Outcome Cleaned → List A → List A
laid list (answer c) before = overwritten (list c) before
laid list (refusal code place) before = before

-- What the call ends with: the answer and all three lent buffers.
pub record CleanEnd : Type 0 where
  pub answers : Outcome Counts
  pub text : Text
  pub lines : List ℕ
  pub notes : List ℕ

-- The end of the call with this file and these options, and these three buffers lent.
abbrev pub clean_end : Text → ℕ → ℕ → Text → List ℕ → List ℕ → CleanEnd
clean_end t header unit text lines notes =
    let o = cleaned t header unit then if_room (length text) (length lines) (length notes) in
    record {
      answers = with_answer counts_of o;
      text = laid (λ c. c.text) o text;
      lines = laid (λ c. c.lines) o lines;
      notes = laid (λ c. c.notes) o notes;
    }
