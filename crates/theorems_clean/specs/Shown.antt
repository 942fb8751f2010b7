-- What is proved of the call that brings a laboratory's file into the strict form (§ 16): what is read is what is shown.
use Rattle.std.specs.Prelude.{true, false, [], ◌∷◌, ◌++◌, ◌≡◌, ℕ, suc, ◌<◌, length}
use Rattle.std.proofs.Math.Option.{some}
use Rattle.base_outcome.specs.Outcome.{answer}
use Rattle.base_text.specs.Bytes.{Text, newline}
use Rattle.spec_tucson.specs.Columns.{columns}
use Rattle.spec_tucson.specs.Line.{name_columns, field_columns, lines_of}
use Rattle.spec_tucson.specs.FileText.{text_of}
use Rattle.spec_tucson.specs.StrictLine.{any_high, bytes_masked, characters_masked, shown_fields}
use Rattle.spec_tucson.specs.CleanSeries.{unknown_unit, closing_of}
use Rattle.spec_tucson.specs.CleanCall.{Cleaned, cleaned}
use Rattle.theorems_clean.specs.Places.{At}

-- ? for each byte of the name that is not ASCII, or for each character of it.
pub data Masks (shown_name name : Text) : Type 0 where
  by_bytes : bytes_masked shown_name ≡ name → Masks shown_name name
  by_characters : characters_masked shown_name ≡ some name → Masks shown_name name

-- The bytes of a strict line are those that are shown, but for ? in the eight bytes of its name where some of these are not ASCII.
pub data Reads (bytes : Text) : Text → Type 0 where
  as_shown : any_high bytes ≡ false → Reads bytes bytes
  with_name : (shown_name name rest : Text) → any_high bytes ≡ true → bytes ≡ shown_name ++ rest → length name ≡ name_columns
      → Masks shown_name name → any_high rest ≡ false
      → Reads bytes (name ++ rest)

-- A line of the answer: what is read of the shown bytes, or that with the closing that the caller says for -999.
pub data Stands (unit : ℕ) (bytes : Text) : Text → Type 0 where
  read : {text : Text} → Reads bytes text → Stands unit bytes text
  reclosed : (front : Text) → Reads bytes (front ++ columns field_columns unknown_unit)
      → Stands unit bytes (front ++ columns field_columns (closing_of unit))

-- Line i of the answer is what is shown of the line of the text that `lines` has for it: so every width stands in the file in the columns
-- in which it is shown.
abbrev pub AnswersAreShown : Type 0
AnswersAreShown =
    (t : Text) (header unit : ℕ) (c : Cleaned) → cleaned t header unit ≡ answer c →
    (i : ℕ) → i < length c.lines →
    (line : ℕ) × ((raw : Text) × ((text : Text) ×
    (At (suc line) i c.lines × (At raw line (lines_of (text_of t))
    × (At (text ++ (newline ∷ [])) i (lines_of c.text) × Stands unit (shown_fields raw) text)))))
