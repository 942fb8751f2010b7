-- What is proved of the call that brings a laboratory's file into the strict form (§ 16): what is changed, and what is cut off, is told.
use Rattle.std.specs.Prelude.{Bool, true, ◌||◌, List, ◌≡◌, ℕ, suc, eqb}
use Rattle.base_outcome.specs.Outcome.{answer}
use Rattle.base_text.specs.Bytes.{Text}
use Rattle.spec_tucson.specs.Notes as kinds
use Rattle.spec_tucson.specs.Line.{lines_of}
use Rattle.spec_tucson.specs.FileText.{text_of}
use Rattle.spec_tucson.specs.CleanCall.{Cleaned, cleaned}
use Rattle.theorems_clean.specs.Places.{At, Noted}

-- The notes of a change of a line: a byte 13, a tab, trailing blanks, a site name, no end, a name that is not ASCII, a closing.
abbrev pub is_change : ℕ → Bool
is_change n = eqb n kinds.returned || (eqb n kinds.tabbed ||
    (eqb n kinds.trailing || (eqb n kinds.site || (eqb n kinds.unended || (eqb n kinds.high || eqb n kinds.reclosed)))))

-- No such note stands at the line.
abbrev pub Unchanged : ℕ → List ℕ → Type 0
Unchanged line notes = (note : ℕ) → is_change note ≡ true → Noted note line notes → ⊥

-- A line of the answer is the same bytes as its line of the text exactly where none of these notes stands at it.
abbrev pub ChangesAreTold : Type 0
ChangesAreTold =
    (t : Text) (header unit : ℕ) (c : Cleaned) → cleaned t header unit ≡ answer c →
    (i line : ℕ) (raw text : Text) → At (suc line) i c.lines → At raw line (lines_of (text_of t)) → At text i (lines_of c.text) →
    (text ≡ raw → Unchanged (suc line) c.notes) × (Unchanged (suc line) c.notes → text ≡ raw)

-- The notes of a text that is not its whole file: a mark, a byte 26.
abbrev pub is_cutting : ℕ → Bool
is_cutting n = eqb n kinds.marked || eqb n kinds.cut

-- The text is its file, byte for byte, exactly where none of these stands anywhere; so its lines are those of the file.
abbrev pub CutsAreTold : Type 0
CutsAreTold =
    (t : Text) (header unit : ℕ) (c : Cleaned) → cleaned t header unit ≡ answer c →
    (text_of t ≡ t → (note line : ℕ) → is_cutting note ≡ true → Noted note line c.notes → ⊥)
    × (((note line : ℕ) → is_cutting note ≡ true → Noted note line c.notes → ⊥) → text_of t ≡ t)
