-- What is proved of the call that brings a laboratory's file into the strict form (§ 16): nothing is lost in silence.
use Rattle.std.specs.Prelude.{true, false, List, [], ◌∷◌, ◌++◌, ◌≡◌, ℕ, suc, ◌<◌}
use Rattle.base_outcome.specs.Outcome.{answer}
use Rattle.base_text.specs.Bytes.{Text}
use Rattle.spec_tucson.specs.Notes as kinds
use Rattle.spec_tucson.specs.Line.{lines_of}
use Rattle.spec_tucson.specs.FileText.{unmarked, text_of, all_padding}
use Rattle.spec_tucson.specs.Shown.{is_blank_line}
use Rattle.spec_tucson.specs.KeptLines.{reads_strictly}
use Rattle.spec_tucson.specs.CleanCall.{Cleaned, cleaned}
use Rattle.theorems_clean.specs.Places.{At, Noted}

-- A raw line that is left out: it is blank, or it is a header's and no strict line, and both are told.
pub data LeftOut (line : ℕ) (raw : Text) (notes : List ℕ) : Type 0 where
  blank : is_blank_line raw ≡ true → Noted kinds.blank line notes → LeftOut line raw notes
  header : reads_strictly raw ≡ false → Noted kinds.header line notes → LeftOut line raw notes

-- Each line of the text is a line of the answer, or it is left out and told.
pub data Accounted (line : ℕ) (raw : Text) (lines notes : List ℕ) : Type 0 where
  kept : (i : ℕ) → At line i lines → Accounted line raw lines notes
  left_out : LeftOut line raw notes → Accounted line raw lines notes

abbrev pub NothingIsLost : Type 0
NothingIsLost =
    (t : Text) (header unit : ℕ) (c : Cleaned) → cleaned t header unit ≡ answer c →
    (j : ℕ) (raw : Text) → At raw j (lines_of (text_of t)) → Accounted (suc j) raw c.lines c.notes

-- The numbers rise strictly, each above the one before.
pub data Rising : ℕ → List ℕ → Type 0 where
  ended : {n : ℕ} → Rising n []
  next : {n m : ℕ} {ms : List ℕ} → n < m → Rising m ms → Rising n (m ∷ ms)

abbrev pub LinesRise : Type 0
LinesRise = (t : Text) (header unit : ℕ) (c : Cleaned) → cleaned t header unit ≡ answer c → Rising 0 c.lines

-- Behind the byte 26 that ends the text there is padding alone.
abbrev pub PaddingBehind : Type 0
PaddingBehind =
    (t : Text) (header unit : ℕ) (c : Cleaned) → cleaned t header unit ≡ answer c →
    (after : Text) → unmarked t ≡ text_of t ++ (26 ∷ after) → all_padding after ≡ true
