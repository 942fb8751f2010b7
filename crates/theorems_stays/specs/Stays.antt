-- What is proved of the call that brings a laboratory's file into the strict form (§ 16): the strict reader accepts what is answered, and
-- what was strict stays as it is.
use Rattle.std.specs.Prelude.{List, ◌≡◌, ℕ}
use Rattle.base_outcome.specs.Outcome.{answer}
use Rattle.base_text.specs.Bytes.{Text}
use Rattle.spec_tucson.specs.Series.{Series}
use Rattle.spec_tucson.specs.TextReading.{read_text}
use Rattle.spec_tucson.specs.CleanCall.{Cleaned, cleaned}

-- The strict reader accepts what is answered.
abbrev pub ReaderAccepts : Type 0
ReaderAccepts =
    (t : Text) (header unit : ℕ) (c : Cleaned) → cleaned t header unit ≡ answer c →
    (ss : List Series) × (read_text c.text ≡ answer ss)

-- What is strict stays as it is.
abbrev pub StrictStays : Type 0
StrictStays =
    (t : Text) (ss : List Series) (header unit : ℕ) (c : Cleaned) → read_text t ≡ answer ss → cleaned t header unit ≡ answer c →
    c.text ≡ t

-- Cleaning what was cleaned, with any options, gives the same text.
abbrev pub CleanedStays : Type 0
CleanedStays =
    (t : Text) (header unit : ℕ) (c : Cleaned) → cleaned t header unit ≡ answer c →
    (header' unit' : ℕ) (d : Cleaned) → cleaned c.text header' unit' ≡ answer d → d.text ≡ c.text
