-- What is proved of a file that is cleaned twice (§ 16): the second call answers, with the same text and the same remarks.
use Rattle.std.specs.Prelude.{Bool, cond, ◌||◌, List, [], ◌∷◌, ◌≡◌, ℕ, suc, ◌-◌, ◌≤◌, eqb, length, drop}
use Rattle.base_outcome.specs.Outcome.{answer}
use Rattle.base_text.specs.Bytes.{Text}
use Rattle.spec_tucson.specs.Notes as kinds
use Rattle.spec_tucson.specs.KeptLines.{no_header_named}
use Rattle.spec_tucson.specs.CleanSeries.{unit_not_said}
use Rattle.spec_tucson.specs.CleanCall.{Cleaned, file_limit, cleaned}

-- ---- lines and remarks

-- The numbers from this one on, as many as the list has.
abbrev pub counted : ℕ → List ℕ → List ℕ
counted i [] = []
counted i (l ∷ ls) = i ∷ counted (suc i) ls

-- The notes that change nothing.
abbrev pub is_remark : ℕ → Bool
is_remark n = eqb n kinds.absent_end || (eqb n kinds.like_closing || eqb n kinds.other_unit)

-- The remarks among the notes, two cells each.
abbrev pub remarks_alone : List ℕ → List ℕ
remarks_alone [] = []
remarks_alone (n ∷ []) = []
remarks_alone (n ∷ l ∷ ns) = cond (is_remark n) (n ∷ l ∷ remarks_alone ns) (remarks_alone ns)

abbrev pub first_number : List ℕ → ℕ
first_number [] = 0
first_number (l ∷ ls) = l

-- The number at this place of the list, from 1.
abbrev pub number_at : ℕ → List ℕ → ℕ
number_at i ls = first_number (drop (i - 1) ls)

-- The notes on lines of the answer, each at the line of the file that these numbers have for it.
abbrev pub in_file : List ℕ → List ℕ → List ℕ
in_file lines [] = []
in_file lines (n ∷ []) = n ∷ []
in_file lines (n ∷ i ∷ ns) = n ∷ number_at i lines ∷ in_file lines ns

-- ---- the second call

-- What is said of the header: nothing, or that there is none.
pub data NoHeader : ℕ → Type 0 where
  not_named : NoHeader no_header_named
  without : NoHeader 0

-- What is said of the unit: nothing, or the same again.
pub data SameUnit (unit : ℕ) : ℕ → Type 0 where
  not_said : SameUnit unit unit_not_said
  said : SameUnit unit unit

-- The second call answers with the same text; its notes are the remarks of the first, at the lines of the answer.
pub record AnsweredAgain (c : Cleaned) (header unit : ℕ) : Type 0 where
  pub second : Cleaned
  pub answers : cleaned c.text header unit ≡ answer second
  pub text : second.text ≡ c.text
  pub lines : second.lines ≡ counted 1 c.lines
  pub notes : in_file c.lines second.notes ≡ remarks_alone c.notes

-- A cleaned file is answered again. Blanks for tabs can make an answer longer than any file that the call takes, so its length is asked.
abbrev pub CleanedAgain : Type 0
CleanedAgain =
    (t : Text) (header unit : ℕ) (c : Cleaned) → cleaned t header unit ≡ answer c → length c.text ≤ file_limit →
    (header' unit' : ℕ) → NoHeader header' → SameUnit unit unit' → AnsweredAgain c header' unit'
