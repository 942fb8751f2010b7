-- The read call: what it ends with, and what the four lent buffers hold afterwards. "After all lines 1, place 0, where any of the
-- four buffers is too short." (§ 14) "it answers with the count of series" (§ 14). "Refusals write nothing; cells past an answer
-- stay." (§ 14)
use Rattle.std.specs.Prelude.{Bool, cond, ◌&&◌, List, [], ◌∷◌, ◌++◌, map, ℕ, leb, ℤ, length, drop}
use Rattle.base_outcome.specs.Codes as codes
use Rattle.base_outcome.specs.Outcome.{Outcome, answer, refusal, refuse, ◌then◌, with_answer}
use Rattle.base_text.specs.Bytes.{Text}
use Rattle.spec_tucson.specs.Series.{Series}
use Rattle.spec_tucson.specs.TextReading.{read_text}

-- ---- series as four lists

-- The names, eight bytes a series.
unfoldable pub names_of : List Series → Text
names_of [] = []
names_of (s ∷ ss) = s.name ++ names_of ss

-- The first years.
unfoldable pub years_of : List Series → List ℤ
years_of ss = map (λ s. s.first_year) ss

-- How many widths each series has.
unfoldable pub counts_of : List Series → List ℕ
counts_of ss = map (λ s. length s.widths) ss

-- All widths, one series after another.
unfoldable pub widths_of : List Series → List ℤ
widths_of [] = []
widths_of (s ∷ ss) = s.widths ++ widths_of ss

-- ---- the call

-- Buffers of these lengths have room for the series.
unfoldable pub room_for : List Series → ℕ → ℕ → ℕ → ℕ → Bool
room_for ss names_length years_length counts_length widths_length =
    leb (length (names_of ss)) names_length && leb (length (years_of ss)) years_length && leb (length (counts_of ss)) counts_length
    && leb (length (widths_of ss)) widths_length

-- What the read call ends with, given the lengths of the four buffers.
unfoldable pub read_outcome : Text → ℕ → ℕ → ℕ → ℕ → Outcome (List Series)
read_outcome t names_length years_length counts_length widths_length =
    read_text t then λ ss. cond (room_for ss names_length years_length counts_length widths_length) (answer ss) (refuse codes.short_buffer 0)

-- A buffer with a list at its front; the later cells keep what they held.
abbrev pub overwritten : {A : Type 0} → List A → List A → List A
overwritten xs before = xs ++ drop (length xs) before

-- A buffer after the call: a list of the series at its front after an answer, unchanged after a refusal.
unfoldable pub filled : {A : Type 0} → (List Series → List A) → Outcome (List Series) → List A → List A
filled list (answer ss) before = overwritten (list ss) before
filled list (refusal code place) before = before

-- What a read call ends with: the answer and all four lent buffers.
pub record ReadEnd : Type 0 where
  pub answers : Outcome ℕ
  pub names : Text
  pub years : List ℤ
  pub counts : List ℕ
  pub widths : List ℤ

-- The end of the call with this text and these four buffers lent.
abbrev pub read_end : Text → Text → List ℤ → List ℕ → List ℤ → ReadEnd
read_end t names years counts widths =
    let o = read_outcome t (length names) (length years) (length counts) (length widths) in
    record {
      answers = with_answer length o;
      names = filled names_of o names;
      years = filled years_of o years;
      counts = filled counts_of o counts;
      widths = filled widths_of o widths;
    }
