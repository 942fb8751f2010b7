-- Two files with which the theorems are shown with numbers, and their answers, computed: one with a blank line, a tab, a name that is not ASCII,
-- a closing that the caller says and a byte 26, and a strict text in hundredths.
use mathlib.Core.List.{[], ◌∷◌, ◌++◌}
use mathlib.Core.Path.{◌≡◌, refl}
use lib.IntN.{pos}
use Rattle.base_outcome.specs.Outcome.{answer}
use Rattle.base_text.specs.Bytes.{Text, bytes, lines}
use Rattle.spec_tucson.specs.Series.{Series}
use Rattle.spec_tucson.specs.TextReading.{read_text}
use Rattle.spec_tucson.specs.CleanCall.{Cleaned, cleaned}
use Rattle.theorems_files.proofs.Cases.{cleaning, ended}

-- The file: a blank line, a name with a byte that is not ASCII, a tab and -999, then byte 26 and padding.
abbrev pub file : Text
file = 32 ∷ 10 ∷ 66 ∷ 228 ∷ ended "R01   1895    81  -999" (bytes "ABC01" ++ (9 ∷ ended "1903  1204  -999" (26 ∷ 32 ∷ [])))

-- What it becomes in thousandths.
abbrev pub answers : Cleaned
answers = record {
  text = lines ("B?R01   1895    81 -9999" ∷ "ABC01   1903  1204 -9999" ∷ []);
  lines = 2 ∷ 3 ∷ [];
  notes = 6 ∷ 1 ∷ 10 ∷ 2 ∷ 11 ∷ 2 ∷ 4 ∷ 3 ∷ 11 ∷ 3 ∷ 2 ∷ 4 ∷ [];
}

pub file_cleaned : cleaned file 100 1000 ≡ answer answers
unfolding cleaning
file_cleaned = refl

-- ---- a strict text

-- A series in hundredths.
abbrev pub strict : Text
strict = lines ("OAK     1895    81    79   999" ∷ [])

abbrev pub strict_answer : Cleaned
strict_answer = record { text = strict; lines = 1 ∷ []; notes = [] }

abbrev pub oak : Series
oak = record { name = bytes "OAK     "; first_year = pos 1895; widths = pos 810 ∷ pos 790 ∷ [] }

pub strict_cleaned : cleaned strict 0 100 ≡ answer strict_answer
unfolding cleaning
strict_cleaned = refl

pub strict_read : read_text strict ≡ answer (oak ∷ [])
unfolding cleaning bytes read_text
strict_read = refl
