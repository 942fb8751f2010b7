-- The theorems with numbers: a file whose first line is blank, with a byte 26 and padding behind it.
use mathlib.Core.Bool.{true}
use mathlib.Core.List.{[], ◌∷◌, ◌++◌}
use mathlib.Core.Path.{◌≡◌, refl}
use Rattle.base_text.specs.Bytes.{bytes}
use Rattle.spec_tucson.specs.Line.{lines_of}
use Rattle.spec_tucson.specs.FileText.{text_of, all_padding}
use Rattle.theorems_files.proofs.Cases.{cleaning, ended}
use Rattle.theorems_files.proofs.Files.{file, answers, file_cleaned}
use Rattle.theorems_clean.specs.Places.{At, here}
use Rattle.theorems_lost.specs.Lost.{Accounted, Rising}
use Rattle.theorems_lost.proofs.Rising.{lines-rise}
use Rattle.theorems_lost.proofs.Padding.{padding-behind}
use Rattle.theorems_lost.proofs.Accounts.{nothing_is_lost}

rises : Rising 0 (2 ∷ 3 ∷ [])
rises = lines-rise file 100 1000 answers file_cleaned

file-text : text_of file ≡ 32 ∷ 10 ∷ 66 ∷ 228 ∷ ended "R01   1895    81  -999" (bytes "ABC01" ++ (9 ∷ ended "1903  1204  -999" []))
unfolding cleaning
file-text = refl

-- the first line of the file is told, the second is kept
first-line : At (32 ∷ 10 ∷ []) 0 (lines_of (text_of file))
unfolding cleaning
first-line = here

told : Accounted 1 (32 ∷ 10 ∷ []) answers.lines answers.notes
told = nothing_is_lost file 100 1000 answers file_cleaned 0 (32 ∷ 10 ∷ []) first-line

padded : all_padding (32 ∷ []) ≡ true
unfolding cleaning
padded = padding-behind file 100 1000 answers file_cleaned (32 ∷ []) refl
