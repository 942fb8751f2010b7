-- The theorem with numbers: a file with a blank line, a tab, a name that is not ASCII, a closing that the caller says and a byte 26.
use mathlib.Core.List.{[], ◌∷◌, ◌++◌}
use Prim.Native.Nat.{ℕ, suc}
use native.Mathlib.Omega.{arith}
use Rattle.base_text.specs.Bytes.{Text, newline}
use Rattle.spec_tucson.specs.Line.{lines_of}
use Rattle.spec_tucson.specs.FileText.{text_of}
use Rattle.spec_tucson.specs.StrictLine.{shown_fields}
use Rattle.theorems_files.proofs.Files.{file, answers, file_cleaned}
use Rattle.theorems_clean.specs.Places.{At}
use Rattle.theorems_clean.specs.Shown.{Stands}
use Rattle.theorems_clean.proofs.Shown.{answers_are_shown}

-- line 2 of the answer is what is shown of line 3 of the file
shown : (line : ℕ) × ((raw : Text) × ((text : Text) ×
    (At (suc line) 1 answers.lines × (At raw line (lines_of (text_of file))
    × (At (text ++ (newline ∷ [])) 1 (lines_of answers.text) × Stands 1000 (shown_fields raw) text)))))
shown = answers_are_shown file 100 1000 answers file_cleaned 1 (omega arith)
