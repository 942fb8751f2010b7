-- Both woods with numbers: a line between rings 0 and 1 with the pairs 5:5, and a series of one ring in the year 1.
use mathlib.Core.Path.{◌≡◌, refl, subst}
use mathlib.Core.List.{List, [], ◌∷◌, ◌++◌}
use Prim.Native.Nat.{zero, suc, ◌≤◌}
use native.Mathlib.Omega.{arith}
use lib.IntN.{pos}
use lib.ListN.{length}
use Rattle.base_outcome.specs.Outcome.{answer}
use Rattle.base_outcome.proofs.Outcome.{answer_unique}
use Rattle.base_text.specs.Bytes.{Text, bytes, lines}
use Rattle.spec_sheet.specs.SheetReading.{Lists}
use Rattle.spec_rings.specs.Parts.{earlywood_line, latewood_line, sheet_part}
use Rattle.spec_rings.specs.Ready.{text_limit, sheet_read}
use Rattle.spec_rings.specs.Rings.{rings}
use Rattle.spec_rings.proofs.Computing.{reading}
use Rattle.theorems_woods.specs.BothWoods.{Equal}
use Rattle.theorems_woods.proofs.BothWoods.{both_woods_give_the_same}

-- the lines behind the first one
unfoldable rest : Text
rest = lines (
    "breaks=0,1" ∷
    "degrees=1" ∷
    "orders=" ∷
    "coefs=5:5,5:5" ∷
    "at=" ∷
    "ABC01      1     7 -9999" ∷ [])

-- the sheet's lists
abbrev sheet : Lists
sheet = record {
  breaks = pos 0 ∷ pos 1 ∷ [];
  degrees = pos 1 ∷ [];
  orders = [];
  coefs = record { early = pos 5; late = pos 5 } ∷ record { early = pos 5; late = pos 5 } ∷ [];
  positions = [];
}

sheet_reads : sheet_read (sheet_part rest) ≡ answer sheet
unfolding reading rest
sheet_reads = refl

equal-pairs : Equal sheet.coefs
equal-pairs zero = refl
equal-pairs (suc zero) = refl
equal-pairs (suc (suc k)) = refl

bytes_counted : length (earlywood_line ++ rest) ≡ 87
unfolding bytes lines rest
bytes_counted = refl

same_bytes : rings (earlywood_line ++ rest) ≡ rings (latewood_line ++ rest)
same_bytes =
    both_woods_give_the_same rest (omega (arith, bytes_counted))
    (λ l e. subst (λ (m : Lists). Equal m.coefs) (answer_unique sheet_reads e) equal-pairs)
