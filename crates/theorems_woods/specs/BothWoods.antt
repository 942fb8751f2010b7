-- "Where both numbers of each pair of coefficients are equal, both woods give the same bytes." (§ 18) The statement is proved in
-- proofs/BothWoods.
use Rattle.std.specs.Prelude.{List, ◌++◌, ◌≡◌, ℕ, ◌≤◌, length, get_or}
use Rattle.base_outcome.specs.Outcome.{answer}
use Rattle.base_text.specs.Bytes.{Text}
use Rattle.spec_spline.specs.Reading.{Pair}
use Rattle.spec_calls.specs.Indices.{no_pair}
use Rattle.spec_sheet.specs.SheetReading.{Lists}
use Rattle.spec_rings.specs.Parts.{earlywood_line, latewood_line, sheet_part}
use Rattle.spec_rings.specs.Ready.{text_limit, sheet_read}
use Rattle.spec_rings.specs.Rings.{rings}

-- Both numbers of each pair are equal.
abbrev pub Equal : List Pair → Type 0
Equal ps = (k : ℕ) → (get_or ps k no_pair).early ≡ (get_or ps k no_pair).late

-- The same lines behind the one first line and the other, if the longer text is not too long.
abbrev pub BothWoodsGiveTheSame : Type 0
BothWoodsGiveTheSame = (rest : Text) → length (earlywood_line ++ rest) ≤ text_limit
    → ((l : Lists) → sheet_read (sheet_part rest) ≡ answer l → Equal l.coefs)
    → rings (earlywood_line ++ rest) ≡ rings (latewood_line ++ rest)
