-- A file that is cleaned twice, with both answers, computed: it has a blank line, a tab, 999 at the end of a line of thousandths, an absent ring under
-- the bark, and -999.
use mathlib.Core.List.{[], ◌∷◌, ◌++◌}
use mathlib.Core.Path.{◌≡◌, refl}
use Prim.Native.Nat.{◌≤◌}
use borrow.Author.Tests.{leb-true}
use lib.ListN.{length}
use Rattle.base_outcome.specs.Outcome.{answer}
use Rattle.base_text.specs.Bytes.{Text, bytes, lines}
use Rattle.spec_tucson.specs.CleanCall.{Cleaned, file_limit, cleaned}
use Rattle.theorems_files.proofs.Cases.{cleaning, ended}

abbrev pub tabbed : Text
tabbed = 32 ∷ 10 ∷ (bytes "OAK" ++ (9 ∷ ended "1899   999" (ended "OAK     1900     0  -999" [])))

abbrev pub oak_text : Text
oak_text = lines ("OAK     1899   999" ∷ "OAK     1900     0 -9999" ∷ [])

-- What it becomes in thousandths: the remarks are 13 at line 2 and 12 at line 3.
abbrev pub once : Cleaned
once = record { text = oak_text; lines = 2 ∷ 3 ∷ []; notes = 6 ∷ 1 ∷ 4 ∷ 2 ∷ 13 ∷ 2 ∷ 11 ∷ 3 ∷ 12 ∷ 3 ∷ [] }

-- What that becomes: these alone, at its lines 1 and 2.
abbrev pub twice : Cleaned
twice = record { text = oak_text; lines = 1 ∷ 2 ∷ []; notes = 13 ∷ 1 ∷ 12 ∷ 2 ∷ [] }

pub once-cleaned : cleaned tabbed 100 1000 ≡ answer once
unfolding cleaning
once-cleaned = refl

pub twice_cleaned : cleaned oak_text 100 0 ≡ answer twice
unfolding cleaning
twice_cleaned = refl

pub oak_short : length oak_text ≤ file_limit
unfolding cleaning
oak_short = leb-true (length oak_text) file_limit refl
