-- The theorems with numbers: a strict text, of which nothing is told, is the same bytes in the answer and its whole file.
use mathlib.Core.List.{[]}
use mathlib.Core.Path.{◌≡◌}
use native.Mathlib.Omega.{arith}
use Rattle.spec_tucson.specs.Line.{lines_of}
use Rattle.spec_tucson.specs.FileText.{text_of}
use Rattle.theorems_files.proofs.Cases.{cleaning}
use Rattle.theorems_files.proofs.Files.{strict, strict_answer, strict_cleaned}
use Rattle.theorems_clean.specs.Places.{At, here}
use Rattle.theorems_told.specs.Told.{Unchanged}
use Rattle.theorems_told.proofs.Changes.{noted_some}
use Rattle.theorems_told.proofs.Told.{changes_are_told}
use Rattle.theorems_told.proofs.Cuts.{cuts_are_told}

strict-line : At strict 0 (lines_of (text_of strict))
unfolding cleaning
strict-line = here

answer-line : At strict 0 (lines_of strict)
unfolding cleaning
answer-line = here

unchanged : (strict ≡ strict → Unchanged 1 []) × (Unchanged 1 [] → strict ≡ strict)
unchanged = changes_are_told strict 0 100 strict_answer strict_cleaned 0 0 strict strict here strict-line answer-line

-- the text is the whole file, as nothing is told of a cut
whole : text_of strict ≡ strict
whole = (cuts_are_told strict 0 100 strict_answer strict_cleaned).1 (λ note line c n. omega (arith, noted_some n))
