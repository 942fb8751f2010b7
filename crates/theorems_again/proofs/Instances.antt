-- The theorem with numbers: a file whose remarks 13 and 12 at its lines 2 and 3 are those at the lines 1 and 2 of its answer.
use mathlib.Core.List.{[], ◌∷◌}
use mathlib.Core.Path.{◌≡◌, refl}
use Rattle.base_outcome.proofs.Outcome.{answer_unique}
use Rattle.theorems_files.proofs.Twice.{tabbed, once, twice, once-cleaned, twice_cleaned, oak_short}
use Rattle.theorems_again.specs.Again.{remarks_alone, in_file, not_named, without, not_said, said, AnsweredAgain}
use Rattle.theorems_again.proofs.Again.{cleaned-again}

-- with nothing said
answers-again : AnsweredAgain once 100 0
answers-again = cleaned-again tabbed 100 1000 once once-cleaned oak_short 100 0 not_named not_said

-- with no header and the same unit
says_again : AnsweredAgain once 0 1000
says_again = cleaned-again tabbed 100 1000 once once-cleaned oak_short 0 1000 without said

is_twice : answers-again.second ≡ twice
is_twice = answer_unique answers-again.answers twice_cleaned

same-remarks : (in_file once.lines twice.notes ≡ 13 ∷ 2 ∷ 12 ∷ 3 ∷ []) × (remarks_alone once.notes ≡ 13 ∷ 2 ∷ 12 ∷ 3 ∷ [])
same-remarks = (refl, refl)
