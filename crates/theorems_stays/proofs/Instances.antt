-- The theorems with numbers: the strict reader accepts what a file became, which stays as it is, and so does a strict text.
use mathlib.Core.List.{List, [], ◌∷◌}
use mathlib.Core.Path.{◌≡◌}
use Prim.Native.Nat.{ℕ}
use Rattle.base_outcome.specs.Outcome.{answer}
use Rattle.spec_tucson.specs.Series.{Series}
use Rattle.spec_tucson.specs.TextReading.{read_text}
use Rattle.spec_tucson.specs.CleanCall.{Cleaned, cleaned}
use Rattle.theorems_files.proofs.Files.{file, answers, file_cleaned, strict, strict_answer, strict_cleaned, oak, strict_read}
use Rattle.theorems_stays.proofs.Reader.{reader-accepts}
use Rattle.theorems_stays.proofs.Stays.{strict_stays, cleaned_stays}

accepted : (ss : List Series) × (read_text answers.text ≡ answer ss)
accepted = reader-accepts file 100 1000 answers file_cleaned

-- cleaned again, it stays
again : (header unit : ℕ) (d : Cleaned) → cleaned answers.text header unit ≡ answer d → d.text ≡ answers.text
again = cleaned_stays file 100 1000 answers file_cleaned

stays : strict_answer.text ≡ strict
stays = strict_stays strict (oak ∷ []) 0 100 strict_answer strict_read strict_cleaned
