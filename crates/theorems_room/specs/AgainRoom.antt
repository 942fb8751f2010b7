-- What the buffers tell of a file that is cleaned twice (§ 16): one of at most half the longest file's bytes is always answered again.
use Rattle.std.specs.Prelude.{◌≡◌, ℕ, ◌*◌, ◌≤◌, length}
use Rattle.base_outcome.specs.Outcome.{answer}
use Rattle.base_text.specs.Bytes.{Text}
use Rattle.spec_tucson.specs.CleanCall.{Cleaned, file_limit, cleaned}
use Rattle.theorems_again.specs.Again.{NoHeader, SameUnit, AnsweredAgain}

abbrev pub HalfIsCleanedAgain : Type 0
HalfIsCleanedAgain =
    (t : Text) (header unit : ℕ) (c : Cleaned) → cleaned t header unit ≡ answer c → 2 * length t ≤ file_limit →
    (header' unit' : ℕ) → NoHeader header' → SameUnit unit unit' → AnsweredAgain c header' unit'
