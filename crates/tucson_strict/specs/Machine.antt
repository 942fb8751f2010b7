-- What is told of a part with a minus.
use Rattle.std.specs.Prelude.{Bool, true, ◌≡◌, ℕ, ◌+◌, ◌-◌, ◌<◌, ◌≤◌, get_or}
use Rattle.base_text.specs.Bytes.{Text, digit_zero, minus}

-- A minus and one to six bytes behind it, the first a digit other than 0, or a byte behind the digits.
pub record Negative (text : Text) (from to : ℕ) : Type 0 where
  pub some : from + 1 < to
  pub few : to - from ≤ 7
  pub sign : get_or text from 0 ≡ minus
  pub digit : digit_zero < get_or text (from + 1) 0

abbrev pub NegativeTold : Text → ℕ → ℕ → Bool → Type 0
NegativeTold text from to r = r ≡ true → Negative text from to
