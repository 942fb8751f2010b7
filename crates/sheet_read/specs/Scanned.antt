-- The machine's form of what the definitions of reading say of the whole text: where the five lists stand.
use Rattle.std.specs.Prelude.{◌≡◌, ℕ, Result, Ok, Err}
use Rattle.base_outcome.specs.Codes as codes
use Rattle.base_outcome.specs.Outcome.{Outcome, answer, refusal}
use Rattle.base_text.specs.Bytes.{Text}
use Rattle.base_text.specs.Numeral.{numeral}
use Rattle.spec_sheet.specs.SheetReading.{pair, Lists}
use Rattle.sheet_lines.specs.Machine.{ListAt}
use Rattle.sheet_read.specs.declared.FiveSpans.{FiveSpans}

-- The five lists stand at these places.
pub record ListsAt (text : Text) (l : Lists) (s : FiveSpans) : Type 0 where
  pub breaks : ListAt numeral text l.breaks s.breaks.from s.breaks.to
  pub degrees : ListAt numeral text l.degrees s.degrees.from s.degrees.to
  pub orders : ListAt numeral text l.orders s.orders.from s.orders.to
  pub coefs : ListAt pair text l.coefs s.coefs.from s.coefs.to
  pub positions : ListAt numeral text l.positions s.positions.from s.positions.to

-- The answer for a whole text: where the five lists stand, or the place of code 10.
abbrev pub Scanned : Text → Outcome Lists → Result FiveSpans ℕ → Type 0
Scanned text (answer l) (Ok s) = ListsAt text l s
Scanned text (answer l) (Err place) = ⊥
Scanned text (refusal code place) (Ok s) = ⊥
Scanned text (refusal code place) (Err at) = (code ≡ codes.sheet_line) × (place ≡ at)
