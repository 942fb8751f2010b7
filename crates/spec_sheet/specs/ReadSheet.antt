-- The read call for sheets (§ 13): what it ends with, and what its five lent buffers hold afterwards. The coefficients' buffer holds the
-- numbers of its pairs side by side.
use Rattle.std.specs.Prelude.{List, ◌++◌, ℕ, ℤ, length, drop}
use Rattle.base_outcome.specs.Outcome.{Outcome, answer, refusal, with_answer}
use Rattle.spec_spline.specs.Reading.{side_by_side}
use Rattle.base_text.specs.Bytes.{Text}
use Rattle.spec_sheet.specs.SheetReading.{Lists, read}

-- How many numbers the five lists have; a pair has two.
pub record Lengths : Type 0 where
  pub breaks : ℕ
  pub degrees : ℕ
  pub orders : ℕ
  pub coefs : ℕ
  pub positions : ℕ

-- The lengths of the lists that were read.
abbrev pub lengths : Lists → Lengths
lengths l = record {
  breaks = length l.breaks;
  degrees = length l.degrees;
  orders = length l.orders;
  coefs = length (side_by_side l.coefs);
  positions = length l.positions;
}

-- What reading answers: the five lengths, or a refusal.
abbrev pub counted : Outcome Lists → Outcome Lengths
counted o = with_answer lengths o

-- A buffer with a list at its front; the cells past the list keep what they held.
abbrev pub overwritten : List ℤ → List ℤ → List ℤ
overwritten zs before = zs ++ drop (length zs) before

-- A buffer after reading: the numbers of one of the lists at its front after an answer, unchanged after a refusal.
unfoldable pub after : (Lists → List ℤ) → Outcome Lists → List ℤ → List ℤ
after list (answer l) before = overwritten (list l) before
after list (refusal code place) before = before

-- What reading ends with: the answer and all five lent buffers.
pub record ReadEnd : Type 0 where
  pub answers : Outcome Lengths
  pub breaks : List ℤ
  pub degrees : List ℤ
  pub orders : List ℤ
  pub coefs : List ℤ
  pub positions : List ℤ

-- The end of the call on this text with these five buffers lent.
abbrev pub read_end : Text → List ℤ → List ℤ → List ℤ → List ℤ → List ℤ → ReadEnd
read_end text breaks degrees orders coefs positions =
    let o = read text in
    record {
      answers = counted o;
      breaks = after (λ l. l.breaks) o breaks;
      degrees = after (λ l. l.degrees) o degrees;
      orders = after (λ l. l.orders) o orders;
      coefs = after (λ l. side_by_side l.coefs) o coefs;
      positions = after (λ l. l.positions) o positions;
    }
