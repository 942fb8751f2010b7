-- The write call: "2, place 0, where they don't fit each other", the four lists; "then 11, place the series from 0"; "then 1, place
-- 0, for a text buffer that is too short. It writes thousandths" and "answers with the count of bytes. Refusals write nothing;
-- cells past an answer stay." (§ 14)
use Rattle.std.specs.Prelude.{Bool, cond, ◌&&◌, List, [], ◌∷◌, ℕ, ◌+◌, ◌*◌, eqb, leb, ℤ, length, take, drop}
use Rattle.base_outcome.specs.Codes as codes
use Rattle.base_outcome.specs.Outcome.{Outcome, answer, refusal, refuse, with_answer}
use Rattle.base_outcome.specs.Tests.{refuse_first}
use Rattle.base_text.specs.Bytes.{Text}
use Rattle.spec_tucson.specs.Line.{name_columns}
use Rattle.spec_tucson.specs.Series.{Series}
use Rattle.spec_tucson.specs.Writing.{written, unwritable}
use Rattle.spec_tucson.specs.ReadCall.{overwritten}

-- The sum of the counts.
unfoldable pub total : List ℕ → ℕ
total [] = 0
total (n ∷ ns) = n + total ns

-- The lists fit each other: a name of eight bytes and a count for each year, and the counts add up to the widths.
unfoldable pub lists_fit : Text → List ℤ → List ℕ → List ℤ → Bool
lists_fit names years counts widths = eqb (length names) (length years * name_columns) && eqb (length counts) (length years)
    && eqb (total counts) (length widths)

-- The series of four lists that fit.
unfoldable pub series_of : Text → List ℤ → List ℕ → List ℤ → List Series
series_of names [] counts widths = []
series_of names (y ∷ ys) [] widths = []
series_of names (y ∷ ys) (n ∷ ns) widths = record { name = take name_columns names; first_year = y; widths = take n widths }
    ∷ series_of (drop name_columns names) ys ns (drop n widths)

-- The text of the series, or 11 with the first that can't be written, or 1 where a buffer of this length is too short.
unfoldable pub series_outcome : List Series → ℕ → Outcome Text
series_outcome ss text_length =
    refuse_first codes.tucson_line (unwritable ss)
    (cond (leb (length (written ss)) text_length) (answer (written ss)) (refuse codes.short_buffer 0))

-- What the write call ends with, given the length of the text's buffer.
unfoldable pub write_outcome : Text → List ℤ → List ℕ → List ℤ → ℕ → Outcome Text
write_outcome names years counts widths text_length =
    cond (lists_fit names years counts widths) (series_outcome (series_of names years counts widths) text_length) (refuse codes.lengths 0)

-- The text's buffer after the call: the text at its front after an answer, unchanged after a refusal.
unfoldable pub text_after : Outcome Text → Text → Text
text_after (answer t) before = overwritten t before
text_after (refusal code place) before = before

-- What a write call ends with: the answer and the lent buffer.
pub record WriteEnd : Type 0 where
  pub answers : Outcome ℕ
  pub text : Text

-- The end of the call with these lists and this buffer lent.
abbrev pub write_end : Text → List ℤ → List ℕ → List ℤ → Text → WriteEnd
write_end names years counts widths text =
    let o = write_outcome names years counts widths (length text) in
    record { answers = with_answer length o; text = text_after o text }
