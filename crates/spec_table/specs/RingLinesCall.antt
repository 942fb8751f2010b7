-- The call for the table's lines (§ 17): what it ends with, and what the lent buffer holds afterwards. It "answers with the
-- count of bytes" (§ 17).
use Rattle.std.specs.Prelude.{Bool, cond, ◌&&◌, ℕ, ◌*◌, eqb, leb, length}
use Rattle.base_outcome.specs.Codes as codes
use Rattle.base_outcome.specs.Outcome.{Outcome, answer, refuse, with_answer}
use Rattle.base_text.specs.Bytes.{Text}
use Rattle.spec_spline.specs.Reading.{Wood}
use Rattle.spec_tucson.specs.Line.{name_columns, is_name}
use Rattle.spec_tucson.specs.WriteCall.{text_after}
use Rattle.spec_table.specs.RingLines.{IndexedSeries, ring_lines}

-- "the name has eight bytes, there are as many indices as widths and twice as many values" (§ 17).
unfoldable pub ring_lists_fit : IndexedSeries → Bool
ring_lists_fit s = eqb (length s.name) name_columns && eqb (length s.indices) (length s.widths)
    && eqb (length s.values) (2 * length s.widths)

-- "It refuses with 2, place 0, unless the name has eight bytes, there are as many indices as widths and twice as many values; then
-- 11, place 0, for a name that § 14 does not allow; then 1, place 0, for a buffer that is too short." (§ 17) Given the length of the
-- buffer.
unfoldable pub ring_lines_outcome : Wood → IndexedSeries → ℕ → Outcome Text
ring_lines_outcome wood s room =
    cond (ring_lists_fit s)
    (cond (is_name s.name)
    (cond (leb (length (ring_lines wood s)) room) (answer (ring_lines wood s)) (refuse codes.short_buffer 0))
    (refuse codes.tucson_line 0))
    (refuse codes.lengths 0)

-- What the call ends with: the answer and the lent buffer.
pub record RingLinesEnd : Type 0 where
  pub answers : Outcome ℕ
  pub text : Text

-- The end of the call with this buffer lent: "Refusals write nothing, and cells past an answer stay." (§ 17)
abbrev pub ring_lines_end : Wood → IndexedSeries → Text → RingLinesEnd
ring_lines_end wood s out =
    let o = ring_lines_outcome wood s (length out) in
    record { answers = with_answer length o; text = text_after o out }
