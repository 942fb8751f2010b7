-- The lists of a series as the machine has them, the name already as the table has it, and the text of the first n lines (§ 17).
use Rattle.std.specs.Prelude.{Bool, cond, ◌&&◌, List, [], ◌++◌, ◌≡◌, ℕ, zero, suc, ◌+◌, ◌*◌, ◌≤◌, eqb, leb, ℤ, pos, ◌+ℤ◌, length, get_or}
use Rattle.base_outcome.specs.Codes as codes
use Rattle.base_outcome.specs.Outcome.{Outcome, answer, refuse, with_answer}
use Rattle.base_text.specs.Bytes.{Text}
use Rattle.spec_tucson.specs.Line.{name_columns}
use Rattle.spec_tucson.specs.WriteCall.{text_after}
use Rattle.spec_table.specs.RingLines.{numbers_text}
use Rattle.table_name.specs.Machine.{name_limit}

-- The name as the table has it, the first year, a wood's cell in each pair of values, and the three lists.
pub record Rows : Type 0 where
  pub label : Text
  pub first : ℤ
  pub cell : ℕ
  pub widths : List ℤ
  pub values : List ℤ
  pub indices : List ℤ

-- They by these lists.
abbrev pub rows : Text → ℤ → ℕ → List ℤ → List ℤ → List ℤ → Rows
rows label first cell widths values indices =
    record { label = label; first = first; cell = cell; widths = widths; values = values; indices = indices }

-- The numbers of line j, with commas and byte 10.
abbrev pub row_numbers : Rows → ℕ → Text
row_numbers r j = numbers_text (r.first +ℤ pos j) (get_or r.widths j (pos 0)) (get_or r.values (2 * j + r.cell) (pos 0))
    (get_or r.indices j (pos 0))

-- Line j.
abbrev pub row_text : Rows → ℕ → Text
row_text r j = r.label ++ row_numbers r j

-- The first n lines.
unfoldable pub rows_text : Rows → ℕ → Text
rows_text r zero = []
rows_text r (suc n) = rows_text r n ++ row_text r n

-- The lists fit each other, and no name is longer.
pub record RowsAsk (r : Rows) : Type 0 where
  pub indexed : length r.indices ≡ length r.widths
  pub valued : length r.values ≡ 2 * length r.widths
  pub paired : r.cell ≤ 1
  pub short : length r.label ≤ name_limit

-- And there is room for all lines.
pub record RowsFit (r : Rows) (room : ℕ) : Type 0 where
  pub lists : RowsAsk r
  pub fits : length (rows_text r (length r.widths)) ≤ room

-- The lines where a buffer of this length has room for them, or 1.
unfoldable pub rows_outcome : Rows → ℕ → Outcome Text
rows_outcome r room = let t = rows_text r (length r.widths) in cond (leb (length t) room) (answer t) (refuse codes.short_buffer 0)

-- What is left in the buffer, and the answer.
pub record RowsEnd (r : Rows) (before after : Text) (answers : Outcome ℕ) : Type 0 where
  pub answered : answers ≡ with_answer length (rows_outcome r (length before))
  pub text : after ≡ text_after (rows_outcome r (length before)) before

-- The name has eight bytes, and there are an index and two values for each width.
abbrev pub lengths_fit : Text → List ℤ → List ℤ → List ℤ → Bool
lengths_fit name widths values indices =
    eqb (length name) name_columns && eqb (length indices) (length widths) && eqb (length values) (2 * length widths)
