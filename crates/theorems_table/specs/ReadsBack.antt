-- The reader "finds in the lines the same names (without outer blanks), years, widths, millionths and indices, in order" (§ 17), for any
-- lists of a series whose name § 14 allows.
use Rattle.std.specs.Prelude.{true, map, ◌≡◌, ℕ, take}
use Rattle.std.proofs.Math.Option.{Option, some}
use Rattle.base_outcome.specs.Outcome.{answer}
use Rattle.base_text.specs.Bytes.{Text}
use Rattle.spec_spline.specs.Reading.{Wood}
use Rattle.spec_tucson.specs.Line.{is_name}
use Rattle.spec_table.specs.Decimals.{millionths}
use Rattle.spec_table.specs.RingLines.{bare_name, Ring, IndexedSeries, rings_of, ring_lines}
use Rattle.spec_table.specs.RingLinesCall.{ring_lines_end}
use Rattle.theorems_table.specs.Reader.{Row, rows_of}

-- What a ring's line says.
abbrev pub said_of : Ring → Row
said_of r = record { name = bare_name r.name; year = r.year; width = r.width; curve = millionths r.value; index = r.index }

-- Proved in proofs/ReadsBack.
abbrev pub LinesReadBack : Type 0
LinesReadBack = (wood : Wood) (s : IndexedSeries) → is_name s.name ≡ true
    → rows_of (ring_lines wood s) ≡ map (λ r. some (said_of r)) (rings_of wood s)

-- The bytes that a call answers with are such a text; proved in proofs/ReadsBack.
abbrev pub WrittenLinesReadBack : Type 0
WrittenLinesReadBack = (wood : Wood) (s : IndexedSeries) (out : Text) (n : ℕ) → (ring_lines_end wood s out).answers ≡ answer n
    → rows_of (take n (ring_lines_end wood s out).text) ≡ map (λ r. some (said_of r)) (rings_of wood s)
