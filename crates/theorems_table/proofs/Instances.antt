-- A series across the year 0 whose name has a comma and outer blanks: its latewood's lines read back, an absent ring and a value below zero among them.
use mathlib.Core.Path.{◌≡◌, refl}
use mathlib.Core.Bool.{true}
use mathlib.Core.List.{[], ◌∷◌, map}
use mathlib.Core.Option.{some}
use lib.IntN.{pos, neg_ℤ}
use lib.ListN.{take}
use Rattle.base_exact.specs.Floor.{nearest}
use Rattle.base_exact.specs.Tabulate.{tab}
use Rattle.base_outcome.specs.Outcome.{answer}
use Rattle.base_text.specs.Bytes.{Text, bytes}
use Rattle.base_text.specs.Numeral.{digits_up_to, digits, decimal}
use Rattle.spec_spline.specs.Reading.{latewood}
use Rattle.spec_tucson.specs.Line.{is_name, all_printable, all_blank}
use Rattle.spec_tucson.specs.Shown.{trimmed}
use Rattle.spec_table.specs.Decimals.{last_digits, with_decimals, millionths, index_text}
use Rattle.spec_table.specs.RingLines.{without_leading, bare_name, holds_quoted, doubled, quoted_name, numbers_text, ring_line, lines_of_rings, IndexedSeries, ring_lines, rings_of}
use Rattle.spec_table.specs.RingLinesCall.{ring_lists_fit, ring_lines_outcome, ring_lines_end}
use Rattle.theorems_table.specs.Reader.{rows_of}
use Rattle.theorems_table.specs.ReadsBack.{said_of}
use Rattle.theorems_table.proofs.ReadsBack.{lines-read-back, written-lines-read-back}

abbrev oak : IndexedSeries
oak = record {
  name = bytes "OAK,1   ";
  first_year = neg_ℤ (pos 1);
  widths = pos 812 ∷ pos 0 ∷ pos 1203 ∷ [];
  values = pos 207872 ∷ pos 256 ∷ pos 1 ∷ pos 2 ∷ pos 300001 ∷ neg_ℤ (pos 16) ∷ [];
  indices = pos 1000 ∷ neg_ℤ (pos 1) ∷ pos 1026 ∷ [];
}

oak_is_named : is_name oak.name ≡ true
unfolding bytes is_name all_printable all_blank
oak_is_named = refl

oak_reads-back : rows_of (ring_lines latewood oak) ≡ map (λ r. some (said_of r)) (rings_of latewood oak)
oak_reads-back = lines-read-back latewood oak oak_is_named

-- The same by a call, whose buffer has one byte more than it writes.
abbrev short : IndexedSeries
short = record { name = bytes "X       "; first_year = pos 1908; widths = pos 7 ∷ []; values = pos 0 ∷ pos 1 ∷ []; indices = pos 5 ∷ [] }

abbrev room : Text
room = bytes "........................."

short-answers : (ring_lines_end latewood short room).answers ≡ answer 24
unfolding bytes digits_up_to digits decimal last_digits with_decimals nearest millionths index_text trimmed without_leading bare_name
    holds_quoted doubled quoted_name tab numbers_text ring_line lines_of_rings ring_lines all_printable all_blank is_name ring_lists_fit ring_lines_outcome
short-answers = refl

short-reads-back : rows_of (take 24 (ring_lines_end latewood short room).text) ≡ map (λ r. some (said_of r)) (rings_of latewood short)
short-reads-back = written-lines-read-back latewood short room 24 short-answers
