-- The theorems with numbers: series that are written and read back, with an absent ring, a last width of 999 and years across 0;
-- a text in hundredths that is written in thousandths, in as many bytes; the cells after the two calls; and two refusals. The
-- hypotheses are met by computation.
use mathlib.Core.List.{List, [], ◌∷◌}
use mathlib.Core.Bool.{true, false}
use mathlib.Core.Option.{some, none}
use mathlib.Core.Path.{◌≡◌, refl}
use Prim.Native.Nat.{◌≤◌}
use native.Mathlib.Omega.{arith}
use lib.IntN.{pos, neg_ℤ, ◌+ℤ◌}
use lib.ListN.{length, take}
use Rattle.base_outcome.specs.Outcome.{answer, refusal, capped}
use Rattle.base_text.specs.Bytes.{Text, bytes, lines, begins_with}
use Rattle.spec_tucson.specs.Line.{Line, all_printable, all_blank, is_name, year_in_decade, is_width, good_line}
use Rattle.spec_tucson.specs.Series.{Series}
use Rattle.spec_tucson.specs.TextReading.{Begun, opened, read_line, read_text}
use Rattle.spec_tucson.specs.ReadCall.{names_of, years_of, counts_of, widths_of, room_for, read_outcome, filled, ReadEnd, read_end}
use Rattle.spec_tucson.specs.Writing.{in_lines, lines_from, series_lines, written, years_fit, all_widths, is_writable, first_unwritable}
use Rattle.spec_tucson.specs.WriteCall.{total, lists_fit, series_of, series_outcome, write_outcome, text_after, write_end}
use Rattle.spec_tucson.proofs.Computing.{reading, writing}
use Rattle.theorems_tucson.specs.RoundTrip.{Writable}
use Rattle.theorems_tucson.specs.TucsonCells.{rewrite_end}
use Rattle.theorems_tucson.specs.Refusals.{ReadRefusal, WriteRefusal}
use Rattle.theorems_tucson.proofs.ReadsBack.{written-reads-back}
use Rattle.theorems_tucson.proofs.Rewritten.{read_is_writable, read-keeps_length, rewritten_reads-back}
use Rattle.theorems_tucson.proofs.TucsonCells.{written-cells-read-back, read-cells_are_written, rewritten_cells-read-back}
use Rattle.theorems_tucson.proofs.Refusals.{read-refuses, write-refuses}
use Rattle.theorems_tucson.proofs.FirstSeries.{next-year_by_line}

-- what writable series are written with
lines_written : Unit {0}
unfolding writing begins_with all_printable all_blank is_name is_width
lines_written = tt

-- ---- two series, the first across the year 0

abbrev two : List Series
two =
    record { name = bytes " A B C  "; first_year = neg_ℤ (pos 2); widths = pos 0 ∷ pos 1204 ∷ pos 999 ∷ [] } ∷
    record { name = bytes "ABC01   "; first_year = pos 1909; widths = pos 99999 ∷ [] } ∷ []

two_writable : Writable two
unfolding bytes begins_with all_printable all_blank is_name year_in_decade is_width in_lines lines_from series_lines years_fit all_widths is_writable first_unwritable
two_writable = refl

two_read-back : read_text (written two) ≡ answer two
two_read-back = written-reads-back two two_writable

-- ---- a text in hundredths

abbrev measured : Text
measured = lines ("ABC01   1908   120     0" ∷ "ABC01   1910  9999   999" ∷ [])

abbrev in_thousandths : List Series
in_thousandths = record { name = bytes "ABC01   "; first_year = pos 1908; widths = pos 1200 ∷ pos 0 ∷ pos 99990 ∷ [] } ∷ []

measured-reads : read_text measured ≡ answer in_thousandths
unfolding reading
measured-reads = refl

measured_writable : Writable in_thousandths
measured_writable = read_is_writable measured in_thousandths measured-reads

measured_length : length (written in_thousandths) ≡ length measured
measured_length = read-keeps_length measured in_thousandths measured-reads

measured-again : read_text (written in_thousandths) ≡ answer in_thousandths
measured-again = rewritten_reads-back measured in_thousandths measured-reads

-- the two texts differ, and have 50 bytes each
measured-written : (written in_thousandths ≡ lines ("ABC01   1908  1200     0" ∷ "ABC01   1910 99990 -9999" ∷ [])) × (length measured ≡ 50)
unfolding lines_written
measured-written = (refl, refl)

-- ---- the cells: a write call with a buffer of 20 cells, and a read call with buffers longer than the answer

written_19 : (write_end (bytes "ABC01   ") (pos 1908 ∷ []) (0 ∷ []) [] (bytes "....................")).answers ≡ answer 19
unfolding lines_written years_fit all_widths is_writable first_unwritable total lists_fit series_of series_outcome write_outcome text_after
written_19 = refl

written_19_read :
    read_end (take 19 (write_end (bytes "ABC01   ") (pos 1908 ∷ []) (0 ∷ []) [] (bytes "....................")).text) (bytes "........zz") (pos 1 ∷ pos 2 ∷ []) (3 ∷ 4 ∷ []) (pos 5 ∷ [])
    ≡ record { answers = answer 1; names = bytes "ABC01   zz"; years = pos 1908 ∷ pos 2 ∷ []; counts = 0 ∷ 4 ∷ []; widths = pos 5 ∷ [] }
unfolding bytes
written_19_read =
    written-cells-read-back (bytes "ABC01   ") (pos 1908 ∷ []) (0 ∷ []) [] (bytes "....................") 19 written_19
    (bytes "........zz") (pos 1 ∷ pos 2 ∷ []) (3 ∷ 4 ∷ []) (pos 5 ∷ []) (omega arith) (omega arith) (omega arith) (omega arith)

-- a read call of the text in hundredths
abbrev read_one : ReadEnd
read_one = read_end measured (bytes "........") (pos 1 ∷ []) (2 ∷ []) (pos 3 ∷ pos 4 ∷ pos 5 ∷ pos 6 ∷ [])

one_series : read_one.answers ≡ answer 1
unfolding reading names_of years_of counts_of widths_of room_for read_outcome filled
one_series = refl

module _ (text : Text) (long : 50 ≤ length text) where
  fifty : length measured ≤ length text
  fifty = omega (arith, measured-written.1)

  one_series-written : (rewrite_end read_one 1 text).answers ≡ answer (length measured)
  one_series-written = read-cells_are_written measured (bytes "........") (pos 1 ∷ []) (2 ∷ []) (pos 3 ∷ pos 4 ∷ pos 5 ∷ pos 6 ∷ []) 1 one_series text fifty

  one_series-again : read_end (take (length measured) (rewrite_end read_one 1 text).text) (bytes "........") (pos 1 ∷ []) (2 ∷ []) (pos 3 ∷ pos 4 ∷ pos 5 ∷ pos 6 ∷ []) ≡ read_one
  one_series-again = rewritten_cells-read-back measured (bytes "........") (pos 1 ∷ []) (2 ∷ []) (pos 3 ∷ pos 4 ∷ pos 5 ∷ pos 6 ∷ []) 1 one_series text fifty

-- ---- refusals: a year that is not the next, on line 2, and a name again, the third series

skipped : Text
skipped = lines ("ABC01   1908     7     8" ∷ "ABC01   1920   999" ∷ [])

skipped_refused : (read_end skipped [] [] [] []).answers ≡ refusal 12 2
unfolding reading skipped names_of years_of counts_of widths_of room_for read_outcome filled
skipped_refused = refl

skipped_refusal : ReadRefusal skipped 12 2
skipped_refusal = (read-refuses skipped [] [] [] [] 12 2 skipped_refused).0

named_again : (write_end (bytes "ABC01   ABC02   ABC02   ") (pos 1 ∷ pos 1 ∷ pos 1 ∷ []) (0 ∷ 0 ∷ 0 ∷ []) [] []).answers ≡ refusal 11 2
unfolding lines_written years_fit all_widths is_writable first_unwritable capped total lists_fit series_of series_outcome write_outcome text_after
named_again = refl

named-again-refusal : WriteRefusal (pos 1 ∷ pos 1 ∷ pos 1 ∷ []) 11 2
named-again-refusal = (write-refuses (bytes "ABC01   ABC02   ABC02   ") (pos 1 ∷ pos 1 ∷ pos 1 ∷ []) (0 ∷ 0 ∷ 0 ∷ []) [] [] 11 2 named_again).0

-- ---- the year that code 12 asks of the line after the first one of the text in hundredths

abbrev first_line : Text
first_line = lines ("ABC01   1908   120     0" ∷ [])

abbrev begun : Begun
begun = record { first_year = pos 1908; widths = pos 120 ∷ pos 0 ∷ [] }

first-line-reads : read_line 1 none true first_line ≡ answer (opened begun)
unfolding reading
first-line-reads = refl

nineteen_ten_by_the_line : (l : Line) × (good_line false first_line ≡ some l) × (pos 1910 ≡ l.year +ℤ pos (length l.fields))
nineteen_ten_by_the_line = next-year_by_line 1 none first_line begun first-line-reads
