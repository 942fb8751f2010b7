-- What members can count on before they type a sheet: no sheet whose coefficients are all above zero prints a low line.
use Rattle.std.specs.Prelude.{◌≡◌, List, ◌++◌, ℕ, ◌<◌, ℤ, pos, length, get_or, ◌<ℤ◌}
use Rattle.base_outcome.specs.Outcome.{answer}
use Rattle.spec_spline.specs.Table.{Table}
use Rattle.spec_spline.specs.Listing.{table_weights}
use Rattle.spec_spline.specs.Reading.{Pair, side_by_side}
use Rattle.base_text.specs.Bytes.{Text}
use Rattle.spec_sheet.specs.SheetReading.{Lists, read}
use Rattle.spec_sheet.specs.Printout.{count_line, weight_lines, value_lines}
use Rattle.base_print.specs.Refusal.{refusal_line}
use Rattle.spec_sheet.specs.Sheet.{printout}

-- All numbers of the coefficients' line, two a pair, are above zero.
abbrev pub AllPositive : Lists → Type 0
AllPositive l = (k : ℕ) → k < length (side_by_side l.coefs) → pos 0 <ℤ get_or (side_by_side l.coefs) k (pos 0)

-- A printout without a low line: a refusal alone, or n, the w lines and the v lines, and nothing after them.
pub data WithoutLowLines (printed : Text) : Type 0 where
  refused : (code place : ℕ) → printed ≡ refusal_line code place → WithoutLowLines printed
  answered : (t : Table) (positions : List ℤ) (values : List Pair)
      → printed ≡ count_line (length t) ++ (weight_lines (table_weights 0 t) ++ value_lines positions values) → WithoutLowLines printed

abbrev pub PositiveSheetsHaveNoLowLines : Type 0
PositiveSheetsHaveNoLowLines = (input : Text) (l : Lists) → read input ≡ answer l → AllPositive l → WithoutLowLines (printout input)
