-- The whole program as one function on texts (§ 13; § 4, § 8): five lines in,
-- the printout out.
use Rattle.std.specs.Prelude.{List, ℕ, ◌*◌, ℤ}
use Rattle.base_outcome.specs.Outcome.{Outcome, answer, refusal}
use Rattle.spec_spline.specs.Space.{Space}
use Rattle.spec_spline.specs.Table.{table_cells}
use Rattle.spec_spline.specs.Reading.{side_by_side}
use Rattle.spec_spline.specs.CurveCall.{CurveResult, curve_outcome, position_limit}
use Rattle.base_text.specs.Bytes.{Text}
use Rattle.base_print.specs.Refusal.{refusal_line}
use Rattle.spec_sheet.specs.SheetReading.{Lists, read}
use Rattle.spec_sheet.specs.Printout.{answer_text}

-- What the curve call is handed: five lists of numbers.
pub record Arguments : Type 0 where
  pub breaks : List ℤ
  pub degrees : List ℤ
  pub orders : List ℤ
  pub coefs : List ℤ
  pub positions : List ℤ

-- The lists of a sheet, with the numbers of the coefficients' pairs side by side.
abbrev pub arguments_of : Lists → Arguments
arguments_of l = record {
  breaks = l.breaks;
  degrees = l.degrees;
  orders = l.orders;
  coefs = side_by_side l.coefs;
  positions = l.positions;
}

-- The space of the first three lists.
abbrev pub space_of : Arguments → Space
space_of a = record { breaks = a.breaks; degrees = a.degrees; orders = a.orders }

-- A values' buffer for as many positions as a call can have, with two cells each.
abbrev pub value_cells : ℕ
value_cells = 2 * position_limit

-- The curve call on the five lists, with buffers that are long enough.
unfoldable pub called : Arguments → Outcome CurveResult
called a = curve_outcome (space_of a) a.coefs a.positions table_cells table_cells value_cells

-- The printout of a call's outcome at these positions.
unfoldable pub outcome_text : List ℤ → Outcome CurveResult → Text
outcome_text xs (answer r) = answer_text r.table xs r.values
outcome_text xs (refusal code place) = refusal_line code place

-- The printout of the call on the five lists.
abbrev pub called_text : Arguments → Text
called_text a = outcome_text a.positions (called a)

-- The printout of what was read: of the call on the five lists, or of code 10.
unfoldable pub read_text : Outcome Lists → Text
read_text (answer l) = called_text (arguments_of l)
read_text (refusal code place) = refusal_line code place

-- The printout of a sheet.
unfoldable pub printout : Text → Text
printout input = read_text (read input)
