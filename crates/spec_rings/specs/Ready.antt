-- What the program makes its table from: a wood, the lists of a sheet and the series of a file; or the first refusal, in the order of
-- § 18.
use Rattle.std.specs.Prelude.{cond, List, ℕ, zero, suc, ◌+◌, ltb, ℤ, length}
use Rattle.std.proofs.Math.Option.{Option, some, none}
use Rattle.base_outcome.specs.Codes as codes
use Rattle.base_outcome.specs.Outcome.{Outcome, answer, refusal, refuse, ◌then◌}
use Rattle.spec_spline.specs.Space.{Space}
use Rattle.spec_spline.specs.Table.{table_cells}
use Rattle.spec_spline.specs.Reading.{Wood, side_by_side}
use Rattle.spec_spline.specs.CurveCall.{CurveResult}
use Rattle.spec_calls.specs.CurveAlone.{curve_alone}
use Rattle.base_text.specs.Bytes.{Text}
use Rattle.spec_sheet.specs.SheetReading.{Lists, read}
use Rattle.spec_sheet.specs.Sheet.{arguments_of, space_of}
use Rattle.spec_tucson.specs.Series.{Series}
use Rattle.spec_tucson.specs.TextReading.{read_text}
use Rattle.spec_rings.specs.Parts.{Headed, headed, sheet_lines, sheet_part, series_part}
-- The most bytes that the program holds: 1 comes for "more than 1,048,576 bytes" (§ 18).
pub use Rattle.spec_tucson.specs.Filter.{text_limit}

-- The refusal at a place that is moved.
abbrev pub moved : {A : Type 0} → (ℕ → ℕ) → Outcome A → Outcome A
moved to (answer a) = answer a
moved to (refusal code place) = refuse code (to place)

-- "the place of § 13 plus one, 0 stays 0" (§ 18).
abbrev pub sheet_place : ℕ → ℕ
sheet_place zero = zero
sheet_place (suc p) = suc (suc p)

-- "place the line of the whole input" (§ 18): before the series are the first line and the sheet's.
abbrev pub series_place : ℕ → ℕ
series_place p = p + (1 + sheet_lines)

-- The sheet's lists. "Its list at= is tested for its form alone, and is not used" (§ 18).
unfoldable pub sheet_read : Text → Outcome Lists
sheet_read t = moved sheet_place (read t)

-- The series.
unfoldable pub series_read : Text → Outcome (List Series)
series_read t = moved series_place (read_text t)

-- "what the curve call says of the sheet without positions" (§ 18).
unfoldable pub sheet_curve : Lists → Outcome CurveResult
sheet_curve l = curve_alone (space_of (arguments_of l)) (side_by_side l.coefs) table_cells table_cells

-- What is ready: the wood, the lists and the series.
pub record Ready : Type 0 where
  pub wood : Wood
  pub lists : Lists
  pub series : List Series

-- The refusals of sheet, file and curve, "in this order" (§ 18), "once, also where there is no series" (§ 18).
unfoldable pub ready_of : Headed → Outcome Ready
ready_of h =
    sheet_read (sheet_part h.rest) then λ l.
    series_read (series_part h.rest) then λ ss.
    sheet_curve l then λ r.
    answer (record { wood = h.wood; lists = l; series = ss })

-- 10, place 1, or what stands behind the first line.
abbrev pub ready_if : Option Headed → Outcome Ready
ready_if none = refuse codes.sheet_line 1
ready_if (some h) = ready_of h

-- What is ready for an input, or its first refusal: 1 first. "Tested in this order" (§ 18).
unfoldable pub ready : Text → Outcome Ready
ready t = cond (ltb text_limit (length t)) (refuse codes.short_buffer 0) (ready_if (headed t))
