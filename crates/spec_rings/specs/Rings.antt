-- The program as one function on texts (§ 18): sheet and file in, the table of indices out.
use Rattle.std.specs.Prelude.{cond, List, [], ◌∷◌, ◌++◌, map, ℕ, ◌*◌, eqb, ℤ, pos, ◌+ℤ◌, length}
use Rattle.base_outcome.specs.Codes as codes
use Rattle.base_outcome.specs.Outcome.{Outcome, answer, refusal}
use Rattle.spec_spline.specs.Space.{Space}
use Rattle.spec_spline.specs.Table.{table_cells}
use Rattle.spec_spline.specs.Reading.{Wood, side_by_side}
use Rattle.spec_spline.specs.CurveCall.{position_limit, CurveResult}
use Rattle.spec_calls.specs.Indices.{rings_read, rings_indexed}
use Rattle.base_text.specs.Bytes.{Text, newline, comma}
use Rattle.base_text.specs.Numeral.{digits, decimal}
use Rattle.base_print.specs.Refusal.{refusal_key, refusal_line}
use Rattle.spec_sheet.specs.Sheet.{arguments_of, space_of}
use Rattle.spec_sheet.specs.Printout.{joined}
use Rattle.spec_tucson.specs.Series.{Series}
use Rattle.spec_table.specs.RingLines.{name_text, IndexedSeries, ring_lines}
use Rattle.spec_rings.specs.Ready.{Ready, ready}

-- The table's first line: series,year,width_mm,curve_mm,index and byte 10.
abbrev pub header_line : Text
header_line = 115 ∷ 101 ∷ 114 ∷ 105 ∷ 101 ∷ 115 ∷ comma ∷ 121 ∷ 101 ∷ 97 ∷ 114 ∷ comma ∷ 119 ∷ 105 ∷ 100 ∷ 116 ∷ 104 ∷ 95 ∷ 109 ∷ 109 ∷
    comma ∷ 99
    ∷ 117 ∷ 114 ∷ 118 ∷ 101 ∷ 95 ∷ 109 ∷ 109 ∷ comma ∷ 105 ∷ 110 ∷ 100 ∷ 101 ∷ 120 ∷ newline ∷ []

-- ---- a series

-- "the index call of its widths with its first year as the first ring" (§ 18), with buffers as long as it needs: up to the values.
unfoldable pub series_values : Space → List ℤ → Series → Outcome CurveResult
series_values space coefs s =
    rings_read space coefs s.first_year s.widths table_cells table_cells (2 * length s.widths) (length s.widths)

-- The first ring at fault: "the 4,097th for 2" (§ 18), else the call's place.
unfoldable pub faulty_ring : ℕ → ℕ → ℕ
faulty_ring code place = cond (eqb code codes.lengths) position_limit place

-- "the one line NAME,YEAR,,,no=NUMBER with the year of the first ring at fault" (§ 18).
unfoldable pub fault_line : Text → ℤ → ℕ → Text
fault_line name year code = name_text name
    ++ (comma ∷ (decimal year ++ (comma ∷ comma ∷ comma ∷ (refusal_key ++ (digits code ++ (newline ∷ []))))))

-- Such a line of a series.
abbrev pub fault_of : Series → ℕ → ℕ → Text
fault_of s code place = fault_line s.name (s.first_year +ℤ pos (faulty_ring code place)) code

-- A series with its values and indices.
abbrev pub indexed_series : Series → CurveResult → List ℤ → IndexedSeries
indexed_series s r zs = record {
  name = s.name;
  first_year = s.first_year;
  widths = s.widths;
  values = side_by_side r.values;
  indices = zs;
}

-- "the lines of its rings (§ 17), none where it has no widths" (§ 18), or the line of 14.
unfoldable pub indexed_text : Wood → Series → CurveResult → Outcome (List ℤ) → Text
indexed_text wood s r (answer zs) = ring_lines wood (indexed_series s r zs)
indexed_text wood s r (refusal code place) = fault_of s code place

-- The same, or the line of 2 or 7.
unfoldable pub valued_text : Wood → Series → Outcome CurveResult → Text
valued_text wood s (answer r) = indexed_text wood s r (rings_indexed wood s.widths r)
valued_text wood s (refusal code place) = fault_of s code place

-- The lines of a series with the curve of a wood.
unfoldable pub series_text : Wood → Space → List ℤ → Series → Text
series_text wood space coefs s = valued_text wood s (series_values space coefs s)

-- ---- the program

-- The texts of what is ready, one for each series in order.
unfoldable pub pieces : Ready → List Text
pieces r = map (series_text r.wood (space_of (arguments_of r.lists)) (side_by_side r.lists.coefs)) r.series

-- The header, "then for each series in order" (§ 18) its lines; or the line of the refusal.
unfoldable pub ready_text : Outcome Ready → Text
ready_text (answer r) = header_line ++ joined (pieces r)
ready_text (refusal code place) = refusal_line code place

-- What the program gives for its input.
unfoldable pub rings : Text → Text
rings t = ready_text (ready t)
