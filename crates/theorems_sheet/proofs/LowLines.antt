-- No low lines from positive coefficients, proved: a call that answers is legal, so all its values are above zero. And a sheet.
use mathlib.Core.Path.{◌≡◌, refl, ◌∙◌, ap, ap₂}
use mathlib.Core.Bool.{false, ◌||◌}
use mathlib.Core.List.{List, [], ◌∷◌, ◌++◌, map, append-nil}
use Prim.Native.Nat.{ℕ, zero, suc, ◌+◌, ◌*◌, ◌<◌}
use native.Mathlib.Omega.{arith}
use lib.IntN.{ℤ, pos}
use lib.ListN.{length, get_or}
use lib.Signed.{◌<ℤ◌, ◌≤ℤ◌}
use Rattle.base_exact.proofs.Decide.{cond_false}
use Rattle.base_exact.proofs.Integer as Z
use Rattle.base_exact.proofs.Word.{lt_z_true, not_le_test}
use Rattle.base_outcome.specs.Outcome.{Outcome, answer, refusal, capped}
use Rattle.spec_spline.specs.Space.{Space}
use Rattle.spec_spline.specs.Table.{table_cells}
use Rattle.spec_spline.specs.Listing.{table_weights}
use Rattle.spec_spline.specs.Reading.{Wood, earlywood, latewood, Pair, side_by_side, value_at, pair_at, values}
use Rattle.spec_spline.specs.CurveCall.{CurveResult}
use Rattle.spec_spline.specs.ExactCurve.{Legal}
use Rattle.spec_spline.specs.Cases.{pair}
use Rattle.base_outcome.proofs.Outcome.{answer_unique}
use Rattle.base_text.specs.Bytes.{Text, bytes, lines, cut, fields_between, stripped}
use Rattle.base_text.specs.Numeral.{all_digits, digits_value, is_natural, numeral}
use Rattle.base_sorting.specs.Sorted.{sorted}
use Rattle.theorems_values.proofs.LegalCall.{answered_calls_are_legal, legal_calls_answer}
use Rattle.theorems_values.proofs.Cells.{position-inside}
use Rattle.theorems_promises.specs.PositiveValues.{PositiveCoefficients, least_positive}
use Rattle.theorems_promises.proofs.PositiveValues.{positive_values}
use Rattle.spec_sheet.specs.SheetReading as entry
use Rattle.spec_sheet.specs.SheetReading.{entries, list_of, line, read_line, Lists, five_lines, read}
use Rattle.spec_sheet.specs.Printout.{joined, count_line, weight_lines, value_lines, is_low, low_positions, low_lines, answer_text}
use Rattle.spec_sheet.specs.Sheet.{Arguments, arguments_of, space_of, value_cells, called, outcome_text, read_text, printout}
use Rattle.theorems_sheet.specs.LowLines.{AllPositive, WithoutLowLines, refused, answered, PositiveSheetsHaveNoLowLines}

-- ---- no position is low

none_low : (f : ℤ → Pair) (xs : List ℤ) → ((i : ℕ) → i < length xs → is_low (f (get_or xs i (pos 0))) ≡ false) → low_positions xs (map f xs) ≡ []
unfolding low_positions
none_low f [] h = refl
none_low f (x ∷ xs) h = cond_false (x ∷ low_positions xs (map f xs)) (low_positions xs (map f xs)) (h 0 (omega arith))
    ∙ none_low f xs (λ i l. h (suc i) (omega arith))

above_zero : (v : ℤ) → least_positive ≤ℤ v → pos 0 <ℤ v
above_zero v h = Z.<-≤_trans (pos 0) least_positive v (Z.<_in (pos 0) least_positive (omega arith)) h

module _ (s : Space) (coefs positions : List ℤ) (l : Legal s coefs positions table_cells table_cells value_cells)
    (positive : (k : ℕ) → k < length coefs → pos 0 <ℤ get_or coefs k (pos 0)) where
  part_positive : (wood : Wood) → PositiveCoefficients s wood coefs
  part_positive earlywood i h = positive (2 * i + 0) (omega (arith, l.coefficient_count))
  part_positive latewood i h = positive (2 * i + 1) (omega (arith, l.coefficient_count))

  value-above : (wood : Wood) (i : ℕ) → i < length positions → pos 0 <ℤ value_at s l.accepted.table wood coefs (get_or positions i (pos 0))
  value-above wood i h =
      above_zero _ (positive_values s l.accepted wood coefs (part_positive wood) (get_or positions i (pos 0))
      (position-inside s positions i (l.in_span i h)))

  no_low : low_positions positions (values s l.accepted.table coefs positions) ≡ []
  unfolding values pair_at is_low
  no_low =
      none_low (pair_at s l.accepted.table coefs) positions
      (λ i h. ap₂ ◌||◌ (not_le_test (value-above earlywood i h)) (not_le_test (value-above latewood i h)))

-- ---- the printout

no_low_lines : low_lines (sorted []) ≡ []
unfolding low_lines joined sorted
no_low_lines = refl

module _ (l : Lists) (positive : AllPositive l) where
  abbrev a : Arguments
  a = arguments_of l

  printed : (r : CurveResult) → called a ≡ answer r
      → answer_text r.table a.positions r.values ≡ count_line (length r.table)
      ++ (weight_lines (table_weights 0 r.table) ++ value_lines a.positions r.values)
  unfolding called answer_text
  printed r e =
      let L = answered_calls_are_legal (space_of a) a.coefs a.positions table_cells table_cells value_cells r e in
      let same = answer_unique {a = r} e (legal_calls_answer (space_of a) a.coefs a.positions table_cells table_cells value_cells L) in
      let none : low_positions a.positions r.values ≡ [] = ap (λ q. low_positions a.positions q.values) same
      ∙ no_low (space_of a) a.coefs a.positions L positive in
      ap (λ t. count_line (length r.table) ++ (weight_lines (table_weights 0 r.table) ++ t))
      (ap (λ xs. value_lines a.positions r.values ++ low_lines (sorted xs)) none
      ∙ ap (λ t. value_lines a.positions r.values ++ t) no_low_lines ∙ append-nil (value_lines a.positions r.values))

  outcome-printed : (o : Outcome CurveResult) → called a ≡ o → WithoutLowLines (outcome_text a.positions o)
  unfolding outcome_text
  outcome-printed (answer r) e = answered r.table a.positions r.values (printed r e)
  outcome-printed (refusal code place) e = refused code place refl

pub positive_sheets_have_no_low_lines : PositiveSheetsHaveNoLowLines
unfolding printout read_text
positive_sheets_have_no_low_lines input l e positive = rw e (outcome-printed l positive (called (arguments_of l)) refl)

-- ---- a sheet: one line from 3 to 1 of earlywood and from 4 to 1 of latewood

positive_text : Text
positive_text = lines (
    "breaks=0,10" ∷
    "degrees=1" ∷
    "orders=" ∷
    "coefs=3:4,1:1" ∷
    "at=0,1280,2560" ∷ [])

abbrev positive_lists : Lists
positive_lists = record {
  breaks = pos 0 ∷ pos 10 ∷ [];
  degrees = pos 1 ∷ [];
  orders = [];
  coefs = pair (pos 3) (pos 4) ∷ pair (pos 1) (pos 1) ∷ [];
  positions = pos 0 ∷ pos 1280 ∷ pos 2560 ∷ [];
}

positive_reads : read positive_text ≡ answer positive_lists
unfolding capped cut fields_between stripped all_digits digits_value is_natural numeral entry.pair entries list_of line read_line five_lines read bytes
    lines positive_text
positive_reads = refl

all_positive : AllPositive positive_lists
unfolding side_by_side
all_positive zero h = lt_z_true (pos 0) (pos 3) refl
all_positive (suc zero) h = lt_z_true (pos 0) (pos 4) refl
all_positive (suc (suc zero)) h = lt_z_true (pos 0) (pos 1) refl
all_positive (suc (suc (suc zero))) h = lt_z_true (pos 0) (pos 1) refl
all_positive (suc (suc (suc (suc k)))) h = absurd (omega arith)

positive_sheet : WithoutLowLines (printout positive_text)
positive_sheet = positive_sheets_have_no_low_lines positive_text positive_lists positive_reads all_positive
