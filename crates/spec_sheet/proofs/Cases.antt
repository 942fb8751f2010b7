-- The sheets of W1 and W9 in three steps each: the text is read by computation, the call on the five lists is crate spec_spline's
-- case, and what it shows is printed by computation.
use mathlib.Core.List.{List, [], ◌∷◌, ◌++◌}
use mathlib.Core.Path.{◌≡◌, refl, ap, ◌∙◌}
use Prim.Native.Nat.{ℕ}
use lib.IntN.{ℤ, pos, negsuc}
use Rattle.base_exact.proofs.Decide.{clash}
use Rattle.base_outcome.specs.Outcome.{Outcome, answer, refusal, capped, with_answer}
use Rattle.spec_spline.specs.Listing.{Weight}
use Rattle.spec_spline.specs.CurveCall.{CurveResult, curve_outcome}
use Rattle.spec_spline.specs.Cases.{Answered, for_both, shown, answers, weights1, weights9, outcome, cases}
use Rattle.spec_spline.proofs.Cases.{every_case_holds}
use Rattle.base_sorting.specs.Sorted.{inserted, sorted}
use Rattle.base_print.specs.Refusal.{refusal_line}
use Rattle.base_text.specs.Bytes.{bytes, lines, cut, fields_between, stripped}
use Rattle.base_text.specs.Numeral.{all_digits, digits_value, is_natural, numeral, digits_up_to, digits, decimal}
use Rattle.spec_sheet.specs.SheetReading.{pair, entries, list_of, line, read_line, Lists, five_lines, read}
use Rattle.spec_sheet.specs.Printout.{joined, count_line, weight_line, weight_lines, value_line, value_lines, is_low, low_positions, low_line, low_lines, answer_text}
use Rattle.spec_sheet.specs.Sheet.{arguments_of, called, outcome_text, read_text, printout}
use Rattle.spec_sheet.specs.Cases.{w1_text, w1_printout, w9_text, w9_printout, SheetCasesHold}

-- what a call shows is what is printed
module _ (xs : List ℤ) (n : ℕ) (ws : List Weight) (vs : List ℤ) where
  shown_prints : (o : Outcome CurveResult) → with_answer (λ r. shown r.table r.values) o ≡ answers n ws vs
      → outcome_text xs o ≡ count_line n ++ (weight_lines ws ++ (value_lines xs (for_both vs) ++ low_lines (sorted (low_positions xs (for_both vs)))))
  unfolding outcome_text answer_text
  shown_prints (answer r) e =
      let same : shown r.table r.values ≡ record { rows = n; weights = ws; values = for_both vs } = cc in
      ap (λ (a : Answered). count_line a.rows
      ++ (weight_lines a.weights ++ (value_lines xs a.values ++ low_lines (sorted (low_positions xs a.values))))) same
  shown_prints (refusal code place) e = clash cc

-- ---- W1

-- its five lists, and its values
abbrev w1 : Lists
w1 = record {
  breaks = pos 0 ∷ pos 1 ∷ pos 3 ∷ [];
  degrees = pos 2 ∷ pos 2 ∷ [];
  orders = pos 1 ∷ [];
  coefs = for_both (pos 0 ∷ pos 100 ∷ pos 0 ∷ pos 0 ∷ []);
  positions = pos 256 ∷ pos 512 ∷ [];
}

abbrev w1_values : List ℤ
w1_values = pos 17067 ∷ pos 4267 ∷ []

w1_reads : read w1_text ≡ answer w1
unfolding capped cut fields_between stripped all_digits digits_value is_natural numeral pair entries list_of line read_line five_lines read bytes lines w1_text
w1_reads = refl

-- a values buffer that is longer than the positions need changes nothing
w1_called : with_answer (λ r. shown r.table r.values) (called (arguments_of w1)) ≡ answers 4 weights1 w1_values
unfolding called curve_outcome outcome cases
w1_called = every_case_holds.0

w1_printed : count_line 4
    ++ (weight_lines weights1
    ++ (value_lines w1.positions (for_both w1_values) ++ low_lines (sorted (low_positions w1.positions (for_both w1_values))))) ≡ w1_printout
unfolding joined count_line weight_line weight_lines value_line value_lines is_low low_positions low_line low_lines inserted sorted digits_up_to digits decimal
    bytes lines w1_printout
w1_printed = refl

-- ---- W9

abbrev w9 : Lists
w9 = record {
  breaks = pos 0 ∷ pos 1 ∷ pos 2 ∷ [];
  degrees = pos 1 ∷ pos 1 ∷ [];
  orders = negsuc 0 ∷ [];
  coefs = for_both (pos 0 ∷ pos 10 ∷ pos 20 ∷ pos 30 ∷ []);
  positions = pos 256 ∷ [];
}

abbrev w9_values : List ℤ
w9_values = pos 2560 ∷ []

w9_reads : read w9_text ≡ answer w9
unfolding capped cut fields_between stripped all_digits digits_value is_natural numeral pair entries list_of line read_line five_lines read bytes lines w9_text
w9_reads = refl

w9_called : with_answer (λ r. shown r.table r.values) (called (arguments_of w9)) ≡ answers 4 weights9 w9_values
unfolding called curve_outcome outcome cases
w9_called = every_case_holds.1.1.1.1.1.1.1.1.1.1.0

w9_printed : count_line 4
    ++ (weight_lines weights9
    ++ (value_lines w9.positions (for_both w9_values) ++ low_lines (sorted (low_positions w9.positions (for_both w9_values))))) ≡ w9_printout
unfolding joined count_line weight_line weight_lines value_line value_lines is_low low_positions low_line low_lines inserted sorted digits_up_to digits decimal
    bytes lines w9_printout
w9_printed = refl

-- a refusal prints its one line, whatever the positions
refused_prints : outcome_text (pos 256 ∷ []) (refusal 7 0) ≡ lines ("no=7,0" ∷ [])
unfolding outcome_text refusal_line digits_up_to digits decimal bytes lines
refused_prints = refl

-- From the text of each sheet to the text of its printout.
pub sheet_cases_hold : SheetCasesHold
unfolding printout read_text
sheet_cases_hold = (
  ap read_text w1_reads ∙ shown_prints _ 4 weights1 w1_values (called (arguments_of w1)) w1_called ∙ w1_printed,
  ap read_text w9_reads ∙ shown_prints _ 4 weights9 w9_values (called (arguments_of w9)) w9_called ∙ w9_printed,
)
