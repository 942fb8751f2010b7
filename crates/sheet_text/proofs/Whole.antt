-- From the contract of the curve call to the printout of its outcome: a refused call prints its refusal, and an answered one its
-- table, positions and values, with the last part of the table in the buffers.
use mathlib.Core.Path.{◌≡◌, sym, ap, ap₂, ◌∙◌}
use mathlib.Core.List.{List}
use Prim.Native.Nat.{ℕ, ◌*◌, ◌/◌, ◌≤◌}
use native.Mathlib.Omega.{arith}
use lib.IntN.{ℤ}
use lib.ListN.{length, take, drop}
use lib.Seq.{take_at}
use Rattle.base_outcome.specs.Outcome.{answer, refusal}
use Rattle.spec_spline.specs.Space.{row_count}
use Rattle.spec_spline.specs.Table.{Table, table_cells, numerators, denominators}
use Rattle.spec_spline.specs.Build.{space_weights, last_part, numerators_after, denominators_after}
use Rattle.spec_spline.specs.Piecewise.{Accepted}
use Rattle.spec_spline.specs.CurveCall.{CurveResult, returned, curve_numerators, curve_denominators, values_after}
use Rattle.spec_spline.specs.ExactCurve.{Legal}
use Rattle.spec_spline.specs.Reading.{side_by_side}
use Rattle.base_outcome.proofs.Outcome.{answer_unique}
use Rattle.spec_spline.proofs.Pairs.{side_by_side_length}
use Rattle.theorems_values.specs.ValueLimits.{legal_result}
use Rattle.theorems_values.proofs.LegalCall.{answered_calls_are_legal, legal_calls_answer, values_length_lem}
use Rattle.build_cells.proofs.Buffer.{numerators-again, denominators-again, kept-numerators, kept-denominators}
use Rattle.base_outcome.proofs.Reply.{Counted, count_inverts, refused_inverts}
use Rattle.spec_sheet.specs.Printout.{answer_text}
use Rattle.base_print.specs.Refusal.{refusal_line}
use Rattle.spec_sheet.specs.Pairs.{paired}
use Rattle.spec_sheet.proofs.Pairs.{paired-side_by_side}
use Rattle.spec_sheet.specs.Sheet.{Arguments, space_of, value_cells, called, outcome_text, called_text}
use Rattle.sheet_beam.specs.Beam.{table_of, Filled}
use Rattle.sheet_beam.proofs.Beam.{table_is}

-- ---- an answered call

-- Its space is accepted, its table has one row per pair of coefficients, and it has as many values as positions.
pub record Told (l : Arguments) (r : CurveResult) : Type 0 where
  pub accepted : Accepted (space_of l)
  pub table_is : r.table ≡ accepted.table
  pub rows : length l.coefs / 2 ≡ row_count (space_of l)
  pub count : length r.values ≡ length l.positions

module _ (l : Arguments) (r : CurveResult) (e : called l ≡ answer r) where
  legal : Legal (space_of l) l.coefs l.positions table_cells table_cells value_cells
  unfolding called
  legal = answered_calls_are_legal (space_of l) l.coefs l.positions table_cells table_cells value_cells r e

  result : r ≡ legal_result (space_of l) legal.accepted l.coefs l.positions
  unfolding called
  result = answer_unique e (legal_calls_answer (space_of l) l.coefs l.positions table_cells table_cells value_cells legal)

  pub answered_told : Told l r
  answered_told = record {
    accepted = legal.accepted;
    table_is = ap (λ q. q.table) result;
    rows = omega (arith, legal.coefficient_count);
    count = ap (λ q. length q.values) result ∙ values_length_lem (space_of l) legal.accepted.table l.coefs l.positions;
  }

-- ---- the call, as the machine answers it

module _ (l : Arguments) where
  -- a refusal is printed as it is
  pub refused_prints : {code place : ℕ} → refusal code place ≡ returned (called l) → refusal_line code place ≡ called_text l
  unfolding outcome_text
  refused_prints e = ap (outcome_text l.positions) (sym (refused_inverts (λ q. length q.values) (called l) e))

  module _ (n : ℕ) (e : answer n ≡ returned (called l)) where
    counted : Counted (λ q. length q.values) (called l) n
    counted = count_inverts (λ q. length q.values) (called l) e

    told : Told l counted.result
    told = answered_told l counted.result counted.is

    pub count_positions : n ≡ length l.positions
    count_positions = counted.count ∙ told.count

    -- the part of the values' buffer up to twice the count
    values-part : (before : List ℤ) → take (2 * n) (values_after (called l) before) ≡ side_by_side counted.result.values
    unfolding values_after
    values-part before =
        let us = counted.result.values in
        ap (λ o. take (2 * n) (values_after o before)) counted.is
        ∙ take_at (side_by_side us) (drop (2 * length us) before) (2 * n) (side_by_side_length us ∙ ap (λ k. 2 * k) (sym counted.count))

    pub values_enough : (before : List ℤ) → length l.positions ≤ length (take (2 * n) (values_after (called l) before)) / 2
    values_enough before = omega (arith, ap length (values-part before), side_by_side_length counted.result.values, told.count)

    -- the buffers hold the last part
    held : Table
    held = last_part (space_of l) told.accepted.table

    numerators_are : (before : List ℤ) → curve_numerators (space_of l) (called l) before ≡ numerators held before
    unfolding numerators_after held
    numerators_are before = ap (λ o. curve_numerators (space_of l) o before) counted.is ∙ ap (λ t. numerators (last_part (space_of l) t) before) told.table_is

    denominators_are : (before : List ℤ) → curve_denominators (space_of l) (called l) before ≡ denominators held before
    unfolding denominators_after held
    denominators_are before = ap (λ o. curve_denominators (space_of l) o before) counted.is
        ∙ ap (λ t. denominators (last_part (space_of l) t) before) told.table_is

    pub answered_filled : (num den : List ℤ) {num' den' : List ℤ} → table_cells ≤ length num → table_cells ≤ length den
        → num' ≡ curve_numerators (space_of l) (called l) num → den' ≡ curve_denominators (space_of l) (called l) den
        → Filled (space_of l) (length l.coefs / 2) num' den'
    unfolding held
    answered_filled num den {num'} {den'} x y p q =
        let e : num' ≡ numerators held num = p ∙ numerators_are num in
        let f : den' ≡ denominators held den = q ∙ denominators_are den in
        record {
          accepted = told.accepted;
          rows = told.rows;
          num_long = omega (arith, ap length e, (kept-numerators held num x).long);
          den_long = omega (arith, ap length f, (kept-denominators held den y).long);
          num_is = e ∙ sym (ap (numerators held) e ∙ numerators-again held held num);
          den_is = f ∙ sym (ap (denominators held) f ∙ denominators-again held held den);
        }

    -- an answer is printed from its table and its values
    pub answered_prints : (vs : List ℤ) {vs' : List ℤ} → vs' ≡ values_after (called l) vs
        → answer_text (table_of (space_weights (space_of l))) l.positions (paired (take (2 * n) vs')) ≡ called_text l
    unfolding outcome_text
    answered_prints vs s =
        ap₂ (λ t us. answer_text t l.positions us)
        (table_is (space_of l) told.accepted ∙ sym told.table_is)
        (ap paired (ap (take (2 * n)) s ∙ values-part vs) ∙ paired-side_by_side counted.result.values)
        ∙ ap (outcome_text l.positions) (sym counted.is)
