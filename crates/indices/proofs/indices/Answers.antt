-- Code 1 in the order of its places, what the curve call promises, and then code 14 or the indices.
use Rattle.std.proofs.Common.{◌≡◌, ◌∙◌, ℕ, ◌*◌, ◌/◌, ◌≤◌, List, ℤ, pos, length, take, sym, ap, ap₂, arith, Result, Ok, Err}
use Rattle.std.proofs.lemmas.Result.{err_from_is_err_and}
use lib.ListN.{replicate}
use lib.Seq.{length-take-le}
use mir.Syntax.{w32}
use mir.Val.{of_z, to_z, SFits}
use mir.ValLaws.{to_z-of_z}
use Rattle.base_outcome.specs.declared.Refusal.{Refusal}
use Rattle.base_outcome.specs.Machine.{reply, refused}
use Rattle.base_outcome.specs.Outcome.{Outcome, refusal}
use Rattle.base_outcome.proofs.Machine.{passed_on}
use Rattle.base_outcome.proofs.Reply.{Counted, count_inverts, refused_inverts}
use Rattle.build_space.specs.Machine.{space}
use Rattle.curve_ordinates.specs.Wood.{wood_of}
use Rattle.spec_spline.specs.Space.{Space}
use Rattle.spec_spline.specs.Table.{table_cells}
use Rattle.spec_spline.specs.Reading.{Wood, wood_index}
use Rattle.spec_spline.specs.CurveCall.{CurveResult, position_limit, curve_outcome, curve_end, returned, curve_numerators, curve_denominators, values_after}
use Rattle.spec_spline.proofs.Pairs.{half_le}
use Rattle.indices.specs.Machine.{cells_indexed, IndexAsks, Indexed, CurveLeaves}
use Rattle.indices.specs.Words.{word_positions, rings_taken}
use Rattle.indices.proofs.Call.{Ends, ended, Given, outcome_of, ends_refused, ends_unchanged, ends-indexed, first_short, second_short}
use Rattle.indices.proofs.Call.{third_short, fourth_short, handed_on, rings_answered, values-kept}
use Rattle.indices.proofs.indices.Goals as goal

-- the part of the array that is handed on
room : {r : ℕ} (n : ℕ) → r ≡ rings_taken n → length (take r (replicate 4097 (pos 0))) ≡ r
room {r} n e = length-take-le r (replicate 4097 (pos 0)) (omega arith)

abbrev value_count : CurveResult → ℕ
value_count r = length r.values

module _ (wood : Wood) (s : Space) (coefs : List ℤ) (first : ℤ) (widths num den vs is : List ℤ) where
  abbrev given : Given
  given = record {
    lists = s;
    coefs = coefs;
    first_ring = first;
    widths = widths;
    num_length = length num;
    den_length = length den;
    values_length = length vs;
    indices_length = length is;
  }

  abbrev outcome : Outcome CurveResult
  outcome = outcome_of given

  unchanged : {place : ℕ} → outcome ≡ refusal 1 place → Ends s wood widths outcome (Err (refused 1 place)) num den vs is num den vs is
  unchanged = ends_unchanged s wood widths num den vs is

  -- where the buffers are long enough, and the rings have been read
  module _ (num_long : table_cells ≤ length num) (den_long : table_cells ≤ length den) (pairs : length widths ≤ length vs / 2)
      (each : length widths ≤ length is) (fits : SFits w32 first) {n : ℕ} (taken : n ≡ rings_taken (length widths))
      {r : Result ℕ Refusal} {num' den' vs' : List ℤ}
      (read : CurveLeaves (curve_end s coefs (word_positions (to_z w32 (of_z w32 first)) (length (take n (replicate 4097 (pos 0))))) num den vs)
      r num' den' vs') where
    abbrev at : List ℤ → Outcome CurveResult
    at p = curve_outcome s coefs p (length num) (length den) (length vs)

    same : at (word_positions first (rings_taken (length widths))) ≡ outcome
    same = handed_on given num_long den_long pairs each

    -- the curve call's end at the positions that were handed on is the outcome's
    read_is : at (word_positions (to_z w32 (of_z w32 first)) (length (take n (replicate 4097 (pos 0))))) ≡ outcome
    read_is = ap at (ap₂ word_positions (to_z-of_z w32 first fits) (room _ taken ∙ taken)) ∙ same

    answers_are : reply r ≡ returned outcome
    answers_are = read.answers ∙ ap returned read_is

    numerators_are : num' ≡ curve_numerators s outcome num
    numerators_are = read.numerators_are ∙ ap (λ o. curve_numerators s o num) read_is

    denominators_are : den' ≡ curve_denominators s outcome den
    denominators_are = read.denominators_are ∙ ap (λ o. curve_denominators s o den) read_is

    values_are : vs' ≡ values_after outcome vs
    values_are = read.values_are ∙ ap (λ o. values_after o vs) read_is

    ends_read : {e : Refusal} → r ≡ Err e → Ends s wood widths outcome (Err e) num den vs is num' den' vs' is
    ends_read v =
        ends_refused s wood widths num den vs is
        (refused_inverts value_count outcome (sym (ap reply v) ∙ answers_are)) numerators_are denominators_are values_are

    module _ {m : ℕ} (v : r ≡ Ok m) where
      counted : Counted value_count outcome m
      counted = count_inverts value_count outcome (sym (ap reply v) ∙ answers_are)

      answered : (length widths ≤ position_limit) × (length counted.result.values ≡ length widths)
      answered = rings_answered given (same ∙ counted.is)

      asks : IndexAsks widths vs' is
      asks =
          let double : 2 * length widths ≤ length vs = half_le _ _ pairs in
          let long : length vs' ≡ length vs = ap length (values_are ∙ ap (λ o. values_after o vs) counted.is)
          ∙ values-kept counted.result vs (omega (arith, answered.1, double)) in
          record { valued = omega (arith, long, double); room = each; few = answered.0 }

      ends_answered : {a : Result ℕ Refusal} {is' : List ℤ} → Indexed (cells_indexed widths vs' (wood_index wood)) a is is'
          → Ends s wood widths outcome a num den vs is num' den' vs' is'
      ends_answered i =
          ends-indexed s wood widths num den vs is counted.is answered.1 numerators_are denominators_are values_are i

pub returns-then-num-lt-TABLE_CELLS : goal.returns-then-num-lt-TABLE_CELLS
returns-then-num-lt-TABLE_CELLS c =
    let a = c.args in
    let s : Space = space a.breaks.now a.degrees.now a.orders.now in
    ended (unchanged (wood_of a.wood) s a.coefs.now a.first a.widths.now a.num.now a.den.now a.values.now a.indices.now
    (first_short (given (wood_of a.wood) s a.coefs.now a.first a.widths.now a.num.now a.den.now a.values.now a.indices.now)
    c.if-num-lt-TABLE_CELLS.true))

pub returns-then-den-lt-TABLE_CELLS : goal.returns-then-den-lt-TABLE_CELLS
returns-then-den-lt-TABLE_CELLS c =
    let a = c.args in
    let s : Space = space a.breaks.now a.degrees.now a.orders.now in
    ended (unchanged (wood_of a.wood) s a.coefs.now a.first a.widths.now a.num.now a.den.now a.values.now a.indices.now
    (second_short (given (wood_of a.wood) s a.coefs.now a.first a.widths.now a.num.now a.den.now a.values.now a.indices.now)
    c.if-num-lt-TABLE_CELLS.false c.if-den-lt-TABLE_CELLS.true))

pub returns-then-values-widths : goal.returns-then-values-widths
returns-then-values-widths c =
    let a = c.args in
    let s : Space = space a.breaks.now a.degrees.now a.orders.now in
    ended (unchanged (wood_of a.wood) s a.coefs.now a.first a.widths.now a.num.now a.den.now a.values.now a.indices.now
    (third_short (given (wood_of a.wood) s a.coefs.now a.first a.widths.now a.num.now a.den.now a.values.now a.indices.now)
    c.if-num-lt-TABLE_CELLS.false c.if-den-lt-TABLE_CELLS.false c.if-values-widths.true))

pub returns-then-indices-widths : goal.returns-then-indices-widths
returns-then-indices-widths c =
    let a = c.args in
    let s : Space = space a.breaks.now a.degrees.now a.orders.now in
    ended (unchanged (wood_of a.wood) s a.coefs.now a.first a.widths.now a.num.now a.den.now a.values.now a.indices.now
    (fourth_short (given (wood_of a.wood) s a.coefs.now a.first a.widths.now a.num.now a.den.now a.values.now a.indices.now)
    c.if-num-lt-TABLE_CELLS.false c.if-den-lt-TABLE_CELLS.false c.if-values-widths.false c.if-indices-widths.true))

pub returns-in_err-read_rings : goal.returns-in_err-read_rings
returns-in_err-read_rings c =
    let a = c.args in
    let s : Space = space a.breaks.now a.degrees.now a.orders.now in
    let e = ended (ends_read (wood_of a.wood) s a.coefs.now a.first a.widths.now a.num.now a.den.now a.values.now a.indices.now
    c.if-num-lt-TABLE_CELLS.false c.if-den-lt-TABLE_CELLS.false c.if-values-widths.false c.if-indices-widths.false c.ranges.first
    c.rings_taken-n.ensures c.read_rings.ensures c.in_err-read_rings.was) in
    (passed_on (err_from_is_err_and c.from_residual.result c.from_residual.ensures.1) ∙ e.0, e.1)

pub index_rings-requires : goal.index_rings-requires
index_rings-requires c =
    let a = c.args in
    let s : Space = space a.breaks.now a.degrees.now a.orders.now in
    asks (wood_of a.wood) s a.coefs.now a.first a.widths.now a.num.now a.den.now a.values.now a.indices.now
    c.if-num-lt-TABLE_CELLS.false c.if-den-lt-TABLE_CELLS.false c.if-values-widths.false c.if-indices-widths.false c.ranges.first
    c.rings_taken-n.ensures c.read_rings.ensures c.in_ok-read_rings.was

pub returns : goal.returns
returns c =
    let a = c.args in
    let s : Space = space a.breaks.now a.degrees.now a.orders.now in
    ended (ends_answered (wood_of a.wood) s a.coefs.now a.first a.widths.now a.num.now a.den.now a.values.now a.indices.now
    c.if-num-lt-TABLE_CELLS.false c.if-den-lt-TABLE_CELLS.false c.if-values-widths.false c.if-indices-widths.false c.ranges.first
    c.rings_taken-n.ensures c.read_rings.ensures c.in_ok-read_rings.was c.index_rings.ensures)
