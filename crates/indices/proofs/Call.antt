-- What the call ends with, case by case, and what the machine answers and leaves in each.
use mathlib.Core.Path.{◌≡◌, refl, sym, ◌∙◌, ap, ap₂}
use mathlib.Core.Bool.{false}
use mathlib.Core.List.{List, []}
use mathlib.Core.Option.{Option, some, none}
use Prim.Native.Nat.{ℕ, ◌*◌, ◌/◌, ◌<◌, ◌≤◌}
use native.Mathlib.Omega.{arith}
use borrow.Author.Tests.{lt-ltb, le-ltb}
use lib.IntN.{ℤ}
use lib.ListN.{length}
use Rattle.std.specs.Prelude.{Err, Result}
use Rattle.base_outcome.specs.declared.Refusal.{Refusal}
use Rattle.base_outcome.specs.Machine.{refused}
use Rattle.base_exact.specs.Tabulate.{tab}
use Rattle.base_exact.proofs.Decide.{cond_true, cond_false, clash}
use Rattle.base_exact.proofs.Tabulate.{tab_ext}
use Rattle.base_outcome.specs.Outcome.{Outcome, answer, refusal, capped, ◌then◌}
use Rattle.base_outcome.specs.Search.{first}
use Rattle.spec_spline.specs.Space.{Space}
use Rattle.base_outcome.specs.Tests.{refuse_first}
use Rattle.spec_spline.specs.Table.{table_cells, numerators, denominators}
use Rattle.spec_spline.specs.Build.{numerators_after, denominators_after}
use Rattle.spec_spline.specs.Reading.{Wood, wood_index}
use Rattle.spec_spline.specs.CurveCall.{CurveResult, position_limit, curve_outcome, curve_numerators, curve_denominators, values_after}
use Rattle.base_outcome.proofs.Machine.{first_passes, first_stops}
use Rattle.base_outcome.proofs.Outcome.{then_answers, answer_unique}
use Rattle.base_outcome.proofs.Search.{first_ext, first-none_inverts}
use Rattle.spec_spline.proofs.Pairs.{length_pairs}
use Rattle.spec_spline.proofs.Build.{long-enough}
use Rattle.theorems_values.proofs.LegalCall.{answered_calls_are_legal, legal_calls_answer, values_length_lem}
use Rattle.spec_calls.specs.Indices.{ring_positions, ring_width, is_refused, bad_ring, index_of, ring_indices, rings_read, rings_indexed}
use Rattle.spec_calls.specs.Indices.{indices_returned, indices_after}
use Rattle.theorems_indices.proofs.Cells.{value_cell_lem, exact_length}
use Rattle.base_outcome.specs.Machine.{reply}
use Rattle.indices.specs.Machine.{cells_indexed, Indexed}
use Rattle.indices.specs.Words.{word_positions, rings_taken}
use Rattle.indices_rings.specs.Cells.{bad_cell, cell_index}
use Rattle.indices.proofs.Positions.{words_length, outcome-same}

-- ---- code 14 and the indices by the cells

module _ (widths cells : List ℤ) (offset : ℕ) where
  abbrev sought : Option ℕ
  sought = first (length widths) (bad_cell widths cells offset)

  abbrev each : List ℤ
  each = tab (length widths) (cell_index widths cells offset)

  pub cells_refused : {code place : ℕ} → refusal code place ≡ refuse_first 14 sought (answer (tt {0}))
      → cells_indexed widths cells offset ≡ refusal code place
  unfolding cells_indexed
  cells_refused e = first_stops 14 sought (answer each) e

  pub cells_answered : answer (tt {0}) ≡ refuse_first 14 sought (answer (tt {0})) → cells_indexed widths cells offset ≡ answer each
  unfolding cells_indexed
  cells_answered e = first_passes 14 sought (answer each) e

  -- no ring is refused
  pub cells_good : answer (tt {0}) ≡ refuse_first 14 sought (answer (tt {0})) → (i : ℕ) → i < length widths → bad_cell widths cells offset i ≡ false
  cells_good e = first-none_inverts (bad_cell widths cells offset) (length widths) (none_found sought e)
    where
      none_found : (o : Option ℕ) → answer (tt {0}) ≡ refuse_first 14 o (answer (tt {0})) → o ≡ none
      none_found none e = refl
      none_found (some i) e = clash cc

-- by the values, where the cells hold them
module _ (wood : Wood) (widths : List ℤ) (r : CurveResult) (before : List ℤ) (count : length r.values ≡ length widths) where
  abbrev cells_after : List ℤ
  cells_after = values_after (answer r) before

  pub indexed_by_cells : cells_indexed widths cells_after (wood_index wood) ≡ rings_indexed wood widths r
  unfolding cells_indexed rings_indexed bad_cell bad_ring cell_index ring_indices
  indexed_by_cells = ap₂ (λ (o : Option ℕ) (zs : List ℤ). refuse_first 14 o (answer zs))
      (first_ext (length widths) (λ i h. ap (is_refused (ring_width widths i)) (value_cell_lem wood widths r before count i h)))
      (tab_ext (length widths) (λ i h. ap (index_of (ring_width widths i)) (value_cell_lem wood widths r before count i h)))

-- ---- what a call answers and leaves, by its outcome

pub record Ends (s : Space) (wood : Wood) (widths : List ℤ) (o : Outcome CurveResult) (r : Result ℕ Refusal) (num den vs is num' den' vs' is' : List ℤ) : Type 0 where
  pub answers : reply r ≡ indices_returned (o then rings_indexed wood widths)
  pub numerators_are : num' ≡ curve_numerators s o num
  pub denominators_are : den' ≡ curve_denominators s o den
  pub values_are : vs' ≡ values_after o vs
  pub indices_are : is' ≡ indices_after (o then rings_indexed wood widths) is

-- as the contract says it
pub ended : {s : Space} {wood : Wood} {widths : List ℤ} {o : Outcome CurveResult} {r : Result ℕ Refusal} {num den vs is num' den' vs' is' : List ℤ}
    → Ends s wood widths o r num den vs is num' den' vs' is'
    → (reply r ≡ indices_returned (o then rings_indexed wood widths)) × ((num' ≡ curve_numerators s o num)
    × ((den' ≡ curve_denominators s o den) × ((vs' ≡ values_after o vs) × (is' ≡ indices_after (o then rings_indexed wood widths) is))))
ended e = (e.answers, (e.numerators_are, (e.denominators_are, (e.values_are, e.indices_are))))

module _ (s : Space) (wood : Wood) (widths : List ℤ) {o : Outcome CurveResult} (num den vs is : List ℤ) where
  -- a refusal of the curve call: the buffers as it leaves them, the indices as they were
  pub ends_refused : {code place : ℕ} {num' den' vs' : List ℤ} → o ≡ refusal code place → num' ≡ curve_numerators s o num
      → den' ≡ curve_denominators s o den → vs' ≡ values_after o vs
      → Ends s wood widths o (Err (refused code place)) num den vs is num' den' vs' is
  unfolding indices_after
  ends_refused e p q w = record {
    answers = sym (ap (λ x. indices_returned (x then rings_indexed wood widths)) e);
    numerators_are = p;
    denominators_are = q;
    values_are = w;
    indices_are = sym (ap (λ x. indices_after (x then rings_indexed wood widths) is) e);
  }

  -- code 1 leaves all
  pub ends_unchanged : {place : ℕ} → o ≡ refusal 1 place → Ends s wood widths o (Err (refused 1 place)) num den vs is num den vs is
  unfolding numerators_after denominators_after values_after
  ends_unchanged e = ends_refused e
      (sym (ap (λ x. curve_numerators s x num) e ∙ cond_false (numerators [] num) num refl))
      (sym (ap (λ x. curve_denominators s x den) e ∙ cond_false (denominators [] den) den refl)) (sym (ap (λ x. values_after x vs) e))

  -- an answer of the curve call: code 14 or the indices, by the cells after it
  pub ends-indexed : {r : CurveResult} {a : Result ℕ Refusal} {num' den' vs' is' : List ℤ} → o ≡ answer r → length r.values ≡ length widths
      → num' ≡ curve_numerators s o num → den' ≡ curve_denominators s o den → vs' ≡ values_after o vs
      → Indexed (cells_indexed widths vs' (wood_index wood)) a is is'
      → Ends s wood widths o a num den vs is num' den' vs' is'
  ends-indexed {r} {vs' = vs'} e count p q w x =
      let same : cells_indexed widths vs' (wood_index wood) ≡ (o then rings_indexed wood widths)
      = ap (λ (l : List ℤ). cells_indexed widths l (wood_index wood)) (w ∙ ap (λ z. values_after z vs) e)
      ∙ indexed_by_cells wood widths r vs count ∙ sym (then_answers (rings_indexed wood widths) e) in
      record {
        answers = x.answers ∙ ap indices_returned same;
        numerators_are = p;
        denominators_are = q;
        values_are = w;
        indices_are = x.indices_are ∙ ap (λ z. indices_after z is) same;
      }

-- ---- the call's outcome

-- What a call is given: the curve's lists, the rings, and how many cells each buffer has.
pub record Given : Type 0 where
  pub lists : Space
  pub coefs : List ℤ
  pub first_ring : ℤ
  pub widths : List ℤ
  pub num_length : ℕ
  pub den_length : ℕ
  pub values_length : ℕ
  pub indices_length : ℕ

-- What reading the rings ends with.
abbrev pub outcome_of : Given → Outcome CurveResult
outcome_of g = rings_read g.lists g.coefs g.first_ring g.widths g.num_length g.den_length g.values_length g.indices_length

module _ (g : Given) where
  abbrev first_ring : ℤ
  first_ring = g.first_ring

  abbrev widths : List ℤ
  widths = g.widths

  abbrev outcome : Outcome CurveResult
  outcome = outcome_of g

  abbrev handed : Outcome CurveResult
  handed = curve_outcome g.lists g.coefs (word_positions first_ring (rings_taken (length widths))) g.num_length g.den_length g.values_length

  pub first_short : g.num_length < table_cells → outcome ≡ refusal 1 0
  unfolding rings_read capped
  first_short h = cond_true _ _ (lt-ltb g.num_length table_cells h)

  pub second_short : table_cells ≤ g.num_length → g.den_length < table_cells → outcome ≡ refusal 1 1
  unfolding rings_read capped
  second_short h k = cond_false _ _ (le-ltb g.num_length table_cells h) ∙ cond_true _ _ (lt-ltb g.den_length table_cells k)

  module _ (h : table_cells ≤ g.num_length) (k : table_cells ≤ g.den_length) where
    pub third_short : g.values_length / 2 < length widths → outcome ≡ refusal 1 2
    unfolding rings_read capped
    third_short l =
        long-enough g.num_length g.den_length _ h k
        ∙ cond_true _ _
        (lt-ltb (g.values_length / 2) (length (ring_positions first_ring (length widths))) (rw (exact_length first_ring (length widths)) l))

    module _ (l : length widths ≤ g.values_length / 2) where
      pub fourth_short : g.indices_length < length widths → outcome ≡ refusal 1 3
      unfolding rings_read capped
      fourth_short m =
          long-enough g.num_length g.den_length _ h k
          ∙ cond_false _ _ (le-ltb (g.values_length / 2) (length (ring_positions first_ring (length widths))) (rw (exact_length first_ring (length widths)) l))
          ∙ cond_true _ _ (lt-ltb g.indices_length (length widths) m)

      pub handed_on : length widths ≤ g.indices_length → handed ≡ outcome
      unfolding rings_read
      handed_on m =
          outcome-same g.lists g.coefs first_ring (length widths) g.num_length g.den_length g.values_length h k l
          ∙ sym (long-enough g.num_length g.den_length _ h k
          ∙ cond_false _ _ (le-ltb (g.values_length / 2) (length (ring_positions first_ring (length widths))) (rw (exact_length first_ring (length widths)) l))
          ∙ cond_false _ _ (le-ltb g.indices_length (length widths) m))

  -- an answer has a pair for each ring
  pub rings_answered : {r : CurveResult} → handed ≡ answer r → (length widths ≤ position_limit) × (length r.values ≡ length widths)
  rings_answered {r} e =
      let p = word_positions first_ring (rings_taken (length widths)) in
      let l = answered_calls_are_legal g.lists g.coefs p g.num_length g.den_length g.values_length r e in
      let few : rings_taken (length widths) ≤ position_limit = rw (words_length first_ring (rings_taken (length widths))) at l.position_count in
      let same = answer_unique e (legal_calls_answer g.lists g.coefs p g.num_length g.den_length g.values_length l) in
      let count : length r.values ≡ rings_taken (length widths) =
      ap (λ q. length q.values) same ∙ values_length_lem g.lists l.accepted.table g.coefs p ∙ words_length first_ring (rings_taken (length widths)) in
      (omega arith, count ∙ omega arith)

-- the values' buffer is as long as it was
pub values-kept : (r : CurveResult) (before : List ℤ) → 2 * length r.values ≤ length before → length (values_after (answer r) before) ≡ length before
unfolding values_after
values-kept r before h = length_pairs r.values before h
