-- An accepted sheet leaves of the index call's tests those of the rings alone: how many there are, whether each is in the span, and 14.
use mathlib.Core.Path.{◌≡◌, refl, sym, ◌∙◌, ap, ap₂, subst}
use mathlib.Core.Logic.{◌⊎◌, inl, inr, ◌≢◌}
use mathlib.Core.Bool.{Bool, true, false, not, ◌&&◌, ◌||◌}
use mathlib.Core.List.{List, [], ◌∷◌}
use mathlib.Core.Option.{Option, some, none}
use Prim.Native.Nat.{ℕ, zero, suc, ◌*◌, ◌/◌, ◌<◌, ◌≤◌}
use native.Mathlib.Omega.{arith}
use borrow.Author.Tests.{le-ltb, lt-ltb, eq-eqb}
use lib.IntN.{ℤ, pos}
use lib.ListN.{length}
use lib.Signed.{le_z, ◌≤ℤ◌}
use Rattle.base_exact.specs.Tabulate.{tab}
use Rattle.base_exact.proofs.Decide.{le_or_lt, cond_true, cond_false, fails_false, and-true, not-true, true_not_false}
use Rattle.base_exact.proofs.Word.{le_z_true, le_z_false, le_test, not_le_test}
use Rattle.base_outcome.specs.Outcome.{Outcome, answer, refusal, refuse, capped, largest_place, ◌then◌, with_answer}
use Rattle.base_outcome.specs.Search.{first}
use Rattle.base_outcome.specs.Tests.{between, refuse_first}
use Rattle.base_outcome.proofs.Outcome.{answer_unique, then_answers, then_refuses, capped_small}
use Rattle.base_outcome.proofs.Search.{first-none, first_some_inverts, first_ext}
use Rattle.base_text.specs.Bytes.{Text}
use Rattle.spec_spline.specs.Space.{Space, segments, break, checked_entries, checked, row_count}
use Rattle.spec_spline.specs.Table.{table_cells}
use Rattle.spec_spline.specs.Reading.{fine, values}
use Rattle.spec_spline.specs.CurveCall.{position_limit, bad_coefficient, bad_position, legal_entries}
use Rattle.spec_spline.specs.CurveCall.{CurveResult, curve_checked, curve_read, curve_outcome}
use Rattle.spec_spline.specs.ExactCurve.{Legal}
use Rattle.spec_spline.proofs.Legal.{Checked, accepted-passed}
use Rattle.theorems_values.specs.ValueLimits.{legal_result}
use Rattle.theorems_values.proofs.Fine.{fine_mono, fine_mono_<}
use Rattle.theorems_values.proofs.Segment.{accepted-checked}
use Rattle.theorems_values.proofs.LegalCall.{answered_calls_are_legal}
use Rattle.theorems_indices.proofs.Cells.{exact_length, exact_at}
use Rattle.theorems_indices.proofs.Ring.{absent}
use Rattle.spec_calls.specs.Indices.{ring_positions, ring_width, ring_value, is_absent, is_refused, bad_ring}
use Rattle.spec_calls.specs.Indices.{ring_indices, rings_read, rings_indexed}
use Rattle.spec_tucson.specs.Line.{is_width}
use Rattle.spec_tucson.specs.Series.{Series}
use Rattle.spec_tucson.specs.Writing.{all_widths}
use Rattle.spec_table.specs.RingLines.{lines_of_rings, ring_at, ring_lines}
use Rattle.spec_rings.specs.Ready.{sheet_curve, Ready}
use Rattle.spec_rings.specs.Rings.{indexed_series, series_values, faulty_ring, fault_line, indexed_text, valued_text, series_text}
use Rattle.spec_rings.proofs.Accepted.{accepted}
use Rattle.theorems_tucson.proofs.InDecades.{widths_parts}
use Rattle.theorems_series.specs.SeriesNumbers.{sheet_space, sheet_coefs, index_call, printed, year_of, is_outside, Valued}
use Rattle.theorems_series.specs.SeriesNumbers.{SeriesEnd, answered, many_widths, outside, at_ring}
use Rattle.theorems_series.specs.SeriesNumbers.{SeriesNumbers, EmptySeriesPrintNothing, FourteenIsLow}
use Rattle.theorems_series.proofs.Widths.{widths_in_range}

-- ---- 256 times both numbers compare as the numbers do
fine-test : (x y : ℤ) → le_z (fine x) (fine y) ≡ le_z x y
fine-test x y = go (le_z x y) refl
  where
    go : (b : Bool) → le_z x y ≡ b → le_z (fine x) (fine y) ≡ b
    go true e = le_test (fine_mono x y (le_z_true x y e))
    go false e = not_le_test (fine_mono_< y x (le_z_false x y e))

-- ---- one series under an accepted sheet
module _ (r : Ready) (q : CurveResult) (curve : sheet_curve r.lists ≡ answer q) (s : Series) where
  abbrev space : Space
  space = sheet_space r

  abbrev coefs : List ℤ
  coefs = sheet_coefs r

  abbrev n : ℕ
  n = length s.widths

  abbrev positions : List ℤ
  positions = ring_positions s.first_year n

  sheet : Legal space coefs [] table_cells table_cells 0
  unfolding sheet_curve
  sheet = answered_calls_are_legal space coefs [] table_cells table_cells 0 q curve

  checks : (checked space ≡ answer space) × Checked space
  checks = accepted-checked space sheet.accepted

  count : length positions ≡ n
  count = exact_length s.first_year n

  -- the test of 7, by years
  outside-same : (i : ℕ) → i < n → bad_position space positions i ≡ is_outside r s i
  unfolding bad_position
  outside-same i h =
      ap (λ (x : ℤ). not (between (fine (break space 0)) (fine (break space (segments space))) x)) (exact_at s.first_year n i h)
      ∙ ap₂ (λ (a b : Bool). not (a && b)) (fine-test (break space 0) (year_of s i)) (fine-test (year_of s i) (break space (segments space)))

  first-same : first (length positions) (bad_position space positions) ≡ first n (is_outside r s)
  first-same = ap (λ (m : ℕ). first m (bad_position space positions)) count ∙ first_ext n outside-same

  -- the buffers are long enough
  values_are : series_values space coefs s ≡ (curve_checked space coefs positions then curve_read coefs positions)
  unfolding series_values rings_read curve_outcome
  values_are =
      cond_false (refuse 1 2) _ (le-ltb (2 * n / 2) (length positions) (omega (arith, count)))
      ∙ cond_false (refuse 1 3) _ (le-ltb n n (omega arith))
      ∙ cond_false (refuse 1 2) _ (le-ltb (2 * n / 2) (length positions) (omega (arith, count)))

  -- ---- number 2
  many_values : position_limit < n → series_values space coefs s ≡ refusal 2 1
  unfolding curve_checked capped
  many_values h =
      values_are
      ∙ then_refuses (curve_read coefs positions)
      (cond_true _ (refuse 2 0) checks.1.lengths
      ∙ cond_true (refuse 2 1) _ (lt-ltb position_limit (length positions) (omega (arith, count))))

  -- ---- number 7
  entries_are : checked_entries space ≡ answer space
  unfolding checked
  entries_are = sym (cond_true (checked_entries space) (refuse 2 0) checks.1.lengths) ∙ checks.0

  tested : n ≤ position_limit → curve_checked space coefs positions ≡ refuse_first 7 (first n (is_outside r s)) (answer space)
  unfolding curve_checked
  tested h =
      cond_true _ (refuse 2 0) checks.1.lengths
      ∙ cond_false (refuse 2 1) _ (le-ltb position_limit (length positions) (omega (arith, count)))
      ∙ then_answers (λ legal. legal_entries legal coefs positions (answer legal)) entries_are
      ∙ cond_true _ (refuse 6 largest_place) (eq-eqb (length coefs) (2 * row_count space) sheet.coefficient_count)
      ∙ ap (λ o. refuse_first 6 o (refuse_first 7 (first (length positions) (bad_position space positions)) (answer space)))
      (first-none (bad_coefficient coefs) (length coefs) (λ k l. fails_false _ (sheet.coefficients k l)))
      ∙ ap (λ o. refuse_first 7 o (answer space)) first-same

  outside-values : n ≤ position_limit → (i : ℕ) → i < n → first n (is_outside r s) ≡ some i → series_values space coefs s ≡ refusal 7 i
  outside-values h i l e =
      values_are
      ∙ then_refuses (curve_read coefs positions)
      (tested h ∙ ap (λ o. refuse_first 7 o (answer space)) e ∙ ap (λ (k : ℕ). refusal 7 k) (capped_small i (omega arith)))

  -- ---- the values
  abbrev valued : CurveResult
  valued = legal_result space sheet.accepted coefs positions

  inside-values : n ≤ position_limit → first n (is_outside r s) ≡ none → series_values space coefs s ≡ answer valued
  unfolding curve_read
  inside-values h e =
      values_are
      ∙ then_answers (curve_read coefs positions) (tested h ∙ ap (λ o. refuse_first 7 o (answer space)) e)
      ∙ ap (with_answer (λ t. record { table = t; values = values space t coefs positions }))
      (accepted-passed space sheet.accepted.is).weights_are

  -- ---- the end
  abbrev End : Type 0
  End = SeriesEnd r s (index_call r s) (printed r s)

  put : {o : Outcome (List ℤ)} {t : Text} → index_call r s ≡ o → printed r s ≡ t → SeriesEnd r s o t → End
  put {o} {t} e f x =
      subst (λ (u : Text). SeriesEnd r s (index_call r s) u) (sym f)
      (subst (λ (p : Outcome (List ℤ)). SeriesEnd r s p t) (sym e) x)

  -- refused before the indices
  put_refused : (code place ring : ℕ) → series_values space coefs s ≡ refusal code place → faulty_ring code place ≡ ring
      → SeriesEnd r s (refusal code place) (fault_line s.name (year_of s ring) code) → End
  unfolding series_text valued_text
  put_refused code place ring e f x =
      put (then_refuses (rings_indexed r.wood s.widths) e)
      (ap (valued_text r.wood s) e ∙ ap (λ (k : ℕ). fault_line s.name (year_of s k) code) f) x

  -- with values
  module _ (v : Valued r s valued) where
    abbrev bad : Option ℕ
    bad = first n (bad_ring r.wood s.widths valued.values)

    abbrev found : List ℤ
    found = ring_indices r.wood s.widths valued.values

    indexed_are : (o : Option ℕ) → bad ≡ o → rings_indexed r.wood s.widths valued ≡ refuse_first 14 o (answer found)
    unfolding rings_indexed
    indexed_are o e = ap (λ p. refuse_first 14 p (answer found)) e

    put-indexed : {o : Outcome (List ℤ)} {t : Text} → rings_indexed r.wood s.widths valued ≡ o → indexed_text r.wood s valued o ≡ t
        → SeriesEnd r s o t → End
    unfolding series_text valued_text
    put-indexed e f x =
        put (then_answers (rings_indexed r.wood s.widths) v.values ∙ e)
        (ap (valued_text r.wood s) v.values ∙ ap (indexed_text r.wood s valued) e ∙ f) x

    indexed_end : (o : Option ℕ) → bad ≡ o → End
    unfolding indexed_text faulty_ring
    indexed_end none e = put-indexed (indexed_are none e) refl (answered valued v found (indexed_are none e))
    indexed_end (some i) e =
        let l = (first_some_inverts (bad_ring r.wood s.widths valued.values) n e).below in
        put-indexed (indexed_are (some i) e ∙ ap (λ (k : ℕ). refusal 14 k) (capped_small i (omega (arith, v.few)))) refl
        (at_ring valued v i l e)

  ends : End
  unfolding faulty_ring
  ends = counted (le_or_lt n position_limit)
    where
      searched : n ≤ position_limit → (o : Option ℕ) → first n (is_outside r s) ≡ o → End
      searched h none e = indexed_end (record { few = h; inside = e; values = inside-values h e }) _ refl
      searched h (some i) e =
          let l = (first_some_inverts (is_outside r s) n e).below in put_refused 7 i i (outside-values h i l e) refl (outside h i l e)

      counted : (n ≤ position_limit) ⊎ (position_limit < n) → End
      counted (inl h) = searched h (first n (is_outside r s)) refl
      counted (inr h) = put_refused 2 1 position_limit (many_values h) refl (many_widths h)

pub series-numbers : SeriesNumbers
series-numbers t r e s = let a = accepted t r e in ends r a.result a.curve s

-- ---- a series without widths
no_ends : (r : Ready) (s : Series) (o : Outcome (List ℤ)) (t : Text) → s.widths ≡ [] → SeriesEnd r s o t → (o ≡ answer []) × (t ≡ [])
unfolding rings_indexed ring_indices first tab ring_lines lines_of_rings
no_ends r s o t w (answered v h zs e) = (
  ap answer (answer_unique e (ap (λ (ws : List ℤ). rings_indexed r.wood ws v) w)),
  ap (λ (m : ℕ). lines_of_rings (tab m (ring_at r.wood (indexed_series s v zs)))) (ap length w),
)
no_ends r s o t w (many_widths h) = absurd (omega (arith, ap length w))
no_ends r s o t w (outside h i l e) = absurd (omega (arith, ap length w))
no_ends r s o t w (at_ring v h i l e) = absurd (omega (arith, ap length w))

pub empty-series-print-nothing : EmptySeriesPrintNothing
empty-series-print-nothing t r e s w = no_ends r s (index_call r s) (printed r s) w (series-numbers t r e s)

-- ---- number 14 of a series that is read
width_at : (ws : List ℤ) → all_widths ws ≡ true → (i : ℕ) → i < length ws → is_width (ring_width ws i) ≡ true
width_at [] h i l = absurd (omega arith)
width_at (w ∷ ws) h zero l = (widths_parts w ws h).0
width_at (w ∷ ws) h (suc i) l = width_at ws (widths_parts w ws h).1 i (omega arith)

low : (width value : ℤ) → is_width width ≡ true → is_refused width value ≡ true → (width ≢ pos 0) × (value ≤ℤ pos 0)
unfolding is_width is_refused
low width value w e =
    let by_value = not (is_absent width) && le_z value (pos 0) in
    let parts = and-true (not (is_absent width)) (le_z value (pos 0)) (sym (ap (λ (b : Bool). not b || by_value) w) ∙ e) in
    (λ z. true_not_false (absent width value z) (not-true (is_absent width) parts.0), le_z_true value (pos 0) parts.1)

pub fourteen_is_low : FourteenIsLow
unfolding bad_ring
fourteen_is_low t r e before later s is v i f =
    let h = first_some_inverts (bad_ring r.wood s.widths v.values) (length s.widths) f in
    low (ring_width s.widths i) (ring_value r.wood v.values i)
    (width_at s.widths (widths_in_range t r e before later s is) i h.below) h.meets
