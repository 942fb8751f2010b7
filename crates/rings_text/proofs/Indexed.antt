-- From the index call to the bytes of a series: what it refuses is the one line, what it answers the lines of its rings.
use mathlib.Core.Path.{◌≡◌, refl, sym, ◌∙◌, ap, ap₂}
use mathlib.Core.Bool.{Bool, true, ◌&&◌}
use mathlib.Core.List.{List, [], ◌++◌}
use mathlib.Core.Option.{none}
use Prim.Native.Nat.{ℕ, ◌+◌, ◌*◌, ◌/◌, ◌^◌, ◌<◌, ◌≤◌}
use native.Mathlib.Omega.{arith}
use borrow.Author.Tests.{le-ltb, lt-ltb, le-leb, eq-eqb}
use lib.IntN.{ℤ, pos, nat_abs, ◌+ℤ◌}
use lib.ListN.{length, take, drop, get_or, length-append, get_or-append}
use lib.Seq.{take_at}
use Rattle.std.specs.Prelude.{Err, Ok, Result}
use Rattle.std.specs.Result.{IsOk}
use Rattle.base_outcome.specs.declared.Refusal.{Refusal}
use Rattle.base_outcome.specs.Machine.{refused}
use Rattle.base_exact.proofs.Decide.{cond_true, cond_false, clash}
use Rattle.base_exact.proofs.Tabulate.{tab_length, tab_get_d}
use Rattle.base_exact.proofs.Word.{abs-add}
use Rattle.base_outcome.specs.Outcome.{Outcome, answer, refusal, refuse, capped, ◌then◌, with_answer}
use Rattle.base_outcome.specs.Search.{first}
use Rattle.base_outcome.specs.Machine.{reply}
use Rattle.base_outcome.proofs.Outcome.{answer_unique, answer_not_refusal, then_refuses}
use Rattle.base_outcome.proofs.Search.{first-none_inverts}
use Rattle.base_text.specs.Bytes.{Text}
use Rattle.spec_spline.specs.Space.{Space, lengths_fit}
use Rattle.spec_spline.specs.Table.{table_cells}
use Rattle.spec_spline.specs.Reading.{Wood, wood_index, side_by_side}
use Rattle.spec_spline.specs.CurveCall.{position_limit, CurveResult, curve_checked, curve_read, curve_outcome, values_after}
use Rattle.spec_spline.specs.ExactCurve.{Legal}
use Rattle.spec_spline.proofs.Legal.{refuse_first_inverts}
use Rattle.spec_spline.proofs.Pairs.{side_by_side_length}
use Rattle.spec_calls.specs.Indices.{ring_positions, ring_value, ring_width, index_of, bad_ring, ring_indices, rings_read, rings_indexed, indices_returned, indices_after}
use Rattle.spec_tucson.specs.Line.{name_columns, is_name}
use Rattle.spec_tucson.specs.Series.{Series}
use Rattle.spec_tucson.specs.WriteCall.{text_after}
use Rattle.spec_table.specs.RingLines.{IndexedSeries, ring_lines}
use Rattle.spec_table.specs.RingLinesCall.{ring_lists_fit, ring_lines_outcome, ring_lines_end}
use Rattle.spec_table.proofs.Names.{name-short}
use Rattle.spec_rings.specs.Rings.{indexed_series, series_values, faulty_ring, fault_line, fault_of, indexed_text, valued_text, series_text}
use Rattle.theorems_values.proofs.LegalCall.{answered_calls_are_legal, legal_calls_answer, values_length_lem}
use Rattle.theorems_values.proofs.Cells.{cells_are_close}
use Rattle.theorems_indices.proofs.Cells.{exact_length}
use Rattle.theorems_indices.proofs.Ring.{passes-small}
use Rattle.table_lines.proofs.Rows.{rows_of, ring-lines_are}
use Rattle.rings_read.specs.Machine.{Front}
use Rattle.table_lines.proofs.Call.{wood_two}
use Rattle.rings_text.specs.Printed.{series_limit}
use Rattle.rings_text.proofs.Bounds.{numbers-short, index-size, rows_short}

-- ---- the lines, as the call of the table leaves them
module _ (wood : Wood) (i : IndexedSeries) (fit : ring_lists_fit i ≡ true) (named : is_name i.name ≡ true) (out : List ℕ)
    (room : length (ring_lines wood i) ≤ length out) where
  lines-answer : ring_lines_outcome wood i (length out) ≡ answer (ring_lines wood i)
  unfolding ring_lines_outcome
  lines-answer =
      cond_true _ (refuse 2 0) fit ∙ cond_true _ (refuse 11 0) named ∙ cond_true _ (refuse 1 0) (le-leb (length (ring_lines wood i)) (length out) room)

  module _ (a : Result ℕ Refusal) (replies : reply a ≡ (ring_lines_end wood i out).answers) where
    answered : reply a ≡ answer (length (ring_lines wood i))
    answered = replies ∙ ap (with_answer length) lines-answer

    pub lines_ok : IsOk a
    lines_ok = go a answered
      where
        go : (r : Result ℕ Refusal) {n : ℕ} → reply r ≡ answer n → IsOk r
        go (Ok m) e = refl
        go (Err r) e = clash cc

    pub lines-front : {n : ℕ} {end : List ℕ} → a ≡ Ok n → end ≡ (ring_lines_end wood i out).text → Front (ring_lines wood i) n end
    unfolding text_after
    lines-front {n} {end} v e =
        let k : n ≡ length (ring_lines wood i) = answer_unique (ap reply v) answered in
        let t = ring_lines wood i in
        let whole : end ≡ t ++ drop (length t) out = e ∙ ap (λ o. text_after o out) lines-answer in
        record { fits = omega (arith, k, ap length whole, length-append t (drop (length t) out)); is = ap (take n) whole ∙ take_at t (drop (length t) out) n (sym k) }

-- ---- one series
module _ (wood : Wood) (s : Space) (coefs : List ℤ) (name : Text) (year : ℤ) (widths : List ℤ) where
  abbrev series : Series
  series = record { name = name; first_year = year; widths = widths }

  abbrev n : ℕ
  n = length widths

  abbrev positions : List ℤ
  positions = ring_positions year n

  count : length positions ≡ n
  count = exact_length year n

  -- what the curve call at the rings gives, whatever the buffers, if they are long enough
  abbrev curves : Outcome CurveResult
  curves = curve_checked s coefs positions then curve_read coefs positions

  curves_are : (v : ℕ) → n ≤ v / 2 → curve_outcome s coefs positions table_cells table_cells v ≡ curves
  unfolding curve_outcome
  curves_are v h = cond_false (refuse 1 2) curves (le-ltb (v / 2) (length positions) (omega (arith, count)))

  read_is : (v i : ℕ) → n ≤ v / 2 → n ≤ i → rings_read s coefs year widths table_cells table_cells v i ≡ curves
  unfolding rings_read
  read_is v i h k =
      cond_false (refuse 1 2) _ (le-ltb (v / 2) (length positions) (omega (arith, count)))
      ∙ cond_false (refuse 1 3) _ (le-ltb i n k)
      ∙ curves_are v h

  values_are : series_values s coefs series ≡ curves
  unfolding series_values
  values_are = read_is (2 * n) n (omega arith) (omega arith)

  -- more rings than a call takes
  pub many_text : lengths_fit s ≡ true → position_limit < n → fault_line name (year +ℤ pos position_limit) 2 ≡ series_text wood s coefs series
  unfolding series_text valued_text curve_checked capped faulty_ring
  many_text fit h =
      let e : curves ≡ refusal 2 1 =
      then_refuses (curve_read coefs positions)
      (cond_true _ (refuse 2 0) fit ∙ cond_true (refuse 2 1) _ (lt-ltb position_limit (length positions) (omega (arith, count)))) in
      sym (ap (valued_text wood series) (values_are ∙ e))

  -- the call with the program's buffers
  module _ (few : n ≤ position_limit) (values indices : List ℤ) (lv : length values ≡ 2 * position_limit) (li : length indices ≡ position_limit) where
    abbrev outcome : Outcome CurveResult
    outcome = rings_read s coefs year widths table_cells table_cells (length values) (length indices)

    outcome_is : outcome ≡ curves
    outcome_is = read_is (length values) (length indices) (omega arith) (omega arith)

    text_is : series_text wood s coefs series ≡ valued_text wood series outcome
    unfolding series_text
    text_is = ap (valued_text wood series) (values_are ∙ sym outcome_is)

    module _ (a : Result ℕ Refusal) (replies : reply a ≡ indices_returned (outcome then rings_indexed wood widths)) where
      pub refused_text : {code place : ℕ} → a ≡ Err (refused code place)
          → fault_line name (year +ℤ pos (faulty_ring code place)) code ≡ series_text wood s coefs series
      unfolding valued_text indexed_text
      refused_text {code} {place} v = sym (text_is ∙ go outcome (sym replies ∙ ap reply v))
        where
          indexed : (r : CurveResult) (i : Outcome (List ℤ)) → indices_returned i ≡ refusal code place → indexed_text wood series r i ≡ fault_of series code place
          indexed r (answer zs) e = absurd (answer_not_refusal refl e)
          indexed r (refusal m p) e = let x : m ≡ code = cc in let y : p ≡ place = cc in ap₂ (λ (m p : ℕ). fault_of series m p) x y

          go : (o : Outcome CurveResult) → indices_returned (o then rings_indexed wood widths) ≡ refusal code place → valued_text wood series o ≡ fault_of series code place
          go (answer r) e = indexed r (rings_indexed wood widths r) e
          go (refusal m p) e = let x : m ≡ code = cc in let y : p ≡ place = cc in ap₂ (λ (m p : ℕ). fault_of series m p) x y

      -- What an answered call has worked out.
      pub record Worked : Type 0 where
        pub result : CurveResult
        pub indexed : List ℤ
        pub is : outcome ≡ answer result
        pub indices_are : rings_indexed wood widths result ≡ answer indexed

      pub worked : {m : ℕ} → a ≡ Ok m → Worked
      worked {m} v = go outcome refl (sym replies ∙ ap reply v)
        where
          inner : (r : CurveResult) → outcome ≡ answer r → (i : Outcome (List ℤ)) → rings_indexed wood widths r ≡ i → indices_returned i ≡ answer m → Worked
          inner r e (answer zs) f h = record { result = r; indexed = zs; is = e; indices_are = f }
          inner r e (refusal c p) f h = absurd (answer_not_refusal h refl)

          go : (o : Outcome CurveResult) → outcome ≡ o → indices_returned (o then rings_indexed wood widths) ≡ answer m → Worked
          go (answer r) e h = inner r e (rings_indexed wood widths r) refl h
          go (refusal c p) e h = absurd (answer_not_refusal h refl)

      module _ {m : ℕ} (v : a ≡ Ok m) where
        abbrev r : CurveResult
        r = (worked v).result

        abbrev zs : List ℤ
        zs = (worked v).indexed

        curve_answers : curve_outcome s coefs positions table_cells table_cells (length values) ≡ answer r
        curve_answers = curves_are (length values) (omega arith) ∙ sym outcome_is ∙ (worked v).is

        legal : Legal s coefs positions table_cells table_cells (length values)
        legal = answered_calls_are_legal s coefs positions table_cells table_cells (length values) r curve_answers

        values-count : length r.values ≡ n
        values-count =
            ap (λ (q : CurveResult). length q.values) (answer_unique curve_answers (legal_calls_answer s coefs positions table_cells table_cells (length values) legal))
            ∙ values_length_lem s legal.accepted.table coefs positions ∙ count

        passed : (first n (bad_ring wood widths r.values) ≡ none) × (answer (ring_indices wood widths r.values) ≡ answer zs)
        unfolding rings_indexed
        passed = refuse_first_inverts 14 (first n (bad_ring wood widths r.values)) (answer (ring_indices wood widths r.values)) (worked v).indices_are

        zs_are : ring_indices wood widths r.values ≡ zs
        zs_are = answer_unique refl passed.1

        zs_count : length zs ≡ n
        unfolding ring_indices
        zs_count = ap length (sym zs_are) ∙ tab_length n _

        -- the fronts of the two buffers
        values-front : {after : List ℤ} → after ≡ values_after outcome values → take (2 * n) after ≡ side_by_side r.values
        unfolding values_after
        values-front {after} e =
            ap (take (2 * n)) (e ∙ ap (λ o. values_after o values) (worked v).is)
            ∙ take_at (side_by_side r.values) (drop (2 * length r.values) values) (2 * n) (omega (arith, side_by_side_length r.values, values-count))

        indices_front : {after : List ℤ} → after ≡ indices_after (outcome then rings_indexed wood widths) indices → take n after ≡ zs
        unfolding indices_after
        indices_front {after} e =
            ap (take n) (e ∙ ap (λ o. indices_after (o then rings_indexed wood widths) indices) (worked v).is ∙ ap (λ o. indices_after o indices) (worked v).indices_are)
            ∙ take_at zs (drop (length zs) indices) n zs_count

        abbrev indexed : IndexedSeries
        indexed = indexed_series series r zs

        pub answered_text : ring_lines wood indexed ≡ series_text wood s coefs series
        unfolding valued_text indexed_text
        answered_text = sym (text_is ∙ ap (valued_text wood series) (worked v).is ∙ ap (indexed_text wood series r) (worked v).indices_are)

        -- the lists of the machine are those
        pub machine_lists : {vs is : List ℤ} → vs ≡ values_after outcome values → is ≡ indices_after (outcome then rings_indexed wood widths) indices
            → record { name = name; first_year = year; widths = widths; values = take (2 * n) vs; indices = take n is } ≡ indexed
        machine_lists {vs} {is} e f k = record { name = name; first_year = year; widths = widths; values = values-front e k; indices = indices_front f k }

        pub lists-fit : length name ≡ name_columns → ring_lists_fit indexed ≡ true
        unfolding ring_lists_fit
        lists-fit h =
            ap₂ (λ (a b : Bool). a && b)
            (ap₂ (λ (a b : Bool). a && b) (eq-eqb (length name) name_columns h) (eq-eqb (length zs) n zs_count))
            (eq-eqb (length (side_by_side r.values)) (2 * n) (omega (arith, side_by_side_length r.values, values-count)))

        -- each ring's numbers are small
        width_small : (j : ℕ) → j < n → nat_abs (get_or widths j (pos 0)) ≤ 99999
        unfolding bad_ring
        width_small j h = passes-small (ring_width widths j) (ring_value wood r.values j) (first-none_inverts (bad_ring wood widths r.values) n passed.0 j h)

        value-small : (j : ℕ) → j < n → nat_abs (get_or (side_by_side r.values) (2 * j + wood_index wood) (pos 0)) ≤ 256000000
        unfolding values_after
        value-small j h =
            let i = 2 * j + wood_index wood in
            let rest = drop {A = ℤ} (2 * length r.values) [] in
            omega (
              arith,
              (cells_are_close s coefs positions table_cells table_cells (length values) legal [] j (omega (arith, count)) wood).size,
              ap (λ (o : Outcome CurveResult). nat_abs (get_or (values_after o []) i (pos 0))) curve_answers,
              ap nat_abs (get_or-append (side_by_side r.values) rest (pos 0) i (omega (arith, side_by_side_length r.values, values-count, wood_two wood))),
            )

        index-small : (j : ℕ) → j < n → nat_abs (get_or zs j (pos 0)) < 10 ^ 20
        unfolding ring_indices
        index-small j h =
            omega (
              arith,
              ap (λ (xs : List ℤ). nat_abs (get_or xs j (pos 0))) (sym zs_are),
              ap nat_abs (tab_get_d n (λ i. index_of (ring_width widths i) (ring_value wood r.values i)) j (pos 0) h),
              index-size (ring_width widths j) (ring_value wood r.values j) (width_small j h),
            )

        pub lines-short : length name ≡ name_columns → nat_abs year ≤ 2 ^ 31 → length (ring_lines wood indexed) ≤ series_limit
        lines-short e y =
            omega (
              arith,
              ap length (ring-lines_are wood indexed),
              rows_short (rows_of wood indexed) n (name-short name e) (λ j h. numbers-short _ _ _ _ (omega (arith, abs-add year (pos j))) (width_small j h) (value-small j h) (index-small j h)),
            )
