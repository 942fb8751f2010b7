-- The theorems on ring indices: from what the call ends with, through the curve call's values, to the bounds on an index.
use mathlib.Core.Path.{◌≡◌, refl, sym, ◌∙◌, ap, ap₂, subst}
use mathlib.Core.Logic.{◌≢◌, ◌⊎◌, inl, inr}
use mathlib.Core.Bool.{Bool, true, false, cond}
use mathlib.Core.List.{List, [], ◌∷◌, ◌++◌}
use mathlib.Core.Option.{Option, some, none}
use Prim.Native.Nat.{ℕ, ◌+◌, ◌*◌, ◌/◌, ◌<◌, ◌≤◌}
use native.Mathlib.Omega.{arith}
use borrow.Author.Tests.{le-ltb, ltb-false}
use lib.Dec.{ltb}
use lib.IntN.{ℤ, pos, negsuc, nat_abs, ◌+ℤ◌, ◌*ℤ◌}
use lib.ListN.{length, get_or, drop, get_or-append}
use lib.Signed.{◌<ℤ◌, ◌≤ℤ◌}
use Rattle.base_exact.specs.Rational.{ℚ, int, ◌+ᵠ◌, ◌-ᵠ◌, ◌*ᵠ◌, ◌/ᵠ◌, -ᵠ◌}
use Rattle.base_exact.specs.Order.{Nn, ◌≤ᵠ◌, ◌<ᵠ◌}
use Rattle.base_exact.specs.Floor.{floor_div}
use Rattle.base_exact.specs.Tabulate.{tab}
use Rattle.base_exact.proofs.Decide.{cond_false, true_not_false}
use Rattle.base_exact.proofs.Integer as Z
use Rattle.base_exact.proofs.Order as Q
use Rattle.base_exact.proofs.Rational.{ℚ-ring, readsℚ, int-add, int_mul, div_mul, mul_comm}
use Rattle.base_exact.proofs.Ring.{ring}
use Rattle.base_exact.proofs.Tabulate.{tab_length, get_d_tab, get_d_past-tab}
use Rattle.base_exact.proofs.Word.{pos_of, is_pos}
use Rattle.base_outcome.specs.Outcome.{Outcome, answer, refusal, refuse, ◌then◌}
use Rattle.base_outcome.specs.Search.{first}
use Rattle.spec_spline.specs.Space.{Space}
use Rattle.base_outcome.specs.Tests.{refuse_first}
use Rattle.spec_spline.specs.Table.{table_cells}
use Rattle.spec_spline.specs.Reading as Reading
use Rattle.spec_spline.specs.Reading.{Wood, wood_index, Pair, fine, side_by_side}
use Rattle.spec_spline.specs.CurveCall.{CurveResult, curve_outcome, curve_numerators, curve_denominators, values_after}
use Rattle.spec_spline.specs.ExactCurve.{Legal}
use Rattle.base_outcome.proofs.Outcome.{answer_unique, answer_not_refusal, then_answers, then_inverts, Broken, first-refuses, second-refuses, then_breaks}
use Rattle.base_outcome.proofs.Search.{first_ext, first-none_inverts}
use Rattle.spec_spline.proofs.Build.{long-enough}
use Rattle.spec_spline.proofs.Pairs.{le_half}
use Rattle.spec_spline.proofs.Legal.{refuse_first_inverts, cond_refuse_inverts, keeping_refusal}
use Rattle.theorems_values.specs.ValueLimits.{Close}
use Rattle.theorems_values.proofs.LegalCall.{answered_calls_are_legal, legal_calls_answer, values_length_lem}
use Rattle.theorems_values.proofs.Cells.{cells_are_close}
use Rattle.theorems_acceptance.proofs.Curves.{curves_never_give_nine}
use Rattle.spec_calls.specs.Indices.{ring_positions, ring_width, ring_value, is_refused, bad_ring, index_scale, index_of, ring_indices}
use Rattle.spec_calls.specs.Indices.{rings_read, rings_indexed, indices_returned, indices_after}
use Rattle.spec_calls.specs.Indices.{RingsCall, indices_end}
use Rattle.theorems_indices.specs.Rings.{ring_count, position_of, value_cell, index_cell, CurveIsLegal, LegalRingsEnd}
use Rattle.theorems_indices.specs.Rings.{LegalRingsLeaveTheCurve, AnsweredRingsAreLegal, RingsNeverGiveNine, RefusalsKeepTheIndices}
use Rattle.theorems_indices.specs.Rings.{IndicesPastAreKept, PresentRingsAreDivided, AbsentRingsHaveMinusOne}
use Rattle.theorems_indices.specs.Rings.{ValuesUnderRingsAreClose, exact_under, error_under, scaled_width, IndexIsAbove, IndexIsAtMost}
use Rattle.theorems_indices.proofs.Ring.{passes-width, passes-value, index-absent, index_present}
use Rattle.theorems_indices.proofs.Cells.{exact_length, exact_at}
use Rattle.theorems_indices.proofs.Cells.{value_cell_lem}

-- ---- the parts of a call

module _ (c : RingsCall) where
  abbrev pub positions : List ℤ
  positions = ring_positions c.first_ring (ring_count c)

  -- the curve call's outcome after the four lengths
  abbrev pub read : Outcome CurveResult
  read = rings_read c.space c.coefs c.first_ring c.widths (length c.num) (length c.den) (length c.values) (length c.indices)

  abbrev curves : Outcome CurveResult
  curves = curve_outcome c.space c.coefs positions (length c.num) (length c.den) (length c.values)

  abbrev indexed : Outcome (List ℤ)
  indexed = read then rings_indexed c.wood c.widths

  -- ---- a legal call
  module _ (l : CurveIsLegal c) (room : ring_count c ≤ length c.indices) where
    read_is : read ≡ curves
    unfolding rings_read
    read_is =
        long-enough (length c.num) (length c.den) _ l.numerators l.denominators
        ∙ cond_false _ _ (le-ltb (length c.values / 2) (length positions) (le_half (length positions) (length c.values) l.values))
        ∙ cond_false _ _ (le-ltb (length c.indices) (ring_count c) room)

    abbrev pub result : CurveResult
    result = record { table = l.accepted.table; values = Reading.values c.space l.accepted.table c.coefs positions }

    pub read-answers : read ≡ answer result
    read-answers = read_is ∙ legal_calls_answer c.space c.coefs positions (length c.num) (length c.den) (length c.values) l

    result_count : length result.values ≡ ring_count c
    result_count = values_length_lem c.space l.accepted.table c.coefs positions ∙ exact_length c.first_ring (ring_count c)

    value-under : (i : ℕ) → i < ring_count c → value_cell c i ≡ ring_value c.wood result.values i
    value-under i h = ap (λ o. get_or (values_after o c.values) (2 * i + wood_index c.wood) (pos 0)) read-answers
        ∙ value_cell_lem c.wood c.widths result c.values result_count i h

    tests_same : first (ring_count c) (bad_ring c.wood c.widths result.values)
        ≡ first (ring_count c) (λ i. is_refused (ring_width c.widths i) (value_cell c i))
    unfolding bad_ring
    tests_same = first_ext (ring_count c) (λ i h. ap (is_refused (ring_width c.widths i)) (sym (value-under i h)))

    indexed_is : indexed ≡ refuse_first 14 (first (ring_count c) (λ i. is_refused (ring_width c.widths i) (value_cell c i))) (answer
        (ring_indices c.wood c.widths result.values))
    unfolding rings_indexed
    indexed_is =
        then_answers (rings_indexed c.wood c.widths) read-answers
        ∙ ap (λ (o : Option ℕ). refuse_first 14 o (answer (ring_indices c.wood c.widths result.values))) tests_same

pub values-under-rings_are_close : ValuesUnderRingsAreClose
values-under-rings_are_close c l room i h =
    let p = positions c in
    subst (λ (v : ℤ). Close c.space l.accepted.table c.wood c.coefs (position_of c i) v)
    (ap (λ o. get_or (values_after o c.values) (2 * i + wood_index c.wood) (pos 0)) (sym (read_is c l room)))
    (subst
    (λ (x : ℤ). Close c.space l.accepted.table c.wood c.coefs x
    (get_or (values_after (curves c) c.values) (2 * i + wood_index c.wood) (pos 0))) (exact_at c.first_ring (ring_count c) i h)
    (cells_are_close c.space c.coefs p (length c.num) (length c.den) (length c.values) l c.values i
    (rw (exact_length c.first_ring (ring_count c)) h) c.wood))

pub legal_rings-leave_the_curve : LegalRingsLeaveTheCurve
legal_rings-leave_the_curve c l room =
    let e = read_is c l room in
    (ap (λ o. curve_numerators c.space o c.num) e, (ap (λ o. curve_denominators c.space o c.den) e, ap (λ o. values_after o c.values) e))

returned-tested : (o : Option ℕ) (zs : List ℤ) {n : ℕ} → length zs ≡ n → indices_returned (refuse_first 14 o (answer zs)) ≡ refuse_first 14 o (answer n)
returned-tested none zs e = ap answer e
returned-tested (some i) zs e = refl

pub legal_rings_end : LegalRingsEnd
unfolding ring_indices
legal_rings_end c l room =
    ap indices_returned (indexed_is c l room) ∙ returned-tested (first (ring_count c) (λ i. is_refused (ring_width c.widths i) (value_cell c i)))
    (ring_indices c.wood c.widths (result c l room).values) (tab_length (ring_count c) _)

-- ---- an answered call

record Returned (o : Outcome (List ℤ)) (n : ℕ) : Type 0 where
  given : List ℤ
  is : o ≡ answer given
  count : length given ≡ n

returned_inverts : (o : Outcome (List ℤ)) {n : ℕ} → indices_returned o ≡ answer n → Returned o n
returned_inverts (answer zs) e = record { given = zs; is = refl; count = answer_unique {o = indices_returned (answer zs)} refl e }
returned_inverts (refusal code place) e = absurd (answer_not_refusal e refl)

-- What an answer tells.
record Answered (c : RingsCall) (n : ℕ) : Type 0 where
  legal : CurveIsLegal c
  room : ring_count c ≤ length c.indices
  none_refused : first (ring_count c) (λ i. is_refused (ring_width c.widths i) (value_cell c i)) ≡ none
  is : indexed c ≡ answer (ring_indices c.wood c.widths (result c legal room).values)
  count : n ≡ ring_count c

-- the lengths that an outcome had, and the curve call's
lengths-passed : (c : RingsCall) {r : CurveResult} → read c ≡ answer r → (ring_count c ≤ length c.indices) × (curves c ≡ answer r)
unfolding rings_read
lengths-passed c e =
    let last = cond (ltb (length c.indices) (ring_count c)) (refuse 1 3) (curves c) in
    let third = cond (ltb (length c.values / 2) (length (positions c))) (refuse 1 2) last in
    let second = cond (ltb (length c.den) table_cells) (refuse 1 1) third in
    let a = cond_refuse_inverts (ltb (length c.num) table_cells) 1 0 second e in
    let b = cond_refuse_inverts (ltb (length c.den) table_cells) 1 1 third a.1 in
    let d = cond_refuse_inverts (ltb (length c.values / 2) (length (positions c))) 1 2 last b.1 in
    let f = cond_refuse_inverts (ltb (length c.indices) (ring_count c)) 1 3 (curves c) d.1 in
    (ltb-false (length c.indices) (ring_count c) f.0, f.1)

answered : (c : RingsCall) (n : ℕ) → (indices_end c).answers ≡ answer n → Answered c n
unfolding ring_indices
answered c n e =
    let r = returned_inverts (indexed c) e in
    let t = then_inverts (read c) (rings_indexed c.wood c.widths) r.is in
    let p = lengths-passed c t.before in
    let l = answered_calls_are_legal c.space c.coefs (positions c) (length c.num) (length c.den) (length c.values) t.middle p.1 in
    let zs = ring_indices c.wood c.widths (result c l p.0).values in
    let o = first (ring_count c) (λ i. is_refused (ring_width c.widths i) (value_cell c i)) in
    let none_refused = refuse_first_inverts 14 o (answer zs) (sym (indexed_is c l p.0) ∙ r.is) in
    record {
      legal = l;
      room = p.0;
      none_refused = none_refused.0;
      is = indexed_is c l p.0 ∙ ap (λ (x : Option ℕ). refuse_first 14 x (answer zs)) none_refused.0;
      count = sym r.count ∙ ap length (sym (answer_unique {a = zs} refl none_refused.1)) ∙ tab_length (ring_count c) _;
    }

pub answered_rings_are_legal : AnsweredRingsAreLegal
answered_rings_are_legal c n e = let a = answered c n e in (a.legal, (a.room, a.count))

pub rings_never_give_nine : RingsNeverGiveNine
unfolding rings_read rings_indexed
rings_never_give_nine c place e = returned (indexed c) refl e
  where
    -- code 14 is not 9
    fourteen : (o : Option ℕ) (zs : List ℤ) → refuse_first 14 o (answer zs) ≡ refusal 9 place → ⊥
    fourteen none zs r = answer_not_refusal refl r
    fourteen (some i) zs r = true_not_false refl (keeping_refusal 14 i refl r)

    long : (a b d f : Bool) → cond a (refuse 1 0) (cond b (refuse 1 1) (cond d (refuse 1 2) (cond f (refuse 1 3) (curves c)))) ≡ refusal 9 place → ⊥
    long true b d f r = true_not_false refl (keeping_refusal 1 0 refl r)
    long false true d f r = true_not_false refl (keeping_refusal 1 1 refl r)
    long false false true f r = true_not_false refl (keeping_refusal 1 2 refl r)
    long false false false true r = true_not_false refl (keeping_refusal 1 3 refl r)
    long false false false false r = curves_never_give_nine c.space c.coefs (positions c) place (length c.num) (length c.den) (length c.values) r

    lengths : read c ≡ refusal 9 place → ⊥
    lengths r =
        long (ltb (length c.num) table_cells) (ltb (length c.den) table_cells) (ltb (length c.values / 2) (length (positions c)))
        (ltb (length c.indices) (ring_count c)) r

    broken : Broken (read c) (rings_indexed c.wood c.widths) 9 place → ⊥
    broken (first-refuses p) = lengths p
    broken (second-refuses r p q) = fourteen (first (ring_count c) (bad_ring c.wood c.widths r.values)) (ring_indices c.wood c.widths r.values) q

    returned : (o : Outcome (List ℤ)) → indexed c ≡ o → indices_returned o ≡ refusal 9 place → ⊥
    returned (answer zs) p r = answer_not_refusal refl r
    returned (refusal code q) p r = broken (then_breaks (read c) (rings_indexed c.wood c.widths) (p ∙ cc))

pub refusals_keep_the_indices : RefusalsKeepTheIndices
unfolding indices_after
refusals_keep_the_indices c code place e = go (indexed c) e
  where
    go : (o : Outcome (List ℤ)) → indices_returned o ≡ refusal code place → indices_after o c.indices ≡ c.indices
    go (answer zs) k = absurd (answer_not_refusal refl k)
    go (refusal a b) k = refl

-- the index cells hold the indices, and behind them what they held
cells_are : (c : RingsCall) (n : ℕ) (e : (indices_end c).answers ≡ answer n) → let a = answered c n e in
    (indices_end c).indices ≡ tab (ring_count c) (λ i. index_of (ring_width c.widths i) (ring_value c.wood (result c a.legal a.room).values i))
    ++ drop (ring_count c) c.indices
unfolding indices_after ring_indices
cells_are c n e =
    let a = answered c n e in
    let f : ℕ → ℤ = λ (i : ℕ). index_of (ring_width c.widths i) (ring_value c.wood (result c a.legal a.room).values i) in
    ap (λ o. indices_after o c.indices) a.is ∙ ap (λ (k : ℕ). tab (ring_count c) f ++ drop k c.indices) (tab_length (ring_count c) f)

module _ (c : RingsCall) (n : ℕ) (e : (indices_end c).answers ≡ answer n) (i : ℕ) (h : i < ring_count c) where
  index_is : index_cell c i ≡ index_of (ring_width c.widths i) (value_cell c i)
  index_is = let a = answered c n e in
      ap (λ (l : List ℤ). get_or l i (pos 0)) (cells_are c n e)
      ∙ get_d_tab (ring_count c) _ (drop (ring_count c) c.indices) i (pos 0) h
      ∙ ap (index_of (ring_width c.widths i)) (sym (value-under c a.legal a.room i h))

  passes : is_refused (ring_width c.widths i) (value_cell c i) ≡ false
  passes = first-none_inverts _ (ring_count c) (answered c n e).none_refused i h

pub present_rings_are_divided : PresentRingsAreDivided
present_rings_are_divided c n e i h p =
    (passes-value _ _ (passes c n e i h) p, index_is c n e i h ∙ sym (index_present (ring_width c.widths i) (value_cell c i) p))

pub absent-rings_have_minus_one : AbsentRingsHaveMinusOne
absent-rings_have_minus_one c n e i h z = index_is c n e i h ∙ sym (index-absent (ring_width c.widths i) (value_cell c i) z)

pub indices_past_are_kept : IndicesPastAreKept
unfolding indices_after
indices_past_are_kept c k h = go (indices_end c).answers refl
  where
    go : (o : Outcome ℕ) → (indices_end c).answers ≡ o → get_or (indices_end c).indices k (pos 0) ≡ get_or c.indices k (pos 0)
    go (answer n) e = ap (λ (l : List ℤ). get_or l k (pos 0)) (cells_are c n e) ∙ get_d_past-tab (ring_count c) _ c.indices k (pos 0) h
    go (refusal code place) e = ap (λ (l : List ℤ). get_or l k (pos 0)) (refusals_keep_the_indices c code place e)

-- ---- the bounds

-- a number at or above zero times an order
times : (x y z : ℚ) → Nn z → x ≤ᵠ y → z *ᵠ x ≤ᵠ z *ᵠ y
times x y z h k = subst (λ (u : ℚ). u ≤ᵠ z *ᵠ y) (mul_comm x z) (subst (λ (u : ℚ). x *ᵠ z ≤ᵠ u) (mul_comm y z) (Q.*_mono h k))

-- a floored quotient of a number at or above zero, against any numbers that the divisor lies between
module _ (w v : ℤ) (low : pos 0 ≤ℤ w) (above : pos 0 <ℤ v) where
  abbrev q : ℤ
  q = floor_div w (nat_abs v)

  quotient_le : (q *ℤ v) ≤ℤ w
  quotient_le = subst (λ (d : ℤ). (q *ℤ d) ≤ℤ w) (sym (pos_of v above).0) (Z.floor_div_le w (nat_abs v) (pos_of v above).1)

  lt_quotient : w <ℤ ((q +ℤ pos 1) *ℤ v)
  lt_quotient = subst (λ (d : ℤ). w <ℤ ((q +ℤ pos 1) *ℤ d)) (sym (pos_of v above).0) (Z.lt_floor_div w (nat_abs v) (pos_of v above).1)

  quotient_nn : pos 0 ≤ℤ q
  quotient_nn =
      Z.le_floor_div (pos 0) w (nat_abs v) (pos_of v above).1
      (subst (λ (z : ℤ). z ≤ℤ w) (Z.ext (pos 0) (pos 0 *ℤ pos (nat_abs v)) (omega (arith, Z.bal_* (pos 0) (pos (nat_abs v))))) low)

  quotient_at_most : {b : ℚ} → int (pos 0) <ᵠ b → b ≤ᵠ int v → int q ≤ᵠ int w /ᵠ b
  quotient_at_most {b} p h = Q.*_cancel p
      (subst (λ (x : ℚ). int q *ᵠ b ≤ᵠ x) (sym (div_mul (int w) b (Q.pos_nonzero p)))
      (Q.≤_trans (times b (int v) (int q) (Q.zero_le_nn (Q.int_mono quotient_nn)) h) (subst (λ (x : ℚ). x ≤ᵠ int w) (int_mul q v) (Q.int_mono quotient_le))))

  lt_quotient_by : {b : ℚ} → int v ≤ᵠ b → int w /ᵠ b -ᵠ int (pos 1) <ᵠ int q
  lt_quotient_by {b} h = subst (λ (x : ℚ). int w /ᵠ b -ᵠ int (pos 1) <ᵠ x) (regroup (int q)) (Q.+_mono_< below (Q.≤-refl (-ᵠ int (pos 1))))
    where
      p : int (pos 0) <ᵠ b
      p = Q.<-≤_trans (Q.int_mono_< above) h

      more : Nn (int (q +ℤ pos 1))
      more = Q.zero_le_nn (Q.int_mono (Z.≤_in (pos 0) (q +ℤ pos 1) (omega (arith, Z.≤_out (pos 0) q quotient_nn, Z.bal_+ q (pos 1)))))

      product : int w <ᵠ int (q +ℤ pos 1) *ᵠ b
      product = Q.<-≤_trans (subst (λ (x : ℚ). int w <ᵠ x) (int_mul (q +ℤ pos 1) v) (Q.int_mono_< lt_quotient)) (times (int v) b (int (q +ℤ pos 1)) more h)

      below : int w /ᵠ b <ᵠ int q +ᵠ int (pos 1)
      below =
          Q.*_cancel_< (Q.pos_nn p) (subst (λ (x : ℚ). x <ᵠ (int q +ᵠ int (pos 1)) *ᵠ b) (sym (div_mul (int w) b (Q.pos_nonzero p)))
          (subst (λ (x : ℚ). int w <ᵠ x *ᵠ b) (int-add q (pos 1)) product))

      regroup : (x : ℚ) → x +ᵠ int (pos 1) +ᵠ -ᵠ int (pos 1) ≡ x
      regroup x = ring ℚ-ring (x ∷ []) (search readsℚ depth 20) (search readsℚ depth 20) refl

module _ (c : RingsCall) (l : CurveIsLegal c) (n : ℕ) (e : (indices_end c).answers ≡ answer n) (i : ℕ) (h : i < ring_count c)
    (present : ring_width c.widths i ≢ pos 0) where
  close : Close c.space l.accepted.table c.wood c.coefs (position_of c i) (value_cell c i)
  close = values-under-rings_are_close c l (answered c n e).room i h

  divided : (pos 0 <ℤ value_cell c i) × (index_cell c i ≡ floor_div (index_scale *ℤ ring_width c.widths i) (nat_abs (value_cell c i)))
  divided = present_rings_are_divided c n e i h present

  scaled_nn : pos 0 ≤ℤ (index_scale *ℤ ring_width c.widths i)
  scaled_nn = Z.*_pos index_scale (ring_width c.widths i) (Z.≤_in (pos 0) index_scale (omega arith)) (passes-width _ _ (passes c n e i h)).0

pub index_is_above : IndexIsAbove
index_is_above c l n e i h present =
    subst (λ (z : ℤ). scaled_width c i /ᵠ (exact_under c l i +ᵠ error_under c l i) -ᵠ int (pos 1) <ᵠ int z) (sym (divided c l n e i h present).1)
    (lt_quotient_by (index_scale *ℤ ring_width c.widths i) (value_cell c i) (scaled_nn c l n e i h present) (divided c l n e i h present).0
    (close c l n e i h present).at_most_exact)

pub index_is_at_most : IndexIsAtMost
index_is_at_most c l n e i h present low =
    subst (λ (z : ℤ). int z ≤ᵠ scaled_width c i /ᵠ (exact_under c l i -ᵠ error_under c l i)) (sym (divided c l n e i h present).1)
    (quotient_at_most (index_scale *ℤ ring_width c.widths i) (value_cell c i) (scaled_nn c l n e i h present) (divided c l n e i h present).0
    (Q.lt_pos low) (less (exact_under c l i) (error_under c l i) (int (value_cell c i)) (close c l n e i h present).exact_at_most))
  where
    regroup : (x d : ℚ) → x +ᵠ d +ᵠ -ᵠ d ≡ x
    regroup x d = ring ℚ-ring (x ∷ d ∷ []) (search readsℚ depth 20) (search readsℚ depth 20) refl

    less : (x d v : ℚ) → x ≤ᵠ v +ᵠ d → x -ᵠ d ≤ᵠ v
    less x d v k = subst (λ (y : ℚ). x -ᵠ d ≤ᵠ y) (regroup v d) (Q.+_mono k (Q.≤-refl (-ᵠ d)))
