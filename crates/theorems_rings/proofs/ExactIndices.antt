-- Indices beside those of the exact curve, proved: both the value and the exact curve are at least 256 times the least coefficient with
-- weight, and at most four apart.
use mathlib.Core.Path.{◌≡◌, refl, sym, ◌∙◌, subst}
use mathlib.Core.Bool.{Bool, true, false, cond}
use mathlib.Core.List.{List, [], ◌∷◌}
use Prim.Native.Nat.{ℕ, zero, suc, ◌+◌, ◌/◌, ◌<◌, ◌≤◌}
use native.Mathlib.Omega.{arith}
use borrow.Author.Tests.{ltb-false}
use lib.Dec.{ltb}
use lib.IntN.{ℤ, pos, nat_abs, ◌+ℤ◌, ◌-ℤ◌, ◌*ℤ◌}
use lib.ListN.{length}
use lib.Signed.{◌≤ℤ◌, ◌<ℤ◌}
use Rattle.base_exact.specs.Rational.{ℚ, int, ◌+ᵠ◌, ◌-ᵠ◌, ◌*ᵠ◌, -ᵠ◌, ◌/ᵠ◌}
use Rattle.base_exact.specs.Order.{◌≤ᵠ◌, ◌<ᵠ◌, Nn}
use Rattle.base_exact.specs.Floor.{floor_div, floor}
use Rattle.base_exact.proofs.Floor.{floor_mono, floor_unique}
use Rattle.base_exact.proofs.Word.{pos_of}
use Rattle.base_exact.proofs.Integer as Z
use Rattle.base_exact.proofs.Integer.{ℤ-ring, readsℤ}
use Rattle.base_exact.proofs.Order as Q
use Rattle.base_exact.proofs.Ring.{ring}
use Rattle.base_exact.proofs.Rational.{ℚ-ring, readsℚ, div_mul, int_mul}
use Rattle.base_outcome.specs.Outcome.{Outcome, answer, refusal, refuse, ◌then◌}
use Rattle.base_outcome.specs.Search.{first}
use Rattle.base_outcome.proofs.Search.{first-none_inverts}
use Rattle.base_outcome.proofs.Outcome.{answer_not_refusal, then_breaks, Broken, first-refuses, second-refuses}
use Rattle.spec_spline.specs.Space.{Space, degree, first_column}
use Rattle.spec_spline.specs.Table.{table_cells}
use Rattle.spec_spline.specs.Piecewise.{Accepted}
use Rattle.spec_spline.specs.Reading.{fine, segment_at, Wood, coefficient, fine_width, offset}
use Rattle.spec_spline.specs.CurveCall.{CurveResult, curve_outcome}
use Rattle.spec_spline.specs.ExactCurve.{exact_curve, least_on}
use Rattle.spec_spline.proofs.Legal.{refuse_first_inverts, cond_refuse_inverts, refusal-code}
use Rattle.theorems_values.specs.ValueLimits.{InSpan, Close}
use Rattle.theorems_values.proofs.Bernstein.{exact_triangle}
use Rattle.theorems_values.proofs.ExactSum.{exact_ordinates, exact_on_is_triangle}
use Rattle.theorems_values.proofs.LegalCall.{answered_calls_are_legal}
use Rattle.theorems_values.proofs.Mean.{mean_at_least}
use Rattle.theorems_values.proofs.OnSegment.{weighs_in_column, least_on_le}
use Rattle.theorems_values.proofs.Ordinate.{exact_at_least}
use Rattle.theorems_values.proofs.Segment.{Located, accepted-checked, located}
use Rattle.theorems_values.proofs.Triangle.{left_factor, right_factor, factors}
use Rattle.theorems_values.proofs.Value.{segment-column}
use Rattle.theorems_values.proofs.Weights.{accepted-column}
use Rattle.theorems_values.proofs.Cells.{position-inside}
use Rattle.theorems_values.proofs.Fine.{fine_mono_<}
use Rattle.theorems_indices.proofs.Cells.{exact_length, exact_at}
use Rattle.theorems_acceptance.proofs.Values.{closeness_at_most_four}
use Rattle.spec_calls.specs.Indices.{ring_width, index_scale, is_refused, rings_read, rings_indexed, indices_returned}
use Rattle.theorems_indices.specs.Rings.{ring_count, position_of, value_cell, index_cell, CurveIsLegal, exact_under, error_under, scaled_width}
use Rattle.theorems_indices.proofs.Rings.{read, positions, values-under-rings_are_close, answered_rings_are_legal, legal_rings_end, present_rings_are_divided}
use Rattle.theorems_indices.proofs.Ring.{passes-width}
use Rattle.theorems_codes.specs.Codes.{lengths, at_breakpoint, at_degree, at_order, at_part, at_fraction, CurveRefusal, short_buffer, of_space, many_positions, coefficient_count, at_coefficient, at_position}
use Rattle.theorems_codes.proofs.Codes.{curve_as}
use Rattle.theorems_rings.specs.ExactIndices.{exact_index, least_under, LargeEnough, ExactIndexIsAtLeast, ExactIndexIsAtMost, IndexIsWithinOne, FourteenIsLegal}
use Rattle.theorems_rings.proofs.Quotients.{quotient_falls, quotient_near, floors_near}

-- ---- the exact curve is at least 256 times the least coefficient with weight

triangle_at_least : (d : ℕ) (u : ℤ) → 0 < d → pos 0 ≤ℤ u → u ≤ℤ pos d → (b : ℚ) (e : ℕ → ℚ) (p : ℕ) → ((k : ℕ) → k ≤ p → b ≤ᵠ e k)
    → (n k : ℕ) → k + n ≤ p → b ≤ᵠ exact_triangle (left_factor d u) (right_factor d u) e n k
unfolding exact_triangle
triangle_at_least d u h from to b e p all zero k l = all k (omega arith)
triangle_at_least d u h from to b e p all (suc n) k l =
    mean_at_least (factors d u h from to) (triangle_at_least d u h from to b e p all n k (omega arith)) (triangle_at_least d u h from to b e p all n (suc k) (omega arith))

pub exact_at_least-least : (s : Space) (a : Accepted s) (wood : Wood) (coefs : List ℤ) (x : ℤ) → InSpan s x
    → int (fine (least_on s a.table wood coefs (segment_at s x))) ≤ᵠ exact_curve s a.table wood coefs x
unfolding exact_curve
exact_at_least-least s a wood coefs x inside =
    subst (λ q. int (fine (least_on s a.table wood coefs j)) ≤ᵠ q) (sym (exact_on_is_triangle s a.table wood coefs j x at.positive))
    (triangle_at_least (fine_width s j) (offset s j x) at.positive at.from at.to (int (fine (least_on s a.table wood coefs j))) (exact_ordinates s a.table wood coefs j) (degree s j)
    (λ k h. exact_at_least a.table (coefficient wood coefs) (first_column s j + k) (accepted-column s a (first_column s j + k) (segment-column s j k at.below h))
    (least_on s a.table wood coefs j)
    (λ i l w. least_on_le s a.table j wood coefs i l (weighs_in_column s a.table j k i h w))) (degree s j) 0 (omega arith))
  where
    j : ℕ
    j = segment_at s x

    at : Located s x j
    at = located s (accepted-checked s a).1 x inside

-- ---- the bounds on the exact index

scaled_nn : (w : ℤ) → pos 0 ≤ℤ w → Nn (int (index_scale *ℤ w))
scaled_nn w h = Q.zero_le_nn (Q.int_mono (Z.*_pos index_scale w (Z.≤_in (pos 0) index_scale (omega arith)) h))

taken : (x d v : ℚ) → v ≤ᵠ x +ᵠ d → v -ᵠ d ≤ᵠ x
taken x d v k = subst (λ y. v -ᵠ d ≤ᵠ y) (ring ℚ-ring (x ∷ d ∷ []) (search readsℚ depth 20) (search readsℚ depth 20) refl) (Q.+_mono k (Q.≤-refl (-ᵠ d)))

pub exact-index_is_at_least : ExactIndexIsAtLeast
exact-index_is_at_least c l room i h w p = let k = values-under-rings_are_close c l room i h in
    floor_mono (quotient_falls (scaled_width c i) (exact_under c l i) (int (value_cell c i) +ᵠ error_under c l i) (scaled_nn (ring_width c.widths i) w) p k.exact_at_most)

pub exact-index_is_at_most : ExactIndexIsAtMost
exact-index_is_at_most c l room i h w p = let k = values-under-rings_are_close c l room i h in
    floor_mono (quotient_falls (scaled_width c i) (int (value_cell c i) -ᵠ error_under c l i) (exact_under c l i) (scaled_nn (ring_width c.widths i) w) (Q.lt_pos p)
    (taken (exact_under c l i) (error_under c l i) (int (value_cell c i)) k.at_most_exact))

-- ---- at most one away

-- the floored quotient is the floor of the quotient
floor-quotient : (w v : ℤ) → pos 0 <ℤ v → floor_div w (nat_abs v) ≡ floor (int w /ᵠ int v)
floor-quotient w v p = floor_unique (floor_div w d) (int w /ᵠ int v)
    (Q.*_cancel positive (subst (λ r. int (floor_div w d) *ᵠ int v ≤ᵠ r) (sym (div_mul (int w) (int v) (Q.pos_nonzero positive)))
    (subst (λ r. r ≤ᵠ int w) (int_mul (floor_div w d) v) (Q.int_mono (subst (λ z. (floor_div w d *ℤ z) ≤ℤ w) same (Z.floor_div_le w d above))))))
    (Q.*_cancel_< (Q.pos_nn positive) (subst (λ r. r <ᵠ int (floor_div w d +ℤ pos 1) *ᵠ int v) (sym (div_mul (int w) (int v) (Q.pos_nonzero positive)))
    (subst (λ r. int w <ᵠ r) (int_mul (floor_div w d +ℤ pos 1) v) (Q.int_mono_< (subst (λ z. w <ℤ ((floor_div w d +ℤ pos 1) *ℤ z)) same (Z.lt_floor_div w d above))))))
  where
    d : ℕ
    d = nat_abs v

    positive : int (pos 0) <ᵠ int v
    positive = Q.int_mono_< p

    same : pos (nat_abs v) ≡ v
    same = sym (pos_of v p).0

    above : 0 < nat_abs v
    above = (pos_of v p).1

-- 4·256,000·width is below (256 m)²
products : (w m : ℤ) → LargeEnough w m → (index_scale *ℤ w *ℤ pos 4) <ℤ (fine m *ℤ fine m)
products w m h = subst (λ l. l <ℤ (fine m *ℤ fine m)) (left w) (subst (λ r. (pos 125 *ℤ w *ℤ pos 8192) <ℤ r) (right m) (Z.*_mono_< (pos 125 *ℤ w) (pos 8 *ℤ (m *ℤ m)) 8191 h))
  where
    left : (w : ℤ) → pos 125 *ℤ w *ℤ pos 8192 ≡ index_scale *ℤ w *ℤ pos 4
    left w = ring ℤ-ring (w ∷ []) (search readsℤ depth 20) (search readsℤ depth 20) refl

    right : (m : ℤ) → pos 8 *ℤ (m *ℤ m) *ℤ pos 8192 ≡ fine m *ℤ fine m
    right m = ring ℤ-ring (m ∷ []) (search readsℤ depth 20) (search readsℤ depth 20) refl

within : (a v x fm : ℚ) → Nn a → int (pos 0) <ᵠ fm → fm ≤ᵠ v → fm ≤ᵠ x → x ≤ᵠ v +ᵠ int (pos 4) → v ≤ᵠ x +ᵠ int (pos 4) → a *ᵠ int (pos 4) <ᵠ fm *ᵠ fm → nat_abs (floor (a /ᵠ v) -ℤ floor (a /ᵠ x)) ≤ 1
within a v x fm n p hv hx near' near k =
    floors_near (a /ᵠ v) (a /ᵠ x) (quotient_near a v x (int (pos 4)) n (Q.<-≤_trans p hv) (Q.<-≤_trans p hx) near' (Q.<-≤_trans k (Q.*-mono₂ (Q.pos_nn p) (Q.pos_nn (Q.<-≤_trans p hx)) hv hx)))
    (quotient_near a x v (int (pos 4)) n (Q.<-≤_trans p hx) (Q.<-≤_trans p hv) near (Q.<-≤_trans k (Q.*-mono₂ (Q.pos_nn p) (Q.pos_nn (Q.<-≤_trans p hv)) hx hv)))

pub index_is_within_one : IndexIsWithinOne
index_is_within_one c l n e i h present positive large =
    subst (λ z. nat_abs (z -ℤ exact_index c l i) ≤ 1) (sym (divided.1 ∙ floor-quotient (index_scale *ℤ w) v divided.0))
    (within (scaled_width c i) (int v) (exact_under c l i) (int (fine m)) (scaled_nn w wide)
    (Q.int_mono_< (fine_mono_< (pos 0) m positive)) (Q.int_mono close.at_least-least) (exact_at_least-least c.space l.accepted c.wood c.coefs (position_of c i) inside)
    (Q.≤_trans close.exact_at_most (Q.+_mono (Q.≤-refl _) four)) (Q.≤_trans close.at_most_exact (Q.+_mono (Q.≤-refl _) four))
    (subst (λ q. q <ᵠ int (fine m) *ᵠ int (fine m)) (int_mul (index_scale *ℤ w) (pos 4)) (subst (λ q. int (index_scale *ℤ w *ℤ pos 4) <ᵠ q) (int_mul (fine m) (fine m))
    (Q.int_mono_< (products w m large)))))
  where
    w : ℤ
    w = ring_width c.widths i

    v : ℤ
    v = value_cell c i

    m : ℤ
    m = least_under c l i

    room : ring_count c ≤ length c.indices
    room = (answered_rings_are_legal c n e).1.0

    close : Close c.space l.accepted.table c.wood c.coefs (position_of c i) (value_cell c i)
    close = values-under-rings_are_close c l room i h

    divided : (pos 0 <ℤ value_cell c i) × (index_cell c i ≡ floor_div (index_scale *ℤ ring_width c.widths i) (nat_abs (value_cell c i)))
    divided = present_rings_are_divided c n e i h present

    inside : InSpan c.space (position_of c i)
    inside = subst (InSpan c.space) (exact_at c.first_ring (ring_count c) i h) (position-inside c.space (positions c) i (l.in_span i (rw (exact_length c.first_ring (ring_count c)) h)))

    four : error_under c l i ≤ᵠ int (pos 4)
    four = closeness_at_most_four c.space l.accepted (position_of c i) inside

    wide : pos 0 ≤ℤ ring_width c.widths i
    wide = (passes-width w v (first-none_inverts (λ k. is_refused (ring_width c.widths k) (value_cell c k)) (ring_count c)
        (refuse_first_inverts 14 (first (ring_count c) (λ k. is_refused (ring_width c.widths k) (value_cell c k))) (answer (ring_count c)) (sym (legal_rings_end c l room) ∙ e)).0 i h)).0

-- ---- number 14

-- it is none of the curve call's
not_the_curves : {s : Space} {coefs positions : List ℤ} {place : ℕ} (code : ℕ) → CurveRefusal s coefs positions code place → ¬ (code ≡ 14)
not_the_curves code (short_buffer i h) e = omega arith
not_the_curves code (of_space lengths) e = omega arith
not_the_curves code (of_space (at_breakpoint i h)) e = omega arith
not_the_curves code (of_space (at_degree i h)) e = omega arith
not_the_curves code (of_space (at_order i h)) e = omega arith
not_the_curves code (of_space (at_part i h)) e = omega arith
not_the_curves code (of_space (at_fraction i h)) e = omega arith
not_the_curves code many_positions e = omega arith
not_the_curves code coefficient_count e = omega arith
not_the_curves code (at_coefficient i h) e = omega arith
not_the_curves code (at_position i h) e = omega arith

pub fourteen_is_legal : FourteenIsLegal
unfolding rings_read
fourteen_is_legal c place e = go (then_breaks (read c) (rings_indexed c.wood c.widths) (returned-refuses _ e))
  where
    curves : Outcome CurveResult
    curves = curve_outcome c.space c.coefs (positions c) (length c.num) (length c.den) (length c.values)

    returned-refuses : (o : Outcome (List ℤ)) → indices_returned o ≡ refusal 14 place → o ≡ refusal 14 place
    returned-refuses (answer zs) r = absurd (answer_not_refusal refl r)
    returned-refuses (refusal code p) r = let x : code ≡ 14 = cc in let y : p ≡ place = cc in cc

    -- the lengths, then the curve call's own numbers
    by_length : (a b d f : Bool) → cond a (refuse 1 0) (cond b (refuse 1 1) (cond d (refuse 1 2) (cond f (refuse 1 3) curves))) ≡ refusal 14 place → ⊥
    by_length true b d f r = refusal-code (λ k. ¬ (k ≡ 14)) 1 0 (λ z. omega arith) r refl
    by_length false true d f r = refusal-code (λ k. ¬ (k ≡ 14)) 1 1 (λ z. omega arith) r refl
    by_length false false true f r = refusal-code (λ k. ¬ (k ≡ 14)) 1 2 (λ z. omega arith) r refl
    by_length false false false true r = refusal-code (λ k. ¬ (k ≡ 14)) 1 3 (λ z. omega arith) r refl
    by_length false false false false r = not_the_curves 14 (curve_as c.space c.coefs (positions c) (length c.num) (length c.den) (length c.values) 14 place r) refl

    passed : (r : CurveResult) → read c ≡ answer r → CurveIsLegal c × (ring_count c ≤ length c.indices)
    passed r q =
        let last = cond (ltb (length c.indices) (ring_count c)) (refuse 1 3) curves in
        let third = cond (ltb (length c.values / 2) (length (positions c))) (refuse 1 2) last in
        let second = cond (ltb (length c.den) table_cells) (refuse 1 1) third in
        let a = cond_refuse_inverts (ltb (length c.num) table_cells) 1 0 second q in
        let b = cond_refuse_inverts (ltb (length c.den) table_cells) 1 1 third a.1 in
        let d = cond_refuse_inverts (ltb (length c.values / 2) (length (positions c))) 1 2 last b.1 in
        let f = cond_refuse_inverts (ltb (length c.indices) (ring_count c)) 1 3 curves d.1 in
        (answered_calls_are_legal c.space c.coefs (positions c) (length c.num) (length c.den) (length c.values) r f.1, ltb-false (length c.indices) (ring_count c) f.0)

    go : Broken (read c) (rings_indexed c.wood c.widths) 14 place → CurveIsLegal c × (ring_count c ≤ length c.indices)
    go (first-refuses q) = absurd (by_length (ltb (length c.num) table_cells) (ltb (length c.den) table_cells) (ltb (length c.values / 2) (length (positions c)))
        (ltb (length c.indices) (ring_count c)) q)
    go (second-refuses r q z) = passed r q
