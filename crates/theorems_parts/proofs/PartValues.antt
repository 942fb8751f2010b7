-- A beam's values are its parts' own, proved: the position lies in the same segment, which has the same width, degree and ordinates.
use mathlib.Core.Path.{◌≡◌, sym, ◌∙◌, ap, ap₂, subst}
use mathlib.Core.Logic.{inl, inr}
use mathlib.Core.Bool.{true, false, cond}
use mathlib.Core.List.{List}
use mathlib.Core.Option
use Prim.Native.Nat.{ℕ, zero, suc, ◌+◌, ◌*◌, ◌-◌, ◌<◌, ◌≤◌}
use native.Mathlib.Omega.{arith}
use native.Mathlib.Nat.{add-zero, add-suc}
use lib.Dec.{eqb}
use lib.IntN.{ℤ, pos, neg_ℤ, ◌-ℤ◌}
use lib.ListN.{length, get_or}
use lib.Signed.{lt_z, le_z, ◌≤ℤ◌}
use Rattle.base_exact.proofs.Decide.{and-true, holds_true, true_not_false}
use Rattle.base_exact.proofs.Integer as Z
use Rattle.base_exact.proofs.Tabulate.{tab_get_d}
use Rattle.base_exact.proofs.Word.{le_test}
use Rattle.base_outcome.specs.Search.{last}
use Rattle.base_outcome.proofs.Search.{SearchedBack, at, nowhere, search_last}
use Rattle.spec_spline.specs.Space.{Space, segments, break, degree, width, part_end, first_column, column_count, row_count, rows_before}
use Rattle.spec_spline.specs.Table.{Table, cell}
use Rattle.spec_spline.specs.Piecewise.{Accepted}
use Rattle.spec_spline.specs.Reading.{fineness, fine, starts_at_discontinuity, starts_by, segment_at, Wood, coefficient, ordinate, ordinates, fine_width, offset, triangle, blended, value_at}
use Rattle.spec_spline.proofs.Parts.{Ends, part-ends}
use Rattle.spec_spline.proofs.Legal.{Checked, legal, lengths_fit_inverts}
use Rattle.spec_spline.proofs.Reading.{starts_by_le, starts_by_first}
use Rattle.theorems_weights.proofs.Built.{built, row_count_lem}
use Rattle.theorems_beams.specs.Sections.{part_at}
use Rattle.theorems_beams.specs.Parts.{Starts}
use Rattle.theorems_beams.proofs.Sections.{section-segments, section-break, section-degree, section-condition_count, section-width, section-first_column, orders_fit}
use Rattle.theorems_beams.proofs.Fronts.{front-rows_more, front-rows-within}
use Rattle.theorems_beams.proofs.Parts.{weights_by_parts}
use Rattle.theorems_beams.proofs.Reading.{coefficient_middle}
use Rattle.theorems_values.specs.ValueLimits.{InSpan}
use Rattle.theorems_values.proofs.Segment.{accepted-checked, located, fine_width_is}
use Rattle.theorems_values.proofs.Positions.{segment_is, breaks_ordered}
use Rattle.theorems_values.proofs.Value.{segment-column}
use Rattle.theorems_promises.specs.FallingCurves.{InPart}
use Rattle.theorems_raising.proofs.Raising.{one_table}
use Rattle.theorems_parts.specs.PartValues.{part_coefficients, BeamValuesAreTheParts}
use Rattle.theorems_parts.proofs.Windows.{Window, ordinate-window, triangle-agree}

-- ---- a position and its segment

module _ (s : Space) (c : Checked s) (x : ℤ) (inside : InSpan s x) where
  -- the segment starts by the position, and no later one does
  pub segment-found : (starts_by s x (segment_at s x) ≡ true) × ((k : ℕ) → segment_at s x < k → k < segments s → starts_by s x k ≡ false)
  unfolding segment_at
  segment-found = go (search_last (starts_by s x) (segments s))
    where
      from : le_z (fine (break s 0)) x ≡ true
      from = (and-true (le_z (fine (break s 0)) x) (le_z x (fine (break s (segments s)))) (holds_true _ inside)).0

      Found : ℕ → Type 0
      Found j = (starts_by s x j ≡ true) × ((k : ℕ) → j < k → k < segments s → starts_by s x k ≡ false)

      go : SearchedBack (starts_by s x) (segments s) → Found (Option.get_or (last (segments s) (starts_by s x)) 0)
      go (nowhere none-starts e) = absurd (true_not_false (starts_by_first s x ∙ from) (none-starts 0 (legal s c).lengths.some_segment))
      go (at i L e) = subst Found (sym (ap (λ o. Option.get_or o 0) e)) (L.meets, L.after)

  -- it lies between the segment's ends
  pub not_past : x ≤ℤ fine (break s (suc (segment_at s x)))
  not_past = let at = located s c x inside in
      Z.≤_in x (fine (break s (suc (segment_at s x)))) (omega (
        arith,
        Z.≤_out _ _ at.to,
        ap Z.up (fine_width_is s c (segment_at s x) at.below),
        ap Z.dn (fine_width_is s c (segment_at s x) at.below),
        Z.bal_+ x (neg_ℤ (fine (break s (segment_at s x)))),
        Z.bal_+ (fine (break s (suc (segment_at s x)))) (neg_ℤ (fine (break s (segment_at s x)))),
        Z.bal_neg (fine (break s (segment_at s x))),
      ))

  pub not_before : fine (break s (segment_at s x)) ≤ℤ x
  not_before = starts_by_le s x (segment_at s x) segment-found.0

-- ---- a position of a part

module _ (s : Space) (x : Accepted s) (a : ℕ) (A : Starts s a) (p : Accepted (part_at s a)) (y : ℤ) (Y : InPart s a y) where
  abbrev part : Space
  part = part_at s a

  abbrev n : ℕ
  n = part_end s a - a

  c : Checked s
  c = (accepted-checked s x).1

  C : Checked part
  C = (accepted-checked part p).1

  ends : Ends s a (part_end s a)
  ends = part-ends s a A.below

  size : segments part ≡ n
  size = section-segments s a n (omega (arith, ends.above, ends.boundary.within))

  -- its segment, counted from the part's first
  abbrev i : ℕ
  i = segment_at s y - a

  back : a + i ≡ segment_at s y
  back = omega (arith, Y.from)

  below : i < n
  below = omega (arith, Y.from, Y.to)

  part-break : (k : ℕ) → k ≤ n → break part k ≡ break s (a + k)
  part-break k h = section-break s a n k h

  starts-same : (k : ℕ) → suc k < n → starts_by part y (suc k) ≡ starts_by s y (a + suc k)
  unfolding starts_by starts_at_discontinuity
  starts-same k h =
      ap₂ (λ m b. cond (eqb m 0) (lt_z (fine b) y) (le_z (fine b) y)) (section-condition_count s a n k h) (part-break (suc k) (omega arith) ∙ ap (break s) (add-suc a k))
      ∙ ap (starts_by s y) (sym (add-suc a k))

  meets : (k : ℕ) → k < n → starts_by s y (a + k) ≡ true → starts_by part y k ≡ true
  meets zero h e = starts_by_first part y ∙ le_test (subst (λ b. fine b ≤ℤ y) (sym (part-break 0 (omega arith))) (starts_by_le s y (a + 0) e))
  meets (suc k) h e = starts-same k h ∙ e

  part-segment : segment_at part y ≡ i
  part-segment = let f = segment-found s c y Y.inside in
      segment_is part C i y (omega (arith, size, below)) (meets i below (ap (starts_by s y) back ∙ f.0))
      (λ h. starts-same i (omega (arith, size)) ∙ f.1 (a + suc i) (omega (arith, back)) (omega (arith, size, ends.above, ends.boundary.within)))
      (subst (λ b. y ≤ℤ fine b) (sym (part-break (suc i) below ∙ ap (break s) (add-suc a i ∙ ap suc back))) (not_past s c y Y.inside))

  in_part-span : InSpan part y
  in_part-span = rw (le_test from, le_test to) tt
    where
      from : fine (break part 0) ≤ℤ y
      from = subst (λ b. fine b ≤ℤ y) (sym (part-break 0 (omega arith) ∙ ap (break s) (add-zero a)))
          (Z.≤_trans _ (fine (break s (segment_at s y))) y (breaks_ordered s c a (segment_at s y) Y.from (omega (arith, Y.to, ends.boundary.within))) (not_before s c y Y.inside))

      to : y ≤ℤ fine (break part (segments part))
      to = subst (λ b. y ≤ℤ fine b)
          (sym (ap (break part) size ∙ part-break n (omega arith) ∙ ap (break s) (let z : a + n ≡ part_end s a = omega (arith, ends.above) in z)))
          (Z.≤_trans y (fine (break s (suc (segment_at s y)))) _ (not_past s c y Y.inside) (breaks_ordered s c (suc (segment_at s y)) (part_end s a) Y.to ends.boundary.within))

  -- ---- the ordinates of the segment

  rows : length p.table ≡ row_count part
  rows = row_count_lem part p.table (built part p.table p.is)

  rows_fit : rows_before s a + length p.table ≤ length x.table
  rows_fit =
      omega (
        arith,
        rows,
        front-rows_more s (orders_fit s c) a A,
        front-rows-within s (lengths_fit_inverts s c.lengths) (orders_fit s c) (part_end s a) ends.boundary,
        row_count_lem s x.table (built s x.table x.is),
      )

  window : (e : ℕ) → e < column_count part → Window x.table p.table (first_column s a + e) e (rows_before s a)
  window e h = let P = weights_by_parts s x a A in record {
    above = λ k l. P.zero-above_and_below k e h (inl l);
    within = λ k l. P.same k e (omega (arith, rows)) h ∙ ap (λ (t : Table). cell t k e) (one_table part P.accepted p);
    below = λ k l. P.zero-above_and_below k e h (inr (omega (arith, rows)));
    fits = rows_fit;
  }

  module _ (wood : Wood) (coefs : List ℤ) where
    abbrev f : ℕ → ℤ
    f = coefficient wood coefs

    abbrev g : ℕ → ℤ
    g = coefficient wood (part_coefficients s a coefs)

    ordinates-agree : (k : ℕ) → k ≤ degree s (a + i) → get_or (ordinates s x.table f) (first_column s (a + i) + k) (pos 0) ≡ get_or (ordinates part p.table g) (first_column part i + k) (pos 0)
    unfolding ordinates
    ordinates-agree k h =
        tab_get_d (column_count s) (ordinate x.table f) (first_column s (a + i) + k) (pos 0) (segment-column s (a + i) k (omega (arith, back, Y.to, ends.boundary.within)) h)
        ∙ ap (ordinate x.table f) (let z : first_column s (a + i) + k ≡ first_column s a + (first_column part i + k) = omega (arith, section-first_column s a n i (omega (arith, below))) in z)
        ∙ ordinate-window x.table p.table (first_column s a + (first_column part i + k)) (first_column part i + k) (rows_before s a) (window (first_column part i + k) column) f g
        (λ r l. sym (coefficient_middle wood coefs (rows_before s a) (row_count part) r (omega (arith, rows))))
        ∙ sym (tab_get_d (column_count part) (ordinate p.table g) (first_column part i + k) (pos 0) column)
      where
        column : first_column part i + k < column_count part
        column = segment-column part i k (omega (arith, size, below)) (omega (arith, section-degree s a n i below))

    blended-same : blended s (ordinates s x.table f) (a + i) y ≡ blended part (ordinates part p.table g) i y
    unfolding blended
    blended-same =
        triangle-agree (fine_width s (a + i)) (offset s (a + i) y) (λ k. get_or (ordinates s x.table f) (first_column s (a + i) + k) (pos 0)) own (degree s (a + i)) ordinates-agree
        (degree s (a + i)) 0 (omega arith)
        ∙ ap₂ (λ d b. triangle (fineness * d) (y -ℤ fine b) own (degree s (a + i)) 0) (sym (section-width s a n i below)) (sym (part-break i (omega (arith, below))))
        ∙ ap (λ q. triangle (fine_width part i) (offset part i y) own q 0) (sym (section-degree s a n i below))
      where
        own : ℕ → ℤ
        own k = get_or (ordinates part p.table g) (first_column part i + k) (pos 0)

    value_same : value_at s x.table wood coefs y ≡ value_at part p.table wood (part_coefficients s a coefs) y
    unfolding value_at
    value_same =
        ap (λ j. blended s (ordinates s x.table f) j y) (sym back)
        ∙ blended-same
        ∙ ap (λ j. blended part (ordinates part p.table g) j y) (sym part-segment)

pub beam-values_are_the_parts : BeamValuesAreTheParts
beam-values_are_the_parts s x a A p wood coefs y Y = record { inside = in_part-span s x a A p y Y; same = value_same s x a A p y Y wood coefs }
