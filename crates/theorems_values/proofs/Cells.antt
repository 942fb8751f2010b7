-- The value cells after a legal call: cells 2 k and 2 k + 1 hold the values of earlywood and latewood at position k, the cells
-- past twice the positions' count hold what they held, and no value is larger than 256 times the largest coefficient allowed.
use mathlib.Core.Path.{◌≡◌, sym, ◌∙◌, ap, subst}
use mathlib.Core.Bool.{Bool, true, false, not}
use mathlib.Core.List.{List, ◌++◌, map}
use Prim.Native.Nat.{ℕ, ◌+◌, ◌*◌, ◌<◌, ◌≤◌}
use native.Mathlib.Omega.{arith}
use lib.Dec.{T}
use lib.IntN.{ℤ, pos, neg_ℤ, nat_abs}
use lib.ListN.{length, get_or, drop}
use lib.Signed.{◌≤ℤ◌}
use Rattle.base_exact.proofs.Decide.{fails_false}
use Rattle.base_exact.proofs.Integer as Z
use Rattle.base_exact.proofs.Tabulate.{tab_self, map_tab, tab_get_d}
use Rattle.spec_spline.specs.Space.{Space, segments, break, row_count}
use Rattle.base_outcome.specs.Tests.{between}
use Rattle.spec_spline.specs.Table.{Table}
use Rattle.spec_spline.specs.Piecewise.{Accepted}
use Rattle.spec_spline.specs.Reading.{fine, segment_at, Wood, wood_index, Pair, side_by_side, coefficient, value_at, pair_at, values}
use Rattle.spec_spline.specs.CurveCall.{coefficient_limit, bad_coefficient, bad_position, curve_outcome, values_after}
use Rattle.spec_spline.specs.ExactCurve.{least_on, greatest_on, Legal}
use Rattle.spec_spline.proofs.Space.{between_inverts}
use Rattle.spec_spline.proofs.Pairs.{part-below, of_the_wood, pair_at-part, get_d_pairs, length_pairs, get_d_past-pairs}
use Rattle.theorems_weights.proofs.Built.{built, row_count_lem}
use Rattle.theorems_values.specs.ValueLimits.{InSpan, value_limit, Close, CellsAreClose, CellsPastAreKept}
use Rattle.theorems_values.proofs.Fine.{fine_mono}
use Rattle.theorems_values.proofs.Segment.{accepted-checked, located}
use Rattle.theorems_values.proofs.OnSegment.{least_on_is, greatest_on_is}
use Rattle.theorems_values.proofs.SegmentWeights.{every_segment_has_weight}
use Rattle.theorems_values.proofs.LegalCall.{legal_calls_answer, values_length_lem}
use Rattle.theorems_values.proofs.ValueLimits.{exact_at_most_value_and_closeness, value_at_most_exact_and_closeness, value_at_least-least, value_at_most_greatest}

-- ---- the cells

-- the pair of position k
pub pair_of_position : (s : Space) (t : Table) (coefs positions : List ℤ) (k : ℕ) (e : Pair) → k < length positions
    → get_or (values s t coefs positions) k e ≡ pair_at s t coefs (get_or positions k (pos 0))
unfolding values
pair_of_position s t coefs positions k e h =
    ap (λ xs. get_or (map (pair_at s t coefs) xs) k e) (sym (tab_self positions (pos 0)))
    ∙ ap (λ ps. get_or ps k e) (map_tab (pair_at s t coefs) (length positions) (λ i. get_or positions i (pos 0)))
    ∙ tab_get_d (length positions) (λ i. pair_at s t coefs (get_or positions i (pos 0))) k e h

module _ {s : Space} {coefs positions : List ℤ} {num_length den_length values_length : ℕ} (l : Legal s coefs positions num_length den_length values_length) (before : List ℤ) where
  abbrev pairs : List Pair
  pairs = values s l.accepted.table coefs positions

  twice_count : 2 * length pairs ≡ 2 * length positions
  twice_count = ap (λ n. 2 * n) (values_length_lem s l.accepted.table coefs positions)

  -- the pairs side by side in list order, and then the old cells
  values-after : values_after (curve_outcome s coefs positions num_length den_length values_length) before ≡ side_by_side pairs ++ drop (2 * length pairs) before
  unfolding values_after
  values-after = ap (λ o. values_after o before) (legal_calls_answer s coefs positions num_length den_length values_length l)

  pub cell-holds-value : (k : ℕ) → k < length positions → (wood : Wood)
      → get_or (values_after (curve_outcome s coefs positions num_length den_length values_length) before) (2 * k + wood_index wood) (pos 0)
      ≡ value_at s l.accepted.table wood coefs (get_or positions k (pos 0))
  cell-holds-value k h wood = let e = pair_at s l.accepted.table coefs (pos 0) in
      ap (λ cells. get_or cells (2 * k + wood_index wood) (pos 0)) values-after
      ∙ get_d_pairs pairs (drop (2 * length pairs) before) wood k (pos 0) e (rw (values_length_lem s l.accepted.table coefs positions) h)
      ∙ ap (of_the_wood wood) (pair_of_position s l.accepted.table coefs positions k e h)
      ∙ pair_at-part s l.accepted.table wood coefs (get_or positions k (pos 0))

  pub cells-past-kept : (k : ℕ) → 2 * length positions ≤ k → get_or (values_after (curve_outcome s coefs positions num_length den_length values_length) before) k (pos 0) ≡ get_or before k (pos 0)
  cells-past-kept k h = ap (λ cells. get_or cells k (pos 0)) values-after ∙ get_d_past-pairs pairs before k (pos 0) (omega (arith, twice_count))

  pub cells_length : length before ≡ values_length → length (values_after (curve_outcome s coefs positions num_length den_length values_length) before) ≡ values_length
  cells_length e = ap length values-after ∙ length_pairs pairs before (omega (arith, twice_count, l.values)) ∙ e

-- ---- what the tests leave of coefficients and positions

number_size : (coefs : List ℤ) (i : ℕ) → T (not (bad_coefficient coefs i)) → (neg_ℤ (pos coefficient_limit) ≤ℤ get_or coefs i (pos 0)) × (get_or coefs i (pos 0) ≤ℤ pos coefficient_limit)
unfolding bad_coefficient
number_size coefs i h = between_inverts (neg_ℤ (pos coefficient_limit)) (pos coefficient_limit) (get_or coefs i (pos 0)) (fails_false _ h)

twice_not : (b : Bool) → T (not (not b)) → T b
twice_not true h = tt
twice_not false h = h

pub position-inside : (s : Space) (positions : List ℤ) (i : ℕ) → T (not (bad_position s positions i)) → InSpan s (get_or positions i (pos 0))
unfolding bad_position
position-inside s positions i h = twice_not (between (fine (break s 0)) (fine (break s (segments s))) (get_or positions i (pos 0))) h

-- ---- the size of a value

module _ (s : Space) (a : Accepted s) (wood : Wood) (coefs : List ℤ) (count : length coefs ≡ 2 * row_count s)
    (legal : (i : ℕ) → i < length coefs → T (not (bad_coefficient coefs i))) (x : ℤ) (inside : InSpan s x) where
  size_of_row : (i : ℕ) → i < length a.table → (neg_ℤ (pos coefficient_limit) ≤ℤ coefficient wood coefs i) × (coefficient wood coefs i ≤ℤ pos coefficient_limit)
  size_of_row i h = number_size coefs (2 * i + wood_index wood) (legal (2 * i + wood_index wood) (omega (arith, part-below wood h, row_count_lem s a.table (built s a.table a.is))))

  pub value-size : nat_abs (value_at s a.table wood coefs x) ≤ value_limit
  value-size =
      let w = every_segment_has_weight s a (segment_at s x) (located s (accepted-checked s a).1 x inside).below in
      let low = least_on_is s a.table (segment_at s x) wood coefs w.row w.below w.weighs in
      let high = greatest_on_is s a.table (segment_at s x) wood coefs w.row w.below w.weighs in
      Z.abs_le_in (value_at s a.table wood coefs x) value_limit
      (Z.≤_trans _ _ _ (fine_mono (neg_ℤ (pos coefficient_limit)) (least_on s a.table wood coefs (segment_at s x))
      (subst (λ z. neg_ℤ (pos coefficient_limit) ≤ℤ z) low.is (size_of_row low.index low.below).0)) (value_at_least-least s a wood coefs x inside))
      (Z.≤_trans _ _ _ (value_at_most_greatest s a wood coefs x inside)
      (fine_mono (greatest_on s a.table wood coefs (segment_at s x)) (pos coefficient_limit)
      (subst (λ z. z ≤ℤ pos coefficient_limit) high.is (size_of_row high.index high.below).1)))

-- ---- all of it, of a cell

pub value_close : {s : Space} {coefs positions : List ℤ} {num_length den_length values_length : ℕ} (l : Legal s coefs positions num_length den_length values_length) (k : ℕ)
    → k < length positions → (wood : Wood)
    → Close s l.accepted.table wood coefs (get_or positions k (pos 0)) (value_at s l.accepted.table wood coefs (get_or positions k (pos 0)))
value_close {s} {coefs} {positions} l k h wood = let inside = position-inside s positions k (l.in_span k h) in record {
  exact_at_most = exact_at_most_value_and_closeness s l.accepted wood coefs (get_or positions k (pos 0)) inside;
  at_most_exact = value_at_most_exact_and_closeness s l.accepted wood coefs (get_or positions k (pos 0)) inside;
  at_least-least = value_at_least-least s l.accepted wood coefs (get_or positions k (pos 0)) inside;
  at_most_greatest = value_at_most_greatest s l.accepted wood coefs (get_or positions k (pos 0)) inside;
  size = value-size s l.accepted wood coefs l.coefficient_count l.coefficients (get_or positions k (pos 0)) inside;
}

pub cells_are_close : CellsAreClose
cells_are_close s coefs positions num_length den_length values_length l before k h wood =
    subst (Close s l.accepted.table wood coefs (get_or positions k (pos 0))) (sym (cell-holds-value l before k h wood))
    (value_close l k h wood)

pub cells-past_are_kept : CellsPastAreKept
cells-past_are_kept s coefs positions num_length den_length values_length l before e = (cells_length l before e, cells-past-kept l before)
