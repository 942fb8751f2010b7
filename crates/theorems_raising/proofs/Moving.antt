-- Close coefficients give close values, proved: an ordinate's terms move by less than their count more than 256 times the move, since
-- its weights sum to one; the other way round the two lists change places.
use mathlib.Core.Path.{◌≡◌, subst}
use mathlib.Core.Bool.{true}
use mathlib.Core.List.{List}
use Prim.Native.Nat.{ℕ, ◌+◌, ◌*◌, ◌-◌, ◌<◌, ◌≤◌}
use native.Mathlib.Omega.{arith}
use lib.IntN.{ℤ, pos, neg_ℤ, nat_abs, ◌+ℤ◌, ◌-ℤ◌}
use lib.ListN.{length, get_or}
use lib.Signed.{◌≤ℤ◌}
use Rattle.base_exact.proofs.Integer as Z
use Rattle.spec_spline.specs.Space.{Space, first_column}
use Rattle.spec_spline.specs.Piecewise.{Accepted}
use Rattle.spec_spline.specs.Reading.{fineness, fine, segment_at, Wood, term_sum, coefficient, value_at}
use Rattle.spec_spline.specs.ExactCurve.{weighs_on}
use Rattle.theorems_weights.proofs.Built.{built, row_count_lem}
use Rattle.theorems_values.specs.ValueLimits.{InSpan}
use Rattle.theorems_values.proofs.Segment.{accepted-checked, located}
use Rattle.theorems_values.proofs.OnSegment.{column_at_most_s}
use Rattle.theorems_values.proofs.Cells.{cell-holds-value, position-inside}
use Rattle.theorems_acceptance.proofs.Values.{most_weights_three}
use Rattle.theorems_raising.specs.Moving.{most_moved, CloseCoefficientsCloseValues, CloseCells}
use Rattle.theorems_raising.proofs.Ordinates.{column_moves}
use Rattle.theorems_raising.proofs.Values.{blended_moves}
use Rattle.theorems_raising.proofs.Raising.{one_table}

-- ---- sizes of differences

off_above : (x y : ℤ) (d : ℕ) → nat_abs (y -ℤ x) ≤ d → y ≤ℤ (x +ℤ pos d)
off_above x y d h = Z.≤_in y (x +ℤ pos d) (omega (arith, Z.abs-parts (y -ℤ x), Z.bal_+ y (neg_ℤ x), Z.bal_neg x, Z.bal_+ x (pos d)))

off_below : (x y : ℤ) (d : ℕ) → nat_abs (y -ℤ x) ≤ d → x ≤ℤ (y +ℤ pos d)
off_below x y d h = Z.≤_in x (y +ℤ pos d) (omega (arith, Z.abs-parts (y -ℤ x), Z.bal_+ y (neg_ℤ x), Z.bal_neg x, Z.bal_+ y (pos d)))

both_off : (x y : ℤ) (d : ℕ) → y ≤ℤ (x +ℤ pos d) → x ≤ℤ (y +ℤ pos d) → nat_abs (y -ℤ x) ≤ d
both_off x y d h l = Z.abs_le (y -ℤ x) d (omega (arith, Z.≤_out _ _ h, Z.bal_+ y (neg_ℤ x), Z.bal_neg x, Z.bal_+ x (pos d)))
    (omega (arith, Z.≤_out _ _ l, Z.bal_+ y (neg_ℤ x), Z.bal_neg x, Z.bal_+ y (pos d)))

enlarged : (x y : ℤ) (d m n : ℕ) → m ≤ n → x ≤ℤ (y +ℤ (fine (pos d) +ℤ pos (m - 1))) → x ≤ℤ (y +ℤ pos (fineness * d + (n - 1)))
enlarged x y d m n h l =
    Z.≤_in x (y +ℤ pos (fineness * d + (n - 1))) (omega (arith, Z.≤_out _ _ l, Z.bal_+ y (fine (pos d) +ℤ pos (m - 1)), Z.bal_+ y (pos (fineness * d + (n - 1)))))

-- ---- a value

module _ (s : Space) (a : Accepted s) (x : ℤ) (inside : InSpan s x) (d : ℕ) where
  abbrev j : ℕ
  j = segment_at s x

  -- one list at most d above the other
  moves_up : (wood other : Wood) (coefs moved : List ℤ)
      → ((i : ℕ) → i < length a.table → weighs_on s a.table j i ≡ true → coefficient other moved i ≤ℤ (coefficient wood coefs i +ℤ pos d))
      → value_at s a.table other moved x ≤ℤ (value_at s a.table wood coefs x +ℤ pos (most_moved s a.table j d))
  unfolding value_at
  moves_up wood other coefs moved off =
      blended_moves s a x j (located s (accepted-checked s a).1 x inside) (coefficient wood coefs) (coefficient other moved) (pos d) (pos (most_moved s a.table j d))
      (Z.≤_in (fine (pos d)) (pos (most_moved s a.table j d)) (omega arith)) off
      (λ k l C weighs. enlarged _ (term_sum a.table (coefficient wood coefs) (first_column s j + k) (length a.table)) d _ _ (column_at_most_s s a.table j k l)
      (column_moves a.table (first_column s j + k) C (coefficient wood coefs) (coefficient other moved) (pos d) weighs))

pub close_coefficients_close_values : CloseCoefficientsCloseValues
close_coefficients_close_values s a wood other coefs moved d x inside h =
    both_off (value_at s a.table wood coefs x) (value_at s a.table other moved x) (most_moved s a.table (segment_at s x) d)
    (moves_up s a x inside d wood other coefs moved (λ i l w. off_above (coefficient wood coefs i) (coefficient other moved i) d (h i l w)))
    (moves_up s a x inside d other wood moved coefs (λ i l w. off_below (coefficient wood coefs i) (coefficient other moved i) d (h i l w)))

pub close_cells : CloseCells
close_cells s coefs moved positions num_length den_length values_length l m held before wood other d h k below =
    rw (cell-holds-value l held k below wood, cell-holds-value m before k below other)
    (subst (λ t. nat_abs (value_at s t other moved (get_or positions k (pos 0)) -ℤ value_at s l.accepted.table wood coefs (get_or positions k (pos 0))) ≤ fineness * d + 2)
    (one_table s l.accepted m.accepted)
    (omega (
      arith,
      close_coefficients_close_values s l.accepted wood other coefs moved d (get_or positions k (pos 0)) inside
          (λ i n w. h i (omega (arith, row_count_lem s l.accepted.table (built s l.accepted.table l.accepted.is)))),
      most_weights_three s l.accepted (segment_at s (get_or positions k (pos 0))) (located s (accepted-checked s l.accepted).1 (get_or positions k (pos 0)) inside).below,
    )))
  where
    inside : InSpan s (get_or positions k (pos 0))
    inside = position-inside s positions k (l.in_span k below)
