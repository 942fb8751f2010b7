-- Local support, proved: the rows with weight on each ordinate are those that the last stage of the build leaves, and from segment to
-- segment their first row rises by at least one.
use mathlib.Core.Path.{◌≡◌, ap, subst}
use mathlib.Core.Logic.{◌⊎◌, inl, inr}
use mathlib.Core.Bool.{true, cond, not}
use Prim.Native.Nat.{ℕ, zero, suc, ◌+◌, ◌-◌, ◌<◌, ◌≤◌, max}
use native.Mathlib.Omega.{arith}
use borrow.Author.Tests.{lt-ltb, le-ltb}
use lib.Dec.{ltb}
use lib.IntN.{ℤ, pos}
use lib.ListN.{length, get_or}
use lib.Signed.{◌≤ℤ◌}
use Rattle.base_exact.specs.Rational.{int}
use Rattle.base_exact.proofs.Decide.{le_or_lt, true_not_false, cond_true, cond_false}
use Rattle.base_exact.proofs.Integer as Z
use Rattle.base_exact.proofs.Order.{pos_nonzero, zero_test, nonzero_test}
use Rattle.spec_spline.specs.Space.{Space, segments, degree, condition_count, first_column, conditions_before, rows_before}
use Rattle.spec_spline.specs.Table.{cell}
use Rattle.spec_spline.specs.Piecewise.{Accepted}
use Rattle.spec_spline.specs.Reading.{segment_at, coefficient, value_at}
use Rattle.spec_spline.specs.ExactCurve.{weighs_on}
use Rattle.spec_spline.proofs.Legal.{Checked, legal}
use Rattle.theorems_weights.proofs.Built.{built, row_count_lem}
use Rattle.theorems_beams.proofs.Sections.{orders_fit, conditions_fewer}
use Rattle.theorems_values.proofs.OnSegment.{weighs_in_column}
use Rattle.theorems_values.proofs.Segment.{accepted-checked, located}
use Rattle.theorems_values.proofs.Cells.{cell-holds-value, position-inside}
use Rattle.theorems_acceptance.specs.WeightCount.{left_conditions, right_conditions}
use Rattle.theorems_stages.proofs.Limits.{limits}
use Rattle.theorems_stages.proofs.Rows.{first_row, left_count, lowest, highest}
use Rattle.theorems_stages.proofs.Stages.{met, met_before}
use Rattle.theorems_stages.proofs.Support as supports
use Rattle.theorems_acceptance.proofs.WeightCount.{last-reached, left_is, right_is}
use Rattle.theorems_raising.proofs.Raising.{raised_coefficients_lower_no_value, one_table}
use Rattle.theorems_parts.proofs.FallingBeams.{Weighing, weighing}
use Rattle.theorems_support.specs.Support.{ActsOn, RowsThatAct, RowsReach, FourSegmentsAtMost, OthersDoNotCount, OneCoefficientActsHere, OtherCellsStay}

module _ (s : Space) (a : Accepted s) where
  c : Checked s
  c = (accepted-checked s a).1

  abbrev e : ℕ → ℕ
  e = met s (segments s - 1) 0

  -- the first row of a segment
  pub first-row : (j : ℕ) → j < segments s → first_row (degree s) e j ≡ rows_before s j
  unfolding first_row first_column conditions_before
  first-row zero h = omega arith
  first-row (suc j) h =
      omega (
        arith,
        first-row j (omega arith),
        met_before s (segments s - 1) 0 j (omega arith),
        conditions_fewer s (orders_fit s c) j (omega arith),
        (legal s c).below-left-degree j (omega arith),
      )

  -- the rows of an ordinate
  pub supported : (j u : ℕ) → j < segments s → u ≤ degree s j
      → supports.Support (λ i. cell a.table i (first_column s j + u)) (rows_before s j + u - (right_conditions s j + u - (degree s j + 1))) (rows_before s j + max u (left_conditions s j - 1))
  unfolding lowest highest
  supported j u h l =
      subst (λ n. supports.Support (λ i. cell a.table i (first_column s j + u)) (rows_before s j + u - (right_conditions s j + u - (degree s j + 1))) (rows_before s j + max u (n - 1))) (left_is s j h)
      (subst (λ n. supports.Support (λ i. cell a.table i (first_column s j + u)) (rows_before s j + u - (n + u - (degree s j + 1))) (rows_before s j + max u (left_count e j - 1))) (right_is s j h)
      (subst (λ n. supports.Support (λ i. cell a.table i (first_column s j + u)) (n + u - (e j + u - (degree s j + 1))) (n + max u (left_count e j - 1))) (first-row j h)
      ((last-reached s a).shape.supported j u h l)))

  -- conditions are no more than the degree beside them
  pub right-fits : (j : ℕ) → j < segments s → right_conditions s j ≤ degree s j
  unfolding right_conditions
  right-fits j h = go (le_or_lt (segments s) (suc j))
    where
      go : (segments s ≤ suc j) ⊎ (suc j < segments s) → cond (ltb (suc j) (segments s)) (condition_count s j) 0 ≤ degree s j
      go (inl l) = let z = cond_false (condition_count s j) 0 (le-ltb (suc j) (segments s) l) in omega arith
      go (inr l) = let z = cond_true (condition_count s j) 0 (lt-ltb (suc j) (segments s) l) in omega (arith, (legal s c).below-left-degree j (omega arith))

  pub left-fits : (j : ℕ) → j < segments s → left_conditions s j ≤ degree s j
  left-fits zero h = omega arith
  left-fits (suc j) h = omega (arith, (legal s c).below-right-degree j (omega arith))

  -- ---- the rows that act on a segment

  acting : (j i : ℕ) → j < segments s → weighs_on s a.table j i ≡ true → ActsOn s j i
  acting j i h z = record { from = low (le_or_lt (rows_before s j) i); to = high (le_or_lt i (rows_before s j + degree s j)) }
    where
      w : Weighing s a.table j i
      w = weighing s a.table j i z

      S : supports.Support (λ k. cell a.table k (first_column s j + w.ordinate)) (rows_before s j + w.ordinate - (right_conditions s j + w.ordinate - (degree s j + 1)))
          (rows_before s j + max w.ordinate (left_conditions s j - 1))
      S = supported j w.ordinate h w.within

      no_zero : cell a.table i (first_column s j + w.ordinate) ≡ int (pos 0) → ⊥
      no_zero q = true_not_false w.weighs (ap not (zero_test q))

      low : (rows_before s j ≤ i) ⊎ (i < rows_before s j) → rows_before s j ≤ i
      low (inl l) = l
      low (inr l) = absurd (no_zero (S.below i (omega (arith, w.within, right-fits j h))))

      high : (i ≤ rows_before s j + degree s j) ⊎ (rows_before s j + degree s j < i) → i ≤ rows_before s j + degree s j
      high (inl l) = l
      high (inr l) = absurd (no_zero (S.above i (omega (arith, w.within, left-fits j h))))

  weighing_back : (j i : ℕ) → j < segments s → ActsOn s j i → weighs_on s a.table j i ≡ true
  weighing_back j i h A = weighs_in_column s a.table j u i (omega (arith, A.to))
      (ap not (nonzero_test (pos_nonzero ((supported j u h (omega (arith, A.to))).positive i (omega (arith, A.from)) (omega (arith, A.from))))))
    where
      u : ℕ
      u = i - rows_before s j

  -- ---- how far a row reaches

  -- behind the next segment each brings a row at least
  rows-rise : (j n : ℕ) → suc (j + n) < segments s → rows_before s j + (degree s j + 1 - condition_count s j) + n ≤ rows_before s (suc (j + n))
  unfolding first_column conditions_before
  rows-rise j zero h = subst (λ k. rows_before s j + (degree s j + 1 - condition_count s j) + 0 ≤ rows_before s (suc k)) (let z : j ≡ j + 0 = omega arith in z)
      (omega (arith, conditions_fewer s (orders_fit s c) j (omega arith), (legal s c).below-left-degree j (omega arith)))
  rows-rise j (suc n) h = subst (λ k. rows_before s j + (degree s j + 1 - condition_count s j) + suc n ≤ rows_before s (suc k)) (let z : suc (j + n) ≡ j + suc n = omega arith in z)
      (omega (arith, rows-rise j n (omega arith), conditions_fewer s (orders_fit s c) (suc (j + n)) (omega arith), (legal s c).below-left-degree (suc (j + n)) (omega arith)))

  reach : (j k i : ℕ) → suc j < segments s → k < segments s → ActsOn s j i → ActsOn s k i → k ≤ j + condition_count s j
  reach j k i h l A B = go (le_or_lt k (j + condition_count s j))
    where
      go : (k ≤ j + condition_count s j) ⊎ (j + condition_count s j < k) → k ≤ j + condition_count s j
      go (inl m) = m
      go (inr m) =
          absurd (omega (
            arith,
            A.to,
            B.from,
            rows-rise j (k - suc j) (omega arith),
            ap (rows_before s) (let z : suc (j + (k - suc j)) ≡ k = omega arith in z),
            (legal s c).below-left-degree j (omega arith),
          ))

pub rows_that_act : RowsThatAct
rows_that_act s a j i h = (acting s a j i h, weighing_back s a j i h)

pub rows_reach : RowsReach
rows_reach s a j k i h l p q = reach s a j k i h l (acting s a j i (omega arith) p) (acting s a k i l q)

pub four_segments_at_most : FourSegmentsAtMost
four_segments_at_most s a j k i h l p q = omega (arith, rows_reach s a j k i h l p q, (limits s (accepted-checked s a).1).few_conditions j (omega arith))

-- ---- values

pub others_do_not_count : OthersDoNotCount
others_do_not_count s a wood other coefs changed x inside same = Z.≤_antisym _ _
    (raised_coefficients_lower_no_value s a wood other coefs changed x inside (λ i h w. subst (λ z. coefficient wood coefs i ≤ℤ z) (agree i h w) (Z.≤-refl _)))
    (raised_coefficients_lower_no_value s a other wood changed coefs x inside (λ i h w. subst (λ z. z ≤ℤ coefficient wood coefs i) (agree i h w) (Z.≤-refl _)))
  where
    agree : (i : ℕ) → i < length a.table → weighs_on s a.table (segment_at s x) i ≡ true → coefficient wood coefs i ≡ coefficient other changed i
    agree i h w = same i (omega (arith, row_count_lem s a.table (built s a.table a.is))) (acting s a (segment_at s x) i (located s (accepted-checked s a).1 x inside).below w)

pub one_coefficient_acts_here : OneCoefficientActsHere
one_coefficient_acts_here s a wood coefs changed r same x inside away =
    others_do_not_count s a wood wood coefs changed x inside (λ i h A. same i h (λ z. other A z away))
  where
    other : {i : ℕ} → ActsOn s (segment_at s x) i → i ≡ r → (r < rows_before s (segment_at s x)) ⊎ (rows_before s (segment_at s x) + degree s (segment_at s x) < r) → ⊥
    other A z (inl h) = omega (arith, A.from)
    other A z (inr h) = omega (arith, A.to)

pub other_cells_stay : OtherCellsStay
other_cells_stay s coefs changed positions num_length den_length values_length l m held before wood r same k h away =
    rw (cell-holds-value l held k h wood, cell-holds-value m before k h wood)
    (subst (λ t. value_at s l.accepted.table wood coefs (get_or positions k (pos 0)) ≡ value_at s t wood changed (get_or positions k (pos 0))) (one_table s l.accepted m.accepted)
    (one_coefficient_acts_here s l.accepted wood coefs changed r same (get_or positions k (pos 0)) (position-inside s positions k (l.in_span k h)) away))
