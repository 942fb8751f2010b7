-- Coefficients as ordinates, proved: the last segment in which a row's ordinate is past the reach of the left join, which then is before that of the
-- right one, has a column on which the row alone has weight, and that weight is one.
use mathlib.Core.Path.{◌≡◌, sym, ◌∙◌, ap, subst}
use mathlib.Core.Logic.{◌≢◌, ◌⊎◌, inl, inr}
use mathlib.Core.Bool.{Bool, false, cond, not}
use mathlib.Core.List.{List}
use Prim.Native.Nat.{ℕ, suc, ◌+◌, ◌-◌, ◌<◌, ◌≤◌, max}
use native.Mathlib.Omega.{arith}
use borrow.Author.Tests.{lt-ltb, le-ltb}
use lib.Dec.{T, leb, ltb, leb→le, nleb→lt, le→leb}
use lib.IntN.{pos}
use lib.ListN.{length}
use Rattle.base_exact.specs.Rational.{ℚ, int, ◌*ᵠ◌}
use Rattle.base_exact.specs.Sum.{sum}
use Rattle.base_exact.proofs.Decide.{le_or_lt, true_holds, holds_true, true_not_false, cond_true, cond_false}
use Rattle.base_exact.proofs.Rational.{mul-one, mul-zero}
use Rattle.base_exact.proofs.Sum.{sum-only}
use Rattle.base_exact.proofs.Tabulate.{tab_get_d}
use Rattle.base_outcome.proofs.Search.{Last, SearchedBack, at, nowhere, search_last}
use Rattle.spec_spline.specs.Space.{Space, segments, degree, condition_count, first_column, column_count, conditions_before, row_count, rows_before}
use Rattle.spec_spline.specs.Table.{Table, entry, cell}
use Rattle.spec_spline.specs.Piecewise.{Accepted, combination}
use Rattle.spec_spline.proofs.Legal.{Checked, legal}
use Rattle.spec_spline.proofs.Space.{segment-column}
use Rattle.theorems_weights.proofs.Built.{built, row_count_lem}
use Rattle.theorems_beams.proofs.Sections.{orders_fit, conditions_fewer}
use Rattle.theorems_values.proofs.Segment.{accepted-checked}
use Rattle.theorems_values.proofs.Weights.{accepted-column}
use Rattle.theorems_acceptance.specs.Acceptance.{OrdersAtMostOne}
use Rattle.theorems_acceptance.specs.WeightCount.{left_conditions, right_conditions}
use Rattle.theorems_stages.proofs.Limits.{limits}
use Rattle.theorems_acceptance.proofs.SafeOrders.{low_count}
use Rattle.theorems_stages.proofs.Support as supports
use Rattle.theorems_support.proofs.Support.{supported}
use Rattle.theorems_lines.specs.Ordinates.{CoefficientsAreOrdinates}

-- ---- a column with weight from one row alone

pub false_not : {b : Bool} → b ≡ false → T (not b)
false_not e = rw e tt

pub single : (s : Space) (a : Accepted s) (c i : ℕ) → c < column_count s → i < length a.table → supports.Support (λ r. cell a.table r c) i i
    → (multipliers : List ℚ) → entry (combination (column_count s) multipliers a.table) c ≡ entry multipliers i
unfolding combination
single s a c i h l S = own
  where
    other : (r : ℕ) → r ≢ i → cell a.table r c ≡ int (pos 0)
    other r n = go (le_or_lt i r) (le_or_lt r i)
      where
        go : (i ≤ r) ⊎ (r < i) → (r ≤ i) ⊎ (i < r) → cell a.table r c ≡ int (pos 0)
        go (inr k) m = S.below r k
        go (inl k) (inr m) = S.above r m
        go (inl k) (inl m) = absurd (n (let z : r ≡ i = omega arith in z))

    one : cell a.table i c ≡ int (pos 1)
    one = sym (sum-only (length a.table) i {f = λ r. cell a.table r c} l (λ r k n. other r n)) ∙ (accepted-column s a c h).sums_one

    own : (multipliers : List ℚ) → entry (combination (column_count s) multipliers a.table) c ≡ entry multipliers i
    own multipliers = tab_get_d (column_count s) (λ d. sum (length a.table) (λ r. entry multipliers r *ᵠ cell a.table r d)) c (int (pos 0)) h
        ∙ sum-only (length a.table) i {f = λ r. entry multipliers r *ᵠ cell a.table r c} l (λ r k n. ap (λ q. entry multipliers r *ᵠ q) (other r n) ∙ mul-zero (entry multipliers r))
        ∙ ap (λ q. entry multipliers i *ᵠ q) one ∙ mul-one (entry multipliers i)

-- ---- the segment of a row

-- Row i alone has weight on this ordinate of this segment, the last one that has a row of its own at or before it.
pub record Spot (s : Space) (t : Table) (i : ℕ) : Type 0 where
  pub segment : ℕ
  pub ordinate : ℕ
  pub below : segment < segments s
  pub within : ordinate ≤ degree s segment
  pub row : rows_before s segment + ordinate ≡ i
  pub begins : rows_before s segment + (left_conditions s segment - 1) ≤ i
  pub last : (k : ℕ) → segment < k → k < segments s → i < rows_before s k + (left_conditions s k - 1)
  pub is : (multipliers : List ℚ) → entry (combination (column_count s) multipliers t) (first_column s segment + ordinate) ≡ entry multipliers i

module _ (s : Space) (a : Accepted s) (low : OrdersAtMostOne s) (i : ℕ) (below : i < row_count s) where
  c : Checked s
  c = (accepted-checked s a).1

  -- segment j has a row of its own at or before row i
  abbrev begun : ℕ → Bool
  begun j = leb (rows_before s j + (left_conditions s j - 1)) i

  few : (j : ℕ) → j < segments s - 1 → condition_count s j ≤ 2
  few j h = low_count _ (condition_count s j) ((limits s c).count_is_order j h) (low j h)

  module _ (j : ℕ) (F : Last begun (segments s) j) where
    from : rows_before s j + (left_conditions s j - 1) ≤ i
    from = leb→le (rows_before s j + (left_conditions s j - 1)) i (true_holds F.meets)

    abbrev t : ℕ
    t = i - rows_before s j

    -- it ends before the reach of the right join
    before : (t ≤ degree s j) × (right_conditions s j + t ≤ degree s j + 1)
    unfolding right_conditions first_column conditions_before
    before = go (le_or_lt (segments s) (suc j))
      where
        go : (segments s ≤ suc j) ⊎ (suc j < segments s) → (t ≤ degree s j) × (cond (ltb (suc j) (segments s)) (condition_count s j) 0 + t ≤ degree s j + 1)
        go (inl h) =
            let z = cond_false (condition_count s j) 0 (le-ltb (suc j) (segments s) h) in
            let e : segments s ≡ suc j = omega (arith, F.below) in
            let y = ap (first_column s) e in
            let w = ap (conditions_before s) (let v : segments s - 1 ≡ j = omega arith in v) in
            omega (arith, from, below, conditions_fewer s (orders_fit s c) j F.below)
        go (inr h) =
            let z = cond_true (condition_count s j) 0 (lt-ltb (suc j) (segments s) h) in
            omega (arith, from, later, conditions_fewer s (orders_fit s c) j F.below, few j (omega arith), (legal s c).below-left-degree j (omega arith))
          where
            later : i < rows_before s (suc j) + (condition_count s j - 1)
            later = nleb→lt (rows_before s (suc j) + (condition_count s j - 1)) i (false_not (F.after (suc j) (omega arith) h))

    own : (multipliers : List ℚ) → entry (combination (column_count s) multipliers a.table) (first_column s j + t) ≡ entry multipliers i
    own = single s a (first_column s j + t) i (segment-column s j t F.below before.0) (omega (arith, row_count_lem s a.table (built s a.table a.is)))
        (subst (λ n. supports.Support (λ r. cell a.table r (first_column s j + t)) i n) (let z : rows_before s j + max t (left_conditions s j - 1) ≡ i = omega (arith, from) in z)
        (subst (λ n. supports.Support (λ r. cell a.table r (first_column s j + t)) n (rows_before s j + max t (left_conditions s j - 1)))
        (let z : rows_before s j + t - (right_conditions s j + t - (degree s j + 1)) ≡ i = omega (arith, from, before.1) in z) (supported s a j t F.below before.0)))

    spot : Spot s a.table i
    spot = record {
      segment = j;
      ordinate = t;
      below = F.below;
      within = before.0;
      row = omega (arith, from);
      begins = from;
      last = λ k m n. nleb→lt (rows_before s k + (left_conditions s k - 1)) i (false_not (F.after k m n));
      is = own;
    }

  pub found : Spot s a.table i
  unfolding first_column conditions_before
  found = go (search_last begun (segments s))
    where
      go : SearchedBack begun (segments s) → Spot s a.table i
      go (at j F e) = spot j F
      go (nowhere none e) = absurd (true_not_false (holds_true (begun 0) (le→leb _ i (omega arith))) (none 0 (legal s c).lengths.some_segment))

pub coefficients_are_ordinates : CoefficientsAreOrdinates
coefficients_are_ordinates s a low i h = let p = found s a low i h in record {
  column = first_column s p.segment + p.ordinate;
  below = segment-column s p.segment
      p.ordinate p.below p.within;
  is = p.is;
}
