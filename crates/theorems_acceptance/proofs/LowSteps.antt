-- A step of order 0 or 1 on a table with small entries counts small fractions alone: the two rows that a new entry mixes
-- never have a weight in one column both, and a factor other than 0 and 1 meets a weight 1.
use mathlib.Core.Path.{◌≡◌, refl, sym, ◌∙◌, ap, ap₂, subst}
use mathlib.Core.Logic.{◌⊎◌, inl, inr}
use mathlib.Core.List.{List, [], ◌∷◌}
use Prim.Native.Nat.{ℕ, zero, suc, ◌+◌, ◌-◌, ◌<◌, ◌≤◌}
use native.Mathlib.Omega.{arith}
use lib.IntN.{pos, neg_ℤ, nat_abs}
use lib.ListN.{length}
use lib.Seq.{get_or_at}
use Rattle.base_exact.specs.Rational.{ℚ, int, ◌+ᵠ◌, ◌*ᵠ◌, -ᵠ◌, ◌-ᵠ◌, ◌/ᵠ◌}
use Rattle.base_exact.specs.Order.{◌<ᵠ◌}
use Rattle.base_exact.specs.Sum.{sum}
use Rattle.base_exact.specs.Tabulate.{tab}
use Rattle.base_exact.proofs.Decide.{le_or_lt}
use Rattle.base_exact.proofs.Integer.{abs_neg, abs-zero}
use Rattle.base_exact.proofs.Ring.{ring, by_eq}
use Rattle.base_exact.proofs.Rational.{ℚ-ring, readsℚ, int_neg}
use Rattle.base_exact.proofs.Sum.{sum-last}
use Rattle.base_exact.proofs.Tabulate.{tab_length, tab_get_d, get_d_tab}
use Rattle.spec_spline.specs.Space.{Space, segments, degree, first_column, column_count}
use Rattle.spec_spline.specs.Conditions.{conditions}
use Rattle.spec_spline.specs.Table.{Table, entry, row, cell}
use Rattle.spec_spline.proofs.Table.{entry_past, row-past}
use Rattle.spec_spline.proofs.Space.{segment-column}
use Rattle.theorems_weights.specs.Counted.{exact_jumps, first_jump, last_jump, quotient, inner_rows, inner_row, exact_factors, jump_tests, entry_tests, step_tests, exact_row, exact_step}
use Rattle.theorems_weights.proofs.Stepped.{values}
use Rattle.theorems_weights.proofs.PublishedBasis.{cell-beside}
use Rattle.theorems_acceptance.specs.Acceptance.{counted_limit}
use Rattle.theorems_stages.proofs.Rows.{lowest, highest, lowest_at_most_highest}
use Rattle.theorems_stages.proofs.RowMoves.{first_spanned, last_spanned, Stands, under, inside, over, stands, last_is}
use Rattle.theorems_stages.proofs.Support.{Support, support_ends}
use Rattle.theorems_stages.proofs.Stages.{met, At, spanning}
use Rattle.theorems_stages.proofs.Invariant.{column}
use Rattle.theorems_stages.proofs.Alternating.{Alternates, jump-inside, quotient-above, quotient-below}
use Rattle.theorems_stages.proofs.Tests.{Good, Every, first_is, last_is as last-jump-is, quotient_is, step-good}
use Rattle.theorems_stages.proofs.Entries.{TableHas, spliced_has}
use Rattle.theorems_stages.proofs.Reached.{Reached, alternate}
use Rattle.theorems_acceptance.proofs.WeightCount.{column-within}
use Rattle.theorems_acceptance.proofs.Small.{Small, small_int, small-zero, small-quotient, small-rest, only-first, only-second, first_one, second_one, last_entry}
use Rattle.theorems_acceptance.proofs.Loads.{Whole, load_tests, load-jump}
use Rattle.theorems_acceptance.proofs.LowJumps.{Unit, unit_of, row-load}

-- ---- the factors as a list

first-factor : (js : List ℚ) → entry (exact_factors js) 0 ≡ int (pos 1)
unfolding exact_factors
first-factor js = refl

last-factor : (js : List ℚ) (d : ℕ) → inner_rows js ≡ d → entry (exact_factors js) (suc d) ≡ int (pos 0)
unfolding exact_factors
last-factor js d e = get_or_at (tab (inner_rows js) (λ d. quotient js (inner_row js d))) (int (pos 0)) [] (int (pos 0)) d (tab_length (inner_rows js) _ ∙ e)

inner_factor : (js : List ℚ) (d : ℕ) → d < inner_rows js → entry (exact_factors js) (suc d) ≡ quotient js (inner_row js d)
unfolding exact_factors
inner_factor js d h = get_d_tab (inner_rows js) (λ d. quotient js (inner_row js d)) (int (pos 0) ∷ []) d (int (pos 0)) h

-- ---- a column's entries around the rows with a jump

data Entries (t : Table) (c f l : ℕ) : Type 0 where
  low : ((i : ℕ) → f < i → cell t i c ≡ int (pos 0)) → Entries t c f l
  middle : suc f < l → Unit t c (suc f) → Entries t c f l
  high : ((i : ℕ) → i < l → cell t i c ≡ int (pos 0)) → Entries t c f l

module _ {s : Space} {join k : ℕ} {t : Table} (at : At s join k) (R : Reached s join k t) (low-order : k ≤ 1) where
  f : ℕ
  f = first_spanned (degree s) (met s join k) join k

  l : ℕ
  l = last_spanned (degree s) (met s join k) join

  end : l ≡ suc (f + k)
  unfolding f l
  end = last_is (spanning at)

  entries-of : (c : ℕ) → Entries t c f l
  unfolding f l
  entries-of c = go (le_or_lt (column_count s) c)
    where
      placed : (j u : ℕ) → j < segments s → u ≤ degree s j → Entries t (first_column s j + u) f l
      placed j u a b = stand (stands (spanning at) low-order j u b)
        where
          S : Support (column s t j u) (lowest (degree s) (met s join k) j u) (highest (degree s) (met s join k) j u)
          S = R.shape.supported j u a b

          stand : Stands f l (lowest (degree s) (met s join k) j u) (highest (degree s) (met s join k) j u) → Entries t (first_column s j + u) f l
          stand (under x) = low (λ i y. S.above i (omega arith))
          stand (inside x y) = let o = lowest_at_most_highest (degree s) (met s join k) j u in let e = end in middle (omega arith)
              (unit_of t (first_column s j + u) (suc f)
              (support_ends (let z : lowest (degree s) (met s join k) j u ≡ suc f = omega arith in z)
              (let z : highest (degree s) (met s join k) j u ≡ suc f = omega arith in z) S) (R.basis.column_sums _ (segment-column s j u a b)))
          stand (over x) = high (λ i y. S.below i (omega arith))

      go : (column_count s ≤ c) ⊎ (c < column_count s) → Entries t c f l
      go (inl a) = low (λ i x. cell-beside (column_count s) t R.basis.wide i c a)
      go (inr a) = let w = column-within s (segments s) c a in subst (λ d. Entries t d f l) w.is (placed w.segment w.ordinate w.segment-below w.ordinate-within)

  -- ---- partial sums and factors

  js : List ℚ
  js = exact_jumps (conditions s join k) t

  J : ℕ → ℚ
  J i = values (conditions s join k) t i

  A : Alternates f l (λ i. sum i J)
  unfolding f l J
  A = alternate at R

  f<l : f < l
  f<l = omega (arith, end)

  whole : (i : ℕ) → Whole (J i) counted_limit
  unfolding J
  whole i = let r = row-load at R low-order i in let w = load-jump r.load in record { number = w.number; is = w.is; size = omega (arith, w.size, r.within) }

  -- the one sum that is tested is the last jump, its sign changed
  sum_is_last : (i : ℕ) → suc i ≡ l → sum (suc i) J ≡ int (neg_ℤ (whole l).number)
  sum_is_last i e = ap (λ n. sum n J) e ∙ opposite (sum l J) (J l) (sym (sum-last l J) ∙ A.after (suc l) (omega arith)) ∙ ap (λ q. -ᵠ q) (whole l).is ∙ sym (int_neg (whole l).number)
    where
      opposite : (p q : ℚ) → p +ᵠ q ≡ int (pos 0) → p ≡ -ᵠ q
      opposite p q z = by_eq ℚ-ring (int (pos 1)) z (ring ℚ-ring (p ∷ q ∷ []) (search readsℚ depth 20) (search readsℚ depth 20) refl)

  number_positive : (i : ℕ) → f < i → i < l → 0 < nat_abs (whole i).number
  number_positive i a b = go (nat_abs (whole i).number) refl
    where
      go : (n : ℕ) → nat_abs (whole i).number ≡ n → 0 < nat_abs (whole i).number
      go zero e = absurd (jump-inside f l J A f<l i (omega arith) (omega arith) ((whole i).is ∙ ap int (abs-zero (whole i).number e)))
      go (suc n) e = omega arith

  module _ (n : ℕ) (big : counted_limit ≤ n) where
    sums_small : (i : ℕ) → f < i → i < l → Small n (sum (suc i) J) × Small n (sum (suc i) J /ᵠ J i)
    sums_small i a b = let e : suc i ≡ l = omega (arith, end) in (
      subst (Small n) (sym (sum_is_last i e)) (small_int (neg_ℤ (whole l).number) (omega (arith, abs_neg (whole l).number, (whole l).size)) (omega arith)),
      subst (Small n) (sym (ap₂ ◌/ᵠ◌ (sum_is_last i e) (whole i).is))
          (small-quotient (neg_ℤ (whole l).number) (whole i).number (omega (arith, abs_neg (whole l).number, (whole l).size)) (omega (arith, (whole i).size))
          (number_positive i a b)),
    )

    products_small : (i : ℕ) → Every (Good (Small n)) (jump_tests join (row t i) (int (pos 0)) (conditions s join k))
    products_small i = let r = row-load at R low-order i in load_tests n join (pos 0) r.load (omega (arith, r.within)) (omega arith) (int (pos 0)) refl

    -- ---- new entries

    inner_count : inner_rows js ≡ k
    unfolding inner_rows js J
    inner_count = omega (arith, first_is (conditions s join k) t f l A f<l, last-jump-is (conditions s join k) t f l A f<l, end)

    -- the factor of order 1
    inner_is : k ≡ 1 → entry (exact_factors js) 1 ≡ sum (suc (suc f)) J /ᵠ J (suc f)
    unfolding inner_row js J
    inner_is e = inner_factor js 0 (omega (arith, inner_count)) ∙ ap (quotient js) (let z : first_jump js + 1 + 0 ≡ suc f = omega (arith, first_is (conditions s join k) t f l A f<l) in z)
        ∙ quotient_is (conditions s join k) t f l A f<l (suc f) (omega arith)

    module _ (cells : TableHas (Small n) t) where
      factor-small : k ≡ 1 → Small n (entry (exact_factors js) 1)
      factor-small e = subst (Small n) (sym (inner_is e)) (sums_small (suc f) (omega arith) (omega (arith, end))).1

      rest-small : k ≡ 1 → Small n (int (pos 1) -ᵠ entry (exact_factors js) 1)
      rest-small e = small-rest (entry (exact_factors js) 1) (factor-small e)
          (subst (λ q. int (pos 0) <ᵠ q) (sym (inner_is e)) (quotient-above f l J A (suc f) (omega arith) (omega (arith, end))))
          (subst (λ q. q <ᵠ int (pos 1)) (sym (inner_is e)) (quotient-below f l J A (suc f) (omega arith) (omega (arith, end))))

      holds : (c i r : ℕ) → i ≡ r → Unit t c r → cell t i c ≡ int (pos 1)
      holds c i r e U = subst (λ x. cell t x c ≡ int (pos 1)) (sym e) U.one

      -- new row f
      first-row : (c : ℕ) → Entries t c f l → Every (Good (Small n)) (entry_tests join (entry (exact_factors js) 0) (entry (exact_factors js) 1) (cell t (f + 0) c) (cell t (f + 1) c))
      first-row c (low z) = only-first (omega arith) join _ _ _ _ (first-factor js) (z (f + 1) (omega arith)) (cells (f + 0) c)
      first-row c (middle p U) = second_one (omega arith) join _ _ _ _ (U.none (f + 0) (λ z. omega arith)) (holds c (f + 1) (suc f) (omega arith) U) (rest-small (omega (arith, end)))
      first-row c (high z) = go (le_or_lt k 0)
        where
          go : (k ≤ 0) ⊎ (0 < k) → Every (Good (Small n)) (entry_tests join (entry (exact_factors js) 0) (entry (exact_factors js) 1) (cell t (f + 0) c) (cell t (f + 1) c))
          go (inl a) = only-second (omega arith) join _ _ _ _ (last-factor js 0 (omega (arith, inner_count))) (z (f + 0) (omega (arith, f<l))) (cells (f + 1) c)
          go (inr a) = only-first (omega arith) join _ _ _ _ (first-factor js) (z (f + 1) (omega (arith, end))) (cells (f + 0) c)

      -- new row f + 1, at order 1
      second-row : k ≡ 1 → (c : ℕ) → Entries t c f l → Every (Good (Small n)) (entry_tests join (entry (exact_factors js) 1) (entry (exact_factors js) 2) (cell t (f + 1) c) (cell t (f + 2) c))
      second-row e c (low z) = only-second (omega arith) join _ _ _ _ (last-factor js 1 (inner_count ∙ e)) (z (f + 1) (omega arith)) (cells (f + 2) c)
      second-row e c (middle p U) = first_one (omega arith) join _ _ _ _ (holds c (f + 1) (suc f) (omega arith) U) (U.none (f + 2) (λ z. omega arith)) (factor-small e)
      second-row e c (high z) = only-second (omega arith) join _ _ _ _ (last-factor js 1 (inner_count ∙ e)) (z (f + 1) (omega (arith, end))) (cells (f + 2) c)

      entries-small : (d c : ℕ) → d < l - f → Every (Good (Small n)) (entry_tests join (entry (exact_factors js) d) (entry (exact_factors js) (suc d)) (cell t (f + d) c) (cell t (f + suc d) c))
      entries-small zero c b = first-row c (entries-of c)
      entries-small (suc zero) c b = second-row (omega (arith, end)) c (entries-of c)
      entries-small (suc (suc d)) c b = absurd (omega (arith, end))

      pub low_step-good : Every (Good (Small n)) (step_tests join (conditions s join k) t)
      unfolding js J
      low_step-good = step-good (conditions s join k) t f l A f<l (Small n) join (λ i a. products_small i) sums_small entries-small

      -- ---- the table after the step

      first-row_is : first_jump js ≡ f
      unfolding js J
      first-row_is = first_is (conditions s join k) t f l A f<l

      last-row_is : last_jump js ≡ l
      unfolding js J
      last-row_is = last-jump-is (conditions s join k) t f l A f<l

      -- how many rows are new, and the new rows
      abbrev count : ℕ
      count = last_jump js - first_jump js

      abbrev made : Table
      made = tab count (exact_row js (exact_factors js) t)

      mixed_small : (d c : ℕ) → d < count → Small n (entry (exact_factors js) d *ᵠ cell t (first_jump js + d) c +ᵠ (int (pos 1) -ᵠ entry (exact_factors js) (suc d)) *ᵠ cell t (first_jump js + suc d) c)
      mixed_small d c b = subst (λ r. Small n (entry (exact_factors js) d *ᵠ cell t (r + d) c +ᵠ (int (pos 1) -ᵠ entry (exact_factors js) (suc d)) *ᵠ cell t (r + suc d) c)) (sym first-row_is)
          (last_entry join _ _ _ _ (entries-small d c (omega (arith, first-row_is, last-row_is))))

      new-rows : (d c : ℕ) → (count ≤ d) ⊎ (d < count) → Small n (entry (row made d) c)
      unfolding exact_row
      new-rows d c (inl a) = subst (Small n) (sym (ap (λ r. entry r c) (row-past made d (rw (tab_length count (exact_row js (exact_factors js) t)) a)))) (small-zero (omega arith))
      new-rows d c (inr a) = subst (λ r. Small n (entry r c)) (sym (tab_get_d count (exact_row js (exact_factors js) t) d [] a)) (in_row (le_or_lt (length (row t (first_jump js + d))) c))
        where
          in_row : (length (row t (first_jump js + d)) ≤ c) ⊎ (c < length (row t (first_jump js + d))) → Small n (entry (exact_row js (exact_factors js) t d) c)
          in_row (inl b) = subst (Small n) (sym (entry_past (exact_row js (exact_factors js) t d) c (rw (tab_length (length (row t (first_jump js + d))) _) b))) (small-zero (omega arith))
          in_row (inr b) = subst (Small n) (sym (tab_get_d (length (row t (first_jump js + d))) _ c (int (pos 0)) b)) (mixed_small d c a)

      -- its entries are small too
      pub low_step-cells : TableHas (Small n) (exact_step (conditions s join k) t)
      unfolding exact_step js
      low_step-cells = spliced_has (Small n) (small-zero (omega arith)) t made (first_jump js) (last_jump js) cells (λ d c. new-rows d c (le_or_lt (count) d))
