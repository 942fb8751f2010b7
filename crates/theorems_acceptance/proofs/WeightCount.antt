-- The count of the rows with weight on an ordinate, from the first and the last of them.
use mathlib.Core.Path.{◌≡◌, refl, sym, ◌∙◌, ap, ap₂, subst}
use mathlib.Core.Logic.{◌⊎◌, inl, inr}
use mathlib.Core.Bool.{Bool, true, false, cond, not}
use Prim.Native.Nat.{ℕ, zero, suc, ◌+◌, ◌-◌, ◌<◌, ◌≤◌, min, max}
use native.Mathlib.Omega.{arith}
use borrow.Author.Tests.{le-ltb, lt-ltb}
use lib.Dec.{ltb}
use lib.ListN.{length}
use Rattle.base_exact.proofs.Decide.{le_or_lt, cond_true, cond_false}
use Rattle.base_exact.proofs.Order.{zero_test, nonzero_test, pos_nonzero}
use Rattle.base_outcome.specs.Search.{how_many}
use Rattle.spec_spline.specs.Space.{Space, segments, order, degree, condition_count, first_column, column_count}
use Rattle.spec_spline.specs.Table.{Table, cell}
use Rattle.spec_spline.specs.Build.{weights}
use Rattle.spec_spline.specs.Piecewise.{Accepted}
use Rattle.spec_spline.specs.Reading.{has_weight}
use Rattle.spec_spline.proofs.Table.{cell-past}
use Rattle.spec_spline.proofs.Legal.{legal}
use Rattle.theorems_weights.proofs.Built.{built}
use Rattle.theorems_values.proofs.Segment.{accepted-checked}
use Rattle.theorems_stages.specs.Counts.{full_count}
use Rattle.theorems_acceptance.specs.WeightCount.{left_conditions, right_conditions, weight_count, WeightsAreCounted, AtMostThreeWeights, AtMostTwoWeights}
use Rattle.theorems_stages.proofs.Rows.{first_row, left_count, lowest, highest, lowest_at_most_highest}
use Rattle.theorems_stages.proofs.Support.{Support}
use Rattle.theorems_stages.proofs.Limits.{Limits, limits}
use Rattle.theorems_acceptance.proofs.SafeOrders.{low_count}
use Rattle.theorems_stages.proofs.Stages.{met, met_before, met_here, Compared, before, same, after, compared}
use Rattle.theorems_stages.proofs.Reached.{Reached, joins-reached}

-- ---- counting a stretch of places

module _ (test : ℕ → Bool) (low high : ℕ) (yes : (i : ℕ) → low ≤ i → i ≤ high → test i ≡ true) (no-before : (i : ℕ) → i < low → test i ≡ false) (no-after : (i : ℕ) → high < i → test i ≡ false) where
  counted-below : (n : ℕ) → how_many n test ≡ min n (suc high) - low
  unfolding how_many
  counted-below zero = omega arith
  counted-below (suc n) = go (counted-below n) (le_or_lt low n) (le_or_lt n high)
    where
      with : how_many n test ≡ min n (suc high) - low → (b : Bool) (k : ℕ) → test n ≡ b → cond b 1 0 ≡ k → min n (suc high) - low + k ≡ min (suc n) (suc high) - low
          → how_many n test + cond (test n) 1 0 ≡ min (suc n) (suc high) - low
      with ih b k e f g = ap₂ ◌+◌ ih (ap (λ c. cond c 1 0) e ∙ f) ∙ g

      go : how_many n test ≡ min n (suc high) - low → (low ≤ n) ⊎ (n < low) → (n ≤ high) ⊎ (high < n) → how_many n test + cond (test n) 1 0 ≡ min (suc n) (suc high) - low
      go ih (inr a) b = with ih false 0 (no-before n a) refl (omega arith)
      go ih (inl a) (inl b) = with ih true 1 (yes n a b) refl (omega arith)
      go ih (inl a) (inr b) = with ih false 0 (no-after n b) refl (omega arith)

  pub counted-whole : (n : ℕ) → high < n → low ≤ high → how_many n test ≡ suc high - low
  counted-whole n h o = counted-below n ∙ omega arith

support_count : (t : Table) (c low high : ℕ) → Support (λ i. cell t i c) low high → low ≤ high → weight_count t c ≡ suc high - low
support_count t c low high S o =
    counted-whole (has_weight t c) low high (λ i a b. ap not (nonzero_test (pos_nonzero (S.positive i a b)))) (λ i a. ap not (zero_test (S.below i a)))
    (λ i a. ap not (zero_test (S.above i a))) (length t) (inside (le_or_lt (length t) high)) o
  where
    inside : (length t ≤ high) ⊎ (high < length t) → high < length t
    inside (inl h) = absurd (pos_nonzero (S.positive high o (omega arith)) (cell-past t high c h))
    inside (inr h) = h

-- ---- the last stage

pub last-reached : (s : Space) (a : Accepted s) → Reached s (segments s - 1) 0 a.table
unfolding weights
last-reached s a = let c = (accepted-checked s a).1 in joins-reached s (limits s c) (segments s - 1) (omega arith) (built s a.table a.is).weights_are

pub left_is : (s : Space) (j : ℕ) → j < segments s → left_count (met s (segments s - 1) 0) j ≡ left_conditions s j
left_is s zero h = refl
left_is s (suc j) h = met_before s (segments s - 1) 0 j (omega arith)

pub right_is : (s : Space) (j : ℕ) → j < segments s → met s (segments s - 1) 0 j ≡ right_conditions s j
unfolding right_conditions
right_is s j h = go (compared j (segments s - 1))
  where
    go : Compared j (segments s - 1) → met s (segments s - 1) 0 j ≡ cond (ltb (suc j) (segments s)) (condition_count s j) 0
    go (before a) = met_before s (segments s - 1) 0 j a ∙ sym (cond_true (condition_count s j) 0 (lt-ltb (suc j) (segments s) (omega arith)))
    go (same z) = subst (λ i. met s (segments s - 1) 0 i ≡ 0) (sym z) (met_here s (segments s - 1) 0) ∙ sym (cond_false (condition_count s j) 0 (le-ltb (suc j) (segments s) (omega arith)))
    go (after a) = absurd (omega arith)

rows-counted : (p e : ℕ → ℕ) (j u l r : ℕ) → u ≤ p j → left_count e j ≡ l → e j ≡ r → r ≤ p j → suc (highest p e j u) - lowest p e j u ≡ 1 + (l - (u + 1)) + (r - (p j - u + 1))
unfolding highest lowest
rows-counted p e j u l r h a b c = ap₂ (λ x y. suc (first_row p e j + x) - (first_row p e j + u - y)) (ap (λ n. max u (n - 1)) a ∙ up_by l) (ap (λ n. n + u - (p j + 1)) b ∙ down_by (p j) r h)
    ∙ between (first_row p e j) (l - (u + 1)) (r - (p j - u + 1)) (within (p j) r h c)
  where
    up_by : (l : ℕ) → max u (l - 1) ≡ u + (l - (u + 1))
    up_by l = omega arith

    down_by : (p r : ℕ) → u ≤ p → r + u - (p + 1) ≡ r - (p - u + 1)
    down_by p r h = omega arith

    within : (p r : ℕ) → u ≤ p → r ≤ p → r - (p - u + 1) ≤ u
    within p r h c = omega arith

    between : (d x y : ℕ) → y ≤ u → suc (d + (u + x)) - (d + u - y) ≡ 1 + x + y
    between d x y h = omega arith

-- ---- the statements

-- where no join has more than so many conditions
module _ (s : Space) (L : Limits s) (most : ℕ) (few : (j : ℕ) → j < segments s - 1 → condition_count s j ≤ most) where
  right-within : (j : ℕ) → j < segments s → (right_conditions s j ≤ degree s j) × (right_conditions s j ≤ most)
  unfolding right_conditions
  right-within j h = go (le_or_lt (segments s) (suc j))
    where
      go : (segments s ≤ suc j) ⊎ (suc j < segments s) → (cond (ltb (suc j) (segments s)) (condition_count s j) 0 ≤ degree s j) × (cond (ltb (suc j) (segments s)) (condition_count s j) 0 ≤ most)
      go (inl a) = let e = cond_false (condition_count s j) 0 (le-ltb (suc j) (segments s) a) in omega arith
      go (inr a) = let e = cond_true (condition_count s j) 0 (lt-ltb (suc j) (segments s) a) in omega (arith, L.legal.below-left-degree j (omega arith), few j (omega arith))

  left-within : (j : ℕ) → j < segments s → (left_conditions s j ≤ degree s j) × (left_conditions s j ≤ most)
  left-within zero h = omega arith
  left-within (suc j) h = omega (arith, L.legal.below-right-degree j (omega arith), few j (omega arith))

pub weights_are_counted : WeightsAreCounted
weights_are_counted s a j u h k = let c = (accepted-checked s a).1 in
    omega (
      arith,
      support_count a.table (first_column s j + u) _ _ ((last-reached s a).shape.supported j u h k) (lowest_at_most_highest (degree s) (met s (segments s - 1) 0) j u),
      rows-counted (degree s) (met s (segments s - 1) 0) j u (left_conditions s j) (right_conditions s j) k (left_is s j h) (right_is s j h)
          (right-within s (limits s c) full_count (limits s c).few_conditions j h).0,
    )

-- the segment of a column
pub record Within (s : Space) (n c : ℕ) : Type 0 where
  pub segment : ℕ
  pub ordinate : ℕ
  pub segment-below : segment < n
  pub ordinate-within : ordinate ≤ degree s segment
  pub is : first_column s segment + ordinate ≡ c

pub column-within : (s : Space) (n c : ℕ) → c < first_column s n → Within s n c
unfolding first_column
column-within s zero c h = absurd (omega arith)
column-within s (suc n) c h = go (λ l. column-within s n c l) (le_or_lt (first_column s n) c)
  where
    go : (c < first_column s n → Within s n c) → (first_column s n ≤ c) ⊎ (c < first_column s n) → Within s (suc n) c
    go ih (inl a) = record { segment = n; ordinate = c - first_column s n; segment-below = omega arith; ordinate-within = omega arith; is = omega arith }
    go ih (inr a) = let w = ih a in record { segment = w.segment; ordinate = w.ordinate; segment-below = omega (arith, w.segment-below); ordinate-within = w.ordinate-within; is = w.is }

-- the two counts are never both above one
few_weights : (p u l r n : ℕ) → u ≤ p → l ≤ p → r ≤ p → l ≤ suc n → r ≤ suc n → 1 + (l - (u + 1)) + (r - (p - u + 1)) ≤ suc n
few_weights p u l r n a b c d e = omega arith

-- so a column has no more weights than a join has conditions
at-most : (s : Space) (a : Accepted s) (n : ℕ) → ((j : ℕ) → j < segments s - 1 → condition_count s j ≤ suc n) → (c : ℕ) → c < column_count s → weight_count a.table c ≤ suc n
at-most s a n few c h =
    let w = column-within s (segments s) c h in let L = limits s (accepted-checked s a).1 in
    let x = left-within s L (suc n) few w.segment w.segment-below in let y = right-within s L (suc n) few w.segment w.segment-below in
    subst (λ d. weight_count a.table d ≤ suc n) w.is (rw (weights_are_counted s a w.segment w.ordinate w.segment-below w.ordinate-within)
    (few_weights (degree s w.segment) w.ordinate (left_conditions s w.segment) (right_conditions s w.segment) n w.ordinate-within x.0 y.0 x.1 y.1))

pub at_most_three_weights : AtMostThreeWeights
at_most_three_weights s a c h = omega (arith, at-most s a 2 (limits s (accepted-checked s a).1).few_conditions c h)

pub at_most_two_weights : AtMostTwoWeights
at_most_two_weights s a low c h = omega (arith, at-most s a 1 (λ j l. low_count (order s j) (condition_count s j) ((limits s (accepted-checked s a).1).count_is_order j l) (low j l)) c h)
