-- The weights of an accepted space as formulas: the form that each step keeps (ClosedStep), at the last stage and in the space's own words.
use mathlib.Core.Path.{◌≡◌, refl, sym, ◌∙◌, ap, ap₂, subst}
use mathlib.Core.Bool.{cond, ◌&&◌}
use Prim.Native.Nat.{ℕ, zero, suc, ◌+◌, ◌-◌, ◌<◌, ◌≤◌}
use native.Mathlib.Omega.{arith}
use lib.Dec.{eqb}
use lib.IntN.{pos, ◌+ℤ◌, nat_abs}
use Rattle.base_exact.specs.Rational.{◌*ᵠ◌, ◌-ᵠ◌, int}
use lib.ListN.{length}
use Rattle.base_outcome.specs.Outcome.{answer}
use Rattle.spec_spline.specs.Space.{Space, segments, order, degree, condition_count, first_column, column_count, conditions_before}
use Rattle.spec_spline.specs.Conditions.{conditions}
use Rattle.spec_spline.specs.Table.{Table, cell, identity}
use Rattle.spec_spline.specs.Step.{step}
use Rattle.spec_spline.specs.Build.{order_steps, join_steps, weights}
use Rattle.spec_spline.specs.Piecewise.{Accepted}
use Rattle.spec_spline.proofs.Table.{cell-past}
use Rattle.spec_spline.proofs.Legal.{legal}
use Rattle.spec_spline.proofs.Space.{segment-column}
use Rattle.spec_spline.proofs.Induction.{joins_hold}
use Rattle.theorems_weights.proofs.Built.{built}
use Rattle.theorems_values.proofs.Segment.{accepted-checked}
use Rattle.theorems_acceptance.specs.ClosedForms.{lower_factor, upper_factor, share, cubic, left_over, own_row, join_row, join_column, first_weight}
use Rattle.theorems_stages.specs.Counts.{full_count}
use Rattle.theorems_acceptance.specs.ClosedForms.{last_weight, JoinWeightsAtOrderOne, JoinWeightsAtOrderTwo, WeightsBeforeJoin, WeightsAfterJoin}
use Rattle.theorems_acceptance.specs.ClosedForms.{JoinOrdinatesAgree, OwnOrdinatesAreRows}
use Rattle.theorems_stages.proofs.Rows.{first_row, left_count, lowest, highest, top_highest, below_top_highest, next-highest}
use Rattle.theorems_stages.proofs.Support.{Support, support_ends}
use Rattle.theorems_stages.proofs.Limits.{Limits, limits}
use Rattle.theorems_stages.proofs.Stages.{met, met_before, met_here, met_after, join_met, none_met, Compared, before, same, after, compared, At}
use Rattle.theorems_stages.proofs.Invariant.{column}
use Rattle.theorems_stages.proofs.Cumulative.{Weighed, first_of_two, middle_of_three}
use Rattle.theorems_stages.proofs.Reached.{Reached, next-reached, start-reached, step-reached, advance}
use Rattle.theorems_acceptance.proofs.WeightCount.{left_is, right_is}
use Rattle.theorems_acceptance.proofs.LowJumps.{unit_of}
use Rattle.theorems_acceptance.proofs.Closed.{top, over, Closed}
use Rattle.theorems_acceptance.proofs.ClosedStep.{step-closed}

-- A table that the build reaches, with its weights as formulas.
record Formed (s : Space) (join k : ℕ) (t : Table) : Type 0 where
  reached : Reached s join k t
  closed : Closed s (met s join k) t

start_formed : (s : Space) → Formed s 0 0 (identity (column_count s))
start_formed s = record {
  reached = start-reached s;
  closed = record { once = λ i a z. none i 2 z (omega arith); first = λ i a. full i; last = λ i a. full i; near = λ i a. full i; beyond = λ i a. full i };
}
  where
    none : {P : Type 0} (i n : ℕ) → met s 0 0 i ≡ n → 0 < n → P
    none i n z p = absurd (omega (arith, none_met s i))

    full : {P : Type 0} (i : ℕ) → met s 0 0 i ≡ full_count → P
    full i z = none i full_count z (omega arith)

step_formed : {s : Space} {join k : ℕ} {t t' : Table} → At s join k → Formed s join k t → step join (conditions s join k) t ≡ answer t' → Formed s join (suc k) t'
step_formed A F e = record { reached = step-reached A F.reached e; closed = step-closed A F.reached (advance A F.reached e) F.closed }

joins_formed : (s : Space) → Limits s → (t : Table) → join_steps s (segments s - 1) ≡ answer t → Formed s (segments s - 1) 0 t
unfolding join_steps order_steps
joins_formed s M t e = joins_hold s (λ j k. step j (conditions s j k)) (Formed s)
    (λ j k t t' h m F r. step_formed (record { limits = M; join-below = h; order_below = m }) F r)
    (λ j t h F. record { reached = next-reached F.reached; closed = subst (λ c. Closed s c t) (join_met s j) F.closed })
    (segments s - 1) (omega arith) (start_formed s) e

-- ---- the last stage in the space's own words

module _ (s : Space) (a : Accepted s) where
  M : Limits s
  M = limits s (accepted-checked s a).1

  abbrev e : ℕ → ℕ
  e = met s (segments s - 1) 0

  formed : Formed s (segments s - 1) 0 a.table
  unfolding weights
  formed = joins_formed s M a.table (built s a.table a.is).weights_are

  count_is : (j n : ℕ) → suc j < segments s → condition_count s j ≡ n → e j ≡ n
  count_is j n h z = met_before s (segments s - 1) 0 j (omega arith) ∙ z

  first-row_is : (j : ℕ) → j < segments s → first_row (degree s) e j + conditions_before s j ≡ first_column s j
  unfolding first_row conditions_before first_column
  first-row_is zero h = refl
  first-row_is (suc j) h = omega (arith, first-row_is j (omega arith), count_is j (condition_count s j) h refl, M.legal.below-left-degree j (omega arith))

  own-row_is : (j u : ℕ) → j < segments s → first_row (degree s) e j + u ≡ own_row s j u
  unfolding own_row
  own-row_is j u h = omega (arith, first-row_is j h)

  over_is : (j : ℕ) → suc j < segments s → over s e j ≡ left_over s j
  unfolding over left_over
  over_is j h = ap (λ c. cond (eqb (degree s (suc j)) cubic && eqb c full_count) (lower_factor s (suc j)) (int (pos 1))) (right_is s (suc j) h)

  cell_at : (r r' c : ℕ) → r ≡ r' → cell a.table r' c ≡ cell a.table r c
  cell_at r r' c z = ap (λ n. cell a.table n c) (sym z)

-- the count of conditions of an order
count_of : (s : Space) (j n : ℕ) → order s j ≡ pos n → condition_count s j ≡ n + 1
count_of s j n z = ap (λ o. nat_abs (o +ℤ pos 1)) z

-- ---- the ends of the columns with more than one weight

join-ends : (p e : ℕ → ℕ) → ((i : ℕ) → e i ≤ p (suc i)) → (j n : ℕ) → e j ≤ p j → e j ≡ suc n → (lowest p e j (p j) ≡ first_row p e j + p j - n) × (highest p e j (p j) ≡ first_row p e j + p j)
unfolding lowest
join-ends p e right j n h z = (omega arith, top_highest p e right j)

before-ends : (p e : ℕ → ℕ) → ((i : ℕ) → e i ≤ p (suc i)) → (j : ℕ) → e j ≤ p j → e j ≡ full_count
    → (lowest p e j (p j - 1) ≡ first_row p e j + p j - 2) × (highest p e j (p j - 1) ≡ first_row p e j + p j - 1)
unfolding lowest
before-ends p e right j h z = (omega arith, below_top_highest p e right j (omega arith))

after-ends : (p e : ℕ → ℕ) (j : ℕ) → e j ≤ p j → e (suc j) ≤ p (suc j) → e j ≡ full_count → (lowest p e (suc j) 1 ≡ first_row p e j + p j - 1) × (highest p e (suc j) 1 ≡ first_row p e j + p j)
unfolding lowest first_row
after-ends p e j h k z = (omega arith, next-highest p e j h z)

module _ (s : Space) (a : Accepted s) where
  abbrev t : Table
  t = a.table

  F : Formed s (segments s - 1) 0 a.table
  F = formed s a

  -- the counts are within the degrees
  right-within : (i : ℕ) → e s a i ≤ degree s (suc i)
  right-within i = go (compared i (segments s - 1))
    where
      go : Compared i (segments s - 1) → e s a i ≤ degree s (suc i)
      go (before b) = rw (met_before s (segments s - 1) 0 i b) ((M s a).legal.below-right-degree i b)
      go (same z) = subst (λ n. e s a n ≤ degree s (suc n)) (sym z) (rw (met_here s (segments s - 1) 0) (omega arith))
      go (after b) = rw (met_after s (segments s - 1) 0 i b) (omega arith)

  left-within : (i : ℕ) → i < segments s → e s a i ≤ degree s i
  left-within i h = go (compared i (segments s - 1))
    where
      go : Compared i (segments s - 1) → e s a i ≤ degree s i
      go (before b) = rw (met_before s (segments s - 1) 0 i b) ((M s a).legal.below-left-degree i b)
      go (same z) = subst (λ n. e s a n ≤ degree s n) (sym z) (rw (met_here s (segments s - 1) 0) (omega arith))
      go (after b) = absurd (omega arith)

  -- two weights, and three, on an ordinate
  weighed : (j u r q : ℕ) → j < segments s → u ≤ degree s j → lowest (degree s) (e s a) j u ≡ r → highest (degree s) (e s a) j u ≡ q → Weighed (length t) (column s t j u) r q
  weighed j u r q h k x y = record {
    support = support_ends x y (F.reached.shape.supported j u h k);
    one = F.reached.basis.column_sums _ (segment-column s j u h k);
    past = λ i b. cell-past t i _ b;
  }

  two : (j u r : ℕ) → j < segments s → u ≤ degree s j → lowest (degree s) (e s a) j u ≡ r → highest (degree s) (e s a) j u ≡ suc r
      → cell t r (first_column s j + u) ≡ int (pos 1) -ᵠ cell t (suc r) (first_column s j + u)
  two j u r h k p q = first_of_two (weighed j u r (suc r) h k p q) refl

  three : (j u r : ℕ) → j < segments s → u ≤ degree s j → lowest (degree s) (e s a) j u ≡ r → highest (degree s) (e s a) j u ≡ suc (suc r)
      → cell t (suc r) (first_column s j + u) ≡ int (pos 1) -ᵠ cell t r (first_column s j + u) -ᵠ cell t (suc (suc r)) (first_column s j + u)
  three j u r h k p q = middle_of_three (weighed j u r (suc (suc r)) h k p q) refl

  -- ---- a join of order 1, and one of order 2
  module _ (j : ℕ) (h : suc j < segments s) where
    row_is : top s (e s a) j ≡ join_row s j
    row_is = own-row_is s a j (degree s j) (omega arith)

    last_at_one : e s a j ≡ 2 → cell t (join_row s j) (join_column s j) ≡ share s j
    last_at_one z = cell_at s a _ _ _ row_is ∙ F.closed.once j h z

    first_at_one : e s a j ≡ 2 → cell t (join_row s j - 1) (join_column s j) ≡ int (pos 1) -ᵠ share s j
    first_at_one z = let x = join-ends (degree s) (e s a) right-within j 1 (left-within j (omega arith)) z in let y = left-within j (omega arith) in
        two j (degree s j) (join_row s j - 1) (omega arith) (omega arith) (x.0 ∙ ap (λ n. n - 1) row_is) (x.1 ∙ row_is ∙ omega (arith, row_is))
        ∙ ap (λ q. int (pos 1) -ᵠ q) (ap (λ r. cell t r (join_column s j)) (let v : suc (join_row s j - 1) ≡ join_row s j = omega (arith, row_is) in v) ∙ last_at_one z)

    module _ (z : e s a j ≡ full_count) where
      within : full_count ≤ degree s j
      within = omega (arith, left-within j (omega arith))

      first_at_two : cell t (join_row s j - 2) (join_column s j) ≡ first_weight s j
      unfolding first_weight
      first_at_two = cell_at s a _ _ _ (ap (λ r. r - 2) row_is) ∙ F.closed.first j h z

      last_at_two : cell t (join_row s j) (join_column s j) ≡ last_weight s j
      unfolding last_weight
      last_at_two = cell_at s a _ _ _ row_is ∙ F.closed.last j h z ∙ ap (λ o. o *ᵠ (upper_factor s j *ᵠ share s j)) (over_is s a j h)

      middle_at_two : cell t (join_row s j - 1) (join_column s j) ≡ int (pos 1) -ᵠ first_weight s j -ᵠ last_weight s j
      middle_at_two = let x = join-ends (degree s) (e s a) right-within j 2 (left-within j (omega arith)) z in
          ap (λ r. cell t r (join_column s j)) (let v : join_row s j - 1 ≡ suc (join_row s j - 2) = omega (arith, row_is, within) in v)
          ∙ three j (degree s j) (join_row s j - 2) (omega arith) (omega arith) (x.0 ∙ ap (λ n. n - 2) row_is) (x.1 ∙ row_is ∙ omega (arith, row_is, within))
          ∙ ap₂ (λ p q. int (pos 1) -ᵠ p -ᵠ q) first_at_two (ap (λ r. cell t r (join_column s j)) (let v : suc (suc (join_row s j - 2)) ≡ join_row s j = omega (arith, row_is, within) in v) ∙ last_at_two)

      -- the ordinate before it
      column-before : join_column s j - 1 ≡ first_column s j + (degree s j - 1)
      column-before = omega (arith, within)

      last-before : cell t (join_row s j - 1) (join_column s j - 1) ≡ lower_factor s j
      last-before = cell_at s a _ _ _ (ap (λ r. r - 1) row_is) ∙ ap (cell t _) column-before ∙ F.closed.near j h z

      first-before : cell t (join_row s j - 2) (join_column s j - 1) ≡ int (pos 1) -ᵠ lower_factor s j
      first-before = let x = before-ends (degree s) (e s a) right-within j (left-within j (omega arith)) z in
          ap (cell t _) column-before ∙ two j (degree s j - 1) (join_row s j - 2) (omega arith) (omega arith) (x.0 ∙ ap (λ n. n - 2) row_is)
          (x.1 ∙ ap (λ n. n - 1) row_is ∙ omega (arith, row_is, within))
          ∙ ap (λ q. int (pos 1) -ᵠ q) (ap₂ (cell t) (let v : suc (join_row s j - 2) ≡ join_row s j - 1 = omega (arith, row_is, within) in v) (sym column-before) ∙ last-before)

      -- the ordinate after it
      last-after : cell t (join_row s j) (first_column s (suc j) + 1) ≡ left_over s j *ᵠ upper_factor s j
      last-after = cell_at s a _ _ _ row_is ∙ F.closed.beyond j h z ∙ ap (λ o. o *ᵠ upper_factor s j) (over_is s a j h)

      first-after : cell t (join_row s j - 1) (first_column s (suc j) + 1) ≡ int (pos 1) -ᵠ left_over s j *ᵠ upper_factor s j
      first-after = let x = after-ends (degree s) (e s a) j (left-within j (omega arith)) (left-within (suc j) h) z in
          two (suc j) 1 (join_row s j - 1) h (omega (arith, right-within j)) (x.0 ∙ ap (λ n. n - 1) row_is) (x.1 ∙ row_is ∙ omega (arith, row_is, within))
          ∙ ap (λ q. int (pos 1) -ᵠ q) (ap (λ r. cell t r (first_column s (suc j) + 1)) (let v : suc (join_row s j - 1) ≡ join_row s j = omega (arith, row_is, within) in v) ∙ last-after)

-- ---- the statements

pub join-weights_at_order_one : JoinWeightsAtOrderOne
join-weights_at_order_one s a j h z = let c = count_is s a j 2 h (count_of s j 1 z) in (first_at_one s a j h c, last_at_one s a j h c)

pub join-weights_at_order_two : JoinWeightsAtOrderTwo
join-weights_at_order_two s a j h z = let c = count_is s a j full_count h (count_of s j 2 z) in (first_at_two s a j h c, middle_at_two s a j h c, last_at_two s a j h c)

pub weights-before-join : WeightsBeforeJoin
weights-before-join s a j h z = let c = count_is s a j full_count h (count_of s j 2 z) in (first-before s a j h c, last-before s a j h c)

pub weights-after-join : WeightsAfterJoin
weights-after-join s a j h z = let c = count_is s a j full_count h (count_of s j 2 z) in (first-after s a j h c, last-after s a j h c)

pub join-ordinates-agree : JoinOrdinatesAgree
join-ordinates-agree s a j h z i =
    (formed s a).reached.shape.joined j h (rw (count_is s a j (condition_count s j) h refl) z) i
    ∙ ap (cell a.table i) (let y : first_column s (suc j) + 0 ≡ first_column s (suc j) = omega arith in y)

-- both ends of an ordinate's rows where no join reaches it
own-ends : (p e : ℕ → ℕ) (j u : ℕ) → u ≤ p j → left_count e j ≤ u + 1 → e j ≤ p j - u + 1 → (lowest p e j u ≡ first_row p e j + u) × (highest p e j u ≡ first_row p e j + u)
unfolding lowest highest
own-ends p e j u h l r = omega arith

pub own-ordinates_are_rows : OwnOrdinatesAreRows
own-ordinates_are_rows s a j u h k l r = ap (λ n. cell a.table n (first_column s j + u)) (sym (own-row_is s a j u h))
    ∙ (unit_of a.table (first_column s j + u) (first_row (degree s) (e s a) j + u) support ((formed s a).reached.basis.column_sums _ (segment-column s j u h k))).one
  where
    support : Support (column s a.table j u) (first_row (degree s) (e s a) j + u) (first_row (degree s) (e s a) j + u)
    support = let z = own-ends (degree s) (e s a) j u k (rw (left_is s j h) l) (rw (right_is s j h) r) in support_ends z.0 z.1 ((formed s a).reached.shape.supported j u h k)
