-- A legal space whose orders are all at most 1: step by step the exact tables have small entries, every test is good, and so
-- the space is accepted. And code 8 in any space: it comes at a step of order 2.
use mathlib.Core.Path.{◌≡◌, refl, sym, ◌∙◌, ap, subst}
use mathlib.Core.Logic.{◌⊎◌, inl, inr}
use Prim.Native.Nat.{ℕ, zero, suc, ◌-◌, ◌<◌, ◌≤◌}
use native.Mathlib.Omega.{arith}
use native.Mathlib.Decide.{dec_lt, ℕ_discrete}
use lib.IntN.{pos}
use Rattle.base_exact.specs.Rational.{int}
use Rattle.base_exact.proofs.Decide.{le_or_lt, true_not_false}
use Rattle.base_fraction.specs.Size.{limit}
use Rattle.base_outcome.specs.Outcome.{answer, refusal, ◌then◌, repeat}
use Rattle.spec_spline.specs.Space.{Space, segments, order, condition_count, column_count, checked}
use Rattle.spec_spline.specs.Conditions.{conditions}
use Rattle.spec_spline.specs.Table.{Table, cell, identity}
use Rattle.spec_spline.specs.Step.{step}
use Rattle.spec_spline.specs.Build.{order_steps, join_steps, weights, space_weights}
use Rattle.spec_published.specs.Published.{for}
use Rattle.base_outcome.proofs.Outcome.{then_answers, then_breaks, Broken, first-refuses, second-refuses}
use Rattle.spec_spline.proofs.Table.{identity_on, identity_off, identity_low}
use Rattle.spec_spline.proofs.Legal.{Checked, checked_inverts, checked_codes}
use Rattle.spec_spline.proofs.Refusals.{step-refuses}
use Rattle.theorems_weights.specs.Counted.{counted, step_tests, exact_step, exact_orders, exact_joins, exact_weights, build_tests}
use Rattle.theorems_weights.proofs.Counted.{step-passes, passing_is_accepted}
use Rattle.theorems_weights.proofs.Cells.{accepted_spaces_are_built}
use Rattle.theorems_acceptance.specs.Acceptance.{OrdersAtMostOne, counted_limit, LowOrdersAreAccepted, LowOrdersAreBuilt, CountedFractionsAreSmall, EightAtOrderTwo, EightComesAtOrderTwo}
use Rattle.theorems_stages.proofs.Limits.{Limits, limits, third_order}
use Rattle.theorems_acceptance.proofs.SafeOrders.{low_count}
use Rattle.theorems_stages.proofs.Tests.{Good, Every, every_joined, every_one}
use Rattle.theorems_stages.proofs.Refusals.{no_refusal, every_passes}
use Rattle.theorems_stages.proofs.Entries.{TableHas}
use Rattle.theorems_stages.proofs.Reached.{Reached, start-reached, step-reached, join-reached, RefusedAt, weights_refused}
use Rattle.theorems_acceptance.proofs.Small.{Small, small_int, small-zero, small-fits, fits-small}
use Rattle.theorems_acceptance.proofs.LowSteps.{low_step-good, low_step-cells}
use Rattle.theorems_stages.proofs.Stages.{At}

-- A table that the build reaches, with small entries.
record LowReached (s : Space) (join k : ℕ) (t : Table) : Type 0 where
  reached : Reached s join k t
  cells : TableHas (Small counted_limit) t

identity-small : (n : ℕ) → TableHas (Small counted_limit) (identity n)
identity-small n i c = go (ℕ_discrete i c) (dec_lt i n)
  where
    none : cell (identity n) i c ≡ int (pos 0) → Small counted_limit (cell (identity n) i c)
    none e = subst (Small counted_limit) (sym e) (small-zero (omega arith))

    go : Dec (i ≡ c) → Dec (i < n) → Small counted_limit (cell (identity n) i c)
    go (no h) d = none (identity_off n i c h)
    go (yes h) (no k) = none (identity_low n i c (omega arith))
    go (yes h) (yes k) = subst (λ j. Small counted_limit (cell (identity n) i j)) h (subst (Small counted_limit) (sym (identity_on n i k)) (small_int (pos 1) (omega arith) (omega arith)))

module _ (s : Space) (c : Checked s) (low : (j : ℕ) → j < segments s - 1 → condition_count s j ≤ 2) where
  M : Limits s
  M = limits s c

  at : (join k : ℕ) → join < segments s - 1 → k < condition_count s join → At s join k
  at join k h m = record { limits = M; join-below = h; order_below = m }

  -- one step
  module _ {join k : ℕ} {t : Table} (A : At s join k) (R : LowReached s join k t) where
    first_orders : k ≤ 1
    first_orders = omega (arith, A.order_below, low join A.join-below)

    tests_good : Every (Good (Small counted_limit)) (step_tests join (conditions s join k) t)
    tests_good = low_step-good A R.reached first_orders counted_limit (omega arith) R.cells

    step-answers : step join (conditions s join k) t ≡ answer (exact_step (conditions s join k) t)
    step-answers = step-passes join (conditions s join k) t (every_passes (Small counted_limit) (λ q z. small-fits counted_limit q (omega arith) z) tests_good)

    step_low : LowReached s join (suc k) (exact_step (conditions s join k) t)
    step_low = record { reached = step-reached A R.reached step-answers; cells = low_step-cells A R.reached first_orders counted_limit (omega arith) R.cells }

  -- the conditions of a join
  orders_low : (join n : ℕ) → join < segments s - 1 → n ≤ condition_count s join → (t : Table) → LowReached s join 0 t
      → LowReached s join n (exact_orders s join n t) × (order_steps s join n t ≡ answer (exact_orders s join n t))
  unfolding exact_orders for order_steps repeat
  orders_low join zero h m t R = (R, refl)
  orders_low join (suc n) h m t R = let P = orders_low join n h (omega arith) t R in
      (step_low (at join n h m) P.0, then_answers (step join (conditions s join n)) P.1 ∙ step-answers (at join n h m) P.0)

  -- all joins
  joins_low : (n : ℕ) → n ≤ segments s - 1 → LowReached s n 0 (exact_joins s n)
  unfolding exact_joins for
  joins_low zero h = record { reached = start-reached s; cells = identity-small (column_count s) }
  joins_low (suc n) h = let R = joins_low n (omega arith) in let P = orders_low n (condition_count s n) (omega arith) (omega arith) (exact_joins s n) R in
      record { reached = join-reached s M n (omega arith) R.reached P.1; cells = P.0.cells }

  pub build_good : Every (Good (Small counted_limit)) (build_tests s)
  unfolding build_tests
  build_good =
      every_joined (segments s - 1) _
      (λ j h. every_joined (condition_count s j) _ (λ k m. tests_good (at j k h m) (orders_low j k h (omega arith) (exact_joins s j) (joins_low j (omega arith))).0))

-- ---- the statements

low_counts : (s : Space) → Limits s → OrdersAtMostOne s → (j : ℕ) → j < segments s - 1 → condition_count s j ≤ 2
low_counts s M low j h = low_count (order s j) (condition_count s j) (M.count_is_order j h) (low j h)

low_good : (s : Space) → checked s ≡ answer s → OrdersAtMostOne s → Every (Good (Small counted_limit)) (build_tests s)
low_good s e low = let c = (checked_inverts s e).1 in build_good s c (low_counts s (limits s c) low)

pub low_orders_are_accepted : LowOrdersAreAccepted
low_orders_are_accepted s e low = record {
  table = exact_weights s;
  is = passing_is_accepted s e (every_passes (Small counted_limit) (λ q z. small-fits counted_limit q (omega arith) z) (low_good s e low));
}

pub low_orders_are_built : LowOrdersAreBuilt
low_orders_are_built s e low num_length den_length a b = let A = low_orders_are_accepted s e low in (A.table, accepted_spaces_are_built s A num_length den_length a b)

pub counted-fractions_are_small : CountedFractionsAreSmall
counted-fractions_are_small s e low before after join q parts =
    let z = every_one before after (counted join q) (subst (Every (Good (Small counted_limit))) parts (low_good s e low)) in (z.numerator, z.denominator)

-- ---- code 8

-- the largest size that is counted
most_counted : ℕ
most_counted = limit - 1

pub eight_comes_at_order_two : EightComesAtOrderTwo
unfolding space_weights most_counted
eight_comes_at_order_two s place e = go (then_breaks (checked s) weights e)
  where
    at : Checked s → RefusedAt s 8 place → EightAtOrderTwo s place
    at c A = order_is (le_or_lt A.order 1)
      where
        M : Limits s
        M = limits s c

        order_is : (A.order ≤ 1) ⊎ (1 < A.order) → EightAtOrderTwo s place
        order_is (inl low) = absurd (no_refusal (Small most_counted) A.join (conditions s A.join A.order) A.table
            (low_step-good (record { limits = M; join-below = A.join-below; order_below = A.order_below }) A.reached low most_counted (omega arith)
            (λ i j. fits-small most_counted _ refl (A.reached.fitting i j)))
            (λ q z. small-fits most_counted q (omega arith) z) A.refuses)
        order_is (inr high) = let two : A.order ≡ 2 = omega (arith, A.order_below, M.few_conditions A.join A.join-below) in record {
          join = A.join;
          below = A.join-below;
          order_two = third_order (order s A.join) (M.count_is_order A.join A.join-below ∙ ap pos (omega (arith, A.order_below, M.few_conditions A.join A.join-below)));
          table = A.table;
          reached = subst (λ k. (join_steps s A.join then order_steps s A.join k) ≡ answer A.table) two A.before;
          refuses = subst (λ k. step A.join (conditions s A.join k) A.table ≡ refusal 8 place) two A.refuses;
          place_is = (step-refuses A.join (conditions s A.join A.order) A.table 8 place A.refuses).1;
        }

    go : Broken (checked s) weights 8 place → EightAtOrderTwo s place
    go (first-refuses p) = absurd (true_not_false refl (checked_codes s p))
    go (second-refuses s' p q) = let c = checked_inverts s p in at c.1 (weights_refused s c.1 (ap weights c.0 ∙ q))
