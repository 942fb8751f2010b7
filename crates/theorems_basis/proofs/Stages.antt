-- The stages of the published construction: after the joins before one and the first orders at it the figure's H is a basis for
-- the conditions of these, of the form that Invariant states. So the jumps have the signs that a step needs, and the next
-- stage is reached whatever the size of its fractions.
use mathlib.Core.Path.{◌≡◌, refl, sym, ap, subst}
use mathlib.Core.Logic.{◌⊎◌, inl, inr}
use Prim.Native.Nat.{ℕ, zero, suc, ◌+◌, ◌-◌, ◌<◌, ◌≤◌}
use native.Mathlib.Omega.{arith}
use lib.ListN.{length}
use Rattle.base_exact.specs.Sum.{sum}
use Rattle.base_exact.proofs.Decide.{le_or_lt}
use Rattle.base_outcome.specs.Outcome.{answer}
use Rattle.spec_spline.specs.Space.{Space, segments, degree, checked, column_count, condition_count, conditions_before, row_count}
use Rattle.spec_spline.specs.Conditions.{conditions}
use Rattle.spec_spline.specs.Table.{Table, identity}
use Rattle.spec_published.specs.Published.{Matrices, constrain, for, smooth, extraction}
use Rattle.spec_spline.proofs.Legal.{legal, checked_inverts}
use Rattle.spec_spline.proofs.Table.{identity-rows}
use Rattle.theorems_weights.proofs.Basis.{Basis}
use Rattle.theorems_weights.proofs.Identity.{identity_basis}
use Rattle.theorems_weights.proofs.NullSpace.{Jumps}
use Rattle.theorems_weights.proofs.Stepped.{values, values-past, Stepped}
use Rattle.theorems_weights.proofs.Built.{Done, nothing_done, order-kept, join_done}
use Rattle.theorems_weights.proofs.Published.{started, constrain_stepped, constrain_is}
use Rattle.theorems_stages.proofs.RowMoves.{first_spanned, last_spanned}
use Rattle.theorems_stages.proofs.Limits.{Limits, limits}
use Rattle.theorems_stages.proofs.Stages.{met, join_met}
use Rattle.theorems_stages.proofs.Invariant.{Shaped, identity_shaped, Due, step_shaped}
use Rattle.theorems_stages.proofs.Alternating.{Alternates, jump-inside}
use Rattle.theorems_stages.proofs.Signs.{jumps_alternate, span-spread}
use Rattle.theorems_stages.proofs.Reached.{step_mixing}
use Rattle.theorems_basis.proofs.Factors.{factor, factor-jumps, factor_not_negative, factor_at_most_one}

-- A table after the joins before this one and the first k conditions at it.
pub record Stage (s : Space) (join k : ℕ) (t : Table) : Type 0 where
  pub basis : Basis (Done s join k) (column_count s) t
  pub shape : Shaped s (met s join k) t
  pub rows : length t + (conditions_before s join + k) ≡ column_count s

module _ (s : Space) (M : Limits s) where
  module _ (join k : ℕ) (h : join < segments s - 1) (m : k < condition_count s join) (t : Table) (R : Stage s join k t) where
    due : Due s join k t
    due = record { at = record { limits = M; join-below = h; order_below = m }; shape = R.shape; sums = R.basis.column_sums }

    abbrev f : ℕ
    f = first_spanned (degree s) (met s join k) join k

    abbrev l : ℕ
    l = last_spanned (degree s) (met s join k) join

    alternate : Alternates f l (λ n. sum n (values (conditions s join k) t))
    alternate = jumps_alternate due

    spread : f < l
    spread = span-spread (degree s) (met s join k) join k

    -- the last row with a jump is a row of the table
    below : l < length t
    below = go (le_or_lt (length t) l)
      where
        go : (length t ≤ l) ⊎ (l < length t) → l < length t
        go (inl p) = absurd (jump-inside f l (values (conditions s join k) t) alternate spread l (omega (arith, spread)) (omega arith) (values-past (conditions s join k) t l p))
        go (inr p) = p

    null : Jumps (length t) f l (values (conditions s join k) t) (factor f l (values (conditions s join k) t))
    null = factor-jumps f l (values (conditions s join k) t) alternate spread (length t) below

    -- the figure's next H
    abbrev next : Table
    next = (constrain s join k (started s join t)).H

    stepped : Stepped (conditions s join k) (column_count s) t next
    stepped = constrain_stepped s M.legal join k h m t f l (factor f l (values (conditions s join k) t)) null R.basis.wide
        (factor_not_negative f l (values (conditions s join k) t) alternate spread) (factor_at_most_one f l (values (conditions s join k) t) alternate spread)

    next_stage : Stage s join (suc k) next
    next_stage = record { basis = B; shape = shape; rows = omega (arith, R.rows, stepped.rows) }
      where
        B : Basis (Done s join (suc k)) (column_count s) next
        B = order-kept s M.legal join k t next R.basis stepped

        shape : Shaped s (met s join (suc k)) next
        shape = step_shaped due.at R.shape stepped (step_mixing due stepped) B.column_sums

    next-started : constrain s join k (started s join t) ≡ started s join next
    next-started = constrain_is s M.legal join k h m t next stepped

  -- the first n orders at a join
  orders_stage : (join : ℕ) → join < segments s - 1 → (t : Table) → Stage s join 0 t → (n : ℕ) → n ≤ condition_count s join
      → Stage s join n (for n (constrain s join) (started s join t)).H × (for n (constrain s join) (started s join t) ≡ started s join (for n (constrain s join) (started s join t)).H)
  unfolding for
  orders_stage join h t R zero m = (R, refl)
  orders_stage join h t R (suc n) m = let P = orders_stage join h t R n (omega arith) in go _ P.1 P.0
    where
      go : (a : Matrices) → a ≡ started s join a.H → Stage s join n a.H → Stage s join (suc n) (constrain s join n a).H × (constrain s join n a ≡ started s join (constrain s join n a).H)
      go a e S = let b = ap (λ u. constrain s join n u) (sym e) in (
        subst (λ u. Stage s join (suc n) u.H) b (next_stage join n h m a.H S),
        subst (λ u. u ≡ started s join u.H) b (next-started join n h m a.H S),
      )

  -- all of a join
  join_stage : (join : ℕ) → join < segments s - 1 → (t : Table) → Stage s join 0 t → Stage s (suc join) 0 (smooth s join t)
  unfolding smooth conditions_before
  join_stage join h t R = let P = (orders_stage join h t R (condition_count s join) (omega arith)).0 in
      record { basis = join_done s join P.basis; shape = subst (λ c. Shaped s c (smooth s join t)) (join_met s join) P.shape; rows = omega (arith, P.rows) }

  -- the first n joins
  joins_stage : (n : ℕ) → n ≤ segments s - 1 → Stage s n 0 (for n (smooth s) (identity (column_count s)))
  unfolding for conditions_before
  joins_stage zero h = record { basis = identity_basis (column_count s) (Done s 0 0) (nothing_done s); shape = identity_shaped s; rows = omega (arith, identity-rows (column_count s)) }
  joins_stage (suc n) h = join_stage n (omega arith) _ (joins_stage n (omega arith))

-- All joins: the construction's result.
pub last_stage : (s : Space) → checked s ≡ answer s → Stage s (segments s - 1) 0 (extraction s)
unfolding extraction
last_stage s e = let c = (checked_inverts s e).1 in joins_stage s (limits s c) (segments s - 1) (omega arith)

pub extraction-rows : (s : Space) → checked s ≡ answer s → length (extraction s) ≡ row_count s
extraction-rows s e = omega (arith, (last_stage s e).rows)
