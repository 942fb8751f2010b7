-- The stages of a build: how many conditions are met at each join after all of the joins before one and the first at it.
use mathlib.Core.Path.{◌≡◌, refl, sym, ◌∙◌, ap, subst}
use mathlib.Core.Logic.{◌≢◌, ◌⊎◌, inl, inr}
use mathlib.Core.Bool.{cond}
use Prim.Native.Nat.{ℕ, suc, ◌-◌, ◌<◌, ◌≤◌}
use native.Mathlib.Omega.{arith}
use native.Mathlib.Nat.{eq-or-lt_of_le}
use borrow.Author.Tests.{eq-eqb, ne_eqb}
use lib.Dec.{ltb, eqb, lt→ltb}
use lib.Arith.{le→nltb}
use Rattle.base_exact.proofs.Decide.{le_or_lt, holds_true, fails_false, cond_true, cond_false}
use Rattle.spec_spline.specs.Space.{Space, segments, degree, condition_count}
use Rattle.theorems_stages.proofs.Rows.{Stage, Next}
use Rattle.theorems_stages.proofs.Limits.{Limits}
use Rattle.theorems_stages.proofs.RowMoves.{Spanning}

-- The conditions met at join i after all of the joins before this one and the first k at it.
pub met : Space → ℕ → ℕ → ℕ → ℕ
met s join k i = cond (ltb i join) (condition_count s i) (cond (eqb i join) k 0)

module _ (s : Space) (join k : ℕ) where
  pub met_before : (i : ℕ) → i < join → met s join k i ≡ condition_count s i
  unfolding met
  met_before i h = cond_true _ _ (holds_true (ltb i join) (lt→ltb i join h))

  pub met_here : met s join k join ≡ k
  unfolding met
  met_here = cond_false _ _ (fails_false (ltb join join) (le→nltb join join (omega arith))) ∙ cond_true _ _ (eq-eqb join join refl)

  pub met_after : (i : ℕ) → join < i → met s join k i ≡ 0
  unfolding met
  met_after i h = cond_false _ _ (fails_false (ltb i join) (le→nltb i join (omega arith))) ∙ cond_false _ _ (ne_eqb i join (λ z. omega arith))

-- where a join stands
pub data Compared (i join : ℕ) : Type 0 where
  before : i < join → Compared i join
  same : i ≡ join → Compared i join
  after : join < i → Compared i join

pub compared : (i join : ℕ) → Compared i join
compared i join = go (le_or_lt join i)
  where
    from : (join ≡ i) ⊎ (join < i) → Compared i join
    from (inl z) = same (sym z)
    from (inr h) = after h

    go : (join ≤ i) ⊎ (i < join) → Compared i join
    go (inl h) = from (eq-or-lt_of_le h)
    go (inr h) = before h

pub next_met : (s : Space) (join k : ℕ) → Next (met s join k) (met s join (suc k)) join
next_met s join k = record { same = λ i h. go i h (compared i join); more = met_here s join (suc k) ∙ ap suc (sym (met_here s join k)) }
  where
    go : (i : ℕ) → i ≢ join → Compared i join → met s join (suc k) i ≡ met s join k i
    go i h (before a) = met_before s join (suc k) i a ∙ sym (met_before s join k i a)
    go i h (same z) = absurd (h z)
    go i h (after a) = met_after s join (suc k) i a ∙ sym (met_after s join k i a)

-- all conditions of a join: none yet at the next
pub join_met : (s : Space) (join : ℕ) → met s join (condition_count s join) ≡ met s (suc join) 0
join_met s join = λ i n. at n (compared n join) i
  where
    later : (n : ℕ) → (suc join ≡ n) ⊎ (suc join < n) → met s (suc join) 0 n ≡ 0
    later n (inl z) = subst (λ m. met s (suc join) 0 m ≡ 0) z (met_here s (suc join) 0)
    later n (inr h) = met_after s (suc join) 0 n h

    at : (n : ℕ) → Compared n join → met s join (condition_count s join) n ≡ met s (suc join) 0 n
    at n (before h) = met_before s join _ n h ∙ sym (met_before s (suc join) 0 n (omega arith))
    at n (same z) = subst (λ m. met s join (condition_count s join) m ≡ met s (suc join) 0 m) (sym z) (met_here s join (condition_count s join) ∙ sym (met_before s (suc join) 0 join (omega arith)))
    at n (after h) = met_after s join _ n h ∙ sym (later n (eq-or-lt_of_le h))

-- The counts of a legal space are a stage.
pub met_stage : (s : Space) → Limits s → (join k : ℕ) → join ≤ segments s - 1 → k ≤ degree s join → k ≤ degree s (suc join) → Stage (degree s) (met s join k) join k
met_stage s L join k h p q = record { left = λ i. left i (compared i join); right = λ i. right i (compared i join); here = met_here s join k; rest = met_after s join k }
  where
    left : (i : ℕ) → Compared i join → met s join k i ≤ degree s i
    left i (before a) = rw (met_before s join k i a) (L.legal.below-left-degree i (omega arith))
    left i (same z) = subst (λ m. met s join k m ≤ degree s m) (sym z) (rw (met_here s join k) p)
    left i (after a) = rw (met_after s join k i a) (omega arith)

    right : (i : ℕ) → Compared i join → met s join k i ≤ degree s (suc i)
    right i (before a) = rw (met_before s join k i a) (L.legal.below-right-degree i (omega arith))
    right i (same z) = subst (λ m. met s join k m ≤ degree s (suc m)) (sym z) (rw (met_here s join k) q)
    right i (after a) = rw (met_after s join k i a) (omega arith)

pub none_met : (s : Space) (i : ℕ) → met s 0 0 i ≡ 0
none_met s i = go (compared i 0)
  where
    go : Compared i 0 → met s 0 0 i ≡ 0
    go (before h) = absurd (omega arith)
    go (same z) = ap (met s 0 0) z ∙ met_here s 0 0
    go (after h) = met_after s 0 0 i h

-- ---- the condition of order k at a join, in a space within the limits
pub record At (s : Space) (join k : ℕ) : Type 0 where
  pub limits : Limits s
  pub join-below : join < segments s - 1
  pub order_below : k < condition_count s join

module _ {s : Space} {join k : ℕ} (A : At s join k) where
  pub left-segment : join < segments s
  left-segment = omega (arith, A.join-below)

  pub right-segment : suc join < segments s
  right-segment = omega (arith, A.join-below)

  pub room : k < degree s join
  room = omega (arith, A.order_below, A.limits.legal.below-left-degree join A.join-below)

  pub room' : k < degree s (suc join)
  room' = omega (arith, A.order_below, A.limits.legal.below-right-degree join A.join-below)

  pub few : k ≤ 2
  few = omega (arith, A.order_below, A.limits.few_conditions join A.join-below)

  -- the stages before and after it
  stage : Stage (degree s) (met s join k) join k
  stage = met_stage s A.limits join k (omega (arith, A.join-below)) (omega (arith, room)) (omega (arith, room'))

  pub stage' : Stage (degree s) (met s join (suc k)) join (suc k)
  stage' = met_stage s A.limits join (suc k) (omega (arith, A.join-below)) room room'

  pub spanning : Spanning (degree s) (met s join k) join k
  spanning = record { stage = stage; room = room; room' = room'; few = few }
