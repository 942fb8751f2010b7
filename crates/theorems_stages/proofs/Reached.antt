-- The tables that a build reaches: at each stage a basis, of the form that Invariant states, with entries that fit. No step
-- from there is refused with 9.
use mathlib.Core.Path.{◌≡◌, ◌∙◌, subst}
use Prim.Native.Nat.{ℕ, suc, ◌-◌, ◌<◌, ◌≤◌}
use native.Mathlib.Omega.{arith}
use lib.Dec.{T}
use Rattle.base_exact.specs.Sum.{sum}
use Rattle.base_outcome.specs.Outcome.{answer, refusal, ◌then◌, Outcome}
use Rattle.spec_spline.specs.Space.{Space, segments, degree, condition_count, column_count}
use Rattle.spec_spline.specs.Conditions.{conditions}
use Rattle.spec_spline.specs.Table.{Table, identity}
use Rattle.spec_spline.specs.Step.{step}
use Rattle.spec_spline.specs.Build.{order_steps, join_steps, weights}
use Rattle.base_outcome.proofs.Outcome.{Halted, repeat-refuses, then_answers}
use Rattle.spec_spline.proofs.Legal.{Checked, legal}
use Rattle.spec_spline.proofs.TableFits.{TableFits, identity-fits, step_fits}
use Rattle.spec_spline.proofs.Induction.{orders_hold, join-holds, joins_hold}
use Rattle.theorems_weights.proofs.Basis.{Basis}
use Rattle.theorems_weights.proofs.Identity.{identity_basis}
use Rattle.theorems_weights.proofs.Stepped.{Stepped, values}
use Rattle.theorems_weights.proofs.Built.{Done, nothing_done, order_stepped, order-kept, join_done}
use Rattle.theorems_stages.proofs.RowMoves.{first_spanned, last_spanned}
use Rattle.theorems_stages.proofs.Support.{Mixing}
use Rattle.theorems_stages.proofs.Factors.{factors-mix, first_is, last_is}
use Rattle.theorems_stages.proofs.Limits.{Limits, limits}
use Rattle.theorems_stages.proofs.Stages.{met, join_met, At}
use Rattle.theorems_stages.proofs.Invariant.{Shaped, identity_shaped, Due, step_shaped}
use Rattle.theorems_stages.proofs.Alternating.{Alternates, jump-before, jump-after, jump-inside}
use Rattle.theorems_stages.proofs.Signs.{jumps_alternate, span-spread}

-- A step at a table at which the condition is due mixes the rows that it should.
module _ {s : Space} {join k : ℕ} {t : Table} (D : Due s join k t) where
  abbrev f : ℕ
  f = first_spanned (degree s) (met s join k) join k

  abbrev l : ℕ
  l = last_spanned (degree s) (met s join k) join

  pub step_mixing : {t' : Table} (T : Stepped (conditions s join k) (column_count s) t t') → Mixing (first_spanned (degree s) (met s join k) join k) (last_spanned (degree s) (met s join k) join) T.w
  step_mixing T = subst (λ n. Mixing n l T.w) first (subst (λ n. Mixing T.f n T.w) last (factors-mix T.null T.not_negative T.at_most_one))
    where
      alternate : Alternates f l (λ n. sum n (values (conditions s join k) t))
      alternate = jumps_alternate D

      spread : f < l
      spread = span-spread (degree s) (met s join k) join k

      first : T.f ≡ f
      first = first_is T.null _ (jump-before _ _ _ alternate) (jump-inside _ _ _ alternate spread _ (omega arith) (omega (arith, spread)))

      last : T.l ≡ l
      last = last_is T.null _ (jump-after _ _ _ alternate) (jump-inside _ _ _ alternate spread _ (omega (arith, spread)) (omega arith))

-- A table after the joins before this one and the first k conditions at it.
pub record Reached (s : Space) (join k : ℕ) (t : Table) : Type 0 where
  pub basis : Basis (Done s join k) (column_count s) t
  pub shape : Shaped s (met s join k) t
  pub fitting : TableFits t

-- a step that answers, with its factors on the rows that it spans
pub record Advance (s : Space) (join k : ℕ) (t t' : Table) : Type 0 where
  pub stepped : Stepped (conditions s join k) (column_count s) t t'
  pub mixing : Mixing (first_spanned (degree s) (met s join k) join k) (last_spanned (degree s) (met s join k) join) stepped.w

module _ {s : Space} {join k : ℕ} {t : Table} (A : At s join k) (R : Reached s join k t) where
  pub due : Due s join k t
  due = record { at = A; shape = R.shape; sums = R.basis.column_sums }

  pub alternate : Alternates (first_spanned (degree s) (met s join k) join k) (last_spanned (degree s) (met s join k) join) (λ n. sum n (values (conditions s join k) t))
  alternate = jumps_alternate due

  pub advance : {t' : Table} → step join (conditions s join k) t ≡ answer t' → Advance s join k t t'
  advance {t'} e = let T = order_stepped s A.limits.legal join k A.join-below A.order_below t t' R.basis e in record { stepped = T; mixing = step_mixing due T }

  -- it leads to the next stage
  pub step-reached : {t' : Table} → step join (conditions s join k) t ≡ answer t' → Reached s join (suc k) t'
  step-reached {t'} e = let N = advance e in let B = order-kept s A.limits.legal join k t t' R.basis N.stepped in record {
    basis = B;
    shape = step_shaped A R.shape N.stepped N.mixing B.column_sums;
    fitting = step_fits join (conditions s join k) t R.fitting e;
  }

-- all conditions of a join: none yet at the next
pub next-reached : {s : Space} {join : ℕ} {t : Table} → Reached s join (condition_count s join) t → Reached s (suc join) 0 t
next-reached {s} {join} {t} R = record { basis = join_done s join R.basis; shape = subst (λ c. Shaped s c t) (join_met s join) R.shape; fitting = R.fitting }

pub start-reached : (s : Space) → Reached s 0 0 (identity (column_count s))
start-reached s = record { basis = identity_basis (column_count s) (Done s 0 0) (nothing_done s); shape = identity_shaped s; fitting = identity-fits (column_count s) }

module _ (s : Space) (M : Limits s) where
  abbrev act : ℕ → ℕ → Table → Outcome Table
  act j k = step j (conditions s j k)

  steps : (j k : ℕ) (t t' : Table) → j < segments s - 1 → k < condition_count s j → Reached s j k t → act j k t ≡ answer t' → Reached s j (suc k) t'
  steps j k t t' h m R e = step-reached (record { limits = M; join-below = h; order_below = m }) R e

  -- the first n conditions of a join, all of them, and the first n joins
  pub orders_reached : (join n : ℕ) → join < segments s - 1 → n ≤ condition_count s join → {t t' : Table} → Reached s join 0 t → order_steps s join n t ≡ answer t' → Reached s join n t'
  unfolding order_steps
  orders_reached = orders_hold s act (Reached s) steps

  pub join-reached : (join : ℕ) → join < segments s - 1 → {t t' : Table} → Reached s join 0 t → order_steps s join (condition_count s join) t ≡ answer t' → Reached s (suc join) 0 t'
  unfolding order_steps
  join-reached = join-holds s act (Reached s) steps (λ j t h R. next-reached R)

  pub joins-reached : (n : ℕ) → n ≤ segments s - 1 → {t : Table} → join_steps s n ≡ answer t → Reached s n 0 t
  unfolding join_steps order_steps
  joins-reached n h e = joins_hold s act (Reached s) steps (λ j t h R. next-reached R) n h (start-reached s) e

-- A build that is refused: the step that refuses it, and the table before that step.
pub record RefusedAt (s : Space) (code place : ℕ) : Type 0 where
  pub join : ℕ
  pub order : ℕ
  pub join-below : join < segments s - 1
  pub order_below : order < condition_count s join
  pub table : Table
  pub before : (join_steps s join then order_steps s join order) ≡ answer table
  pub reached : Reached s join order table
  pub refuses : step join (conditions s join order) table ≡ refusal code place

pub weights_refused : (s : Space) → Checked s → {code place : ℕ} → weights s ≡ refusal code place → RefusedAt s code place
unfolding weights join_steps order_steps
weights_refused s c {code} {place} e = at_join (repeat-refuses (segments s - 1) (λ j. order_steps s j (condition_count s j)) (identity (column_count s)) e)
  where
    M : Limits s
    M = limits s c

    at_join : Halted (segments s - 1) (λ j. order_steps s j (condition_count s j)) (identity (column_count s)) code place → RefusedAt s code place
    at_join H = at-order (repeat-refuses (condition_count s H.index) (λ k. step H.index (conditions s H.index k)) H.reached H.refuses)
      where
        at-order : Halted (condition_count s H.index) (λ k. step H.index (conditions s H.index k)) H.reached code place → RefusedAt s code place
        at-order K = record {
          join = H.index;
          order = K.index;
          join-below = H.below;
          order_below = K.below;
          table = K.reached;
          before = then_answers (order_steps s H.index K.index) H.before ∙ K.before;
          reached = orders_reached s M H.index K.index H.below (omega (arith, K.below)) (joins-reached s M H.index (omega (arith, H.below)) H.before) K.before;
          refuses = K.refuses;
        }
