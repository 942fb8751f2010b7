-- The induction over the steps: the table that the build answers is a basis for all join conditions of the space, and
-- each condition has taken one row.
use mathlib.Core.Path.{◌≡◌, refl, sym, ◌∙◌, ap, subst}
use mathlib.Core.Logic.{◌⊎◌, inl, inr}
use mathlib.Core.List.{List}
use Prim.Native.Nat.{ℕ, suc, ◌+◌, ◌-◌, ◌<◌}
use native.Mathlib.Omega.{arith}
use native.Mathlib.Nat.{eq-or-lt_of_le}
use lib.ListN.{length}
use Rattle.base_outcome.specs.Outcome.{answer}
use Rattle.spec_spline.specs.Space.{Space, segments, column_count, condition_count, conditions_before, row_count}
use Rattle.spec_spline.specs.Conditions.{Entry, conditions}
use Rattle.spec_spline.specs.Table.{Table}
use Rattle.spec_spline.specs.Step.{step}
use Rattle.spec_spline.specs.Build.{order_steps, join_steps, weights, space_weights}
use Rattle.spec_spline.proofs.Legal.{Legal, legal, accepted-passed}
use Rattle.spec_spline.proofs.Conditions.{conditions-inside}
use Rattle.spec_spline.proofs.Table.{identity-rows}
use Rattle.spec_spline.proofs.Induction.{joins_hold}
use Rattle.theorems_weights.proofs.Stepped.{Stepped}
use Rattle.theorems_weights.proofs.Basis.{Basis, basis_stepped, step_keeps}
use Rattle.theorems_weights.proofs.Identity.{identity_basis}
use Rattle.theorems_weights.proofs.Condition.{conditions-constant}

-- The conditions of the joins before this one, and the first ones at it.
pub data Done (s : Space) (join n : ℕ) (κ : List Entry) : Type 0 where
  earlier : (j k : ℕ) → j < join → k < condition_count s j → conditions s j k ≡ κ → Done s join n κ
  here : (k : ℕ) → k < n → conditions s join k ≡ κ → Done s join n κ

pub nothing_done : (s : Space) (κ : List Entry) → Done s 0 0 κ → ⊥
nothing_done s κ (earlier i m a b c) = omega arith
nothing_done s κ (here m a c) = omega arith

basis_same : {K K' : List Entry → Type 0} {columns : ℕ} {t : Table} → ((κ : List Entry) → K κ → K' κ) → ((κ : List Entry) → K' κ → K κ) → Basis K columns t → Basis K' columns t
basis_same there back B = record {
  wide = B.wide;
  not_negative = B.not_negative;
  column_sums = B.column_sums;
  meets = λ κ m. B.meets κ (back κ m);
  spans = λ z out met. B.spans z out (λ κ m. met κ (there κ m));
  unique = B.unique;
}

-- All conditions of a join are done: those of the joins before the next one.
module _ (s : Space) (j : ℕ) where
  there : (κ : List Entry) → Done s j (condition_count s j) κ → Done s (suc j) 0 κ
  there κ (earlier i m a b c) = earlier i m (omega arith) b c
  there κ (here m a c) = earlier j m (omega arith) a c

  back : (κ : List Entry) → Done s (suc j) 0 κ → Done s j (condition_count s j) κ
  back κ (earlier i m a b c) = place (eq-or-lt_of_le a)
    where
      place : (suc i ≡ suc j) ⊎ (suc i < suc j) → Done s j (condition_count s j) κ
      place (inl z) = let y : i ≡ j = omega arith in here m (subst (λ n. m < condition_count s n) y b) (ap (λ n. conditions s n m) (sym y) ∙ c)
      place (inr z) = earlier i m (omega arith) b c
  back κ (here m a c) = absurd (omega arith)

  pub join_done : {t : Table} → Basis (Done s j (condition_count s j)) (column_count s) t → Basis (Done s (suc j) 0) (column_count s) t
  join_done B = basis_same there back B

module _ (s : Space) (L : Legal s) where
  -- one step
  pub order_stepped : (j k : ℕ) → j < segments s - 1 → k < condition_count s j → (t t' : Table) → Basis (Done s j k) (column_count s) t → step j (conditions s j k) t ≡ answer t'
      → Stepped (conditions s j k) (column_count s) t t'
  order_stepped j k h l t t' B e =
      let p = L.below-left-degree j h in let q = L.below-right-degree j h in
      basis_stepped (Done s j k) (column_count s) j (conditions s j k) t B
      (conditions-inside s j k (omega arith) (omega arith) (omega arith))
      (conditions-constant s j k (omega arith) (L.positive_width (suc j) (omega arith))) e

  pub order-kept : (j k : ℕ) (t t' : Table) → Basis (Done s j k) (column_count s) t → Stepped (conditions s j k) (column_count s) t t' → Basis (Done s j (suc k)) (column_count s) t'
  order-kept j k t t' B S = step_keeps (Done s j k) (Done s j (suc k)) (column_count s) (conditions s j k) t t' B S added kept (here k (omega arith) refl)
    where
      added : (κ : List Entry) → Done s j (suc k) κ → Done s j k κ ⊎ (conditions s j k ≡ κ)
      added κ (earlier i m a b c) = inl (earlier i m a b c)
      added κ (here m a c) = place (eq-or-lt_of_le a)
        where
          place : (suc m ≡ suc k) ⊎ (suc m < suc k) → Done s j k κ ⊎ (conditions s j k ≡ κ)
          place (inl z) = inr (ap (conditions s j) (let y : k ≡ m = omega arith in y) ∙ c)
          place (inr z) = inl (here m (omega arith) c)

      kept : (κ : List Entry) → Done s j k κ → Done s j (suc k) κ
      kept κ (earlier i m a b c) = earlier i m a b c
      kept κ (here m a c) = here m (omega arith) c

  -- a table after the joins before this one and the first k orders at it: a basis, with one row less for each condition
  record Staged (j k : ℕ) (t : Table) : Type 0 where
    basis : Basis (Done s j k) (column_count s) t
    rows : length t + (conditions_before s j + k) ≡ column_count s

  step_staged : (j k : ℕ) (t t' : Table) → j < segments s - 1 → k < condition_count s j → Staged j k t → step j (conditions s j k) t ≡ answer t' → Staged j (suc k) t'
  step_staged j k t t' h l B e = let S = order_stepped j k h l t t' B.basis e in record { basis = order-kept j k t t' B.basis S; rows = omega (arith, S.rows, B.rows) }

  next_staged : (j : ℕ) (t : Table) → j < segments s - 1 → Staged j (condition_count s j) t → Staged (suc j) 0 t
  unfolding conditions_before
  next_staged j t h B = record { basis = join_done s j B.basis; rows = omega (arith, B.rows) }

  all_staged : (t : Table) → weights s ≡ answer t → Staged (segments s - 1) 0 t
  unfolding weights join_steps order_steps conditions_before
  all_staged t e = joins_hold s (λ j k. step j (conditions s j k)) Staged step_staged next_staged (segments s - 1) (omega arith)
      (record { basis = identity_basis (column_count s) (Done s 0 0) (nothing_done s); rows = omega (arith, identity-rows (column_count s)) }) e

-- What the build answers.
pub record Built (s : Space) (t : Table) : Type 0 where
  pub legal_space : Legal s
  pub weights_are : weights s ≡ answer t
  pub basis : Basis (Done s (segments s - 1) 0) (column_count s) t
  pub rows : length t + conditions_before s (segments s - 1) ≡ column_count s

pub built : (s : Space) (t : Table) → space_weights s ≡ answer t → Built s t
built s t e = let p = accepted-passed s e in let L = legal s p.checks in let all = all_staged s L t p.weights_are in
    record { legal_space = L; weights_are = p.weights_are; basis = all.basis; rows = omega (arith, all.rows) }

pub row_count_lem : (s : Space) (t : Table) → Built s t → length t ≡ row_count s
row_count_lem s t b = omega (arith, b.rows)
