-- Going on over the orders and the joins of a space, whatever a step changes (a table, or a table with numbers): what each step keeps,
-- and what goes on from the last order of a join to the next join, holds at the end.
use mathlib.Core.Path.{◌≡◌}
use Prim.Native.Nat.{ℕ, suc, ◌-◌, ◌<◌, ◌≤◌}
use native.Mathlib.Omega.{arith}
use Rattle.base_outcome.specs.Outcome.{Outcome, answer, repeat}
use Rattle.base_outcome.proofs.Outcome.{repeat-keeps}
use Rattle.spec_spline.specs.Space.{Space, segments, condition_count}

module _ {State : Type 0} (s : Space) (act : ℕ → ℕ → State → Outcome State) (P : ℕ → ℕ → State → Type 0)
    (steps : (j k : ℕ) (x y : State) → j < segments s - 1 → k < condition_count s j → P j k x → act j k x ≡ answer y → P j (suc k) y) where
  pub orders_hold : (j n : ℕ) → j < segments s - 1 → n ≤ condition_count s j → {x y : State} → P j 0 x → repeat n (act j) x ≡ answer y → P j n y
  orders_hold j n h l {x} {y} p e = repeat-keeps (P j) n (act j) x p (λ k a b m. steps j k a b h (omega arith)) y e

  module _ (next : (j : ℕ) (x : State) → j < segments s - 1 → P j (condition_count s j) x → P (suc j) 0 x) where
    pub join-holds : (j : ℕ) → j < segments s - 1 → {x y : State} → P j 0 x → repeat (condition_count s j) (act j) x ≡ answer y → P (suc j) 0 y
    join-holds j h {y = y} p e = next j y h (orders_hold j (condition_count s j) h (omega arith) p e)

    pub joins_hold : (n : ℕ) → n ≤ segments s - 1 → {x y : State} → P 0 0 x → repeat n (λ j. repeat (condition_count s j) (act j)) x ≡ answer y → P n 0 y
    joins_hold n h {x} {y} p e = repeat-keeps (λ j. P j 0) n (λ j. repeat (condition_count s j) (act j)) x p (λ j a b m. join-holds j (omega arith)) y e
