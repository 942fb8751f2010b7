-- The orders at a join, as turns: one row less at each, and which refusals they can give.
use mathlib.Core.Path.{◌≡◌, refl, subst}
use Prim.Native.Nat.{ℕ, suc, ◌-◌}
use native.Mathlib.Omega.{arith}
use Rattle.base_outcome.specs.Outcome.{Outcome, answer, refusal, with_answer}
use Rattle.base_outcome.proofs.Outcome.{RefusedAs, repeat_refused}
use Rattle.spec_spline.specs.Space.{Space}
use Rattle.spec_spline.specs.Conditions.{conditions}
use Rattle.spec_spline.specs.Table.{Table}
use Rattle.spec_spline.specs.Step.{step}
use Rattle.spec_spline.specs.Build.{order_steps}
use Rattle.spec_spline.proofs.Refusals.{EightOrNine, step-refuses}
use Rattle.build_step.proofs.Stepped.{Proper, step_one_less}
use Rattle.build_step.proofs.Repeated.{Turns}

-- a turn on all of a state
pub with_all : {A : Type 0} (o : Outcome A) → o ≡ with_answer (λ a. a) o
with_all (answer a) = refl
with_all (refusal code place) = refl

-- the orders 0 up to n - 1 at join j, on a table with this many rows
abbrev pub order-turns : Space → ℕ → ℕ → ℕ → ℕ → Table → Turns Table
order-turns s j n rows columns t = record {
  table = λ u. u;
  first = t;
  count = n;
  step = λ k. step j (conditions s j k);
  work = λ k. step j (conditions s j k);
  whole = λ k u. u;
  Sound = λ k u. Proper u (rows - k) columns;
  fits = λ k u p. p.fit;
  turn = λ k u l p. with_all (step j (conditions s j k) u);
  keeps = λ k u v l p e. subst (λ m. Proper v m columns) (let z : rows - k - 1 ≡ rows - suc k = omega arith in z) (step_one_less j (conditions s j k) u e p);
}

-- ---- the refusals

pub orders_refuse : (s : Space) (j n : ℕ) (t : Table) → RefusedAs (EightOrNine j) (order_steps s j n t)
unfolding order_steps
orders_refuse s j n t = repeat_refused (EightOrNine j) n (λ k. step j (conditions s j k)) t (λ k u h e. step-refuses j (conditions s j k) u)
