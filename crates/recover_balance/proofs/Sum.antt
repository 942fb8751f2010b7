-- The sum of coefficients times jumps, one row after the other, and what it tells.
use mathlib.Core.Path.{◌≡◌, refl, sym, ◌∙◌, ap}
use mathlib.Core.Logic.{◌⊎◌, inl, inr}
use mathlib.Core.Bool.{true, false, cond}
use mathlib.Core.List.{List}
use Prim.Native.Nat.{ℕ, zero, suc, ◌<◌, ◌≤◌}
use native.Mathlib.Omega.{arith}
use native.Mathlib.Nat.{eq-or-lt_of_le}
use lib.IntN.{pos}
use lib.ListN.{length}
use Rattle.std.specs.Prelude.{Ok, Err}
use Rattle.base_exact.specs.Rational.{ℚ, int, ◌+ᵠ◌, ◌*ᵠ◌}
use Rattle.base_exact.specs.Order.{is_zero}
use Rattle.base_outcome.specs.Outcome.{Outcome, answer, refusal, refuse, ◌then◌}
use Rattle.spec_spline.specs.Table.{entry}
use Rattle.spec_spline.specs.Step.{jumps_at}
use Rattle.base_outcome.proofs.Outcome.{then_answers, then_refuses}
use Rattle.spec_calls.specs.Recovery.{fitted, jump_sum, balanced}
use Rattle.theorems_recovery.proofs.Answers.{sum_refused}
use Rattle.recover_balance.specs.Machine.{balance_of}

module _ (j : ℕ) (qs ps : List ℚ) where
  pub sum-none : jump_sum j qs ps 0 ≡ answer (int (pos 0))
  unfolding jump_sum
  sum-none = refl

  abbrev pub added : ℕ → ℚ → Outcome ℚ
  added n s = cond (jumps_at qs n) (fitted j (entry ps n *ᵠ entry qs n) then λ p. fitted j (s +ᵠ p)) (answer s)

  pub sum_more : (n : ℕ) {s : ℚ} → jump_sum j qs ps n ≡ answer s → jump_sum j qs ps (suc n) ≡ added n s
  unfolding jump_sum
  sum_more n e = then_answers (added n) e

  sum-next : (n : ℕ) {code place : ℕ} → jump_sum j qs ps n ≡ refusal code place → jump_sum j qs ps (suc n) ≡ refusal code place
  unfolding jump_sum
  sum-next n e = then_refuses (added n) e

  pub sum_stays : (m n : ℕ) {code place : ℕ} → m ≤ n → jump_sum j qs ps m ≡ refusal code place → jump_sum j qs ps n ≡ refusal code place
  sum_stays m zero h e = ap (jump_sum j qs ps) (let z : 0 ≡ m = omega arith in z) ∙ e
  sum_stays m (suc n) {code} {place} h e = go (λ l. sum_stays m n l e) (eq-or-lt_of_le h)
    where
      go : (m ≤ n → jump_sum j qs ps n ≡ refusal code place) → (m ≡ suc n) ⊎ (m < suc n) → jump_sum j qs ps (suc n) ≡ refusal code place
      go ih (inl z) = ap (jump_sum j qs ps) (sym z) ∙ e
      go ih (inr l) = sum-next n (ih (omega arith))

  -- what the sum tells
  pub balance_large : {code place : ℕ} → jump_sum j qs ps (length qs) ≡ refusal code place → Err 20 ≡ balance_of (balanced j qs ps)
  unfolding balanced balance_of
  balance_large {code} {place} e =
      sym (ap balance_of (then_refuses (λ s. cond (is_zero s) (answer tt) (refuse 19 j)) e)
      ∙ ap Err (sum_refused j qs ps (length qs) code place e))

  pub balance-zero : {s : ℚ} → jump_sum j qs ps (length qs) ≡ answer s → is_zero s ≡ true → Ok tt ≡ balance_of (balanced j qs ps)
  unfolding balanced balance_of
  balance-zero e h = sym (ap balance_of (then_answers (λ s. cond (is_zero s) (answer tt) (refuse 19 j)) e ∙ ap (λ b. cond b (answer tt) (refuse 19 j)) h))

  pub balance_not : {s : ℚ} → jump_sum j qs ps (length qs) ≡ answer s → is_zero s ≡ false → Err 19 ≡ balance_of (balanced j qs ps)
  unfolding balanced balance_of
  balance_not e h = sym (ap balance_of (then_answers (λ s. cond (is_zero s) (answer tt) (refuse 19 j)) e ∙ ap (λ b. cond b (answer tt) (refuse 19 j)) h))
