-- How many conditions a join has whose order is always answered.
use mathlib.Core.Path.{◌≡◌, ap}
use Prim.Native.Nat.{ℕ, ◌≤◌}
use native.Mathlib.Omega.{arith}
use lib.IntN.{ℤ, pos, ◌+ℤ◌}
use lib.Signed.{◌≤ℤ◌}
use Rattle.base_exact.proofs.Integer.{up, dn, bal_+, ≤_out}
use Rattle.theorems_acceptance.specs.Acceptance.{safe_order}

-- a safe order has at most two conditions
pub low_count : (o : ℤ) (n : ℕ) → o +ℤ pos 1 ≡ pos n → o ≤ℤ safe_order → n ≤ 2
low_count o n e h = omega (arith, ≤_out o safe_order h, bal_+ o (pos 1), ap up e, ap dn e)
