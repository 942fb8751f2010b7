-- No ordinate passed reaches the target.
use Rattle.std.proofs.Common.{◌≡◌, ℕ, ◌+◌, ◌<◌, false, get_or, pos}
use lib.Signed.{le_z}
use Rattle.curve_reach_steps.proofs.one_reaches.Given as goal

abbrev pub invariant-loop-k : goal.invariant-loop-k
invariant-loop-k l = (j : ℕ) → j < l.k → le_z l.target (get_or l.ordinates (l.c + j) (pos 0)) ≡ false
