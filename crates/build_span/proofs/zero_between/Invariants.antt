-- From f up to i no jump is zero.
use Rattle.std.proofs.Common.{ℕ, ◌<◌, ◌≤◌, ◌≢◌, get_or, pos}
use Rattle.build_span.proofs.zero_between.Given as goal

abbrev pub invariant-loop-i : goal.invariant-loop-i
invariant-loop-i l = (k : ℕ) → l.f ≤ k → k < l.i → get_or l.js k (pos 0) ≢ pos 0
