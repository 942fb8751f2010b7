-- No segment passed after segment i starts a part.
use Rattle.std.proofs.Common.{ℕ, ◌<◌, ◌≡◌, [], false}
use Rattle.spec_spline.specs.Space.{starts_part}
use Rattle.build_space.specs.Machine.{space}
use Rattle.build_space.proofs.part_end.Given as goal

abbrev pub invariant-loop-k : goal.invariant-loop-k
invariant-loop-k l = (k : ℕ) → k < l.k → l.i < k → starts_part (space [] l.degrees l.orders) k ≡ false
