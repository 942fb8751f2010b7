-- The sum counts the conditions at the joins passed.
use Rattle.std.proofs.Common.{◌≡◌, []}
use Rattle.spec_spline.specs.Space.{conditions_before}
use Rattle.build_space.specs.Machine.{space}
use Rattle.build_space.proofs.conditions_before.Given as goal

abbrev pub invariant-loop-k : goal.invariant-loop-k
invariant-loop-k l = l.count ≡ conditions_before (space [] [] l.orders) l.k
