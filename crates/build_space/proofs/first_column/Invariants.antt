-- The sum is the first column of the segment reached.
use Rattle.std.proofs.Common.{◌≡◌, []}
use Rattle.spec_spline.specs.Space.{first_column}
use Rattle.build_space.specs.Machine.{space}
use Rattle.build_space.proofs.first_column.Given as goal

abbrev pub invariant-loop-k : goal.invariant-loop-k
invariant-loop-k l = l.column ≡ first_column (space [] l.degrees []) l.k
