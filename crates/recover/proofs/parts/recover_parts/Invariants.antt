-- Before the turn at a the parts before segment a are recovered: the weight buffers hold the last of them, the answer buffers the
-- coefficients of all.
use Rattle.std.proofs.Common.{◌-◌, length}
use Rattle.build_space.specs.Machine.{space}
use Rattle.recover.proofs.Beam.{Before}
use Rattle.recover.proofs.parts.recover_parts.Given as goal

abbrev pub invariant-loop-a : goal.invariant-loop-a
invariant-loop-a l = Before (space l.breaks l.degrees l.orders) l.ordinates l.initial.num l.initial.den l.initial.coef_num l.initial.coef_den
    l.num l.den l.coef_num l.coef_den l.rows l.a

abbrev pub decreases-loop-a : goal.decreases-loop-a
decreases-loop-a l = length l.degrees - l.a
