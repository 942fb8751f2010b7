-- What is held, with the lines to come, ends as the whole text does.
use Rattle.std.proofs.Common.{length, ◌+◌, ◌-◌}
use Rattle.tucson_check.proofs.Turns.{Checks}
use Rattle.tucson_check.proofs.check.Given as goal

abbrev pub invariant-loop-from : goal.invariant-loop-from
invariant-loop-from l = Checks l.body l.header l.unit l.old_shown l.old l.held l.from l.number

abbrev pub decreases-loop-from : goal.decreases-loop-from
decreases-loop-from l = length l.body + 1 - l.from
