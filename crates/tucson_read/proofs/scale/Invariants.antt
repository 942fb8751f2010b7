-- Before the turn at an index the widths below it are multiplied and the others what they were.
use Rattle.std.proofs.Common.{◌≡◌, ◌++◌, take, drop}
use Rattle.spec_tucson.specs.Series.{from_hundredths}
use Rattle.tucson_read.proofs.scale.Given as goal

abbrev pub invariant-loop-w : goal.invariant-loop-w
invariant-loop-w l = l.w-items ≡ from_hundredths (take l.w-index l.initial.w-items) ++ drop l.w-index l.initial.w-items
