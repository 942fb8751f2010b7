-- What was counted, with what the lines to come are told to end with, is what the whole text is told to end with.
use Rattle.std.proofs.Common.{length, ◌-◌}
use Rattle.tucson_scan.proofs.Counts.{Scans}
use Rattle.tucson_scan.proofs.scan.Given as goal

abbrev pub invariant-loop-from : goal.invariant-loop-from
invariant-loop-from l = Scans l.text l.from l.lines l.series l.widths l.begun l.next l.small

abbrev pub decreases-loop-from : goal.decreases-loop-from
decreases-loop-from l = length l.text - l.from
