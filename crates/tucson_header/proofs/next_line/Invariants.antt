-- The blank lines so far are passed over.
use Rattle.std.proofs.Common.{◌≡◌, ◌≤◌, ◌+◌, ◌-◌, length, drop}
use Rattle.spec_tucson.specs.Line.{lines_of}
use Rattle.spec_tucson.specs.KeptLines.{unblank}
use Rattle.tucson_header.proofs.next_line.Given as goal

abbrev pub invariant-loop-from : goal.invariant-loop-from
invariant-loop-from l = record {
  within : l.from ≤ length l.body + 1;
  few : l.number ≤ l.from + 1;
  lines : unblank l.fn.first (lines_of (drop l.fn.start l.body)) ≡ unblank l.number (lines_of (drop l.from l.body));
}

abbrev pub decreases-loop-from : goal.decreases-loop-from
decreases-loop-from l = length l.body + 1 - l.from
