-- What the named header ends with, from the lines behind those that are counted and the first strict one of these.
use Rattle.std.proofs.Common.{◌≡◌, ◌≤◌, ◌+◌, length, drop}
use Rattle.spec_tucson.specs.Line.{lines_of}
use Rattle.spec_tucson.specs.KeptLines.{named_header}
use Rattle.tucson_header.proofs.HeaderLines.{named_from}
use Rattle.tucson_header.proofs.named.Given as goal

abbrev pub invariant-loop-done : goal.invariant-loop-done
invariant-loop-done l = record {
  within : l.from ≤ length l.body + 1;
  below : l.done ≤ l.from;
  ends : named_header l.h (lines_of l.body) ≡ named_from l.h l.done l.found (lines_of (drop l.from l.body));
}
