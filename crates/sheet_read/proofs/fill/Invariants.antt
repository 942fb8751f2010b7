-- The numbers written so far are the list's first n, and those of the text from `start` on are the others.
use Rattle.std.proofs.Common.{◌+◌, ◌-◌, ◌≤◌}
use Rattle.std.proofs.Math.Seq.{slice}
use Rattle.sheet_read.specs.Machine.{numerals_at}
use Rattle.sheet_read.proofs.Filling.{Filled}
use Rattle.sheet_read.proofs.fill.Given as goal

abbrev pub invariant-loop-start : goal.invariant-loop-start
invariant-loop-start l = record {
  within : l.start ≤ l.span.to + 1;
  filled : Filled (numerals_at l.text l.span.from l.span.to) (slice l.start l.span.to l.text) l.initial.list l.list l.n;
}

abbrev pub decreases-loop-start : goal.decreases-loop-start
decreases-loop-start l = l.span.to + 1 - l.start
