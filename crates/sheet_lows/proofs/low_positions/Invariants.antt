-- After k turns the low positions of the first k entries stand at the array's start.
use Rattle.std.proofs.Common.{◌≡◌, ◌≤◌, take}
use Rattle.spec_sheet.specs.Printout.{low_positions}
use Rattle.spec_sheet.specs.Pairs.{paired}
use Rattle.sheet_lows.proofs.low_positions.Given as goal

abbrev pub invariant-loop-k : goal.invariant-loop-k
invariant-loop-k l = record {
  few : l.count ≤ l.k;
  kept : take l.count l.lows ≡ low_positions (take l.k l.positions) (paired l.values);
}
