-- No position before segment i reaches the target.
use Rattle.build_space.specs.Machine.{space}
use Rattle.curve_reach_search.proofs.Searching.{Before}
use Rattle.curve_reach_search.proofs.search.Given as goal

abbrev pub invariant-loop-i : goal.invariant-loop-i
invariant-loop-i l = Before (space l.breaks l.degrees l.orders) l.ordinates l.target l.column l.start l.i
