-- Below i stand the segments' first positions, from i on 0.
use Rattle.std.proofs.Common.{◌≡◌, ◌++◌, drop, replicate, pos}
use Rattle.base_exact.specs.Tabulate.{tab}
use Rattle.build_space.specs.Machine.{space}
use Rattle.curve_segments.specs.Segments.{first_position}
use Rattle.curve_segments.proofs.first_positions.Given as goal

abbrev pub invariant-loop-i : goal.invariant-loop-i
invariant-loop-i l = l.firsts ≡ tab l.i (first_position (space l.breaks l.degrees l.orders)) ++ drop l.i (replicate 48 (pos 0))
