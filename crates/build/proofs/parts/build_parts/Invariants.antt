-- Before the turn at a the parts before segment a are built, and the buffers hold the last of them.
use Rattle.std.proofs.Common.{◌≤◌, ◌-◌, length}
use Rattle.spec_spline.specs.Table.{row_cells}
use Rattle.build_cells.specs.Held.{ClearFrom}
use Rattle.build_space.specs.Machine.{space}
use Rattle.build.proofs.Beam.{Before}
use Rattle.build.proofs.parts.build_parts.Given as goal

abbrev pub invariant-loop-a : goal.invariant-loop-a
invariant-loop-a l = record {
  state : Before (space l.breaks l.degrees l.orders) l.initial.num l.initial.den l.num l.den l.rows l.a;
  few : l.used ≤ row_cells;
  clear : ClearFrom l.num l.den l.used;
}

abbrev pub decreases-loop-a : goal.decreases-loop-a
decreases-loop-a l = length l.degrees - l.a
