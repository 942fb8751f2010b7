-- Before each turn the lines of the rows of all earlier parts are printed; each turn goes on to a later segment.
use Rattle.std.proofs.Common.{◌-◌, length}
use Rattle.build_space.specs.Machine.{space}
use Rattle.sheet_beam.proofs.Beam.{Before}
use Rattle.sheet_beam.proofs.put_parts.Given as goal

abbrev pub invariant-loop-a : goal.invariant-loop-a
invariant-loop-a l =
    let f = l.fn in
    Before (space f.breaks f.degrees f.orders) f.num f.den f.out f.at l.num l.den l.out l.next l.row l.a

abbrev pub decreases-loop-a : goal.decreases-loop-a
decreases-loop-a l = length l.degrees - l.a
