-- The numbers written so far and those of the fields from the i-th on make up all of them.
use Rattle.tucson_read.proofs.Filling.{Filling}
use Rattle.tucson_read.proofs.fill.Given as goal

abbrev pub invariant-loop-i : goal.invariant-loop-i
invariant-loop-i l = Filling l.text l.from l.to l.n l.initial.widths l.at l.widths l.i
