-- What is written and the text of the series to come are the whole text.
use Rattle.std.proofs.Common.{length}
use Rattle.tucson_putting.proofs.AllPut.{SoFar}
use Rattle.tucson_putting.proofs.put_all.Given as goal

abbrev pub invariant-loop-year : goal.invariant-loop-year
invariant-loop-year l = SoFar l.names l.years l.counts l.widths l.initial.text l.text l.next l.at l.from (length l.yielded)
