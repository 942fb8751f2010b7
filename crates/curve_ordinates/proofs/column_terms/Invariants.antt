-- After i rows the terms are those of the first i rows of the table that the buffers hold.
use Rattle.curve_ordinates.specs.Ordinates.{entries}
use Rattle.curve_ordinates.proofs.Gathered.{Gathered}
use Rattle.curve_ordinates.proofs.column_terms.Given as goal

abbrev pub invariant-loop-i : goal.invariant-loop-i
invariant-loop-i l = Gathered l.num l.den (entries l.coefs l.index) l.c l.all l.i
