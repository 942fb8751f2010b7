-- Below c stand the columns' ordinates, from c on what the cells held.
use Rattle.std.proofs.Common.{◌≡◌, ◌++◌, length, drop}
use Rattle.base_exact.specs.Tabulate.{tab}
use Rattle.spec_spline.specs.Table.{Table}
use Rattle.spec_spline.specs.Reading.{ordinate}
use Rattle.build_cells.specs.Held.{Holds}
use Rattle.curve_ordinates.specs.Ordinates.{entries}
use Rattle.curve_ordinates.proofs.ordinates.Given as goal

abbrev pub invariant-loop-c : goal.invariant-loop-c
invariant-loop-c l = (t : Table) → Holds l.num l.den t → length t ≡ l.n
    → l.os ≡ tab l.c (ordinate t (entries l.coefs l.index)) ++ drop l.c l.initial.os
