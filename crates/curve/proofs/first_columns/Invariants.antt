-- Below i stand the segments' first columns, from i on 0, and the sum is the first column of segment i.
use Rattle.std.proofs.Common.{◌≡◌, [], ◌++◌, drop}
use lib.ListN.{replicate}
use Rattle.base_exact.specs.Tabulate.{tab}
use Rattle.spec_spline.specs.Space.{first_column}
use Rattle.build_space.specs.Machine.{space}
use Rattle.curve.proofs.first_columns.Given as goal

abbrev pub invariant-loop-i : goal.invariant-loop-i
invariant-loop-i l = let s = space [] l.degrees [] in
    (l.column ≡ first_column s l.i) × (l.columns ≡ tab l.i (first_column s) ++ drop l.i (replicate 48 0))
