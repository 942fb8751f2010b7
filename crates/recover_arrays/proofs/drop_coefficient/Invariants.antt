-- Before the turn at i the new arrays hold the first i of the coefficients that are left.
use Rattle.std.proofs.Common.{◌≡◌, ◌<◌, List, length}
use Rattle.base_exact.specs.Rational.{ℚ}
use Rattle.base_exact.specs.Tabulate.{tab}
use Rattle.spec_spline.specs.Table.{entry}
use Rattle.base_fraction.specs.Fractions.{fractions}
use Rattle.recover_arrays.proofs.Without.{without}
use Rattle.recover_arrays.proofs.drop_coefficient.Given as goal

abbrev pub invariant-loop-i : goal.invariant-loop-i
invariant-loop-i l = (ps : List ℚ) → l.cs ≡ fractions ps → (long : l.l < length ps)
    → l.left ≡ fractions (tab l.i (entry (without ps l.l long)))
