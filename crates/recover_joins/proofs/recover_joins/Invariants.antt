-- Before the turn at j the buffers and arrays hold what the joins before j gave, but for the rows and coefficients of the segments after
-- segment j.
use mathlib.Core.Path.{◌≡◌}
use mathlib.Core.List.{List, map}
use Prim.Native.Nat.{ℕ, suc, ◌+◌}
use lib.IntN.{ℤ}
use lib.ListN.{length}
use Rattle.base_exact.specs.Rational.{int}
use Rattle.base_fraction.specs.Fractions.{fractions}
use Rattle.base_fraction.specs.declared.arrays.Fractions.{Fractions}
use Rattle.spec_spline.specs.Space.{first_column, conditions_before}
use Rattle.build_space.specs.Machine.{space}
use Rattle.build_space.specs.Legal.{PartLegal}
use Rattle.build_factors.specs.Jumps.{AllFit}
use Rattle.build_joins.specs.Leaves.{Start}
use Rattle.build_step.proofs.Repeated.{State}
use Rattle.recover_joins.proofs.Turns.{join-turns}
use Rattle.recover_joins.proofs.recover_joins.Given as goal

pub record Inv (b d o os : List ℤ) (num₀ den₀ : List ℤ) (columns : ℕ) (num dens : List ℤ) (rows : ℕ) (present : Fractions)
    (j : ℕ) : Type 0 where
  pub rows_are : rows + conditions_before (space b d o) j ≡ first_column (space b d o) (suc j)
  pub part : PartLegal b d o
  pub begun : Start (space b d o) num₀ den₀ columns
  pub given : length os ≡ columns
  pub fit : AllFit (map int os)
  pub state : State (join-turns b d o part columns begun.count begun.room os given fit) num₀ den₀ num dens j
  pub is : present ≡ fractions state.reached.coefficients

abbrev pub invariant-loop-j : goal.invariant-loop-j
invariant-loop-j l = Inv l.breaks l.degrees l.orders l.ordinates l.fn.num l.fn.den l.columns l.num l.den l.rows l.present l.j
