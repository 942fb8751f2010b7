-- Before the turn at j the buffers hold the table after the joins before j, but for the rows of the segments after segment j,
-- which are those of the identity still.
use mathlib.Core.Path.{◌≡◌}
use mathlib.Core.List.{List}
use Prim.Native.Nat.{ℕ, suc, ◌+◌}
use lib.IntN.{ℤ}
use Rattle.spec_spline.specs.Space.{first_column, conditions_before}
use Rattle.build_space.specs.Machine.{space}
use Rattle.build_space.specs.Legal.{PartLegal}
use Rattle.build_step.proofs.Repeated.{State}
use Rattle.build_joins.specs.Leaves.{Start}
use Rattle.build_joins.proofs.Turns.{join-turns}
use Rattle.build_joins.proofs.join_steps.Given as goal

pub record Inv (b d o : List ℤ) (num₀ den₀ : List ℤ) (columns : ℕ) (num dens : List ℤ) (rows j : ℕ) : Type 0 where
  pub rows_are : rows + conditions_before (space b d o) j ≡ first_column (space b d o) (suc j)
  pub part : PartLegal b d o
  pub begun : Start (space b d o) num₀ den₀ columns
  pub state : State (join-turns b d o part columns begun.count begun.room) num₀ den₀ num dens j

abbrev pub invariant-loop-j : goal.invariant-loop-j
invariant-loop-j l = Inv l.breaks l.degrees l.orders l.fn.num l.fn.den l.columns l.num l.den l.rows l.j
