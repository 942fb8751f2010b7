-- Before the turn at k the buffers and arrays hold what the orders below k gave, with k rows less.
use mathlib.Core.Path.{◌≡◌}
use mathlib.Core.List.{List}
use Prim.Native.Nat.{ℕ}
use lib.IntN.{ℤ}
use lib.ListN.{length}
use Rattle.base_exact.specs.Rational.{ℚ}
use Rattle.base_fraction.specs.Fractions.{fractions}
use Rattle.base_fraction.specs.declared.arrays.Fractions.{Fractions}
use Rattle.spec_spline.specs.Space.{Space}
use Rattle.spec_spline.specs.Table.{Table}
use Rattle.build_cells.specs.Held.{Holds, Shaped}
use Rattle.build_conditions.specs.Sides.{JoinIs}
use Rattle.build_factors.specs.Jumps.{AllFit}
use Rattle.build_step.proofs.Repeated.{State}
use Rattle.spec_calls.specs.Recovery.{Combination}
use Rattle.recover_joins.proofs.Turns.{order-turns}
use Rattle.recover_joins.proofs.recover_orders.Given as goal

-- the coefficients of the state are in the arrays
pub record Reached (s : Space) (j n rows columns : ℕ) (r : Combination) (num₀ den₀ num dens : List ℤ) (present : Fractions)
    (k : ℕ) : Type 0 where
  pub state : State (order-turns s j n rows columns r) num₀ den₀ num dens k
  pub is : present ≡ fractions state.reached.coefficients

abbrev pub invariant-loop-k : goal.invariant-loop-k
invariant-loop-k l = (s : Space) (j : ℕ) (t : Table) (ps : List ℚ) → JoinIs l.join s j → Holds l.fn.num l.fn.den t
    → Shaped t l.rows l.columns
    → l.fn.cs ≡ fractions ps → length ps ≡ l.rows → AllFit ps
    → Reached s j l.n l.rows l.columns (record { table = t; coefficients = ps }) l.fn.num l.fn.den l.num l.den l.present l.k
