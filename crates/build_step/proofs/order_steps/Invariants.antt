-- Before the turn at k the buffers hold the table after the orders below k, with k rows less.
use Prim.Native.Nat.{ℕ}
use Rattle.spec_spline.specs.Space.{Space}
use Rattle.spec_spline.specs.Table.{Table}
use Rattle.build_cells.specs.Held.{Holds, Shaped}
use Rattle.build_conditions.specs.Sides.{JoinIs}
use Rattle.build_step.proofs.Repeated.{State}
use Rattle.build_step.proofs.Orders.{order-turns}
use Rattle.build_step.proofs.order_steps.Given as goal

abbrev pub invariant-loop-k : goal.invariant-loop-k
invariant-loop-k l = (s : Space) (j : ℕ) (t : Table) → JoinIs l.join s j → Holds l.fn.num l.fn.den t → Shaped t l.rows l.columns
    → State (order-turns s j l.n l.rows l.columns t) l.fn.num l.fn.den l.num l.den l.k
