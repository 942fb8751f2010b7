-- The first segment's rows of the identity, then the joins.
use mathlib.Core.Path.{sym, ◌∙◌}
use Prim.Native.Nat.{◌+◌}
use Rattle.spec_spline.specs.Space.{row_count}
use Rattle.spec_spline.specs.Table.{identity}
use Rattle.build_space.specs.Machine.{space}
use Rattle.build_space.proofs.Partial.{column-count_partial}
use Rattle.build_cells.proofs.Left.{left_from}
use Rattle.build_joins.proofs.Joins.{beginning, begins}
use Rattle.spec_calls.specs.Recovery.{recovered}
use Rattle.recover_joins.specs.Leaves.{told_joins}
use Rattle.recover_joins.proofs.recover_part.Goals as goal

pub recover_joins-requires : goal.recover_joins-requires
recover_joins-requires c =
    let p = c.requires in
    let b = beginning _ _ _ p.part _ _
    (c.first_column-columns.ensures ∙ column-count_partial _ c.args.degrees.now _) c.degree_at.ensures in
    record {
      part = p.part;
      start = begins c.args.num.now c.args.den.now b p.room.num_long p.room.den_long c.identity.ensures.num_after
          c.identity.ensures.den_after;
      given = record { count = p.given.count ∙ sym b.columns_are; fit = p.given.fit };
    }

pub returns : goal.returns
returns c =
    let s = space c.args.breaks.now c.args.degrees.now c.args.orders.now in
    left_from (λ q. q.table) (told_joins (row_count s)) _ _ _ _ c.recover_joins.result (identity (c.degree_at.result + 1))
    c.args.num.now c.args.den.now c.requires.room.num_long c.requires.room.den_long c.identity.ensures.num_after
    c.identity.ensures.den_after
    (recovered s c.args.ordinates.now) c.recover_joins.ensures
