-- The first segment's rows of the identity, then the joins' steps; after a refusal the buffers are cleared.
use mathlib.Core.Path.{◌∙◌}
use Rattle.spec_spline.specs.Space.{row_count}
use Rattle.spec_spline.specs.Build.{weights}
use Rattle.build_space.specs.Machine.{space}
use Rattle.build_space.proofs.Partial.{column-count_partial}
use Rattle.build_joins.proofs.Joins.{beginning, begins}
use Rattle.build_joins.proofs.Ends.{ends_kept, ends_after}
use Rattle.build_joins.proofs.build_legal.Goals as goal

pub join_steps-built-requires : goal.join_steps-built-requires
join_steps-built-requires c =
    let begun = beginning _ _ _ c.requires.part _ _
    (c.first_column-columns.ensures ∙ column-count_partial _ c.args.degrees.now _) c.degree_at.ensures in
    record {
      part = c.requires.part;
      start = begins c.args.num.now c.args.den.now begun c.requires.room.num_long c.requires.room.den_long
          c.identity_over.ensures.num_after c.identity_over.ensures.den_after;
    }

pub returns-then-is_err : goal.returns-then-is_err
returns-then-is_err c =
    let s = space c.args.breaks.now c.args.degrees.now c.args.orders.now in
    ends_after (row_count s) _ _ _ _ _ _ _ c.identity_over.ensures.num_after c.identity_over.ensures.den_after s c.join_steps-built.result
    c.if-is_err.ensures.value c.requires.room.num_long c.requires.room.den_long c.join_steps-built.ensures c.clear.ensures.num_after
    c.clear.ensures.den_after

pub returns-else-is_err : goal.returns-else-is_err
returns-else-is_err c =
    let s = space c.args.breaks.now c.args.degrees.now c.args.orders.now in
    ends_kept (row_count s) _ _ _ _ _ _ _ c.identity_over.ensures.num_after c.identity_over.ensures.den_after
    (weights s) c.join_steps-built.result
    c.if-is_err.ensures.value c.join_steps-built.ensures
