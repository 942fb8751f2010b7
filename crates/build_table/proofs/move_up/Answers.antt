-- What is copied from a row further on is what the definition moves up.
use Rattle.build_cells.proofs.Region.{moved_copied}
use Rattle.build_table.proofs.move_up.Goals as goal

pub returns-clause-num_after : goal.returns-clause-num_after
returns-clause-num_after c =
    moved_copied c.args.from c.args.to c.args.num.now _ c.requires.1.0 c.copy_within.ensures.len c.copy_within.ensures.by_index

pub returns-clause-den_after : goal.returns-clause-den_after
returns-clause-den_after c =
    moved_copied c.args.from c.args.to c.args.den.now _ c.requires.1.1 c.copy_within-2.ensures.len c.copy_within-2.ensures.by_index
