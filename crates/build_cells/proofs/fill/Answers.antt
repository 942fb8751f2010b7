-- What `fill` leaves of the part stands between the cells before and behind it.
use Rattle.std.proofs.lemmas.List.Edits.{length-between}
use Rattle.std.proofs.lemmas.Int.{to_z-of_z}
use Rattle.build_cells.proofs.Region.{filled_part}
use Rattle.build_cells.proofs.fill.Goals as goal

pub returns : goal.returns
returns c =
    let a = c.args in
    let f = c.ranges.value in
    filled_part a.from a.to _ a.value a.cells.now _ c.requires.0 c.requires.1 (length-between a.cells.now a.from a.to c.requires.1)
    (simp to_z-of_z at (c.fill.ensures.after (λ y e. e)))
