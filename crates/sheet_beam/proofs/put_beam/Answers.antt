-- A beam of one part is printed from the buffers, any other part by part.
use Rattle.std.proofs.Common.{◌≡◌, ◌∙◌, sym, arith}
use Rattle.spec_spline.specs.Space.{Space, segments, part_end}
use Rattle.build_space.specs.Machine.{space}
use Rattle.build_space.proofs.Partial.{part_end_partial}
use Rattle.base_print.proofs.Buffer.{puts_within, puts_as}
use Rattle.sheet_beam.proofs.Beam.{beam-lengths, one_rows_fit, one_lines}
use Rattle.sheet_beam.proofs.put_beam.Goals as goal

pub part_end-end-requires : goal.part_end-end-requires
part_end-end-requires c = let l = beam-lengths _ c.requires.filled.accepted in omega (arith, l.some_segment, l.order-count)

pub put_weights-requires : goal.put_weights-requires
put_weights-requires c =
    let a = c.args in
    let s : Space = space a.breaks.now a.degrees.now a.orders.now in
    let one : part_end s 0 ≡ segments s =
    sym (c.part_end-end.ensures ∙ part_end_partial a.breaks.now a.degrees.now a.orders.now 0) ∙ c.if-end-degrees.true in
    let f = c.requires.filled in
    omega (arith, c.requires.at_bound, f.num_long, f.den_long, one_rows_fit f one)

pub returns-then-end-degrees : goal.returns-then-end-degrees
returns-then-end-degrees c =
    let a = c.args in
    let s : Space = space a.breaks.now a.degrees.now a.orders.now in
    let one : part_end s 0 ≡ segments s =
    sym (c.part_end-end.ensures ∙ part_end_partial a.breaks.now a.degrees.now a.orders.now 0) ∙ c.if-end-degrees.true in
    let f = c.requires.filled in
    puts_within (omega (arith, one_rows_fit f one)) (puts_as (one_lines f one) c.put_weights.ensures)
