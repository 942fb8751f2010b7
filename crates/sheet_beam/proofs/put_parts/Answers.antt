-- The lines of each part follow those of the rows before it, and the last part ends with the beam.
use Rattle.std.proofs.Common.{◌≡◌, ◌∙◌, ap, length, arith}
use Rattle.spec_spline.specs.Space.{Space, part_end, first_column}
use Rattle.spec_spline.proofs.Parts.{part-ends}
use Rattle.build_space.specs.Machine.{space}
use Rattle.build_space.proofs.Partial.{part_end_partial, first-column_partial}
use Rattle.build_space.proofs.Legal.{legal_first-column-high}
use Rattle.sheet_beam.proofs.Beam.{beam-lengths, beam_legal, part-rows_fit, numerators_long, denominators_long, before-first}
use Rattle.sheet_beam.proofs.Beam.{rows_few, next_near, starts, before-next, before_end}
use Rattle.sheet_beam.proofs.put_parts.Goals as goal

pub loop-a-init : goal.loop-a-init
loop-a-init c = before-first _ _ _ _ _

pub part_end-b-requires : goal.part_end-b-requires
part_end-b-requires c = let l = beam-lengths _ c.requires.accepted in (c.loop-a-test.true, omega (arith, l.order-count))

pub first_column-column-requires : goal.first_column-column-requires
first_column-column-requires c = let l = beam_legal _ c.requires.accepted in (omega arith, (l.few, l.degrees_legal))

pub part_rows-n-requires : goal.part_rows-n-requires
part_rows-n-requires c =
    let a = c.args in
    let p = c.requires in
    let i = c.loop-a.invariant in
    record {
      accepted = p.accepted;
      num_long = omega (arith, p.num_long, i.num_long);
      den_long = omega (arith, p.den_long, i.den_long);
      starts = starts p.accepted i c.loop-a-test.true;
      ends = c.part_end-b.ensures ∙ part_end_partial a.breaks.now a.degrees.now a.orders.now c.loop-a.a;
    }

pub put_weights-next-requires : goal.put_weights-next-requires
put_weights-next-requires c =
    let a = c.args in
    let s : Space = space a.breaks.now a.degrees.now a.orders.now in
    let p = c.requires in
    let l = c.loop-a in
    let i = l.invariant in
    let legal = beam_legal s p.accepted in
    let first = starts p.accepted i c.loop-a-test.true in
    let column_is : c.first_column-column.result ≡ first_column s l.a =
    c.first_column-column.ensures ∙ first-column_partial a.breaks.now a.degrees.now a.orders.now l.a in
    let n = c.part_rows-n.ensures in
    omega (
      arith,
      p.near,
      next_near p.accepted i,
      rows_few p.accepted i,
      column_is,
      legal_first-column-high _ _ _ legal l.a (omega (arith, c.loop-a-test.true)),
      n.rows_are,
      part-rows_fit s p.accepted l.a first,
      ap length n.num_is,
      ap length n.den_is,
      numerators_long s p.accepted l.a first l.num (omega (arith, p.num_long, i.num_long)),
      denominators_long s p.accepted l.a first l.den (omega (arith, p.den_long, i.den_long)),
      i.num_long,
      i.den_long,
      legal.few,
    )

pub overflow_add-row : goal.overflow_add-row
overflow_add-row c =
    let p = c.requires in
    let i = c.loop-a.invariant in
    omega (
      arith,
      rows_few p.accepted i,
      c.part_rows-n.ensures.rows_are,
      part-rows_fit _ p.accepted c.loop-a.a (starts p.accepted i c.loop-a-test.true),
    )

pub loop-a-smaller : goal.loop-a-smaller
loop-a-smaller c =
    let a = c.args in
    let s : Space = space a.breaks.now a.degrees.now a.orders.now in
    let at = c.loop-a.a in
    let end_is : c.part_end-b.result ≡ part_end s at = c.part_end-b.ensures ∙ part_end_partial a.breaks.now a.degrees.now a.orders.now at in
    omega (arith, end_is, c.loop-a-test.true, (part-ends s at c.loop-a-test.true).above)

pub loop-a-preserved : goal.loop-a-preserved
loop-a-preserved c =
    let a = c.args in
    let p = c.requires in
    let n = c.part_rows-n.ensures in
    let at = c.loop-a.a in
    before-next p.accepted c.loop-a.invariant c.loop-a-test.true (omega (arith, p.num_long)) (omega (arith, p.den_long))
    (c.part_end-b.ensures ∙ part_end_partial a.breaks.now a.degrees.now a.orders.now at)
    (c.first_column-column.ensures ∙ first-column_partial a.breaks.now a.degrees.now a.orders.now at)
    n.rows_are n.num_is n.den_is c.put_weights-next.ensures

pub returns : goal.returns
returns c = before_end c.requires.accepted c.loop-a.invariant (omega arith)
