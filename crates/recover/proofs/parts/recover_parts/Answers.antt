-- One part more, or its refusal, and after the last part the beam.
use Rattle.std.proofs.Common.{◌≡◌, ◌-◌, ◌∙◌, sym, subst, arith, ℕ, ℤ, List, take, drop, Result}
use Rattle.base_outcome.specs.declared.Refusal.{Refusal}
use Rattle.spec_spline.specs.Space.{Space, part_end, first_column, column_count, row_count}
use Rattle.spec_spline.proofs.Parts.{part-ends}
use Rattle.theorems_beams.specs.Sections.{section, part_at}
use Rattle.build_space.specs.Machine.{space}
use Rattle.build_space.proofs.Legal.{legal_column-count-high}
use Rattle.build_space.proofs.Partial.{part_end_partial}
use Rattle.spec_calls.specs.Recovery.{recovered}
use Rattle.recover_joins.specs.Leaves.{JoinsLeave}
use Rattle.recover_joins.specs.declared.Joined.{Joined}
use Rattle.recover.proofs.Beam.{part_answered, part_coefficients, part_stopped, before-first, starts, more_within, part-rows, part_count, part_more}
use Rattle.recover.proofs.Beam.{part_refused, parts_done}
use Rattle.recover.proofs.parts.recover_parts.Goals as goal

-- the ordinates of the columns of a part
abbrev own : Space → ℕ → List ℤ → List ℤ
own s a ordinates = take (column_count (part_at s a)) (drop (first_column s a) ordinates)

-- what a part leaves, by the end that the code has found
left : (s : Space) (ordinates : List ℤ) (a : ℕ) {b : ℕ} (r : Result Joined Refusal) (num den num' den' : List ℤ) → b ≡ part_end s a
    → (let part = section s a (b - a) in
    JoinsLeave (recovered part (take (column_count part) (drop (first_column s a) ordinates))) (row_count part) r num den num' den')
    → JoinsLeave (recovered (part_at s a) (own s a ordinates)) (row_count (part_at s a)) r num den num' den'
left s ordinates a r num den num' den' e h =
    subst (λ (n : ℕ). let part = section s a (n - a) in
    JoinsLeave (recovered part (take (column_count part) (drop (first_column s a) ordinates))) (row_count part) r num den num' den') e h

pub loop-a-init : goal.loop-a-init
loop-a-init c =
    let a = c.args in
    before-first (space a.breaks.now a.degrees.now a.orders.now) a.ordinates.now a.num.now a.den.now _ _

pub recover_at-requires : goal.recover_at-requires
recover_at-requires c =
    let a = c.args in
    let l = c.loop-a in
    record {
      legal = c.requires.legal;
      part = record {
        starts = starts _ _ _ c.requires.legal _ c.requires.given.count l.invariant c.loop-a-test.true;
        ends = c.part_end-b.ensures ∙ part_end_partial a.breaks.now a.degrees.now a.orders.now l.a;
      };
      room = record { num_long = omega (arith, c.requires.room.num_long, l.auto.num); den_long = omega (arith, c.requires.room.den_long, l.auto.den) };
      given = c.requires.given;
    }

pub returns-in-Err : goal.returns-in-Err
returns-in-Err c =
    let a = c.args in
    let l = c.loop-a in
    let s : Space = space a.breaks.now a.degrees.now a.orders.now in
    let part = part_at s l.a in
    let ends = c.part_end-b.ensures ∙ part_end_partial a.breaks.now a.degrees.now a.orders.now l.a in
    let h = left s a.ordinates.now l.a c.recover_at.result l.num l.den c.recover_at.new.num c.recover_at.new.den ends c.recover_at.ensures in
    let r = part_stopped (row_count part) l.num l.den c.recover_at.new.num c.recover_at.new.den
    (recovered part (own s l.a a.ordinates.now)) c.recover_at.result h c.in-Err.is in
    let k = subst (λ o. JoinsLeave o (row_count part) c.recover_at.result l.num l.den c.recover_at.new.num c.recover_at.new.den) r h in
    part_refused _ _ _ c.requires.legal a.ordinates.now c.requires.given.count l.invariant c.loop-a-test.true c.place.ensures r
    (omega (arith, c.requires.room.num_long, l.auto.num)) (omega (arith, c.requires.room.den_long, l.auto.den))
    c.requires.coef_num_long c.requires.coef_den_long k.1 k.2
    c.clear.ensures.num_after c.clear.ensures.den_after c.clear-in-Err.ensures.num_after c.clear-in-Err.ensures.den_after

pub write-requires : goal.write-requires
write-requires c =
    let a = c.args in
    let l = c.loop-a in
    let s : Space = space a.breaks.now a.degrees.now a.orders.now in
    let part = part_at s l.a in
    let p = c.requires in
    let ends = c.part_end-b.ensures ∙ part_end_partial a.breaks.now a.degrees.now a.orders.now l.a in
    let h = left s a.ordinates.now l.a c.recover_at.result l.num l.den c.recover_at.new.num c.recover_at.new.den ends c.recover_at.ensures in
    let x = part_answered (row_count part) l.num l.den c.recover_at.new.num c.recover_at.new.den
    (recovered part (own s l.a a.ordinates.now)) c.recover_at.result h c.in-Ok.is in
    let k = subst (λ o. JoinsLeave o (row_count part) c.recover_at.result l.num l.den c.recover_at.new.num c.recover_at.new.den) x.is h in
    let within = more_within _ _ _ p.legal a.ordinates.now p.given.count l.invariant c.loop-a-test.true x.is k.1 k.2 in
    record {
      few = omega (arith, x.count, part-rows _ _ _ p.legal a.ordinates.now p.given.count l.invariant c.loop-a-test.true);
      num_room = omega (arith, x.count, within, p.coef_num_long, l.auto.coef_num);
      den-room = omega (arith, x.count, within, p.coef_den_long, l.auto.coef_den);
    }

pub overflow_add-rows : goal.overflow_add-rows
overflow_add-rows c =
    let a = c.args in
    let l = c.loop-a in
    let s : Space = space a.breaks.now a.degrees.now a.orders.now in
    let part = part_at s l.a in
    let p = c.requires in
    let ends = c.part_end-b.ensures ∙ part_end_partial a.breaks.now a.degrees.now a.orders.now l.a in
    let h = left s a.ordinates.now l.a c.recover_at.result l.num l.den c.recover_at.new.num c.recover_at.new.den ends c.recover_at.ensures in
    let x = part_answered (row_count part) l.num l.den c.recover_at.new.num c.recover_at.new.den
    (recovered part (own s l.a a.ordinates.now)) c.recover_at.result h c.in-Ok.is in
    let k = subst (λ o. JoinsLeave o (row_count part) c.recover_at.result l.num l.den c.recover_at.new.num c.recover_at.new.den) x.is h in
    let within = more_within _ _ _ p.legal a.ordinates.now p.given.count l.invariant c.loop-a-test.true x.is k.1 k.2 in
    omega (arith, x.count, within, legal_column-count-high _ _ _ p.legal, p.given.count)

pub loop-a-smaller : goal.loop-a-smaller
loop-a-smaller c =
    let a = c.args in
    let s : Space = space a.breaks.now a.degrees.now a.orders.now in
    let ends = c.part_end-b.ensures ∙ part_end_partial a.breaks.now a.degrees.now a.orders.now c.loop-a.a in
    let e = part-ends s c.loop-a.a c.loop-a-test.true in
    omega (arith, ends, e.above, c.loop-a-test.true)

pub loop-a-preserved : goal.loop-a-preserved
loop-a-preserved c =
    let a = c.args in
    let l = c.loop-a in
    let s : Space = space a.breaks.now a.degrees.now a.orders.now in
    let part = part_at s l.a in
    let p = c.requires in
    let b = l.invariant in
    let ends = c.part_end-b.ensures ∙ part_end_partial a.breaks.now a.degrees.now a.orders.now l.a in
    let h = left s a.ordinates.now l.a c.recover_at.result l.num l.den c.recover_at.new.num c.recover_at.new.den ends c.recover_at.ensures in
    let x = part_answered (row_count part) l.num l.den c.recover_at.new.num c.recover_at.new.den
    (recovered part (own s l.a a.ordinates.now)) c.recover_at.result h c.in-Ok.is in
    let k = subst (λ o. JoinsLeave o (row_count part) c.recover_at.result l.num l.den c.recover_at.new.num c.recover_at.new.den) x.is h in
    let within = more_within _ _ _ p.legal a.ordinates.now p.given.count b c.loop-a-test.true x.is k.1 k.2 in
    let count = part_count _ _ _ p.legal a.ordinates.now p.given.count b c.loop-a-test.true x.is in
    let z = c.write.ensures b.coefficients x.result.coefficients a.coef_num.now a.coef_den.now
    (part_coefficients (row_count part) l.num l.den c.recover_at.new.num c.recover_at.new.den x.result c.recover_at.result k c.in-Ok.is)
    b.count (count ∙ sym x.count) b.coef_num_is b.coef_den_is
    (omega (arith, x.count, within, p.coef_num_long)) (omega (arith, x.count, within, p.coef_den_long)) in
    part_more _ _ _ p.legal a.ordinates.now p.given.count b c.loop-a-test.true x.is k.1 k.2 x.count ends z.num_is z.den_is

pub returns : goal.returns
returns c =
    let p = c.requires in
    parts_done _ _ _ p.legal _ p.given.count c.loop-a.invariant (omega arith) p.coef_num_long p.coef_den_long
    c.clear-2.ensures.num_after c.clear-2.ensures.den_after
