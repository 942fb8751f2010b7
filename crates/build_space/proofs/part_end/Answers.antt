-- A segment that starts a part, or the number of segments, is the end that has no start of a part before it.
use Rattle.std.proofs.Common.{[], sym, ◌∙◌, arith, below_more}
use Rattle.spec_spline.proofs.Parts.{whole_boundary, ends_unique}
use Rattle.build_space.proofs.Partial.{starts-part_partial}
use Rattle.build_space.proofs.part_end.Goals as goal

pub loop-k-preserved : goal.loop-k-preserved
loop-k-preserved c =
    let a = c.args in
    below_more _ _ c.loop-k.invariant
    (λ _. sym (starts-part_partial [] a.degrees.now a.orders.now c.loop-k.k) ∙ sym c.starts_part.ensures ∙ c.if-starts_part.false)

pub returns-then-starts_part : goal.returns-then-starts_part
returns-then-starts_part c =
    let a = c.args in
    let starts = sym (starts-part_partial [] a.degrees.now a.orders.now c.loop-k.k) ∙ sym c.starts_part.ensures ∙ c.if-starts_part.true in
    sym (ends_unique _ _ _ (record {
      above = omega arith;
      boundary = record { within = omega arith; starts = λ _. starts };
      between = λ k h l. c.loop-k.invariant k l h;
    }))

pub returns : goal.returns
returns c =
    sym (ends_unique _ _ _ (record {
      above = omega arith;
      boundary = whole_boundary _;
      between = λ k h l. c.loop-k.invariant k (omega arith) h;
    }))
