-- Each turn counts the next block, and behind the last one nothing is left.
use Rattle.std.proofs.Common.{◌∙◌, ap, length, length-append, arith}
use Rattle.tucson_file.specs.Machine.{end_count}
use Rattle.tucson_file.proofs.LineEnds.{ends-none, ends_append}
use Rattle.tucson_file.proofs.ends.Goals as goal

pub loop-block-preserved : goal.loop-block-preserved
loop-block-preserved c =
    let i = c.loop-block.invariant in
    let block = c.in-Some.block.now in
    let rest = c.next.new.self.rest.now in
    let steps = c.in-Some.ensures.steps in
    let long = ap length steps.1.0 ∙ length-append block rest in
    let parts = ap end_count steps.1.0 ∙ ends_append block rest in
    let none = ends-none block (length block) (omega arith) in
    record {
      size = steps.0 ∙ i.size;
      few = omega (arith, i.few, c.block_ends.ensures.few);
      are = omega (arith, i.are, c.block_ends.ensures.are);
    }

pub returns-clause-value : goal.returns-clause-value
returns-clause-value c =
    let rest = c.loop-block.block-iterator.rest.now in
    let none = ends-none rest 0 (omega (arith, c.in-None.ensures.steps.1)) in
    omega (arith, c.loop-block.invariant.are)
