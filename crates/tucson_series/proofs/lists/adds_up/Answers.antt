-- The counts passed and what is left of the sum are the sum: where a count is more than that, they do not add up to it.
use Rattle.std.proofs.Common.{sym, arith}
use borrow.Author.Tests.{ne_eqb}
use Rattle.spec_tucson.specs.WriteCall.{total}
use Rattle.tucson_series.proofs.Tests.{total-step, total_end, left-none}
use Rattle.tucson_series.proofs.lists.adds_up.Goals as goal

pub returns-then-count-left : goal.returns-then-count-left
returns-then-count-left c =
    let a = c.args in
    sym (ne_eqb (total a.counts.now) a.sum (λ e. omega (arith, total-step a.counts.now c.loop-count.count-index (omega arith))))

pub loop-count-preserved : goal.loop-count-preserved
loop-count-preserved c = omega (arith, total-step c.args.counts.now c.loop-count.count-index (omega arith))

pub returns : goal.returns
returns c =
    let a = c.args in
    let l = c.loop-count in
    left-none (total a.counts.now) l.left a.sum (omega (arith, total_end a.counts.now l.count-index c.loop-count-test.false (omega arith)))
