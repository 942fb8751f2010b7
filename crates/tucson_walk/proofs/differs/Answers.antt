-- A byte that is plain and the same as the name's is one more before the first that differs.
use Rattle.std.proofs.Common.{◌+◌, get_or, arith}
use borrow.Author.Tests.{ltb-true}
use Rattle.tucson_walk.proofs.OtherNames.{plain-next, other_name}
use Rattle.tucson_walk.proofs.differs.Goals as goal

pub returns-then-text-at : goal.returns-then-text-at
returns-then-text-at c e =
    let i = c.loop-i.i in
    let t = c.args.text.now in
    let seen = ltb-true 32 (get_or t (c.args.past + i) 0) e in
    other_name t c.args.past i c.args.line.now (omega arith) (omega arith) c.loop-i.invariant seen (omega arith) c.if-text-at.true

pub loop-i-preserved : goal.loop-i-preserved
loop-i-preserved c = plain-next c.args.text.now c.args.past c.loop-i.i (omega arith) c.loop-i.invariant (omega arith) (omega arith)
