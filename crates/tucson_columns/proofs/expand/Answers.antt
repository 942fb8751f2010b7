-- Each turn puts the next byte; what is put and what is left make up the same text.
use Rattle.std.proofs.Common.{◌∙◌, get_or, arith}
use Rattle.tucson_columns.proofs.Shown.{byte_few, expand-next}
use Rattle.tucson_columns.proofs.expand.Goals as goal

pub loop-i-preserved : goal.loop-i-preserved
loop-i-preserved c =
    let s = c.args in
    let l = c.loop-i in
    let p = c.put_byte-n in
    let text = s.text.now in
    let few = byte_few l.n (get_or text l.i 0) in
    let within = c.requires.range.within in
    let same = expand-next text l.i s.to l.n l.bytes p.new.bytes p.result (omega arith) within p.ensures.next_is p.ensures.are in
    (omega (arith, l.invariant.0, c.requires.whole, p.ensures.next_is, few, c.if-n-limit.false), same ∙ l.invariant.1)
