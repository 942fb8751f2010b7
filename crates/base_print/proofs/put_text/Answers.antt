-- A byte put behind the first bytes of the text makes one byte more of it.
use Rattle.std.proofs.Common.{arith}
use Rattle.std.proofs.lemmas.List.{take_more}
use Rattle.base_print.proofs.Buffer.{puts_none, puts_then}
use Rattle.base_print.proofs.put_text.Goals as goal

pub loop-byte-init : goal.loop-byte-init
loop-byte-init c = puts_none _ _

pub loop-byte-preserved : goal.loop-byte-preserved
loop-byte-preserved c =
    rw (take_more c.args.text.now c.loop-byte.byte-index 0 (omega arith)) (puts_then c.loop-byte.invariant c.put-next.ensures)
