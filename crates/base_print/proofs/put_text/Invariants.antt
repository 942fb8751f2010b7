-- Before the turn at a byte those before it are put.
use Rattle.std.proofs.Common.{take}
use Rattle.base_print.specs.Buffer.{Puts}
use Rattle.base_print.proofs.put_text.Given as goal

abbrev pub invariant-loop-byte : goal.invariant-loop-byte
invariant-loop-byte l = Puts l.byte-index l.at (take l.byte-index l.text) l.fn.out l.out l.next
