-- After i turns the first i bytes are put.
use Rattle.std.proofs.Common.{◌*◌, take}
use Rattle.base_print.specs.Buffer.{Puts}
use Rattle.spec_table.specs.RingLines.{doubled}
use Rattle.table_name.proofs.put_doubled.Given as goal

abbrev pub invariant-loop-byte : goal.invariant-loop-byte
invariant-loop-byte l = Puts (2 * l.byte-index) l.at (doubled (take l.byte-index l.bytes)) l.fn.out l.out l.next
