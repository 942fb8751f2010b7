-- A turn puts one more byte, behind those before it.
use Rattle.std.proofs.Common.{sym, ap, arith}
use lib.Seq.{take_all}
use Rattle.base_print.proofs.Buffer.{puts_none, puts_then, puts_within, puts_as}
use Rattle.spec_table.specs.RingLines.{doubled}
use Rattle.table_name.proofs.Name.{doubled-none, doubled-next}
use Rattle.table_name.proofs.put_doubled.Goals as goal

pub loop-byte-init : goal.loop-byte-init
loop-byte-init c = puts_as (sym doubled-none) (puts_none _ _)

pub put_doubled_byte-next-requires : goal.put_doubled_byte-next-requires
put_doubled_byte-next-requires c = omega (arith, c.loop-byte.invariant.near, c.requires.near, c.requires.few)

pub loop-byte-preserved : goal.loop-byte-preserved
loop-byte-preserved c =
    let i = c.loop-byte.byte-index in
    puts_as (doubled-next c.args.bytes.now i (omega arith))
    (puts_within (omega arith) (puts_then c.loop-byte.invariant c.put_doubled_byte-next.ensures))

pub returns : goal.returns
returns c =
    let i = c.loop-byte.byte-index in
    puts_within (omega arith) (puts_as (ap doubled (take_all i c.args.bytes.now (omega arith))) c.loop-byte.invariant)
