-- A turn prints the line of one more position, behind those before it.
use Rattle.std.proofs.Common.{sym, rules, arith, get_or, pos, w32, FitsSigned}
use native.Mathlib.Numerals.{add-one}
use lib.Seq.{take_all}
use Rattle.base_exact.proofs.Word.{to_z-of_z}
use Rattle.base_print.proofs.Buffer.{puts_none, puts_then, puts_within, puts_as}
use Rattle.spec_sheet.proofs.Printout.{low_lines-none, low_lines_more}
use Rattle.sheet_lows.proofs.put_low_lines.Goals as goal

pub loop-x-init : goal.loop-x-init
loop-x-init c = puts_as (sym low_lines-none) (puts_none _ _)

pub put_low_line-next-requires : goal.put_low_line-next-requires
put_low_line-next-requires c = omega arith

pub loop-x-preserved : goal.loop-x-preserved
loop-x-preserved c =
    let lows = c.args.lows.now in
    let k = c.loop-x.x-index in
    let f : FitsSigned w32 (get_or lows k (pos 0)) = search rules in
    rw (add-one, low_lines_more lows k c.loop-x-test.true)
    (puts_within (omega arith) (puts_then c.loop-x.invariant (simp to_z-of_z at c.put_low_line-next.ensures)))

pub returns : goal.returns
returns c =
    let lows = c.args.lows.now in
    puts_within (omega arith) (rw (take_all c.loop-x.x-index lows (omega arith)) at c.loop-x.invariant)
