-- A turn prints one more position with its two values, behind those before it.
use Rattle.std.proofs.Common.{◌+◌, ◌*◌, sym, rules, arith, get_or, pos, w32, FitsSigned}
use native.Mathlib.Numerals.{add-one}
use lib.Seq.{take_all}
use Rattle.base_exact.proofs.Word.{to_z-of_z}
use Rattle.base_print.proofs.Buffer.{puts_none, puts_then, puts_within, puts_as}
use Rattle.spec_sheet.specs.Pairs.{paired}
use Rattle.spec_sheet.proofs.Printout.{value_lines-none, value_lines_more}
use Rattle.spec_sheet.proofs.Pairs.{paired_length, paired_at}
use Rattle.sheet_values.proofs.put_values.Goals as goal

pub loop-k-init : goal.loop-k-init
loop-k-init c = puts_as (sym (value_lines-none _)) (puts_none _ _)

pub put_value-next-requires : goal.put_value-next-requires
put_value-next-requires c = omega arith

pub loop-k-preserved : goal.loop-k-preserved
loop-k-preserved c =
    let xs = c.args.positions.now in
    let vs = c.args.values.now in
    let k = c.loop-k.k in
    let f : FitsSigned w32 (get_or xs k (pos 0)) = search rules in
    let g : FitsSigned w32 (get_or vs (2 * k) (pos 0)) = search rules in
    let h : FitsSigned w32 (get_or vs (2 * k + 1) (pos 0)) = search rules in
    rw (add-one, value_lines_more xs (paired vs) k (omega arith) (omega (arith, paired_length vs)), paired_at vs k (omega arith))
    (puts_within (omega arith) (puts_then c.loop-k.invariant (simp to_z-of_z at c.put_value-next.ensures)))

pub returns : goal.returns
returns c =
    let xs = c.args.positions.now in
    puts_within (omega arith) (rw (take_all c.loop-k.k xs (omega arith)) at c.loop-k.invariant)
