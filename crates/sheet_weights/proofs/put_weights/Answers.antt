-- A turn prints one more cell, behind those before it.
use Rattle.std.proofs.Common.{◌≡◌, ◌*◌, sym, rules, arith, get_or, pos, w64, FitsSigned}
use native.Mathlib.Numerals.{add-one}
use Rattle.base_exact.proofs.Word.{to_z-of_z}
use Rattle.base_print.proofs.Buffer.{puts_none, puts_then, puts_within, puts_as}
use Rattle.sheet_weights.proofs.Printed.{cells-none, cells_more}
use Rattle.sheet_weights.proofs.put_weights.Goals as goal

pub loop-k-init : goal.loop-k-init
loop-k-init c = puts_as (sym (cells-none _ _ _ _)) (puts_none _ _)

pub put_cell-next-requires : goal.put_cell-next-requires
put_cell-next-requires c = omega arith

pub loop-k-preserved : goal.loop-k-preserved
loop-k-preserved c =
    let a = c.args in
    let k = c.loop-k.k in
    let f : FitsSigned w64 (get_or a.num.now k (pos 0)) = search rules in
    let g : FitsSigned w64 (get_or a.den.now k (pos 0)) = search rules in
    rw (add-one, cells_more a.row a.column k a.num.now a.den.now)
    (puts_within (omega arith) (puts_then c.loop-k.invariant (simp to_z-of_z at c.put_cell-next.ensures)))

pub returns : goal.returns
returns c =
    let all : c.loop-k.k ≡ 72 * c.args.n = omega arith in
    rw all at c.loop-k.invariant
