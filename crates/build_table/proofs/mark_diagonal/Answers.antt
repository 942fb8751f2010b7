-- A place more of the diagonal is 1.
use Rattle.std.proofs.Common.{List, ℤ, ◌*◌, pos, set, ap, ◌∙◌, arith}
use Rattle.build_cells.proofs.Region.{marked-none, marked_more}
use Rattle.build_table.proofs.mark_diagonal.Goals as goal

pub loop-i-init : goal.loop-i-init
loop-i-init c = marked-none _

pub loop-i-preserved : goal.loop-i-preserved
loop-i-preserved c =
    let i = c.loop-i.i in
    ap (λ (t : List ℤ). set t (73 * i) (pos 1)) c.loop-i.invariant ∙ marked_more i c.args.num.now (omega arith)
