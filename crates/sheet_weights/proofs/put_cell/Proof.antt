-- `put_cell` meets its contract: a zero has no line, any other weight the two parts of its line.
use borrow.Author.Rules.{rules}
use native.Mathlib.Omega.{arith}
use mathlib.Core.Path.{sym, ap}
use lib.IntN.{pos}
use mir.Syntax.{w64}
use mir.Val.{SFits, of_z}
use Rattle.base_exact.proofs.Word.{to_z-of_z, of_z_inj, sfits_nat}
use Rattle.base_print.proofs.Buffer.{puts_none, puts_then, puts_within, puts_as}
use Rattle.sheet_weights.proofs.Printed.{cell-zero, cell-line}
use Rattle.sheet_weights.proofs.put_cell.Statement.{statement}
use Rattle.sheet_weights.proofs.put_cell.Tie as tie

returns : tie.Need-returns-then-num-eq0
returns c =
    let s = c in
    let f : SFits w64 s.args.num = s.ranges.num in
    puts_as (sym (cell-zero _ _ _ _ _ (of_z_inj w64 _ (pos 0) f (sfits_nat 0 (omega arith)) c.if-num-eq0.true))) (puts_within (omega arith) (puts_none _ _))

returns-2 : tie.Need-returns
returns-2 c =
    let s = c in
    let f : SFits w64 s.args.num = s.ranges.num in
    let g : SFits w64 s.args.den = s.ranges.den in
    let place = c in
    puts_as (sym (cell-line _ _ _ _ _ (λ e. place.if-num-eq0.false (ap (of_z w64) e))))
    (puts_within (omega arith) (puts_then place.put_place-a.ensures (simp to_z-of_z at c.put_fraction.ensures)))

pub put_cell_spec : {M : Type 1} → statement M
put_cell_spec =
    tie.close (tie.spec returns (λ c. omega arith) (λ c. omega arith) (λ c κs. search rules) (λ c κs. search rules) (λ c. search rules)
    returns-2)
