-- `curve_ordinates::lesser` meets its contract. Assumes nothing.
use mathlib.Core.Path.{sym}
use lib.Signed.{le_z}
use mir.ValLaws.{to_z-of_z}
use Rattle.curve_ordinates.proofs.Best.{preferred_unknown, preferred-first, preferred-second}
use Rattle.curve_ordinates.proofs.lesser.Statement.{statement}
use Rattle.curve_ordinates.proofs.lesser.Tie as tie

returns : tie.Need-returns-then-a-b
returns c =
    let s = c.before.before in
    let f = s.ranges.a in
    let g = s.ranges.b in
    simp to_z-of_z (sym (preferred-first le_z s.args.a s.args.b c.before.if-some.true (simp to_z-of_z at c.if-a-b.true)))

returns-2 : tie.Need-returns-else-a-b
returns-2 c =
    let s = c.before.before in
    let f = s.ranges.a in
    let g = s.ranges.b in
    simp to_z-of_z (sym (preferred-second le_z s.args.a s.args.b c.before.if-some.true (simp to_z-of_z at c.if-a-b.false)))

returns-3 : tie.Need-returns-else-some
returns-3 c = let s = c.before in let g = s.ranges.b in simp to_z-of_z (sym (preferred_unknown le_z s.args.a s.args.b c.if-some.false))

pub lesser_spec : {M : Type 1} → statement M
lesser_spec = tie.close (tie.spec returns returns-2 returns-3)
