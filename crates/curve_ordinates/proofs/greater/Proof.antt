-- `curve_ordinates::greater` meets its contract. Assumes nothing.
use mathlib.Core.Path.{sym}
use lib.Signed.{le_z}
use mir.ValLaws.{to_z-of_z}
use Rattle.curve_ordinates.proofs.Best.{preferred_unknown, preferred-first, preferred-second}
use Rattle.curve_ordinates.proofs.greater.Statement.{statement}
use Rattle.curve_ordinates.proofs.greater.Tie as tie

returns : tie.Need-returns-then-b-a
returns c =
    let s = c.before.before in
    let f = s.ranges.a in
    let g = s.ranges.b in
    simp to_z-of_z (sym (preferred-first (λ y z. le_z z y) s.args.a s.args.b c.before.if-some.true
    (simp to_z-of_z at c.if-b-a.true)))

returns-2 : tie.Need-returns-else-b-a
returns-2 c =
    let s = c.before.before in
    let f = s.ranges.a in
    let g = s.ranges.b in
    simp to_z-of_z (sym (preferred-second (λ y z. le_z z y) s.args.a s.args.b c.before.if-some.true
    (simp to_z-of_z at c.if-b-a.false)))

returns-3 : tie.Need-returns-else-some
returns-3 c =
    let s = c.before in
    let g = s.ranges.b in simp to_z-of_z (sym (preferred_unknown (λ y z. le_z z y) s.args.a s.args.b c.if-some.false))

pub greater_spec : {M : Type 1} → statement M
greater_spec = tie.close (tie.spec returns returns-2 returns-3)
