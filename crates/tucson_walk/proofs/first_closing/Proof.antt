-- The one that is known, or this one.
use mathlib.Core.Bool.{Bool, cond}
use mathlib.Core.Path.{sym, ap}
use mir.Syntax.{w32}
use mir.Val.{SFits}
use Rattle.base_exact.proofs.Word.{to_z-of_z}
use Rattle.tucson_walk.proofs.first_closing.Statement.{statement}
use Rattle.tucson_walk.proofs.first_closing.Tie as tie

returns : tie.Need-returns-then-s
returns c =
    let a = c.args in
    let f : SFits w32 a.s.first = record { sfits = c.struct_told-1.given.1.1.0.1 } in
    simp to_z-of_z (ap (λ (b : Bool). cond b a.s.first a.closing) (sym c.if-s.true))

returns-2 : tie.Need-returns
returns-2 c =
    let a = c.args in
    let f : SFits w32 a.closing = c.ranges.closing in
    simp to_z-of_z (ap (λ (b : Bool). cond b a.s.first a.closing) (sym c.if-s.false))

pub first_closing_spec : {M : Type 1} → statement M
first_closing_spec = tie.close (tie.spec returns returns-2)
