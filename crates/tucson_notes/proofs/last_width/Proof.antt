-- The field before the closing, or the last one.
use mathlib.Core.Path.{ap, sym}
use mathlib.Core.Bool.{Bool, cond}
use mir.Syntax.{w32}
use mir.Val.{SFits}
use Rattle.base_exact.proofs.Word.{to_z-of_z}
use Rattle.tucson_notes.proofs.last_width.Statement.{statement}
use Rattle.tucson_notes.proofs.last_width.Tie as tie

returns : tie.Need-returns-then-last
returns c =
    let f : SFits w32 c.args.fields.before = record { sfits = c.struct_told-1.given.1.1.1.0.1 } in
    simp to_z-of_z (ap (λ (b : Bool). cond b c.args.fields.before c.args.fields.last) (sym c.if-last.true))

returns-2 : tie.Need-returns
returns-2 c =
    let f : SFits w32 c.args.fields.last = record { sfits = c.struct_told-2-1.given.1.1.0.1 } in
    simp to_z-of_z (ap (λ (b : Bool). cond b c.args.fields.before c.args.fields.last) (sym c.if-last.false))

pub last_width_spec : {M : Type 1} → statement M
last_width_spec = tie.close (tie.spec returns returns-2)
