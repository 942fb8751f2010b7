-- A last line alone is compared.
use borrow.Author.Rules.{rules}
use borrow.Author.Tests.{eq-eqb, ne_eqb}
use mathlib.Core.Bool.{not}
use mathlib.Core.Path.{ap}
use native.Mathlib.Omega.{arith}
use mir.Syntax.{w32}
use mir.Val.{SFits}
use Rattle.base_exact.proofs.Word.{to_z-of_z}
use Rattle.spec_tucson.specs.CleanNotes.{is_other_unit}
use Rattle.tucson_notes.specs.Machine.{ahead_of}
use Rattle.tucson_notes.proofs.is_other_unit.Statement.{statement}
use Rattle.tucson_notes.proofs.is_other_unit.Tie as tie

returns : tie.Need-returns-then-ahead-eq1
unfolding is_other_unit ahead_of
returns c =
    let s = c in
    let f : SFits w32 s.args.first_closing = s.ranges.first_closing in
    let g : SFits w32 s.args.ahead.closing = record { sfits = c.struct_told-1.given.1.0.1 } in
    rw (eq-eqb s.args.ahead.count 1 (omega arith)) (ap not (simp to_z-of_z at c.same.ensures))

returns-2 : tie.Need-returns
unfolding is_other_unit ahead_of
returns-2 c = rw (ne_eqb c.args.ahead.count 1 (omega arith))

pub is_other_unit_spec : {M : Type 1} → statement M
is_other_unit_spec = tie.close (tie.spec (λ c κs. search rules) returns returns-2)
