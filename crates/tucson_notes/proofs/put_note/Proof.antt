-- A note is two cells, or none.
use borrow.Author.Rules.{rules}
use native.Mathlib.Omega.{arith}
use mathlib.Core.Bool.{Bool}
use mathlib.Core.List.{[]}
use mathlib.Core.Path.{ap, sym}
use Rattle.base_print.proofs.Buffer.{puts_none, puts_then, puts_within, puts_as}
use Rattle.spec_tucson.specs.CleanNotes.{note_if, at_line}
use Rattle.tucson_notes.proofs.put_note.Statement.{statement}
use Rattle.tucson_notes.proofs.put_note.Tie as tie

returns : tie.Need-returns-then-applies
unfolding at_line
returns c =
    let p = c in
    let s = p in
    puts_as (ap (λ (b : Bool). at_line s.args.line (note_if b s.args.note [])) (sym p.if-applies.true))
    (puts_then p.put_cell-next.ensures c.put_cell.ensures)

returns-2 : tie.Need-returns
unfolding at_line
returns-2 c =
    let s = c in
    puts_as (ap (λ (b : Bool). at_line s.args.line (note_if b s.args.note [])) (sym c.if-applies.false))
    (puts_within (omega arith) (puts_none s.args.at _))

pub put_note_spec : {M : Type 1} → statement M
put_note_spec = tie.close (tie.spec (λ c κs. search rules) (λ c κs. search rules) (λ c. search rules) returns returns-2)
