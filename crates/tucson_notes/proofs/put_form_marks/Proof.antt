-- What is changed in what is shown: four notes, one behind the other, each where it applies.
use borrow.Author.Rules.{rules}
use mathlib.Core.Path.{refl}
use Rattle.tucson_notes.specs.Machine.{form_marked}
use Rattle.tucson_notes.proofs.Remarks.{note_then}
use Rattle.tucson_notes.proofs.put_form_marks.Statement.{statement}
use Rattle.tucson_notes.proofs.put_form_marks.Tie as tie

returns : tie.Need-returns
unfolding form_marked
returns c =
    let p4 = c in
    let p3 = p4 in
    let p2 = p3 in
    let p1 = p2 in
    let s = p1 in
    let line = s.args.line in
    note_then line 7 _ (refl {a = s.args.marks.site}) p1.put_note-a.ensures
    (note_then line 8 _ (refl {a = s.args.marks.unended}) p2.put_note-b.ensures
    (note_then line 10 _ (refl {a = s.args.marks.high}) p3.put_note-c.ensures
    p4.put_note.ensures))

pub put_form_marks_spec : {M : Type 1} → statement M
put_form_marks_spec =
    tie.close (tie.spec (λ c κs. search rules) (λ c κs. search rules) (λ c κs. search rules) (λ c κs. search rules) (λ c. search rules)
    returns)
