-- Three notes, one behind the other, each where it applies.
use borrow.Author.Rules.{rules}
use mathlib.Core.Path.{◌≡◌}
use mir.Syntax.{w32}
use mir.Val.{SFits}
use Rattle.base_exact.proofs.Word.{to_z-of_z}
use Rattle.spec_tucson.specs.CleanNotes.{remarks, is_other_unit}
use Rattle.tucson_notes.specs.Machine.{ahead_of}
use Rattle.tucson_notes.proofs.Remarks.{note_then, note-last}
use Rattle.tucson_notes.proofs.put_remarks.Statement.{statement}
use Rattle.tucson_notes.proofs.put_remarks.Tie as tie

returns : tie.Need-returns
unfolding remarks
returns c =
    let p3 = c in
    let p2 = p3 in
    let p1 = p2 in
    let s = p1 in
    let z : SFits w32 s.args.first_closing = s.ranges.first_closing in
    let other : p3.is_other_unit-other.result ≡ is_other_unit s.args.first_closing (ahead_of s.args.ahead) =
    simp to_z-of_z at p3.is_other_unit-other.ensures in
    let line = s.args.line in
    record {
      told = λ fs u.
          note_then line 12 _ (p1.is_absent_end-absent.ensures.told fs u) p1.put_note-a.ensures
          (note_then line 13 _ (p2.is_like_closing-like.ensures.told fs u) p2.put_note-b.ensures
          (note-last line 14 other p3.put_note.ensures));
    }

pub put_remarks_spec : {M : Type 1} → statement M
put_remarks_spec = tie.close (tie.spec (λ c κs. search rules) (λ c κs. search rules) (λ c κs. search rules) (λ c κs. search rules) (λ c κs. search rules)
    (λ c κs. search rules) (λ c. search rules) returns)
