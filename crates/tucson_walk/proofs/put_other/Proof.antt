-- The marks, and note 6 or 9 behind them.
use borrow.Author.Rules.{rules}
use mathlib.Core.Bool.{false}
use mathlib.Core.List.{[], ◌∷◌}
use mathlib.Core.Path.{sym, ◌∙◌, ap}
use Rattle.tucson_notes.specs.declared.Marks.{Marks}
use Rattle.tucson_notes.specs.Machine.{marked}
use Rattle.tucson_walk.proofs.LineMarks.{blank_notes, header-notes, marks_then}
use Rattle.tucson_walk.proofs.put_other.Statement.{statement}
use Rattle.tucson_walk.proofs.put_other.Tie as tie

returns : tie.Need-returns-then-is_blank_line
returns c =
    let n = c in
    let m = n in
    let b = m in
    let r = b in
    let a = r.args in
    marks_then 6 (ap (λ (x : Marks). marked (blanked x) (6 ∷ [])) r.marks_of-marks.ensures ∙ blank_notes a.early _ (sym b.is_blank_line.ensures ∙ m.if-is_blank_line.true))
    m.put_marks-next.ensures n.put_note.ensures
  where
    blanked : Marks → Marks
    blanked x = record {
      cut = x.cut;
      returned = x.returned;
      tabbed = x.tabbed;
      trailing = false;
      site = false;
      unended = false;
      high = false;
      reclosed = false;
    }

returns-2 : tie.Need-returns
returns-2 c =
    let n = c in
    let m = n in
    let b = m in
    let r = b in
    let a = r.args in
    marks_then 9 (ap (λ (x : Marks). marked x (9 ∷ [])) r.marks_of-marks.ensures ∙ header-notes a.early _ (sym b.is_blank_line.ensures ∙ m.if-is_blank_line.false))
    m.put_marks-behind.ensures n.put_note-2.ensures

pub put_other_spec : {M : Type 1} → statement M
put_other_spec =
    tie.close
    (tie.spec
    (λ c κs. search rules)
    (λ c κs. search rules)
    (λ c κs. search rules)
    (λ c κs. search rules)
    (λ c. search rules)
    returns
    (λ c κs. search rules)
    (λ c κs. search rules)
    (λ c. search rules)
    returns-2)
