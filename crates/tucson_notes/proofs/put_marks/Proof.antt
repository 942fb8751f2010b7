-- What is not shown, and then what is changed in what is shown.
use borrow.Author.Rules.{rules}
use Rattle.base_print.proofs.Buffer.{puts_then, puts_as}
use Rattle.tucson_notes.proofs.Remarks.{marks-before, marks-both}
use Rattle.tucson_notes.proofs.put_marks.Statement.{statement}
use Rattle.tucson_notes.proofs.put_marks.Tie as tie

returns : tie.Need-returns
returns c =
    let p2 = c in
    let p1 = p2 in
    let s = p1 in
    record {
      puts = puts_as (marks-both s.args.line s.args.marks) (puts_then p1.put_shown_marks-next.ensures p2.put_form_marks.ensures);
      before_all = marks-before s.args.line s.args.marks;
    }

pub put_marks_spec : {M : Type 1} → statement M
put_marks_spec = tie.close (tie.spec (λ c κs. search rules) (λ c κs. search rules) (λ c. search rules) returns)
