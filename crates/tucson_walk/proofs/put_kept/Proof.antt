-- The line, its number, and its notes.
use borrow.Author.Rules.{rules}
use mir.Syntax.{w32}
use mir.Val.{SFits}
use Rattle.base_exact.proofs.Word.{to_z-of_z}
use Rattle.base_print.proofs.Buffer.{puts_then, puts_as}
use Rattle.spec_tucson.specs.CleanNotes.{remarks}
use Rattle.tucson_notes.specs.Machine.{ahead_of, PutsRemarks}
use Rattle.tucson_walk.proofs.put_kept.Statement.{statement}
use Rattle.tucson_walk.proofs.put_kept.Tie as tie

returns : tie.Need-returns
returns c =
    let r = c in
    let m = r in
    let l = m in
    let p = l in
    let s = p in
    let f : SFits w32 s.args.s.first = record { sfits = r.struct_told-1.given.1.1.0.1 } in
    let a = s.args in
    let told : PutsRemarks m.put_marks-next.result a.number a.s.first a.first a.s.ahead a.fields _ _ r.put_remarks-cells.result = simp to_z-of_z at r.put_remarks-cells.ensures in
    record {
      text-put = p.put_strict-bytes.ensures;
      line-put = l.put_cell-count.ensures;
      notes_put = λ fs u. puts_as (m.put_marks-next.ensures.before_all (remarks a.s.first a.first (ahead_of a.s.ahead) fs))
          (puts_then m.put_marks-next.ensures.puts (told.told fs u));
    }

pub put_kept_spec : {M : Type 1} → statement M
put_kept_spec =
    tie.close
    (tie.spec
    (λ c κs. search rules)
    (λ c κs. search rules)
    (λ c κs. search rules)
    (λ c κs. search rules)
    (λ c. search rules)
    (λ c. search rules)
    (λ c. search rules)
    returns)
