-- The mark's note, the walk, and the end's note.
use borrow.Author.Rules.{rules}
use Rattle.tucson_clean.proofs.Whole.{all_put}
use Rattle.tucson_clean.proofs.put_all.Statement.{statement}
use Rattle.tucson_clean.proofs.put_all.Tie as tie

returns : tie.Need-returns
returns c =
    let z = c in
    let b = z in
    let w = b in
    let p = w in
    let m = p in
    let s = m in
    all_put s.requires.body m.is_marked-marked.ensures p.put_note-at.ensures w.walk-walked.ensures s.requires.counted b.both-cut.ensures z.put_note-cells.ensures

pub put_all_spec : {M : Type 1} → statement M
put_all_spec =
    tie.close
    (tie.spec
    (λ c κs. search rules)
    (λ c κs. search rules)
    (λ c. search rules)
    (λ c. search rules)
    (λ c. search rules)
    (λ c κs. search rules)
    (λ c κs. search rules)
    (λ c. search rules)
    (λ c κs. search rules)
    (λ c. search rules)
    (λ c. search rules)
    (λ c. search rules)
    returns)
