-- `put_place` meets its contract: five texts, one behind the other.
use borrow.Author.Rules.{rules}
use native.Mathlib.Omega.{arith}
use Rattle.base_print.proofs.Buffer.{puts_then, puts_within}
use Rattle.sheet_weights.proofs.put_place.Statement.{statement}
use Rattle.sheet_weights.proofs.put_place.Tie as tie

returns : tie.Need-returns
returns c =
    let e = c in
    let d = e in
    let b = d in
    let a = b in
    let k = a in
    puts_within (omega arith)
    (puts_then k.put_text-a.ensures
    (puts_then a.put_digits-b.ensures
    (puts_then b.put-d.ensures
    (puts_then d.put_digits-e.ensures
    e.put.ensures))))

pub put_place_spec : {M : Type 1} → statement M
put_place_spec =
    tie.close (tie.spec (λ c κs. search rules) (λ c κs. search rules) (λ c κs. search rules) (λ c κs. search rules)
    (λ c κs. search rules) (λ c. search rules) returns)
