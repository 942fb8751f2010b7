-- `put_point` meets its contract: three texts, one behind the other.
use borrow.Author.Rules.{rules}
use Rattle.tucson_putting.proofs.Wrote.{wrote_then}
use Rattle.table_numbers.proofs.put_point.Statement.{statement}
use Rattle.table_numbers.proofs.put_point.Tie as tie

returns : tie.Need-returns
returns c =
    let last = c in
    let byte = last in
    let wholes = byte in
    wrote_then wholes.put_digits-a.ensures (wrote_then byte.put_byte-b.ensures last.put_last_digits.ensures)

pub put_point_spec : {M : Type 1} → statement M
put_point_spec = tie.close (tie.spec (λ c κs. search rules) (λ c κs. search rules) (λ c κs. search rules) (λ c. search rules) returns)
