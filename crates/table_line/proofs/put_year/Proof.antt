-- `put_year` meets its contract: a comma, and the year behind it.
use borrow.Author.Rules.{rules}
use native.Mathlib.Omega.{arith}
use Rattle.base_exact.proofs.Word.{to_z-of_z}
use Rattle.tucson_putting.proofs.Wrote.{wrote_then, wrote_length}
use Rattle.table_line.proofs.put_year.Statement.{statement}
use Rattle.table_line.proofs.put_year.Tie as tie

put-whole-requires : tie.Need-put_whole-requires
put-whole-requires c κs =
    let s = c in
    let f = s.ranges.year in
    let p = c.put_byte-next.ensures in
    simp to_z-of_z (omega (arith, s.requires, p.behind, wrote_length p))

returns : tie.Need-returns
returns c =
    let byte = c in
    let f = byte.ranges.year in
    wrote_then byte.put_byte-next.ensures (simp to_z-of_z at c.put_whole.ensures)

pub put_year_spec : {M : Type 1} → statement M
put_year_spec = tie.close (tie.spec (λ c κs. search rules) put-whole-requires (λ c. search rules) returns)
