-- `put_row` meets its contract: the name, and the numbers behind it.
use borrow.Author.Rules.{rules}
use native.Mathlib.Omega.{arith}
use Rattle.base_exact.proofs.Word.{to_z-of_z}
use Rattle.tucson_putting.proofs.Wrote.{wrote_then, wrote_length}
use Rattle.table_lines.proofs.put_row.Statement.{statement}
use Rattle.table_lines.proofs.put_row.Tie as tie

put-numbers-requires : tie.Need-put_numbers-requires
put-numbers-requires c κs =
    let p = c in
    let s = p in
    let y = s.ranges.year in
    let w = s.ranges.width in
    let v = s.ranges.value in
    let i = s.ranges.index in
    let q = p.put_label-next.ensures in
    simp to_z-of_z (omega (arith, s.requires, q.behind, wrote_length q))

returns : tie.Need-returns
returns c =
    let p = c in
    let s = p in
    let y = s.ranges.year in
    let w = s.ranges.width in
    let v = s.ranges.value in
    let i = s.ranges.index in
    wrote_then p.put_label-next.ensures (simp to_z-of_z at c.put_numbers.ensures)

pub put_row_spec : {M : Type 1} → statement M
put_row_spec = tie.close (tie.spec (λ c κs. search rules) put-numbers-requires (λ c. search rules) returns)
