-- `put_end` meets its contract: a comma, the index behind it, and byte 10.
use borrow.Author.Rules.{rules}
use native.Mathlib.Omega.{arith}
use Rattle.base_exact.proofs.Word.{to_z-of_z}
use Rattle.tucson_putting.proofs.Wrote.{wrote_then, wrote_length}
use Rattle.table_line.proofs.put_end.Statement.{statement}
use Rattle.table_line.proofs.put_end.Tie as tie

put-index-requires : tie.Need-put_index-end-requires
put-index-requires c κs =
    let s = c in
    let f = s.ranges.index in
    let p = c.put_byte-next.ensures in
    simp to_z-of_z (omega (arith, s.requires, p.behind, wrote_length p))

put-byte-requires-2 : tie.Need-put_byte-requires
put-byte-requires-2 c κs =
    let index = c in
    let byte = index in
    let s = byte in
    let f = s.ranges.index in
    let p = byte.put_byte-next.ensures in
    let q = simp to_z-of_z at index.put_index-end.ensures in
    omega (arith, s.requires, p.behind, wrote_length p, q.behind, wrote_length q)

returns : tie.Need-returns
returns c =
    let last = c in
    let index = last in
    let byte = index in
    let f = byte.ranges.index in
    wrote_then byte.put_byte-next.ensures (wrote_then (simp to_z-of_z at index.put_index-end.ensures) last.put_byte.ensures)

pub put_end_spec : {M : Type 1} → statement M
put_end_spec = tie.close (tie.spec (λ c κs. search rules) put-index-requires put-byte-requires-2 (λ c. search rules) returns)
