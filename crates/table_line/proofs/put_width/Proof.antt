-- `put_width` meets its contract: a comma, and the width behind it, widened to 64 bits.
use borrow.Author.Rules.{rules}
use native.Mathlib.Omega.{arith}
use mir.Syntax.{w32, w64}
use mir.Val.{SFits}
use Rattle.base_exact.proofs.Word.{to_z-of_z, sfits_widen}
use Rattle.tucson_putting.proofs.Wrote.{wrote_then, wrote_length}
use Rattle.table_line.proofs.put_width.Statement.{statement}
use Rattle.table_line.proofs.put_width.Tie as tie

cast-put-thousandths : tie.Need-overflow_cast-width
cast-put-thousandths c = let f = c.ranges.width in simp to_z-of_z (sfits_widen f)

put-thousandths-requires : tie.Need-put_thousandths-requires
put-thousandths-requires c κs =
    let s = c in
    let f : SFits w32 s.args.width = s.ranges.width in
    let g : SFits w64 s.args.width = sfits_widen f in
    let p = c.put_byte-next.ensures in
    simp to_z-of_z (omega (arith, s.requires, p.behind, wrote_length p))

returns : tie.Need-returns
returns c =
    let byte = c in
    let s = byte in
    let f : SFits w32 s.args.width = s.ranges.width in
    let g : SFits w64 s.args.width = sfits_widen f in
    wrote_then byte.put_byte-next.ensures (simp to_z-of_z at c.put_thousandths.ensures)

pub put_width_spec : {M : Type 1} → statement M
put_width_spec = tie.close (tie.spec (λ c κs. search rules) cast-put-thousandths put-thousandths-requires (λ c. search rules) returns)
