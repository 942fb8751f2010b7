-- `put_low_line` meets its contract: three texts, one behind the other, the number widened to 64 bits.
use borrow.Author.Rules.{rules}
use native.Mathlib.Omega.{arith}
use Rattle.base_exact.proofs.Word.{to_z-of_z, sfits_widen}
use Rattle.spec_sheet.specs.Printout.{low_line}
use Rattle.base_print.proofs.Buffer.{puts_then, puts_within}
use Rattle.sheet_lows.proofs.put_low_line.Statement.{statement}
use Rattle.sheet_lows.proofs.put_low_line.Tie as tie

cast-put-decimal : tie.Need-overflow_cast-x
cast-put-decimal c = let f = c.ranges.x in simp to_z-of_z (sfits_widen f)

returns : tie.Need-returns
unfolding low_line
returns c =
    let d = c in
    let b = d in
    let a = b in
    let f = a.ranges.x in
    let g = sfits_widen f in
    puts_within (omega arith)
    (puts_then a.put_text-a.ensures
    (puts_then (simp to_z-of_z at b.put_decimal-b.ensures) d.put.ensures))

pub put_low_line_spec : {M : Type 1} → statement M
put_low_line_spec =
    tie.close (tie.spec (λ c κs. search rules) cast-put-decimal (λ c κs. search rules) (λ c κs. search rules)
    (λ c. search rules) returns)
