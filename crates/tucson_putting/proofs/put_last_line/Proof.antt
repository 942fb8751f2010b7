-- `put_last_line` meets its contract: what is begun, the closing and byte 10 behind it.
use native.Mathlib.Omega.{arith}
use borrow.Author.Rules.{rules}
use mir.Syntax.{w32}
use mir.Val.{SFits}
use Rattle.base_exact.proofs.Word.{to_z-of_z}
use Rattle.spec_tucson.specs.Line.{thousandths}
use Rattle.theorems_tucson.proofs.Columns.{columns_length}
use Rattle.tucson_putting.proofs.Lines.{begun-size, closing_length, line_closes}
use Rattle.tucson_putting.proofs.Wrote.{wrote_then, wrote_as, wrote_length, puts_wrote}
use Rattle.tucson_putting.proofs.put_last_line.Statement.{statement}
use Rattle.tucson_putting.proofs.put_last_line.Tie as tie

put-begun-requires : tie.Need-put_begun-a-requires
put-begun-requires c κs =
    let s = c in
    let f : SFits w32 s.args.year = s.ranges.year in
    simp to_z-of_z (record { named = s.requires.named; dated = s.requires.dated; allowed = s.requires.allowed; fits = omega (arith, s.requires.fits) })

put-columns-requires : tie.Need-put_columns-b-requires
put-columns-requires c κs =
    let s = c in
    let f : SFits w32 s.args.year = s.ranges.year in
    let b = simp to_z-of_z at c.put_begun-a.ensures in
    record { short = closing_length; fits = omega (arith, s.requires.fits, b.behind, wrote_length b, begun-size s.requires) }

put-requires : tie.Need-put-requires
put-requires c κs =
    let s = c in
    let f : SFits w32 s.args.year = s.ranges.year in
    let p = c.put_begun-a in let b = simp to_z-of_z at p.ensures in
    let closing = c.put_columns-b.ensures in
    omega (arith, s.requires.fits, b.behind, closing.behind, columns_length 6 thousandths closing_length, begun-size s.requires)

returns : tie.Need-returns
returns c =
    let s = c in
    let f : SFits w32 s.args.year = s.ranges.year in
    let closing = c in
    let begun = simp to_z-of_z at closing.put_begun-a.ensures in
    wrote_as (line_closes s.args.name.now s.args.year s.args.widths.now)
    (wrote_then begun (wrote_then closing.put_columns-b.ensures (puts_wrote c.put.ensures)))

pub put_last_line_spec : {M : Type 1} → statement M
put_last_line_spec = tie.close (tie.spec put-begun-requires put-columns-requires put-requires (λ c. search rules) returns)
