-- `put_line` meets its contract: what is begun, and byte 10 behind it.
use native.Mathlib.Omega.{arith}
use borrow.Author.Rules.{rules}
use mir.Syntax.{w32}
use mir.Val.{SFits}
use Rattle.base_exact.proofs.Word.{to_z-of_z}
use Rattle.tucson_putting.proofs.Lines.{begun-size, line-ends}
use Rattle.tucson_putting.proofs.Wrote.{wrote_then, wrote_as, puts_wrote}
use Rattle.tucson_putting.proofs.put_line.Statement.{statement}
use Rattle.tucson_putting.proofs.put_line.Tie as tie

put-begun-requires : tie.Need-put_begun-a-requires
put-begun-requires c κs =
    let s = c in
    let f : SFits w32 s.args.year = s.ranges.year in
    simp to_z-of_z (record { named = s.requires.named; dated = s.requires.dated; allowed = s.requires.allowed; fits = omega (arith, s.requires.fits) })

put-requires : tie.Need-put-requires
put-requires c κs =
    let s = c in
    let f : SFits w32 s.args.year = s.ranges.year in
    let b = simp to_z-of_z at c.put_begun-a.ensures in
    omega (arith, s.requires.fits, b.behind, begun-size s.requires)

returns : tie.Need-returns
returns c =
    let s = c in
    let f : SFits w32 s.args.year = s.ranges.year in
    let p = c.put_begun-a in let begun = simp to_z-of_z at p.ensures in
    wrote_as (line-ends s.args.name.now s.args.year s.args.widths.now) (wrote_then begun (puts_wrote c.put.ensures))

pub put_line_spec : {M : Type 1} → statement M
put_line_spec = tie.close (tie.spec put-begun-requires put-requires (λ c. search rules) returns)
