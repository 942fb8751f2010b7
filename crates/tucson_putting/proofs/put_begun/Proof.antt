-- `put_begun` meets its contract: three texts, one behind the other.
use native.Mathlib.Omega.{arith}
use borrow.Author.Rules.{rules}
use mir.Syntax.{w32}
use mir.Val.{SFits}
use Rattle.base_exact.proofs.Word.{to_z-of_z}
use Rattle.theorems_tucson.proofs.Columns.{columns_length}
use Rattle.theorems_tucson.proofs.Lines.{name-parts}
use Rattle.tucson_putting.proofs.Lines.{year_length}
use Rattle.tucson_putting.proofs.Wrote.{wrote_then, wrote_length, puts_wrote}
use Rattle.tucson_putting.proofs.put_begun.Statement.{statement}
use Rattle.tucson_putting.proofs.put_begun.Tie as tie

put-columns-requires : tie.Need-put_columns-b-requires
put-columns-requires c κs =
    let s = c in
    let f : SFits w32 s.args.year = s.ranges.year in
    let p = puts_wrote c.put_text-a.ensures in
    simp to_z-of_z (record {
      short = year_length s.args.year s.requires.dated;
      fits = omega (arith, s.requires.fits, p.behind, wrote_length p, (name-parts s.args.name.now s.requires.named).0);
    })

put-fields-requires : tie.Need-put_fields-requires
put-fields-requires c κs =
    let s = c in
    let f : SFits w32 s.args.year = s.ranges.year in
    let t = c.put_text-a in let p = puts_wrote t.ensures in
    let q = simp to_z-of_z at c.put_columns-b.ensures in
    record {
      allowed = s.requires.allowed;
      fits = omega (
        arith,
        s.requires.fits,
        p.behind,
        wrote_length p,
        q.behind,
        wrote_length q,
        (name-parts s.args.name.now s.requires.named).0,
        columns_length 4 s.args.year (year_length s.args.year s.requires.dated),
      );
    }

returns : tie.Need-returns
returns c =
    let s = c in
    let f : SFits w32 s.args.year = s.ranges.year in
    let year = c in
    let name = year in
    wrote_then (puts_wrote name.put_text-a.ensures)
    (wrote_then (simp to_z-of_z at year.put_columns-b.ensures) c.put_fields.ensures)

pub put_begun_spec : {M : Type 1} → statement M
put_begun_spec =
    tie.close (tie.spec (λ c κs. omega (arith, c.requires.fits)) put-columns-requires put-fields-requires
    (λ c. search rules) returns)
