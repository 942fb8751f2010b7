-- `put_index` meets its contract: nothing for -1, else the whole number.
use borrow.Author.Rules.{rules}
use native.Mathlib.Omega.{arith}
use mathlib.Core.Path.{◌≡◌, ap}
use lib.IntN.{negsuc}
use lib.ListN.{length}
use mir.Syntax.{w64}
use mir.Val.{SFits, of_z}
use Rattle.base_exact.proofs.Word.{to_z-of_z, of_z_inj}
use Rattle.base_text.specs.Numeral.{decimal}
use Rattle.spec_table.specs.Decimals.{index_text}
use Rattle.tucson_putting.proofs.Wrote.{wrote_none, wrote_as}
use Rattle.table_line.proofs.Numbers.{index-absent, index_present}
use Rattle.table_line.proofs.put_index.Statement.{statement}
use Rattle.table_line.proofs.put_index.Tie as tie

present : (c : tie.Else-index-eq-ABSENT) → decimal c.args.index ≡ index_text c.args.index
present c = index_present c.args.index (λ e. c.if-index-eq-ABSENT.false (ap (of_z w64) e))

returns : tie.Need-returns-then-index-eq-ABSENT
returns c =
    let z = c.args.index in
    let f : SFits w64 z = c.ranges.index in
    wrote_as (index-absent z (of_z_inj w64 z (negsuc 0) f (record { sfits = omega arith }) c.if-index-eq-ABSENT.true)) (wrote_none _ _)

put-whole-requires : tie.Need-put_whole-requires
put-whole-requires c κs =
    let s = c in
    let f = s.ranges.index in
    simp to_z-of_z (omega (arith, s.requires, ap length (present c.before)))

returns-2 : tie.Need-returns
returns-2 c =
    let t = c in
    let f = t.ranges.index in
    wrote_as (present t.before.before.before.before) (simp to_z-of_z at c.put_whole.ensures)

pub put_index_spec : {M : Type 1} → statement M
put_index_spec = tie.close (tie.spec returns put-whole-requires (λ c. search rules) returns-2)
