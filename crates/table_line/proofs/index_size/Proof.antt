-- `index_size` meets its contract: nothing for -1, else the bytes of the whole number.
use borrow.Author.Rules.{rules}
use native.Mathlib.Omega.{arith}
use mathlib.Core.Path.{◌≡◌, ap, ◌∙◌}
use lib.IntN.{negsuc}
use lib.ListN.{length}
use mir.Syntax.{w64}
use mir.Val.{SFits, of_z}
use Rattle.base_exact.proofs.Word.{to_z-of_z, of_z_inj}
use Rattle.table_line.proofs.Numbers.{index-absent, index_present}
use Rattle.table_line.proofs.index_size.Statement.{statement}
use Rattle.table_line.proofs.index_size.Tie as tie

returns : tie.Need-returns-then-index-eq-ABSENT
returns c =
    let z = c.args.index in
    let f : SFits w64 z = c.ranges.index in
    (ap length (index-absent z (of_z_inj w64 z (negsuc 0) f (record { sfits = omega arith }) c.if-index-eq-ABSENT.true)), omega arith)

returns-2 : tie.Need-returns
returns-2 c =
    let z = c.args.index in
    let f : SFits w64 z = c.ranges.index in
    let size = simp to_z-of_z at c.whole_size.ensures in
    (size.0 ∙ ap length (index_present z (λ e. c.if-index-eq-ABSENT.false (ap (of_z w64) e))), size.1)

pub index_size_spec : {M : Type 1} → statement M
index_size_spec = tie.close (tie.spec returns (λ c κs. search rules) returns-2)
