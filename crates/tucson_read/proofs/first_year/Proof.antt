-- The one year or the other.
use mathlib.Core.Path.{sym, ap}
use mathlib.Core.Bool.{Bool, cond}
use Rattle.base_exact.proofs.Word.{to_z-of_z}
use Rattle.tucson_read.proofs.first_year.Statement.{statement}
use Rattle.tucson_read.proofs.first_year.Tie as tie

returns : tie.Need-returns-then-begun
returns c =
    let f = c.ranges.first in
    simp to_z-of_z (sym (ap (λ (b : Bool). cond b c.args.first c.args.year) c.if-begun.true))

returns-2 : tie.Need-returns
returns-2 c =
    let f = c.ranges.year in
    simp to_z-of_z (sym (ap (λ (b : Bool). cond b c.args.first c.args.year) c.if-begun.false))

pub first_year_spec : {M : Type 1} → statement M
first_year_spec = tie.close (tie.spec returns returns-2)
