-- A blank, or else a tab.
use borrow.Author.Tests.{eq-eqb, ne_eqb}
use mathlib.Core.Bool.{Bool, ◌||◌}
use mathlib.Core.Path.{sym, ap}
use lib.Dec.{eqb}
use Rattle.spec_tucson.specs.Columns.{blank}
use Rattle.spec_tucson.specs.FileText.{tab}
use Rattle.tucson_columns.proofs.is_gap.Statement.{statement}
use Rattle.tucson_columns.proofs.is_gap.Tie as tie

returns : tie.Need-returns-then-byte-eq32
returns c = let byte = c.args.byte in sym (ap (λ (b : Bool). b || eqb byte tab) (eq-eqb byte blank c.if-byte-eq32.true))

returns-2 : tie.Need-returns
returns-2 c = let byte = c.args.byte in sym (ap (λ (b : Bool). b || eqb byte tab) (ne_eqb byte blank c.if-byte-eq32.false))

pub is_gap_spec : {M : Type 1} → statement M
is_gap_spec = tie.close (tie.spec returns returns-2)
