-- One of three numbers.
use borrow.Author.Tests.{eq-eqb, ne_eqb}
use native.Mathlib.Omega.{arith}
use Rattle.spec_tucson.specs.CleanCall.{is_unit_option}
use Rattle.tucson_clean.proofs.is_unit.Statement.{statement}
use Rattle.tucson_clean.proofs.is_unit.Tie as tie

returns : tie.Need-returns-then-unit-eq-UNIT_NOT_SAID
unfolding is_unit_option
returns c = rw (eq-eqb c.args.unit 0 (omega arith))

returns-2 : tie.Need-returns-then-unit-eq-HUNDREDTHS_SAID
unfolding is_unit_option
returns-2 c = let u = c.args.unit in rw (ne_eqb u 0 (omega arith), eq-eqb u 100 (omega arith))

returns-3 : tie.Need-returns
unfolding is_unit_option
returns-3 c = let u = c.args.unit in rw (ne_eqb u 0 (omega arith), ne_eqb u 100 (omega arith))

pub is_unit_spec : {M : Type 1} → statement M
is_unit_spec = tie.close (tie.spec returns returns-2 returns-3)
