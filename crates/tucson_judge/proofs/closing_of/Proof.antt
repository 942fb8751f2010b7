-- Hundredths, or thousandths.
use mathlib.Core.Path.{sym}
use Rattle.tucson_judge.proofs.Closing.{closing-hundredths, closing-thousandths}
use Rattle.tucson_judge.proofs.closing_of.Statement.{statement}
use Rattle.tucson_judge.proofs.closing_of.Tie as tie

returns : tie.Need-returns-then-unit-eq-HUNDREDTHS_SAID
returns c = sym (closing-hundredths c.args.unit c.if-unit-eq-HUNDREDTHS_SAID.true)

returns-2 : tie.Need-returns
returns-2 c = sym (closing-thousandths c.args.unit c.if-unit-eq-HUNDREDTHS_SAID.false)

pub closing_of_spec : {M : Type 1} → statement M
closing_of_spec = tie.close (tie.spec returns returns-2)
