-- The line is the one key, the other, or none of them.
use Rattle.std.proofs.Common.{sym}
use Rattle.rings_input.proofs.Parts.{names_earlywood, names_latewood, names_other}
use Rattle.rings_input.proofs.first_line.Goals as goal

pub returns-then-begins : goal.returns-then-begins
returns-then-begins c = names_earlywood c.args.text.now (sym c.if-begins.ensures)

pub returns-then-begins-2 : goal.returns-then-begins-2
returns-then-begins-2 c = names_latewood c.args.text.now (sym c.if-begins.ensures) (sym c.if-begins-2.ensures)

pub returns : goal.returns
returns c = names_other c.args.text.now (sym c.if-begins.ensures) (sym c.if-begins-2.ensures)
