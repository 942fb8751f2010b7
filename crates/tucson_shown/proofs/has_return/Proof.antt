-- A byte 13 is taken off where the bytes stop before the line's end.
use borrow.Author.Rules.{rules}
use mathlib.Core.Path.{sym}
use Rattle.tucson_shown.proofs.has_return.Statement.{statement}
use Rattle.tucson_shown.proofs.has_return.Tie as tie

returns : tie.Need-returns
returns c = sym c.line_stop.ensures.returned

pub has_return_spec : {M : Type 1} → statement M
has_return_spec = tie.close (tie.spec (λ c κs. search rules) returns)
