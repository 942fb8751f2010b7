-- The last byte, if there is one.
use borrow.Author.Rules.{rules}
use mathlib.Core.Path.{sym}
use native.Mathlib.Omega.{arith}
use Rattle.tucson_file.proofs.LineEnds.{last_none, last_byte}
use Rattle.tucson_file.proofs.is_ended.Statement.{statement}
use Rattle.tucson_file.proofs.is_ended.Tie as tie

returns : tie.Need-returns-then-text-eq0
returns c = sym (last_none _ c.if-text-eq0.true)

returns-2 : tie.Need-returns
returns-2 c = last_byte _ (λ e. omega (arith, e))

pub is_ended_spec : {M : Type 1} → statement M
is_ended_spec = tie.close (tie.spec returns (λ c. search rules) (λ c. search rules) returns-2)
