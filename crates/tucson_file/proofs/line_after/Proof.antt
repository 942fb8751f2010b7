-- Byte 10 ends a line.
use borrow.Author.Rules.{rules}
use borrow.Author.Tests.{eq-eqb, ne_eqb}
use native.Mathlib.Omega.{arith}
use native.Mathlib.Numerals.{add-one}
use Rattle.tucson_file.proofs.line_after.Statement.{statement}
use Rattle.tucson_file.proofs.line_after.Tie as tie

returns : tie.Need-returns-then-byte-eq10
returns c = rw (eq-eqb c.args.byte 10 (omega arith)) (add-one c.args.line)

pub line_after_spec : {M : Type 1} → statement M
line_after_spec = tie.close (tie.spec (λ c. search rules) returns (λ c. rw (ne_eqb c.args.byte 10 (omega arith))))
