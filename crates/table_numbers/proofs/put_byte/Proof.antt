-- `put_byte` meets its contract: one store.
use borrow.Author.Rules.{rules}
use native.Mathlib.Omega.{arith}
use Rattle.base_print.proofs.Buffer.{written_byte}
use Rattle.table_numbers.proofs.put_byte.Statement.{statement}
use Rattle.table_numbers.proofs.put_byte.Tie as tie

returns : tie.Need-returns
returns c = record { contents = written_byte _ _ _; behind = omega arith }

pub put_byte_spec : {M : Type 1} → statement M
put_byte_spec = tie.close (tie.spec (λ c. search rules) (λ c. search rules) (λ c. search rules) returns)
