-- `put_doubled_byte` meets its contract: a quotation mark is put twice.
use borrow.Author.Rules.{rules}
use native.Mathlib.Omega.{arith}
use Rattle.base_print.proofs.Buffer.{puts_then, puts_within, puts_as}
use Rattle.table_name.proofs.Name.{doubled-mark, doubled_other}
use Rattle.table_name.proofs.put_doubled_byte.Statement.{statement}
use Rattle.table_name.proofs.put_doubled_byte.Tie as tie

returns : tie.Need-returns-then-byte-eq34
returns c =
    let second = c in
    let first = second in
    let test = first in
    puts_as (doubled-mark test.args.byte test.if-byte-eq34.true) (puts_then first.put-next.ensures second.put.ensures)

returns-2 : tie.Need-returns
returns-2 c =
    let test = c in
    puts_as (doubled_other test.args.byte test.if-byte-eq34.false) (puts_within (omega arith) c.put-2.ensures)

pub put_doubled_byte_spec : {M : Type 1} → statement M
put_doubled_byte_spec =
    tie.close
    (tie.spec (λ c κs. search rules) (λ c κs. search rules) (λ c. search rules) returns (λ c κs. search rules) (λ c. search rules) returns-2)
