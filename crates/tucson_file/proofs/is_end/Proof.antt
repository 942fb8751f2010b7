-- The test of one byte.
use borrow.Author.Tests.{eq-eqb, ne_eqb}
use mathlib.Core.Bool.{Bool, cond}
use mathlib.Core.Path.{sym, ap}
use Rattle.tucson_file.proofs.is_end.Statement.{statement}
use Rattle.tucson_file.proofs.is_end.Tie as tie

returns : tie.Need-returns-then-byte-eq10
returns c = sym (ap (λ (b : Bool). cond b 1 0) (eq-eqb _ 10 c.if-byte-eq10.true))

returns-2 : tie.Need-returns
returns-2 c = sym (ap (λ (b : Bool). cond b 1 0) (ne_eqb _ 10 c.if-byte-eq10.false))

pub is_end_spec : {M : Type 1} → statement M
is_end_spec = tie.close (tie.spec returns returns-2)
