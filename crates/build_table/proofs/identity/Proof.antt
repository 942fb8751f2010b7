-- All 72 rows may be in use: nothing is asked of the cells. Assumes nothing.
use borrow.Author.Rules.{rules}
use native.Mathlib.Omega.{arith}
use Rattle.build_table.proofs.identity.Statement.{statement}
use Rattle.build_table.proofs.identity.Tie as tie

identity-over-requires : tie.Need-identity_over-requires
identity-over-requires c κs = (c.before.before.requires, (omega arith, record { zeros = λ k h l. absurd (omega arith); ones = λ k h l. absurd (omega arith) }))

pub identity_spec : {M : Type 1} → statement M
identity_spec = tie.close (tie.spec identity-over-requires (λ c. search rules) (λ c. search rules) (λ c. search rules))
