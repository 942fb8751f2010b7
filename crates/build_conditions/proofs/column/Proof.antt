-- A column of the left side counts from the end of its segment, one of the right side from its start.
use borrow.Author.Rules.{rules}
use native.Mathlib.Omega.{arith}
use Rattle.build_conditions.proofs.Terms.{column-left, column-right}
use Rattle.build_conditions.proofs.column.Statement.{statement}
use Rattle.build_conditions.proofs.column.Tie as tie

returns : tie.Need-returns-then-e-k
returns c =
    let b = c in (
      (λ s j i. omega (arith, column-left s j b.args.k b.args.e (omega arith))),
      omega arith,
    )

returns-2 : tie.Need-returns
returns-2 c =
    let b = c in (
      (λ s j i. omega (arith, column-right s j b.args.k b.args.e (omega arith) b.requires.1)),
      omega arith,
    )

pub column_spec : {M : Type 1} → statement M
column_spec =
    tie.close (tie.spec (λ c. search rules) (λ c. search rules) (λ c. search rules) returns (λ c. search rules) (λ c. search rules)
    (λ c. search rules) returns-2)
