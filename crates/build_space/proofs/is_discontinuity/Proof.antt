-- `build_space::is_discontinuity` meets its contract: the order is compared by its bits. Assumes nothing.
use borrow.Author.Rules.{rules}
use mathlib.Core.List.{[]}
use Rattle.build_space.specs.Machine.{space}
use Rattle.build_space.proofs.Tests.{discontinuity_test}
use Rattle.build_space.proofs.is_discontinuity.Statement.{statement}
use Rattle.build_space.proofs.is_discontinuity.Tie as tie

returns : tie.Need-returns
returns c = let a = c.before.args in discontinuity_test (space [] [] a.orders.now) a.i (record { sfits = c.order-1.given })

pub is_discontinuity_spec : {M : Type 1} → statement M
is_discontinuity_spec = tie.close (tie.spec (λ c. search rules) (λ c. search rules) returns)
