-- `base_outcome::place` meets its contract. Assumes nothing.
use borrow.Author.Rules.{rules}
use native.Mathlib.Omega.{arith}
use Rattle.base_outcome.specs.Outcome.{capped}
use Rattle.base_outcome.proofs.place.Statement.{statement}
use Rattle.base_outcome.proofs.place.Tie as tie

returns : tie.Need-returns-then-i
unfolding capped
returns c = omega arith

returns-2 : tie.Need-returns
unfolding capped
returns-2 c = omega arith

pub place_spec : {M : Type 1} → statement M
place_spec = tie.close (tie.spec (λ c. search rules) (λ c. search rules) returns returns-2)
