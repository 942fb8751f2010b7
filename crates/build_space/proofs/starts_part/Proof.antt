-- `build_space::starts_part` meets its contract: the first segment starts a part, any other where the join before it is a
-- discontinuity. Assumes nothing.
use borrow.Author.Rules.{rules}
use mathlib.Core.Path.{◌∙◌}
use Rattle.build_space.proofs.Tests.{starts-part-zero, starts-part-later}
use Rattle.build_space.proofs.starts_part.Statement.{statement}
use Rattle.build_space.proofs.starts_part.Tie as tie

pub starts_part_spec : {M : Type 1} → statement M
starts_part_spec =
    tie.close (tie.spec (λ c. starts-part-zero _ _ c.if-i-eq0.true) (λ c. search rules) (λ c κs. search rules)
    (λ c. c.is_discontinuity.ensures ∙ starts-part-later _ _ c.before.if-i-eq0.false))
