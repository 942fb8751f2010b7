-- The exported call meets its contract: the answer of the call behind it, as a struct. Assumes nothing.
use borrow.Author.Rules.{rules}
use mathlib.Core.Path.{ap, ◌∙◌}
use mir.ValLaws.{to_z-of_z}
use Rattle.walzhik_reply.specs.Machine.{replied}
use Rattle.walzhik_indices.proofs.walzhik_earlywood_indices.Statement.{statement}
use Rattle.walzhik_indices.proofs.walzhik_earlywood_indices.Tie as tie

returns : tie.Need-returns
returns c =
    let k = c in
    let f = k.ranges.first in
    let b = simp to_z-of_z at k.indices-answer.ensures in
    (c.reply_of.ensures ∙ ap replied b.0, b.1)

pub walzhik_earlywood_indices_spec : {M : Type 1} → statement M
walzhik_earlywood_indices_spec =
    tie.close
    (tie.spec (λ c κs. search rules) (λ c κs. search rules) (λ c. search rules) (λ c. search rules) (λ c. search rules) (λ c. search rules) returns)
