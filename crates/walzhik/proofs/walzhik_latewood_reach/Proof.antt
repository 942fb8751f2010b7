-- The exported call meets its contract: the answer of the call behind it, as a struct. Assumes nothing.
use borrow.Author.Rules.{rules}
use mathlib.Core.Path.{ap, ◌∙◌}
use mir.ValLaws.{to_z-of_z}
use Rattle.walzhik_structs.specs.Machine.{reached}
use Rattle.walzhik.proofs.walzhik_latewood_reach.Statement.{statement}
use Rattle.walzhik.proofs.walzhik_latewood_reach.Tie as tie

returns : tie.Need-returns
returns c =
    let k = c in
    let f = k.ranges.width in
    let b = simp to_z-of_z at k.reach-answer.ensures in
    (c.reach_of.ensures ∙ ap reached b.0, b.1)

pub walzhik_latewood_reach_spec : {M : Type 1} → statement M
walzhik_latewood_reach_spec =
    tie.close (tie.spec (λ c κs. search rules) (λ c κs. search rules) (λ c. search rules) (λ c. search rules) returns)
