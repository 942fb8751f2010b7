-- Each arm is the case of the definition.
use Rattle.std.proofs.Common.{◌≡◌, ◌∙◌, sym, ap, rules, to_z, of_z}
use mir.Syntax.{w32}
use Rattle.base_outcome.specs.Outcome.{answer}
use Rattle.base_outcome.specs.Machine.{reply}
use Rattle.walzhik_structs.specs.Machine.{reached}
use Rattle.walzhik_structs.proofs.reach_of.Goals as goal

pub returns-in-Ok : goal.returns-in-Ok
unfolding reached
returns-in-Ok c =
    let e : to_z w32 (of_z w32 c.in-Ok.position) ≡ c.in-Ok.position = search rules in
    ap (λ x. reached (answer x)) e ∙ sym (ap (λ a. reached (reply a)) c.in-Ok.is)

pub returns-in-Err : goal.returns-in-Err
unfolding reached
returns-in-Err c = sym (ap (λ a. reached (reply a)) c.in-Err.is)
