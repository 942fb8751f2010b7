-- `refusal` meets its contract: five texts, one behind the other, from the buffer's start on.
use borrow.Author.Rules.{rules}
use native.Mathlib.Omega.{arith}
use mathlib.Core.Path.{◌∙◌}
use Rattle.base_print.specs.Refusal.{refusal_line}
use Rattle.base_print.proofs.Buffer.{puts_then}
use Rattle.base_print.proofs.refusal.Statement.{statement}
use Rattle.base_print.proofs.refusal.Tie as tie

returns : tie.Need-returns
unfolding refusal_line
returns c =
    let e = c.before.before in
    let d = e.before.before.before.before in
    let b = d.before.before.before.before in
    let a = b.before.before.before.before in
    let k = a.before.before.before.before in
    let p =
    puts_then k.put_text-a.ensures
    (puts_then a.put_digits-b.ensures
    (puts_then b.put-c.ensures
    (puts_then d.put_digits-d.ensures
    e.put.ensures))) in
    record { count_is = p.behind ∙ omega arith; contents = p.contents; few = omega (arith, p.near) }

pub refusal_spec : {M : Type 1} → statement M
refusal_spec =
    tie.close (tie.spec (λ c κs. search rules) (λ c κs. search rules) (λ c κs. search rules) (λ c κs. search rules)
    (λ c κs. search rules) (λ c. search rules) returns)
