-- The line that is held is its series' last.
use Rattle.std.proofs.Common.{Bool, sym, ◌∙◌, subst, []}
use mathlib.Core.Option.{some, none}
use Rattle.base_outcome.specs.Outcome.{answer}
use Rattle.tucson_check.specs.Holding.{LineHeld, NoneHeld, HoldsBy}
use Rattle.tucson_check.proofs.HeldLines.{held-last}
use Rattle.tucson_check.proofs.finish.Goals as goal

pub returns-then-h : goal.returns-then-h
returns-then-h c end shown holds =
    let a = c.args in
    let held : LineHeld a.unit a.h shown a.old.now end (λ before. answer []) =
    subst (λ (x : Bool). HoldsBy x a.unit a.h shown a.old.now end (λ before. answer [])) c.if-h.true holds in
    let b = c.judge.ensures held.line held.before held.begun held.is_text held.is_number held.follows_is held.tracks in
    c.conclude.ensures a.unit b.begun-behind (some held.line) ∙ sym (held-last a.unit a.h shown a.old.now end held c.judge.result b)

pub returns : goal.returns
returns c end shown holds =
    let a = c.args in
    let unheld : NoneHeld a.unit a.h.judged end (λ before. answer []) =
    subst (λ (x : Bool). HoldsBy x a.unit a.h shown a.old.now end (λ before. answer [])) c.if-h.false holds in
    c.conclude-2.ensures a.unit none none ∙ sym unheld.ends
