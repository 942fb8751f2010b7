-- Each turn joins the next byte to those before it.
use Rattle.std.proofs.Common.{◌||◌, ◌-◌, Bool, get_or, take, drop, refl, sym, ◌∙◌, ap}
use Rattle.std.proofs.lemmas.List.{take_more}
use Rattle.std.proofs.lemmas.List.Recursion.{or_push}
use Rattle.spec_tucson.specs.StrictLine.{is_high, any_high}
use Rattle.tucson_strict.proofs.any_high.Goals as goal

pub loop-byte-init : goal.loop-byte-init
unfolding any_high
loop-byte-init c = refl

pub loop-byte-preserved : goal.loop-byte-preserved
unfolding any_high
loop-byte-preserved c =
    let s = c.args in
    let i = c.loop-byte.byte-index in
    let part = take (s.to - s.from) (drop s.from s.text.now) in
    let byte = get_or part i 0 in
    ap (λ (b : Bool). b || is_high byte) c.loop-byte.invariant ∙ sym (or_push any_high is_high refl (λ _ _. refl) (take i part) byte)
    ∙ ap any_high (sym (take_more part i 0 c.loop-byte-test.true))
