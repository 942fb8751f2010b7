-- Each turn joins the next byte to those before it.
use Rattle.std.proofs.Common.{◌||◌, ◌-◌, Bool, eqb, get_or, take, drop, refl, sym, ◌∙◌, ap}
use Rattle.std.proofs.lemmas.List.{take_more}
use Rattle.std.proofs.lemmas.List.Recursion.{or_push}
use Rattle.spec_tucson.specs.FileText.{tab}
use Rattle.spec_tucson.specs.Shown.{any_tab}
use Rattle.tucson_shown.proofs.any_tab.Goals as goal

pub loop-byte-init : goal.loop-byte-init
unfolding any_tab
loop-byte-init c = refl

pub loop-byte-preserved : goal.loop-byte-preserved
unfolding any_tab
loop-byte-preserved c =
    let s = c.args in
    let i = c.loop-byte.byte-index in
    let part = take (s.to - s.from) (drop s.from s.text.now) in
    let byte = get_or part i 0 in
    let pushed = or_push any_tab (λ c. eqb c tab) refl (λ _ _. refl) (take i part) byte in
    ap (λ (b : Bool). b || eqb byte tab) c.loop-byte.invariant ∙ sym pushed
    ∙ ap any_tab (sym (take_more part i 0 c.loop-byte-test.true))
