-- The search goes through the list in order.
use Rattle.std.proofs.Common.{◌≡◌, ◌∙◌, true, false, rules, tests, pos}
use mathlib.Core.Bool.{not}
use Rattle.std.proofs.lemmas.Iterator.{IsFirst-from_position, YieldsList-from_slice}
use Rattle.base_outcome.proofs.Machine.{found_by_position}
use Rattle.base_outcome.specs.Tests.{between}
use Rattle.build_space.proofs.Tests as tests
use Rattle.curve_entries.proofs.first_outside.Goals as goal

pub returns : goal.returns
returns c =
    let low = c.args.low in
    let high = c.args.high in
    let e = tests.outside low high in
    found_by_position (λ z. not (between low high z)) c.args.list.now (pos 0) c.position.result
    (IsFirst-from_position _ _ c.position.result (λ z. not (between low high z) ≡ true) (λ z. not (between low high z) ≡ false)
    c.position.ensures.ran (YieldsList-from_slice c.args.list.now cc)
    (λ x q k. e x.now ∙ search (rules, tests))
    (λ x q k. rw (e x.now) (search (rules, tests))))
