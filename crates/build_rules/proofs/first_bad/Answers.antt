-- The search goes through the entries in order.
use Rattle.std.proofs.Common.{◌≡◌, true, false, rules}
use borrow.Author.Tests.{tests}
use Rattle.std.proofs.lemmas.Iterator.{first_from_Range}
use Rattle.base_outcome.proofs.Machine.{found_by_find}
use Rattle.build_space.specs.Machine.{space}
use Rattle.build_rules.specs.Rules.{broken}
use Rattle.build_rules.proofs.first_bad.Goals as goal

pub returns : goal.returns
returns c =
    let test = broken c.args.rule (space c.args.breaks.now c.args.degrees.now c.args.orders.now) in
    found_by_find test c.args.n c.find.result
    (first_from_Range _ _ _ c.find.result (λ i. test i ≡ true) (λ i. test i ≡ false) c.find.ensures.ran (λ x q k. search (rules, tests)) (λ x q k. search (rules, tests)))
