-- The search goes through the rings in order.
use Rattle.std.proofs.Common.{◌≡◌, true, false, rules, tests, length}
use Rattle.std.proofs.lemmas.Iterator.{first_from_Range}
use Rattle.base_outcome.proofs.Machine.{found_by_find}
use Rattle.indices_rings.specs.Cells.{bad_cell}
use Rattle.indices_rings.proofs.first_bad_ring.Goals as goal

pub returns : goal.returns
returns c =
    let test = bad_cell c.args.widths.now c.args.values.now c.args.offset in
    found_by_find test (length c.args.widths.now) c.find.result
    (first_from_Range _ _ _ c.find.result (λ i. test i ≡ true) (λ i. test i ≡ false) c.find.ensures.ran
    (λ x q k. search (rules, tests)) (λ x q k. search (rules, tests)))
