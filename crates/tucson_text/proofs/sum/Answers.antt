-- The counts' total is their sum, and it fits.
use Rattle.std.proofs.Common.{◌≡◌, ◌<◌, ◌^◌, ℕ, List, sum, refl, arith, rules}
use Rattle.std.proofs.iter.runs.Made.{chains}
use Rattle.std.proofs.lemmas.List.Recursion.{is_sum_by}
use Rattle.spec_tucson.specs.WriteCall.{total}
use Rattle.tucson_text.proofs.sum.Goals as goal

total_sum : (ns : List ℕ) → total ns ≡ sum ns
unfolding total
total_sum = is_sum_by total (λ n. n) refl (λ _ _. refl)

pub sum-requires-clause-fits : goal.sum-requires-clause-fits
sum-requires-clause-fits c =
    let e = total_sum c.args.counts.now in
    let fits : sum c.args.counts.now < 2 ^ 64 = omega arith in
    search (rules, chains)

pub returns : goal.returns
returns c = let e = total_sum c.args.counts.now in search (rules, chains)
