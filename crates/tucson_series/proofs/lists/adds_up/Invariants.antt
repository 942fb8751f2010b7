-- What is left of the sum and the counts passed are the sum.
use Rattle.std.proofs.Common.{◌≡◌, ◌+◌, drop}
use Rattle.spec_tucson.specs.WriteCall.{total}
use Rattle.tucson_series.proofs.lists.adds_up.Given as goal

abbrev pub invariant-loop-count : goal.invariant-loop-count
invariant-loop-count l = total l.counts + l.left ≡ l.fn.sum + total (drop l.count-index l.counts)
