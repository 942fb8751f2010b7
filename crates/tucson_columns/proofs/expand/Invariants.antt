-- What is put and what is left of the text make up the same text at each turn.
use Rattle.std.proofs.Common.{◌≡◌, ◌≤◌, ◌++◌, take}
use Rattle.std.proofs.Math.Seq.{slice}
use Rattle.spec_tucson.specs.Shown.{expanded}
use Rattle.tucson_columns.proofs.expand.Given as goal

abbrev pub invariant-loop-i : goal.invariant-loop-i
invariant-loop-i l =
    (l.n ≤ l.limit)
    × (take l.n l.bytes ++ expanded l.n (slice l.i l.to l.text) ≡ take l.count l.fn.bytes ++ expanded l.count (slice l.from l.to l.text))
