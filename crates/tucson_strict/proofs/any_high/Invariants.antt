-- The answer so far is that of the bytes so far.
use Rattle.std.proofs.Common.{◌≡◌, take}
use Rattle.spec_tucson.specs.StrictLine.{any_high}
use Rattle.tucson_strict.proofs.any_high.Given as goal

abbrev pub invariant-loop-byte : goal.invariant-loop-byte
invariant-loop-byte l = l.any ≡ any_high (take l.byte-index l.byte-items)
