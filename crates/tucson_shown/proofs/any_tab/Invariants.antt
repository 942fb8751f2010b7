-- The answer so far is that of the bytes so far.
use Rattle.std.proofs.Common.{◌≡◌, take}
use Rattle.spec_tucson.specs.Shown.{any_tab}
use Rattle.tucson_shown.proofs.any_tab.Given as goal

abbrev pub invariant-loop-byte : goal.invariant-loop-byte
invariant-loop-byte l = l.any ≡ any_tab (take l.byte-index l.byte-items)
