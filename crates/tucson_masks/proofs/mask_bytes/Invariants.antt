-- The first i bytes are masked.
use Rattle.std.proofs.Common.{◌≡◌, take}
use Rattle.spec_tucson.specs.StrictLine.{bytes_masked}
use Rattle.tucson_masks.proofs.mask_bytes.Given as goal

abbrev pub invariant-loop-i : goal.invariant-loop-i
invariant-loop-i l = take l.i l.line ≡ bytes_masked (take l.i l.bytes)
