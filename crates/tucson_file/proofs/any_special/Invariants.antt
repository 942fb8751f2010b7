-- Whether there is a special byte is told by the bytes before the index, joined, and by those from it on.
use Rattle.std.proofs.Common.{◌≡◌, ◌||◌, drop}
use Rattle.tucson_file.specs.Machine.{any_special}
use Rattle.tucson_file.proofs.any_special.Given as goal

abbrev pub invariant-loop-byte : goal.invariant-loop-byte
invariant-loop-byte l = any_special l.byte-items ≡ (l.any || any_special (drop l.byte-index l.byte-items))
