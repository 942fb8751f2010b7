-- The bytes before the index are counted.
use Rattle.std.proofs.Common.{◌+◌}
use Rattle.tucson_file.specs.Machine.{EndsTold}
use Rattle.tucson_file.proofs.block_ends.Given as goal

abbrev pub invariant-loop-byte : goal.invariant-loop-byte
invariant-loop-byte l = EndsTold l.text l.from (l.from + l.byte-index) l.count
