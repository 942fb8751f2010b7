-- The bytes before the blocks that are left are counted.
use Rattle.std.proofs.Common.{◌≡◌, ◌+◌, ◌≤◌, length}
use Rattle.tucson_file.specs.Machine.{end_count}
use Rattle.tucson_file.proofs.ends.Given as goal

abbrev pub invariant-loop-block : goal.invariant-loop-block
invariant-loop-block l = record {
  size : l.block-iterator.size ≡ 240;
  few : l.count + length l.block-iterator.rest.now ≤ length l.text;
  are : end_count l.text ≡ l.count + end_count l.block-iterator.rest.now;
}
