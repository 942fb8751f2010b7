-- The bytes before the i-th leave the answer to those from it on; the line rises with each byte 10.
use Rattle.std.proofs.Common.{◌≡◌, ◌+◌, ◌≤◌, drop}
use Rattle.spec_tucson.specs.FileText
use Rattle.tucson_file.proofs.fault_line.Given as goal

abbrev pub invariant-loop-i : goal.invariant-loop-i
invariant-loop-i l = record {
  near : l.line ≤ l.i + 1;
  rest : FileText.fault_line 1 (drop l.from l.text) ≡ FileText.fault_line l.line (drop l.i l.text);
}
