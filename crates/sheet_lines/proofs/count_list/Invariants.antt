-- The n entries so far and the fields from `start` on make up the list's count.
use Rattle.std.proofs.Common.{◌≡◌, ◌≤◌}
use Rattle.std.proofs.Math.Seq.{slice}
use Rattle.base_text.specs.Bytes.{fields}
use Rattle.spec_sheet.specs.SheetReading.{list_of, entries}
use Rattle.sheet_lines.specs.Machine.{entry_of, count}
use Rattle.sheet_lines.proofs.Entries.{tally}
use Rattle.sheet_lines.proofs.count_list.Given as goal

abbrev pub invariant-loop-n : goal.invariant-loop-n
invariant-loop-n l = record {
  within : l.start ≤ l.to;
  counts : count (list_of (entry_of l.kind) (slice l.from l.to l.text))
      ≡ tally l.n (entries (entry_of l.kind) (fields (slice l.start l.to l.text)));
}
