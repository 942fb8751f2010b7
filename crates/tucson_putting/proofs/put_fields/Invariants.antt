-- Before the turn at an index the widths below it are written.
use Rattle.std.proofs.Common.{take}
use Rattle.spec_tucson.specs.Writing.{fields_text}
use Rattle.tucson_putting.specs.Putting.{Wrote}
use Rattle.tucson_putting.proofs.put_fields.Given as goal

abbrev pub invariant-loop-width : goal.invariant-loop-width
invariant-loop-width l = Wrote l.fn.at (fields_text (take l.width-index l.widths)) l.fn.text l.text l.next
