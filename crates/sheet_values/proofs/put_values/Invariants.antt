-- After k turns the first k positions are printed with their two values each.
use Rattle.std.proofs.Common.{◌*◌, take}
use Rattle.base_print.specs.Buffer.{Puts}
use Rattle.spec_sheet.specs.Printout.{value_lines}
use Rattle.spec_sheet.specs.Pairs.{paired}
use Rattle.sheet_values.specs.Printed.{value_line_limit}
use Rattle.sheet_values.proofs.put_values.Given as goal

abbrev pub invariant-loop-k : goal.invariant-loop-k
invariant-loop-k l = Puts (value_line_limit * l.k) l.at (value_lines (take l.k l.positions) (paired l.values)) l.fn.out l.out l.next
