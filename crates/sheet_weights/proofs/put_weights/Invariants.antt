-- After k turns the non-zero weights of the first k cells are printed.
use Rattle.std.proofs.Common.{◌*◌}
use Rattle.base_print.specs.Buffer.{Puts}
use Rattle.spec_sheet.specs.Printout.{weight_lines}
use Rattle.sheet_weights.specs.Printed.{weight_line_limit, stored_weights}
use Rattle.sheet_weights.proofs.put_weights.Given as goal

abbrev pub invariant-loop-k : goal.invariant-loop-k
invariant-loop-k l =
    Puts (weight_line_limit * l.k) l.at (weight_lines (stored_weights l.row l.column l.k l.num l.den)) l.fn.out l.out l.next
