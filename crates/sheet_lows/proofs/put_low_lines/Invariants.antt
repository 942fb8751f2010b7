-- After k turns the low lines of the first k positions are printed.
use Rattle.std.proofs.Common.{◌*◌, take}
use Rattle.base_print.specs.Buffer.{Puts}
use Rattle.spec_sheet.specs.Printout.{low_lines}
use Rattle.sheet_lows.specs.Printed.{low_line_limit}
use Rattle.sheet_lows.proofs.put_low_lines.Given as goal

abbrev pub invariant-loop-x : goal.invariant-loop-x
invariant-loop-x l = Puts (low_line_limit * l.x-index) l.at (low_lines (take l.x-index l.lows)) l.fn.out l.out l.next
