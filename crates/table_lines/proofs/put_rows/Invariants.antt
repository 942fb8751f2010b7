-- After j turns the first j lines are written.
use Rattle.tucson_putting.specs.Putting.{Wrote}
use Rattle.table_lines.specs.Machine.{rows, rows_text}
use Rattle.table_lines.proofs.put_rows.Given as goal

abbrev pub invariant-loop-j : goal.invariant-loop-j
invariant-loop-j l = Wrote 0 (rows_text (rows l.label l.first l.cell l.widths l.values l.indices) l.j) l.fn.out l.out l.next
