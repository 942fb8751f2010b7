-- What is left and the bytes of the lines passed are the room.
use Rattle.std.proofs.Common.{◌≡◌, ◌+◌, length}
use Rattle.table_lines.specs.Machine.{rows, rows_text}
use Rattle.table_lines.proofs.rows_fit.Given as goal

abbrev pub invariant-loop-j : goal.invariant-loop-j
invariant-loop-j l = l.left + length (rows_text (rows l.label l.first l.cell l.widths l.values l.indices) l.j) ≡ l.room
