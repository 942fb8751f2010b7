-- The blanks so far leave the number to the columns behind them.
use Rattle.std.proofs.Common.{◌≡◌}
use Rattle.std.proofs.Math.Seq.{slice}
use Rattle.spec_tucson.specs.Columns.{in_columns}
use Rattle.tucson_lines.proofs.numeral.Given as goal

abbrev pub invariant-loop-i : goal.invariant-loop-i
invariant-loop-i l = in_columns (slice l.from l.to l.text) ≡ in_columns (slice l.i l.to l.text)
