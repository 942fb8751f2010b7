-- The answer for all fields is that for the fields to come, with what is known of those before.
use Rattle.std.proofs.Common.{true, ◌≡◌, ◌+◌, ◌*◌, ◌-◌}
use Rattle.std.proofs.Math.Seq.{slice}
use Rattle.spec_tucson.specs.Line.{field_columns, field_numerals}
use Rattle.tucson_lines.specs.Machine.{widths_told}
use Rattle.tucson_lines.proofs.widths.Given as goal

abbrev pub invariant-loop-k : goal.invariant-loop-k
invariant-loop-k l =
    widths_told true (field_numerals l.n (slice l.from l.to l.text))
    ≡ widths_told l.small (field_numerals (l.n - l.k) (slice (l.from + l.k * field_columns) l.to l.text))
