-- Each turn leaves the answer to the fields behind, which begin `field_columns` further on.
use Rattle.std.proofs.Common.{◌≡◌, ◌+◌, ◌-◌, ◌*◌}
use Rattle.std.proofs.Math.Seq.{slice}
use Rattle.spec_tucson.specs.Line.{field_columns, field_numerals}
use Rattle.spec_tucson.specs.StrictLine.{is_some}
use Rattle.tucson_strict.proofs.all_numerals.Given as goal

abbrev pub invariant-loop : goal.invariant-loop
invariant-loop l =
    (l.at ≡ l.from + l.counter * field_columns)
    × (is_some (field_numerals l.n (slice l.from l.to l.text)) ≡ is_some (field_numerals (l.n - l.counter) (slice l.at l.to l.text)))
