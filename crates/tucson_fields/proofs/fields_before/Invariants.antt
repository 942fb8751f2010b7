-- The fields to come and what is kept of those before make up what is to be known of all of them.
use Rattle.std.proofs.Common.{◌≡◌, ◌+◌, ◌*◌, ◌-◌, ℤ, length}
use Rattle.std.proofs.Math.Option.{some}
use Rattle.std.proofs.Math.Seq.{slice}
use mathlib.Core.List.{List}
use Rattle.spec_tucson.specs.Line.{field_columns, field_numerals}
use Rattle.tucson_fields.proofs.LineFields.{Rest}
use Rattle.tucson_fields.proofs.fields_before.Given as goal

abbrev pub invariant-loop-k : goal.invariant-loop-k
invariant-loop-k l =
    (ws : List ℤ) → field_numerals l.n (slice 12 (length l.line) l.line) ≡ some ws
    → Rest l.line (12 + l.k * field_columns) (l.n - l.k) ws l.widths l.small l.nine
