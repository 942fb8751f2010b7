-- As much is shown of the part up to i as of the whole part.
use Rattle.std.proofs.Common.{◌≡◌, ◌≤◌}
use Rattle.std.proofs.Math.Seq.{slice}
use Rattle.spec_tucson.specs.Shown.{expanded, trimmed}
use Rattle.tucson_columns.proofs.shown_end.Given as goal

abbrev pub invariant-loop-i : goal.invariant-loop-i
invariant-loop-i l =
    (l.from ≤ l.i) × (trimmed (expanded 0 (slice l.from l.to l.text)) ≡ trimmed (expanded 0 (slice l.from l.i l.text)))
