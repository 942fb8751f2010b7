-- The series before the k-th can be written, and leave the answer to those from it on.
use Rattle.std.proofs.Common.{◌≡◌, ◌≤◌}
use Rattle.std.proofs.Math.Seq.{slice}
use Rattle.spec_tucson.specs.Writing.{first_unwritable, unwritable}
use Rattle.spec_tucson.specs.WriteCall.{series_of}
use Rattle.tucson_series.proofs.Walk.{Walked, series_from}
use Rattle.tucson_series.proofs.writable.first_unwritable.Given as goal

abbrev pub invariant-loop-k : goal.invariant-loop-k
invariant-loop-k l = record {
  walked : Walked l.names l.years l.counts l.widths l.at l.from l.k;
  ordered : l.before ≤ l.at;
  same : unwritable (series_of l.names l.years l.counts l.widths)
      ≡ first_unwritable l.k (slice l.before l.at l.names) (series_from l.names l.years l.counts l.widths l.at l.from l.k);
}
