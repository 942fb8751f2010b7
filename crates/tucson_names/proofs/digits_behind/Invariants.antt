-- The bytes behind the index are digits, so that the answer is the one for the bytes up to it.
use Rattle.std.proofs.Common.{◌≡◌}
use Rattle.spec_tucson.specs.CleanSeries.{digits_behind}
use Rattle.tucson_names.proofs.digits_behind.Given as goal

abbrev pub invariant-loop-i : goal.invariant-loop-i
invariant-loop-i l = digits_behind l.n l.line ≡ digits_behind l.i l.line
