-- The bytes before the first that differs are plain.
use Rattle.std.proofs.Common.{◌+◌}
use Rattle.std.proofs.Math.Seq.{slice}
use Rattle.tucson_walk.proofs.PlainFronts.{Plain}
use Rattle.tucson_walk.proofs.differs.Given as goal

abbrev pub invariant-loop-i : goal.invariant-loop-i
invariant-loop-i l = Plain (slice l.past (l.past + l.i) l.text)
