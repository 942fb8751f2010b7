-- `at` is the last of the first i segments whose first position is at or before x.
use Rattle.std.proofs.Common.{◌≡◌, get_or, pos}
use mathlib.Core.Option
use lib.Signed.{le_z}
use Rattle.base_outcome.specs.Search.{last}
use Rattle.curve_segments.proofs.segment_at.Given as goal

abbrev pub invariant-loop-i : goal.invariant-loop-i
invariant-loop-i l = l.at ≡ Option.get_or (last l.i (λ k. le_z (get_or l.firsts k (pos 0)) l.x)) 0
