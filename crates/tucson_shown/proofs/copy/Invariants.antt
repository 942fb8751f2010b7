-- The bytes before index i stand at the front.
use mathlib.Core.Path.{◌≡◌}
use Prim.Native.Nat.{◌-◌}
use lib.ListN.{take}
use lib.Seq.{slice}
use Rattle.tucson_shown.proofs.copy.Given as goal

abbrev pub invariant-loop-i : goal.invariant-loop-i
invariant-loop-i l = take (l.i - l.from) l.bytes ≡ slice l.from l.i l.text
