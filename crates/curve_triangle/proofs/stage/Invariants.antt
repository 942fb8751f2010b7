-- Below k stand the blends, from k on the numbers as they came.
use Rattle.std.proofs.Common.{ℤ, nat_abs}
use Rattle.curve_rate.specs.Rate.{Rated}
use Rattle.curve_triangle.proofs.Stages.{Staged}
use Rattle.curve_triangle.proofs.stage.Given as goal

abbrev pub invariant-loop-k : goal.invariant-loop-k
invariant-loop-k l = (u d : ℤ) → Rated l.high l.low u d → Staged (nat_abs d) u l.initial.r l.r l.k
