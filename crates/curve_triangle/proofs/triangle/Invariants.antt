-- After p - n stages the first n + 1 numbers are the triangle's.
use Rattle.std.proofs.Common.{ℤ, nat_abs, ◌-◌}
use Rattle.curve_rate.specs.Rate.{Rated}
use Rattle.curve_triangle.proofs.Stages.{Triangled}
use Rattle.curve_triangle.proofs.triangle.Given as goal

abbrev pub invariant-loop-n : goal.invariant-loop-n
invariant-loop-n l = (u d : ℤ) → Rated l.high l.low u d → Triangled (nat_abs d) u l.initial.r l.r (l.p - l.n) l.n
