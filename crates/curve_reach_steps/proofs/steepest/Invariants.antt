-- No rise passed is steeper.
use Rattle.curve_reach_steps.specs.Machine.{Steepest}
use Rattle.curve_reach_steps.proofs.steepest.Given as goal

abbrev pub invariant-loop-k : goal.invariant-loop-k
invariant-loop-k l = Steepest l.ordinates l.c l.k l.rise
