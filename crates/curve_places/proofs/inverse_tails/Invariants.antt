-- Below k stand the second numbers of the segments' inverses, from k on 0.
use Rattle.curve_rate.specs.Rate.{tail_of}
use Rattle.curve_places.proofs.Inverses.{Filled}
use Rattle.curve_places.proofs.inverse_tails.Given as goal

abbrev pub invariant-loop-k : goal.invariant-loop-k
invariant-loop-k l = Filled tail_of l.breaks l.degrees l.tails l.k
