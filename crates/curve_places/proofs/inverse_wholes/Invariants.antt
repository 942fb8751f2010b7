-- Below k stand the whole numbers of the segments' inverses, from k on 0.
use Rattle.curve_rate.specs.Rate.{whole_of}
use Rattle.curve_places.proofs.Inverses.{Filled}
use Rattle.curve_places.proofs.inverse_wholes.Given as goal

abbrev pub invariant-loop-k : goal.invariant-loop-k
invariant-loop-k l = Filled whole_of l.breaks l.degrees l.wholes l.k
