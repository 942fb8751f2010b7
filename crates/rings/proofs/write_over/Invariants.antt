-- At turn k the widths of what is handed over start where those of the series before it end.
use Rattle.std.proofs.Common.{length, take, ◌≡◌}
use Rattle.spec_tucson.specs.ReadCall.{widths_of}
use Rattle.curve_ordinates.specs.Wood.{wood_of}
use Rattle.rings_pieces.specs.Piece.{Held}
use Rattle.rings.proofs.write_over.Given as goal

abbrev pub invariant-loop-k : goal.invariant-loop-k
invariant-loop-k g l =
    (h : Held l.input (wood_of l.wood) l.breaks l.degrees l.orders l.coefs l.n l.names l.years l.counts l.widths)
    → l.start ≡ length (widths_of (take l.k h.made.series))
