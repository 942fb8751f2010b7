-- The turn of series k: its widths start where those of the series before it end.
use Rattle.std.proofs.Common.{refl, arith}
use Rattle.spec_tucson.specs.ReadCall.{widths_of}
use Rattle.curve_ordinates.specs.Wood.{wood_of}
use Rattle.rings_pieces.specs.Piece.{Held, Turn}
use Rattle.rings_pieces.proofs.Pieces.{count_is, widths_fit, next_start}
use Rattle.rings.proofs.write_over.Goals as goal

pub loop-k-init : goal.loop-k-init
unfolding widths_of
loop-k-init g c = λ h. refl

pub put_piece-size-requires : goal.put_piece-size-requires
put_piece-size-requires g c =
    record {
      held = c.requires.held;
      turn = record { within = c.loop-k-test.true; starts = c.loop-k.invariant c.requires.held };
      few = c.requires.widths_len_bound;
      room = omega (arith, c.requires.room);
    }

pub overflow_add-start : goal.overflow_add-start
overflow_add-start g c =
    let h = c.requires.held in
    let t : Turn h c.loop-k.k c.loop-k.start = record { within = c.loop-k-test.true; starts = c.loop-k.invariant h } in
    omega (arith, count_is h t, widths_fit h t, c.requires.widths_len_bound)

pub loop-k-preserved : goal.loop-k-preserved
loop-k-preserved g c =
    let turn : (h : Held c.args.input.now (wood_of c.args.wood) c.args.breaks.now c.args.degrees.now c.args.orders.now c.args.coefs.now
    c.args.n c.args.names.now c.args.years.now c.args.counts.now c.args.widths.now) → Turn h c.loop-k.k c.loop-k.start =
    λ h. record { within = c.loop-k-test.true; starts = c.loop-k.invariant h } in
    λ h. omega (arith, count_is h (turn h), next_start h (turn h))
