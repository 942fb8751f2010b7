-- Code 17 or the piece.
use Rattle.std.proofs.Common.{arith}
use Rattle.build_space.specs.Machine.{space}
use Rattle.curve_pieces.proofs.Held.{missing_replies, high-replies, drawn_replies}
use Rattle.curve_pieces.proofs.draw.Goals as goal

pub returns-then-k-degrees : goal.returns-then-k-degrees
returns-then-k-degrees c =
    let a = c.args in
    missing_replies (space a.breaks.now a.degrees.now a.orders.now) a.ordinates.now a.segment (omega (arith, c.ranges.segment.fits))
    c.if-k-degrees.true

pub returns-then-degree_at-gt-DRAWABLE_DEGREE : goal.returns-then-degree_at-gt-DRAWABLE_DEGREE
returns-then-degree_at-gt-DRAWABLE_DEGREE c =
    let a = c.args in
    high-replies (space a.breaks.now a.degrees.now a.orders.now) a.ordinates.now a.segment (omega (arith, c.ranges.segment.fits))
    c.if-k-degrees.false (omega (arith, c.if-degree_at-gt-DRAWABLE_DEGREE.true, c.degree_at.ensures))

pub returns : goal.returns
returns c =
    let a = c.args in
    drawn_replies (space a.breaks.now a.degrees.now a.orders.now) a.ordinates.now a.segment c.if-k-degrees.false
    (omega (arith, c.if-degree_at-gt-DRAWABLE_DEGREE.false, c.degree_at.ensures)) c.piece_at.ensures
