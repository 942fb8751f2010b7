-- The curves without positions, and then the piece from the named part's ordinates.
use Rattle.std.proofs.Common.{◌≡◌, sym, ap, subst, length}
use Rattle.spec_spline.specs.Space.{Space}
use Rattle.spec_spline.specs.Reading.{earlywood, latewood}
use Rattle.build_space.specs.Machine.{space}
use Rattle.curve_ordinates.specs.Wood.{wood_of}
use Rattle.spec_calls.specs.Pieces.{piece_outcome}
use Rattle.curve_pieces.specs.Machine.{Replies}
use Rattle.curve_pieces.proofs.Held.{piece_refused, piece_drawn}
use Rattle.curve_pieces.proofs.piece.Goals as goal

pub returns-in-Err : goal.returns-in-Err
returns-in-Err c =
    let a = c.args in
    let s : Space = space a.breaks.now a.degrees.now a.orders.now in
    let l = c.in-Err.ensures in (
      piece_refused s (wood_of a.wood) a.coefs.now a.segment (length a.num.now) (length a.den.now) l.told,
      (l.numerators_are, l.denominators_are),
    )

pub returns-in-Earlywood : goal.returns-in-Earlywood
returns-in-Earlywood c =
    let a = c.args in
    let s : Space = space a.breaks.now a.degrees.now a.orders.now in
    let l = c.in_default.ensures in
    let p : wood_of a.wood ≡ earlywood = ap wood_of c.in-Earlywood.is in (
      subst (λ w. Replies c.draw.result (piece_outcome s w a.coefs.now a.segment (length a.num.now) (length a.den.now))) (sym p)
          (piece_drawn s earlywood a.coefs.now a.segment (length a.num.now) (length a.den.now) _ _ l.told.is l.told.early_is
          c.draw.ensures),
      (l.numerators_are, l.denominators_are),
    )

pub returns-in-Latewood : goal.returns-in-Latewood
returns-in-Latewood c =
    let a = c.args in
    let s : Space = space a.breaks.now a.degrees.now a.orders.now in
    let l = c.in_default.ensures in
    let p : wood_of a.wood ≡ latewood = ap wood_of c.in-Latewood.is in (
      subst (λ w. Replies c.draw-in-Latewood.result (piece_outcome s w a.coefs.now a.segment (length a.num.now) (length a.den.now)))
          (sym p) (piece_drawn s latewood a.coefs.now a.segment (length a.num.now) (length a.den.now) _ _ l.told.is l.told.late_is
          c.draw-in-Latewood.ensures),
      (l.numerators_are, l.denominators_are),
    )
