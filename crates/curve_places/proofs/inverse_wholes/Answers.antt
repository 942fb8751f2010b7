-- A segment of legal lists has a length that has an inverse, and past the last segment the array holds 0.
use Rattle.std.proofs.Common.{rules, ap, ◌∙◌, arith, w64}
use mir.Val.{SFits}
use Rattle.base_exact.proofs.Word.{to_z-of_z}
use Rattle.curve_rate.specs.Rate.{whole_of}
use Rattle.curve_places.proofs.Inverses.{filled_none, filled_more, filled_all, length_is}
use Rattle.curve_places.proofs.inverse_wholes.Goals as goal

pub loop-k-init : goal.loop-k-init
loop-k-init c = filled_none _ _ _

pub whole_of-requires : goal.whole_of-requires
whole_of-requires c =
    let a = c.args in
    let f : SFits w64 c.fine_width.result = search rules in
    simp to_z-of_z (rw c.fine_width.ensures (length_is a.breaks.now a.degrees.now _ c.requires.legal c.loop-k.k (omega arith)))

pub loop-k-preserved : goal.loop-k-preserved
loop-k-preserved c =
    let f : SFits w64 c.fine_width.result = search rules in
    let g : SFits w64 c.whole_of.result = search rules in
    let is = (simp to_z-of_z at c.whole_of.ensures) ∙ ap whole_of c.fine_width.ensures in
    simp to_z-of_z (filled_more whole_of _ _ c.requires.legal.few (omega arith) c.loop-k.invariant is)

pub returns : goal.returns
returns c = filled_all whole_of _ _ c.requires.legal.few (omega arith) c.loop-k.invariant
