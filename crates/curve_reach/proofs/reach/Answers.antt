-- The curves without positions, and the search with the ordinates of both parts.
use Rattle.std.proofs.Common.{◌≡◌, rules, ℕ, ℤ, List, [], pos, length}
use lib.ListN.{replicate}
use mir.ValLaws.{to_z-of_z}
use Rattle.spec_spline.specs.Space.{Space}
use Rattle.spec_spline.specs.Reading.{Wood, earlywood, latewood, coefficient}
use Rattle.build_space.specs.Machine.{space}
use Rattle.curve_ordinates.specs.Wood.{wood_of}
use Rattle.curve_places.specs.Offsets.{column_limit}
use Rattle.curve_parts.specs.Parts.{Lent, lent}
use Rattle.curve_start.specs.Machine.{call, CurvesHeld}
use Rattle.curve_start.proofs.Fronted.{fronted, early_bounded, late_bounded}
use Rattle.curve_reach.specs.Machine.{chosen}
use Rattle.curve_reach.proofs.Call.{reach_refused, reach_searched}
use Rattle.curve_reach.proofs.reach.Goals as goal

-- the part's own ordinates
chosen_is : (s : Space) (coefs : List ℤ) {n : ℕ} {num den : List ℤ} {after : Lent}
    (h : CurvesHeld (call s coefs [] 0) n (lent num den (replicate column_limit (pos 0)) (replicate column_limit (pos 0))) after)
    (wood : Wood) → chosen wood after.early after.late ≡ fronted s h.table column_limit (coefficient wood coefs)
chosen_is s coefs h earlywood = h.early_is
chosen_is s coefs h latewood = h.late_is

pub returns-in-Err : goal.returns-in-Err
returns-in-Err c =
    let a = c.args in
    let s : Space = space a.breaks.now a.degrees.now a.orders.now in
    let l = c.in-Err.ensures in (
      reach_refused s (wood_of a.wood) a.coefs.now a.width (length a.num.now) (length a.den.now) l.told,
      (l.numerators_are, l.denominators_are),
    )

pub part_reach-requires : goal.part_reach-requires
part_reach-requires c =
    let h = c.in_default.ensures.told in
    let m = c.build_curves.new in
    let after : Lent = lent m.num m.den m.early m.late in
    record {
      legal = h.legal;
      early_ordinates = record { long = search rules; bounded = early_bounded column_limit {after = after} h };
      late_ordinates = record { long = search rules; bounded = late_bounded column_limit {after = after} h };
    }

pub returns : goal.returns
returns c =
    let a = c.args in
    let s : Space = space a.breaks.now a.degrees.now a.orders.now in
    let l = c.in_default.ensures in
    let f = c.ranges.width in (
      reach_searched s (wood_of a.wood) a.coefs.now a.width (length a.num.now) (length a.den.now) column_limit _ l.told.is
          (chosen_is s a.coefs.now l.told (wood_of a.wood)) (simp to_z-of_z at c.part_reach.ensures),
      (l.numerators_are, l.denominators_are),
    )
