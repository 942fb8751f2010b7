-- A turn writes both values of one position more, in the segment of the position.
use Rattle.std.proofs.Common.{◌≡◌, ℕ, ◌+◌, ◌*◌, ◌<◌, List, [], ◌++◌, map, length, get_or, drop, refl, sym, ap, ap₂, ◌∙◌, rules, arith}
use Rattle.std.proofs.Common.{ℤ, pos, w32, w64, FitsSigned, to_z, of_z}
use lib.ListN.{set}
use mir.ValLaws.{to_z-of_z}
use Rattle.base_exact.specs.Tabulate.{tab}
use Rattle.base_exact.proofs.Tabulate.{tab_self, map_tab}
use Rattle.spec_spline.specs.Space.{Space}
use Rattle.spec_spline.specs.Reading.{Pair, side_by_side, segment_at, fine_width, blended}
use Rattle.spec_spline.proofs.Pairs.{pairs-none, pairs_more}
use Rattle.build_space.specs.Machine.{space}
use Rattle.build_space.specs.Legal.{ListsLegal}
use Rattle.curve_places.specs.Offsets.{Within}
use Rattle.curve_rate.specs.Rate.{whole_of, tail_of}
use Rattle.curve_places.specs.Inverses.{by_length}
use Rattle.curve_places.specs.Location.{location_of, value_of}
use Rattle.curve_places.specs.declared.Location.{Location}
use Rattle.curve_segments.proofs.First.{firsts_long}
use Rattle.curve_places.proofs.Inverses.{by_length_at}
use Rattle.curve_places.proofs.Position.{segment-within, location-width, value-blended}
use Rattle.curve.specs.Pairs.{pair_of}
use Rattle.curve.proofs.write_values.Goals as goal

-- the segment that is found for a position that was read
module _ (breaks degrees orders : List ℤ) (legal : ListsLegal breaks degrees orders) (x : ℤ)
    (within : Within (space breaks degrees orders) x) (fits : FitsSigned w32 x) (segment : ℕ)
    (found_there : segment ≡ segment_at (space breaks degrees orders) (to_z w32 (of_z w32 x))) where
  abbrev lists : Space
  lists = space breaks degrees orders

  x_is : to_z w32 (of_z w32 x) ≡ x
  x_is = to_z-of_z w32 x fits

  found : segment ≡ segment_at lists x
  found = found_there ∙ ap (segment_at lists) x_is

  inside : segment < length degrees
  inside = segment-within _ _ _ legal x within segment found

  -- the position's location
  module _ (place : Location) (is : place ≡ location_of lists (to_z w32 (of_z w32 x))) where
    -- the value that some ordinates have there
    value_there : (os : List ℤ) → value_of os place ≡ blended lists os (segment_at lists x) x
    value_there os = ap (value_of os) is ∙ ap (λ (z : ℤ). value_of os (location_of lists z)) x_is ∙ value-blended lists os x

    -- the segment's length, and its number in an array of inverses
    width_there : place.width ≡ pos (fine_width lists segment)
    width_there =
        ap (λ (p : Location). p.width) is
        ∙ location-width lists _
        ∙ ap (λ (i : ℕ). pos (fine_width lists i)) (sym found_there)

    number_there : (f : ℤ → ℤ) (l : List ℤ) → l ≡ by_length f (space breaks degrees []) → get_or l segment (pos 0) ≡ f place.width
    number_there f l e =
        ap (λ (ns : List ℤ). get_or ns segment (pos 0)) e ∙ by_length_at _ _ _ legal segment inside f ∙ ap f (sym width_there)

pub loop-k-init : goal.loop-k-init
loop-k-init c = record { segment = omega (arith, c.requires.legal.some); written = pairs-none _ _ }

pub segment_near-at-requires : goal.segment_near-at-requires
segment_near-at-requires c =
    let a = c.args in
    let long = firsts_long (space a.breaks.now a.degrees.now a.orders.now) in (
      c.loop-k.invariant.segment,
      omega (arith, c.requires.legal.few, ap length c.first_positions-firsts.ensures, long),
    )

pub location_at-location-requires : goal.location_at-location-requires
location_at-location-requires c =
    let a = c.args in
    let k = c.loop-k.k in
    let fits : FitsSigned w32 (get_or a.positions.now k (pos 0)) = search rules in
    record {
      orders = a.orders.now;
      legal = c.requires.legal;
      within = simp to_z-of_z (c.requires.within k (omega arith));
      found = c.segment_near-at.ensures _ _ _ c.requires.legal c.first_positions-firsts.ensures refl;
      columns_are = c.first_columns-columns.ensures;
    }

pub offset_bounds-wholes-at : goal.offset_bounds-wholes-at
offset_bounds-wholes-at c =
    let a = c.args in
    let legal = c.requires.legal in
    let x = get_or a.positions.now c.loop-k.k (pos 0) in
    let within = c.requires.within c.loop-k.k (omega arith) in
    let fits : FitsSigned w32 (get_or a.positions.now c.loop-k.k (pos 0)) = search rules in
    let segment = c.segment_near-at.result in
    let found : segment ≡ segment_at (space a.breaks.now a.degrees.now a.orders.now) (to_z w32 (of_z w32 x)) =
    c.segment_near-at.ensures _ _ _ legal c.first_positions-firsts.ensures refl in
    omega (arith, inside a.breaks.now a.degrees.now a.orders.now legal x within fits segment found, legal.few)

pub bounds-wholes-at : goal.bounds-wholes-at
bounds-wholes-at c =
    let a = c.args in
    let legal = c.requires.legal in
    let x = get_or a.positions.now c.loop-k.k (pos 0) in
    let within = c.requires.within c.loop-k.k (omega arith) in
    let fits : FitsSigned w32 (get_or a.positions.now c.loop-k.k (pos 0)) = search rules in
    let segment = c.segment_near-at.result in
    let found : segment ≡ segment_at (space a.breaks.now a.degrees.now a.orders.now) (to_z w32 (of_z w32 x)) =
    c.segment_near-at.ensures _ _ _ legal c.first_positions-firsts.ensures refl in
    omega (arith, inside a.breaks.now a.degrees.now a.orders.now legal x within fits segment found, legal.few)

pub offset_bounds-tails-at : goal.offset_bounds-tails-at
offset_bounds-tails-at c =
    let a = c.args in
    let legal = c.requires.legal in
    let x = get_or a.positions.now c.loop-k.k (pos 0) in
    let within = c.requires.within c.loop-k.k (omega arith) in
    let fits : FitsSigned w32 (get_or a.positions.now c.loop-k.k (pos 0)) = search rules in
    let segment = c.segment_near-at.result in
    let found : segment ≡ segment_at (space a.breaks.now a.degrees.now a.orders.now) (to_z w32 (of_z w32 x)) =
    c.segment_near-at.ensures _ _ _ legal c.first_positions-firsts.ensures refl in
    omega (arith, inside a.breaks.now a.degrees.now a.orders.now legal x within fits segment found, legal.few)

pub bounds-tails-at : goal.bounds-tails-at
bounds-tails-at c =
    let a = c.args in
    let legal = c.requires.legal in
    let x = get_or a.positions.now c.loop-k.k (pos 0) in
    let within = c.requires.within c.loop-k.k (omega arith) in
    let fits : FitsSigned w32 (get_or a.positions.now c.loop-k.k (pos 0)) = search rules in
    let segment = c.segment_near-at.result in
    let found : segment ≡ segment_at (space a.breaks.now a.degrees.now a.orders.now) (to_z w32 (of_z w32 x)) =
    c.segment_near-at.ensures _ _ _ legal c.first_positions-firsts.ensures refl in
    omega (arith, inside a.breaks.now a.degrees.now a.orders.now legal x within fits segment found, legal.few)

pub pair_at-pair-requires : goal.pair_at-pair-requires
pair_at-pair-requires c =
    let a = c.args in
    let legal = c.requires.legal in
    let x = get_or a.positions.now c.loop-k.k (pos 0) in
    let within = c.requires.within c.loop-k.k (omega arith) in
    let fits : FitsSigned w32 (get_or a.positions.now c.loop-k.k (pos 0)) = search rules in
    let segment = c.segment_near-at.result in
    let found : segment ≡ segment_at (space a.breaks.now a.degrees.now a.orders.now) (to_z w32 (of_z w32 x)) =
    c.segment_near-at.ensures _ _ _ legal c.first_positions-firsts.ensures refl in
    let place = c.location_at-location.result in
    let is = c.location_at-location.ensures.is a.orders.now found in
    let number = number_there a.breaks.now a.degrees.now a.orders.now legal x within fits segment found place is in
    let whole : FitsSigned w64 (get_or c.inverse_wholes-wholes.result segment (pos 0)) = search rules in
    let tail : FitsSigned w64 (get_or c.inverse_tails-tails.result segment (pos 0)) = search rules in
    record {
      sound = c.location_at-location.ensures.sound;
      inverted = record {
        whole_is = to_z-of_z w64 _ whole ∙ number whole_of _ c.inverse_wholes-wholes.ensures;
        tail_is = to_z-of_z w64 _ tail ∙ number tail_of _ c.inverse_tails-tails.ensures;
      };
      early_ordinates = c.requires.early_ordinates;
      late_ordinates = c.requires.late_ordinates;
    }

pub loop-k-preserved : goal.loop-k-preserved
unfolding pair_of
loop-k-preserved c =
    let a = c.args in
    let legal = c.requires.legal in
    let x = get_or a.positions.now c.loop-k.k (pos 0) in
    let within = c.requires.within c.loop-k.k (omega arith) in
    let fits : FitsSigned w32 (get_or a.positions.now c.loop-k.k (pos 0)) = search rules in
    let segment = c.segment_near-at.result in
    let found : segment ≡ segment_at (space a.breaks.now a.degrees.now a.orders.now) (to_z w32 (of_z w32 x)) =
    c.segment_near-at.ensures _ _ _ legal c.first_positions-firsts.ensures refl in
    let s = space a.breaks.now a.degrees.now a.orders.now in
    let place = c.location_at-location.result in
    let is = c.location_at-location.ensures.is a.orders.now found in
    let value = value_there a.breaks.now a.degrees.now a.orders.now legal x within fits segment found place is in
    let k = c.loop-k.k in
    let early = c.pair_at-pair.result.early in
    let late = c.pair_at-pair.result.late in
    let early_fits : FitsSigned w32 c.pair_at-pair.result.early = search rules in
    let late_fits : FitsSigned w32 c.pair_at-pair.result.late = search rules in
    let pairs = λ (j : ℕ). pair_of s a.earlywood.now a.latewood.now (get_or a.positions.now j (pos 0)) in
    let stored_early : to_z w32 (of_z w32 early) ≡ (pairs k).early =
    to_z-of_z w32 early early_fits ∙ c.pair_at-pair.ensures.early_is ∙ value a.earlywood.now in
    let stored_late : to_z w32 (of_z w32 late) ≡ (pairs k).late =
    to_z-of_z w32 late late_fits ∙ c.pair_at-pair.ensures.late_is ∙ value a.latewood.now in
    let before = side_by_side (tab k pairs) ++ drop (2 * k) a.values.now in
    record {
      segment = inside a.breaks.now a.degrees.now a.orders.now legal x within fits segment found;
      written =
          ap (λ (l : List ℤ). set (set l (2 * k) (to_z w32 (of_z w32 early))) (2 * k + 1) (to_z w32 (of_z w32 late)))
          c.loop-k.invariant.written
          ∙ ap₂ (λ (y z : ℤ). set (set before (2 * k) y) (2 * k + 1) z) stored_early stored_late
          ∙ pairs_more pairs k a.values.now (omega (arith, c.requires.room));
    }

pub returns : goal.returns
returns c =
    let l = c.loop-k in
    let a = c.args in
    let ps = a.positions.now in
    let f = pair_of (space a.breaks.now a.degrees.now a.orders.now) a.earlywood.now a.latewood.now in
    let all : l.k ≡ length ps = omega arith in
    l.invariant.written
    ∙ ap (λ (k : ℕ). side_by_side (tab k (λ j. f (get_or ps j (pos 0)))) ++ drop (2 * k) a.values.now) all
    ∙ ap (λ (l : List Pair). side_by_side l ++ drop (2 * length ps) a.values.now)
    (sym (map_tab f (length ps) (λ j. get_or ps j (pos 0))) ∙ ap (map f) (tab_self ps (pos 0)))
