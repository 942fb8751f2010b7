-- `curve_places::location_at` meets its contract: the columns of the segment that holds the position, and the offset in it.
-- Assumes nothing.
use native.Mathlib.Omega.{arith}
use mathlib.Core.List.{List, []}
use mathlib.Core.Path.{◌≡◌, ap, ◌∙◌}
use Prim.Native.Nat.{ℕ, ◌+◌, ◌<◌, ◌≤◌}
use lib.IntN.{ℤ, pos}
use lib.ListN.{length, get_or}
use mir.Syntax.{w32, w64}
use mir.Val.{of_z, to_z}
use mir.ValLaws.{to_z-of_z}
use Rattle.spec_spline.specs.Space.{first_column}
use Rattle.spec_spline.specs.Reading.{segment_at, fine_width, offset}
use Rattle.build_space.specs.Machine.{space}
use Rattle.build_space.specs.Legal.{ListsLegal}
use Rattle.curve_rate.specs.Rate.{Offset}
use Rattle.curve_places.proofs.Position.{segment-within, offset-within, column_at, columns-within, degree-within, columns_long}
use Rattle.curve_places.proofs.Position.{location_is}
use Rattle.curve_places.proofs.location_at.Statement.{statement}
use Rattle.curve_places.proofs.location_at.Tie as tie

module _ (c : tie.Start) where
  abbrev i : ℕ
  i = c.args.i

  abbrev orders : List ℤ
  orders = c.requires.orders

  legal : ListsLegal c.args.breaks.now c.args.degrees.now orders
  legal = c.requires.legal

  found : i ≡ segment_at (space c.args.breaks.now c.args.degrees.now orders) c.args.x
  found = c.requires.found

  within : i < length c.args.degrees.now
  within = segment-within c.args.breaks.now c.args.degrees.now orders legal c.args.x c.requires.within i found

  offset_is : Offset (offset (space c.args.breaks.now [] []) i c.args.x) (pos (fine_width (space c.args.breaks.now [] []) i))
  offset_is = offset-within c.args.breaks.now c.args.degrees.now orders legal c.args.x c.requires.within i found

offset-requires : tie.Need-offset-u-requires
offset-requires c κs =
    let s = c in
    record { within = omega (arith, within s.before.before, (legal s.before.before).break-count); legal = (legal s.before.before).breaks_legal }

fine-width-requires : tie.Need-fine_width-d-requires
fine-width-requires c κs =
    let s = c in
    record { within = omega (arith, within s.before.before.before, (legal s.before.before.before).break-count); legal = (legal s.before.before.before).breaks_legal }

shared-slice-read-c : tie.Need-bounds-columns-i
shared-slice-read-c c =
    let s = c in
    omega (arith, within s.before.before.before.before.before, (legal s.before.before.before.before.before).few, ap length s.requires.columns_are, columns_long s.args.degrees.now)

module _ (c : tie.After-fine_width-d) where
  abbrev start : tie.Start
  start = c.before.before.before.before

  abbrev column : ℕ
  column = get_or start.args.columns.now (i start) 0

  column_is : column ≡ first_column (space [] start.args.degrees.now []) (i start)
  column_is =
      ap (λ xs. get_or xs (i start) 0) start.requires.columns_are
      ∙ column_at start.args.breaks.now _ _ (legal start) (i start) (within start)

  p_small : c.degree_at-p.result ≤ 5
  p_small = rw c.degree_at-p.ensures (degree-within start.args.breaks.now _ _ (legal start) (i start) (within start))

  u_is : to_z w64 (of_z w64 c.offset-u.result) ≡ offset (space start.args.breaks.now [] []) (i start) start.args.x
  u_is =
      to_z-of_z w64 _ (record { sfits = c.offset-u.type_inv }) ∙ c.offset-u.ensures
      ∙ ap (λ (z : ℤ). offset (space start.args.breaks.now [] []) (i start) z) (to_z-of_z w32 _ start.ranges.x)

  d_is : to_z w64 (of_z w64 c.fine_width-d.result) ≡ pos (fine_width (space start.args.breaks.now [] []) (i start))
  d_is = to_z-of_z w64 _ (record { sfits = c.fine_width-d.type_inv }) ∙ c.fine_width-d.ensures

  column-within : column + c.degree_at-p.result < 288
  column-within =
      omega (
        arith,
        column_is,
        c.degree_at-p.ensures,
        columns-within start.args.breaks.now start.args.degrees.now (orders start) (legal start) (i start) (within start),
      )

returns : tie.Need-returns
returns c =
    let e = c in
    let s = start e.before in
    let a = s.args in
    record {
      is = λ o at. location_is a.breaks.now a.degrees.now o a.x (i s) at (column_is e.before) e.degree_at-p.ensures
          (u_is e.before) (d_is e.before);
      sound = record { low = p_small e.before; within = column-within e.before; inside = rw (u_is e.before, d_is e.before) (offset_is s) };
    }

pub location_at_spec : {M : Type 1} → statement M
location_at_spec =
    tie.close (tie.spec (λ c κs. let s = c in (within s.before, (legal s.before).degrees_legal)) offset-requires fine-width-requires
    (λ c. let s = c in omega (arith, within s.before.before.before.before, (legal s.before.before.before.before).few)) shared-slice-read-c returns)
