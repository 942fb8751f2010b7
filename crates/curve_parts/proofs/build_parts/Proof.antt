-- `curve_parts::build_parts` meets its contract: before the turn at a the parts before segment a are built, the buffers hold the
-- last of them, and the ordinates of their columns are at the front of the two lists. Assumes nothing.
use borrow.Author.Rules.{rules}
use native.Mathlib.Omega.{arith}
use mathlib.Core.List.{List}
use mathlib.Core.Path.{◌≡◌, refl, sym, ◌∙◌, ap}
use Prim.Native.Nat.{ℕ, ◌+◌, ◌-◌, ◌<◌, ◌≤◌}
use lib.IntN.{ℤ}
use lib.ListN.{length, take, drop, length-drop}
use lib.Seq.{length-take-le}
use borrow.Rule.Slice.PartMut.{put_mid, same_len_mid}
use Rattle.std.specs.Prelude.{Ok}
use Rattle.spec_spline.specs.Space.{Space, part_end, first_column, column_count}
use Rattle.spec_spline.proofs.Space.{first_column_mono}
use Rattle.spec_spline.proofs.Parts.{part-ends}
use Rattle.theorems_beams.specs.Sections.{part_at}
use Rattle.build_space.specs.Machine.{space}
use Rattle.build_space.proofs.Legal.{legal_column-count-high}
use Rattle.build_space.proofs.Partial.{part_end_partial, first-column_partial}
use Rattle.build.proofs.Beam.{starts, rows-high}
use Rattle.curve_parts.specs.Parts.{Lent, lent}
use Rattle.curve_parts.proofs.Fronts.{Front, front-first, rows-within, columns_more, front_more, front_refused, front-whole}
use Rattle.curve_parts.proofs.build_parts.Statement.{statement}
use Rattle.curve_parts.proofs.build_parts.Tie as tie

record Inv (s : Space) (coefs : List ℤ) (l₀ l : Lent) (row column a : ℕ) : Type 0 where
  num_long : length l.num ≡ length l₀.num
  den_long : length l.den ≡ length l₀.den
  early_long : length l.early ≡ length l₀.early
  late_long : length l.late ≡ length l₀.late
  front : Front s coefs l₀ row column a l

abbrev invariant-loop : tie.invariant-loop-a
invariant-loop breaks degrees orders coefs num₀ den₀ early₀ late₀ row₀ column₀ a₀ num den early late row column a =
    Inv (space breaks degrees orders) coefs (lent num₀ den₀ early₀ late₀) (lent num den early late) row column a

abbrev decreases-loop : tie.decreases-loop-a
decreases-loop breaks degrees orders coefs num₀ den₀ early₀ late₀ row₀ column₀ a₀ num den early late row column a = length degrees - a

-- the beam, its coefficients, and the lists as they are lent
module _ (c : tie.Start invariant-loop decreases-loop) where
  abbrev lists : Space
  lists = space c.args.breaks.now c.args.degrees.now c.args.orders.now

  abbrev coefs : List ℤ
  coefs = c.args.coefs.now

  abbrev lent₀ : Lent
  lent₀ = lent c.args.num.now c.args.den.now c.args.early.now c.args.late.now

loop-holds : tie.Need-loop-a-init invariant-loop decreases-loop
loop-holds c = record {
  num_long = refl;
  den_long = refl;
  early_long = refl;
  late_long = refl;
  front = front-first (lists c) (coefs c) (lent₀ c);
}

taken : (c : tie.In-loop-a invariant-loop decreases-loop) → c.loop-a.a < length c.args.degrees.now
taken c = omega arith

-- the part's end
module _ (c : tie.After-part_end-b invariant-loop decreases-loop) where
  abbrev start : tie.Start invariant-loop decreases-loop
  start = c.before.before.before

  abbrev first : ℕ
  first = c.loop-a.a

  abbrev part : Space
  part = part_at (lists start) first

  end_is : c.part_end-b.result ≡ part_end (lists start) first
  end_is = c.part_end-b.ensures ∙ part_end_partial _ _ _ first

  end_within : c.part_end-b.result ≤ length start.args.degrees.now
  end_within = omega (arith, end_is, (part-ends (lists start) first (taken c.before)).boundary.within)

-- the part's columns
module _ (c : tie.After-first_column-end invariant-loop decreases-loop) where
  abbrev ended : tie.After-part_end-b invariant-loop decreases-loop
  ended = c.before

  abbrev turn : tie.At-loop-a invariant-loop decreases-loop
  turn = ended.before.before

  abbrev entry : tie.Start invariant-loop decreases-loop
  entry = start ended

  abbrev held : Lent
  held = lent turn.loop-a.num turn.loop-a.den turn.loop-a.early turn.loop-a.late

  abbrev front : Front (lists entry) (coefs entry) (lent₀ entry) turn.loop-a.row turn.loop-a.column (first ended) held
  front = turn.loop-a.invariant.front

  columns_end : c.first_column-end.result ≡ first_column (lists entry) (part_end (lists entry) (first ended))
  columns_end =
      c.first_column-end.ensures
      ∙ first-column_partial _ _ _ ended.part_end-b.result
      ∙ ap (first_column (lists entry)) (end_is ended)

  -- as many as the part has
  size : turn.loop-a.column + column_count (part ended) ≡ c.first_column-end.result
  size = columns_more (lists entry) entry.requires.legal _ _ front (taken ended.before) ∙ sym columns_end

  columns-within : c.first_column-end.result ≤ column_count (lists entry)
  columns-within =
      omega (
        arith,
        columns_end,
        first_column_mono (lists entry) (part_end (lists entry) (first ended)) (length entry.args.degrees.now)
            (omega (arith, end_is ended, end_within ended)),
      )

  columns_few : c.first_column-end.result ≤ 288
  columns_few = omega (arith, columns-within, legal_column-count-high _ _ _ entry.requires.legal)

  early_room : c.first_column-end.result ≤ length held.early
  early_room = omega (arith, columns-within, turn.loop-a.invariant.early_long, entry.requires.early_long)

  late_room : c.first_column-end.result ≤ length held.late
  late_room = omega (arith, columns-within, turn.loop-a.invariant.late_long, entry.requires.late_long)

-- the cells lent for them
middle-length : (xs : List ℤ) (a e : ℕ) {n : ℕ} → e ≤ length xs → a + n ≡ e → length (take (e - a) (drop a xs)) ≡ n
middle-length xs a e h k = length-take-le (e - a) (drop a xs) (rw (length-drop a xs) (omega arith)) ∙ omega arith

build-part-requires : tie.Need-build_part-built-requires invariant-loop decreases-loop
build-part-requires c κs =
    let f = c in
    let s = entry f.before.before.before.before in
    let i = (turn f.before.before.before.before).loop-a.invariant in
    let t = taken (ended f.before.before.before.before).before in
    record {
      part = record { legal = s.requires.legal; starts = starts _ _ _ s.requires.legal i.front.state t; ends = end_is (ended f.before.before.before.before) };
      coefficients = s.requires.coefficients;
      rows-within = rows-within (lists s) s.requires.legal _ _ (front f.before.before.before.before) t;
      room = record {
        num_long = omega (arith, s.requires.room.num_long, i.num_long);
        den_long = omega (arith, s.requires.room.den_long, i.den_long);
      };
      early_long = middle-length _ _ _ (early_room f.before.before.before.before) (size f.before.before.before.before);
      late_long = middle-length _ _ _ (late_room f.before.before.before.before) (size f.before.before.before.before);
    }

-- what the part answers and leaves
module _ (c : tie.After-build_part-built invariant-loop decreases-loop) where
  abbrev placed : tie.After-first_column-end invariant-loop decreases-loop
  placed = c.before.before.before.before.before

  abbrev at : tie.After-part_end-b invariant-loop decreases-loop
  at = ended placed

  abbrev begun : tie.Start invariant-loop decreases-loop
  begun = start at

  -- where the part's columns stand
  abbrev column : ℕ
  column = (turn placed).loop-a.column

  abbrev end : ℕ
  end = placed.first_column-end.result

  -- the two buffers, and the cells lent for the part
  abbrev left : Lent
  left = let l = c.build_part-built.new in lent l.num l.den l.early l.late

  abbrev after : Lent
  after = lent left.num left.den
      (put_mid column (end - column) (held placed).early left.early) (put_mid column (end - column) (held placed).late left.late)

  -- one part more
  more : {n : ℕ} → c.build_part-built.result ≡ Ok n
      → Front (lists begun) (coefs begun) (lent₀ begun) ((turn placed).loop-a.row + n) end at.part_end-b.result after
  more e = front_more (lists begun) begun.requires.legal _ _ (front placed) (taken at.before) end (columns_end placed)
      c.build_part-built.result {l' = left} c.build_part-built.ensures at.part_end-b.result (end_is at) e

  abbrev Kept : (Lent → List ℤ) → Type 0
  Kept f = length (f after) ≡ length (f (lent₀ begun))

  num_kept : Kept (λ l. l.num)
  num_kept = c.build_part-built.auto.num ∙ (turn placed).loop-a.invariant.num_long

  den-kept : Kept (λ l. l.den)
  den-kept = c.build_part-built.auto.den ∙ (turn placed).loop-a.invariant.den_long

  early_kept : Kept (λ l. l.early)
  early_kept =
      same_len_mid column (end - column) (held placed).early left.early c.build_part-built.auto.early
      ∙ (turn placed).loop-a.invariant.early_long

  late_kept : Kept (λ l. l.late)
  late_kept =
      same_len_mid column (end - column) (held placed).late left.late c.build_part-built.auto.late
      ∙ (turn placed).loop-a.invariant.late_long

add_row : tie.Need-overflow_add-row invariant-loop decreases-loop
add_row c =
    let m = c in
    omega (arith, rows-high _ _ _ (begun m.before.before.before.before.before).requires.legal (more m.before.before.before.before.before c.in-Ok.is).state)

add-place : tie.Need-overflow_add-a invariant-loop decreases-loop
add-place c =
    let m = c in
    omega (arith, taken (at m.before.before.before.before.before.before).before, (begun m.before.before.before.before.before.before).requires.legal.few)

returns : tie.Need-returns-in-Err invariant-loop decreases-loop
returns c =
    let m = c in
    front_refused (lists (begun m.before.before.before.before.before.before.before)) (begun m.before.before.before.before.before.before.before).requires.legal _ _ (front (placed m.before.before.before.before.before.before.before)) (taken (at m.before.before.before.before.before.before.before).before) (end m.before.before.before.before.before.before.before) (columns_end (placed m.before.before.before.before.before.before.before))
    m.build_part-built.result {l' = left m.before.before.before.before.before.before.before} m.build_part-built.ensures c.in-Err.is c.place.ensures

loop-less : tie.Need-loop-a-smaller invariant-loop decreases-loop
loop-less c =
    let m = c in
    omega (arith, end_is (at m.before.before.before.before.before), (part-ends (lists (begun m.before.before.before.before.before)) (first (at m.before.before.before.before.before)) (taken (at m.before.before.before.before.before).before)).above, taken (at m.before.before.before.before.before).before)

loop-again : tie.Need-loop-a-preserved invariant-loop decreases-loop
loop-again c =
    let m = c in
    record {
      num_long = num_kept m.before.before.before.before.before;
      den_long = den-kept m.before.before.before.before.before;
      early_long = early_kept m.before.before.before.before.before;
      late_long = late_kept m.before.before.before.before.before;
      front = more m.before.before.before.before.before c.in-Ok.is;
    }

returns-2 : tie.Need-returns invariant-loop decreases-loop
returns-2 c = let s = c in front-whole (lists s.before.before) s.requires.legal _ _ c.loop-a.invariant.front (omega arith)

pub build_parts_spec : {M : Type 1} → statement M
build_parts_spec =
    tie.close (tie.spec invariant-loop decreases-loop loop-holds (λ c κs. (taken c, sym c.requires.legal.order-count))
    (λ c κs. let legal = (start c).requires.legal in (end_within c, (legal.few, legal.degrees_legal)))
    (λ c. let f = c in omega (arith, size f.before.before, columns_few f.before.before, early_room f.before.before))
    (λ c. let f = c in omega (arith, size f.before.before, columns_few f.before.before, early_room f.before.before))
    (λ c. let f = c in omega (arith, size f.before.before, columns_few f.before.before, early_room f.before.before))
    (λ c. let f = c in omega (arith, size f.before.before, columns_few f.before.before, early_room f.before.before))
    (λ c. let f = c in omega (arith, size f.before.before.before, columns_few f.before.before.before, late_room f.before.before.before))
    (λ c. let f = c in omega (arith, size f.before.before.before, columns_few f.before.before.before, late_room f.before.before.before))
    (λ c. let f = c in omega (arith, size f.before.before.before, columns_few f.before.before.before, late_room f.before.before.before))
    (λ c. let f = c in omega (arith, size f.before.before.before, columns_few f.before.before.before, late_room f.before.before.before)) build-part-requires (λ c. search rules)
    add_row (λ c. search rules) (λ c. omega arith) add-place (λ c κs. tt)
    (λ c. let m = c in num_kept m.before.before.before.before.before.before.before)
    (λ c. let m = c in den-kept m.before.before.before.before.before.before.before)
    (λ c. let m = c in early_kept m.before.before.before.before.before.before.before)
    (λ c. let m = c in late_kept m.before.before.before.before.before.before.before) returns loop-less loop-again
    (λ c. c.loop-a.invariant.num_long) (λ c. c.loop-a.invariant.den_long) (λ c. c.loop-a.invariant.early_long)
    (λ c. c.loop-a.invariant.late_long) returns-2)
