-- The slices are the lists of the part and its ordinates, which are legal. Assumes nothing.
use borrow.Author.Rules.{rules}
use mathlib.Core.Path.{◌≡◌, refl, sym, ◌∙◌, ap, ap₂, subst}
use mathlib.Core.Bool.{true}
use mathlib.Core.List.{List, [], ◌∷◌, map}
use Prim.Native.Nat.{ℕ, zero, suc, ◌+◌, ◌-◌, ◌<◌, ◌≤◌}
use native.Mathlib.Omega.{arith}
use native.Mathlib.Decide.{dec_lt}
use lib.IntN.{ℤ, pos}
use lib.ListN.{length, take, drop, length-drop, length-take, get_or-eq_default}
use lib.Seq.{get_or-take, get_or-drop, length-take-le}
use Rattle.base_exact.specs.Rational.{int}
use Rattle.base_fraction.specs.Size.{fits}
use Rattle.base_fraction.proofs.Size.{int-fits}
use Rattle.spec_spline.specs.Space.{Space, segments, first_column, column_count, row_count}
use Rattle.spec_spline.specs.Table.{entry}
use Rattle.spec_spline.proofs.Space.{first_column_mono}
use Rattle.theorems_beams.specs.Sections.{section}
use Rattle.theorems_beams.proofs.Sections.{section-column_count}
use Rattle.build_space.specs.Machine.{space}
use Rattle.build_space.proofs.Legal.{legal_first-column-high}
use Rattle.build_space.proofs.Partial.{first-column_partial}
use Rattle.build_factors.specs.Jumps.{AllFit}
use Rattle.build.proofs.Beam.{sliced, Lies, part_lies, slices_legal}
use Rattle.spec_calls.specs.Recovery.{recovered}
use Rattle.recover_joins.specs.Leaves.{JoinsLeave}
use Rattle.recover.proofs.parts.recover_at.Statement.{statement}
use Rattle.recover.proofs.parts.recover_at.Tie as tie

-- ---- a part of ordinates that fit

map_take : (n : ℕ) (os : List ℤ) → map int (take n os) ≡ take n (map int os)
map_take zero os = refl
map_take (suc n) [] = refl
map_take (suc n) (o ∷ os) = ap (λ r. int o ∷ r) (map_take n os)

map_drop : (n : ℕ) (os : List ℤ) → map int (drop n os) ≡ drop n (map int os)
map_drop zero os = refl
map_drop (suc n) [] = refl
map_drop (suc n) (o ∷ os) = map_drop n os

slice-fit : (m n : ℕ) (os : List ℤ) → AllFit (map int os) → AllFit (map int (take n (drop m os)))
slice-fit m n os p k = ap (λ ps. fits (entry ps k)) (map_take n (drop m os) ∙ ap (take n) (map_drop m os)) ∙ go (dec_lt k n)
  where
    go : Dec (k < n) → fits (entry (take n (drop m (map int os))) k) ≡ true
    go (yes h) = ap fits (get_or-take n (drop m (map int os)) k (int (pos 0)) h ∙ get_or-drop m (map int os) k (int (pos 0))) ∙ p (m + k)
    go (no h) = ap fits (get_or-eq_default (take n (drop m (map int os))) (int (pos 0)) (omega (arith, length-take n (drop m (map int os))))) ∙ int-fits (pos 0) (omega arith)

lies : (s : tie.Start) → Lies (length s.args.breaks.now) (length s.args.degrees.now) (length s.args.orders.now) s.args.a s.args.b
lies s = part_lies _ _ _ s.requires.legal s.requires.part.starts s.requires.part.ends

-- where its ordinates lie
record Columns (ordinates from to : ℕ) : Type 0 where
  ordered : from ≤ to
  inside : to ≤ ordinates
  few : ordinates ≤ 288

module _ (c : tie.After-first_column-to) where
  abbrev start : tie.Start
  start = c.before.before

  abbrev lists : Space
  lists = space start.args.breaks.now start.args.degrees.now start.args.orders.now

  from_is : c.first_column-from.result ≡ first_column lists start.args.a
  from_is = c.first_column-from.ensures ∙ first-column_partial _ _ _ start.args.a

  to_is : c.first_column-to.result ≡ first_column lists start.args.b
  to_is = c.first_column-to.ensures ∙ first-column_partial _ _ _ start.args.b

  whole : start.args.a + (start.args.b - start.args.a) ≡ start.args.b
  whole = omega (arith, (lies start).some)

  own : Columns (length start.args.ordinates.now) c.first_column-from.result c.first_column-to.result
  own =
      let l = start.requires.legal in
      record {
        ordered = omega (arith, from_is, to_is, first_column_mono lists start.args.a start.args.b (omega (arith, whole)));
        inside = omega (arith, to_is, first_column_mono lists start.args.b (segments lists) (lies start).within, start.requires.given.count);
        few = omega (arith, start.requires.given.count, legal_first-column-high _ _ _ l (segments lists) (omega arith), l.few);
      }

  -- the slices are the part
  part_is : space (take (start.args.b + 1 - start.args.a) (drop start.args.a start.args.breaks.now))
      (take (start.args.b - start.args.a) (drop start.args.a start.args.degrees.now))
      (take (start.args.b - 1 - start.args.a) (drop start.args.a start.args.orders.now)) ≡ section lists start.args.a
      (start.args.b - start.args.a)
  part_is = sliced lists start.args.a start.args.b (lies start).some

  -- and its columns those of its ordinates
  columns_are : c.first_column-to.result - c.first_column-from.result ≡ column_count (section lists start.args.a (start.args.b - start.args.a))
  columns_are = omega (arith, from_is, to_is, ap (first_column lists) whole, section-column_count lists start.args.a (start.args.b - start.args.a) (omega (arith, whole, (lies start).within)))

recover-part-requires : tie.Need-recover_part-requires
recover-part-requires c κs =
    let f = c in
    let s = start f.before.before.before.before.before.before in
    let l = own f.before.before.before.before.before.before in
    record {
      part = slices_legal _ _ _ s.requires.legal s.requires.part.starts s.requires.part.ends;
      room = s.requires.room;
      given = record {
        count = length-take-le (f.first_column-to.result - f.first_column-from.result) (drop f.first_column-from.result s.args.ordinates.now)
            (omega (arith, l.ordered, l.inside, length-drop f.first_column-from.result s.args.ordinates.now))
            ∙ columns_are f.before.before.before.before.before.before ∙ ap column_count (sym (part_is f.before.before.before.before.before.before));
        fit = slice-fit f.first_column-from.result (f.first_column-to.result - f.first_column-from.result) s.args.ordinates.now
            s.requires.given.fit;
      };
    }

returns : tie.Need-returns
returns c =
    let m = c in
    let f = m in
    let s = start f.before.before.before.before.before.before.before.before.before in
    let part = section (lists f.before.before.before.before.before.before.before.before.before) s.args.a (s.args.b - s.args.a) in
    subst (λ (os : List ℤ). JoinsLeave (recovered part os) (row_count part) m.recover_part.result s.args.num.now s.args.den.now
    m.recover_part.new.num m.recover_part.new.den)
    (ap₂ (λ (n : ℕ) (i : ℕ). take n (drop i s.args.ordinates.now)) (columns_are f.before.before.before.before.before.before.before.before.before) (from_is f.before.before.before.before.before.before.before.before.before))
    (subst (λ (p : Space). JoinsLeave (recovered p (take (f.first_column-to.result - f.first_column-from.result)
    (drop f.first_column-from.result s.args.ordinates.now))) (row_count p) m.recover_part.result s.args.num.now s.args.den.now
    m.recover_part.new.num m.recover_part.new.den)
    (part_is f.before.before.before.before.before.before.before.before.before) m.recover_part.ensures)

pub recover_at_spec : {M : Type 1} → statement M
recover_at_spec =
    tie.close (tie.spec (λ c κs. search rules)
    (λ c κs. let s = c in ((lies s.before).within, (s.requires.legal.few, s.requires.legal.degrees_legal)))
    (λ c. let l = lies (start c) in omega arith) (λ c. search rules) (λ c. let l = lies (start c) in omega arith)
    (λ c. let l = lies (start c) in omega arith) (λ c. let l = lies (start c) in omega arith) (λ c. search rules)
    (λ c. let l = lies (start c.before) in omega arith) (λ c. let l = lies (start c.before) in omega arith)
    (λ c. let l = lies (start c.before) in omega arith) (λ c. let l = lies (start c.before.before) in omega arith)
    (λ c. search rules) (λ c. let l = lies (start c.before.before) in omega arith)
    (λ c. let l = lies (start c.before.before) in omega arith) (λ c. let l = lies (start c.before.before) in omega arith)
    (λ c. let l = own c.before.before.before in omega arith) (λ c. let l = own c.before.before.before in omega arith)
    (λ c. let l = own c.before.before.before in omega arith) (λ c. let l = own c.before.before.before in omega arith)
    recover-part-requires (λ c. search rules) (λ c. search rules) returns)
