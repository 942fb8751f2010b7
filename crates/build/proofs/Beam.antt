-- The loop over the parts of a beam, in the definitions' terms: after the parts before segment a the buffers hold the last of them,
-- and the beam's front up to a is answered. A part that is refused refuses the beam; after the last part the front is the beam.
use mathlib.Core.Path.{◌≡◌, refl, sym, ◌∙◌, ap, ap₂, subst}
use mathlib.Core.Bool.{false}
use mathlib.Core.List.{List, []}
use Prim.Native.Nat.{ℕ, suc, ◌+◌, ◌-◌, ◌<◌, ◌≤◌}
use native.Mathlib.Omega.{arith}
use lib.IntN.{ℤ}
use lib.ListN.{length, take, drop}
use Rattle.std.specs.Prelude.{Err, Ok}
use Rattle.base_outcome.specs.Machine.{refused}
use Rattle.base_exact.proofs.Decide.{cond_true, cond_false}
use Rattle.base_outcome.specs.Outcome.{Outcome, answer, refusal, capped}
use Rattle.base_outcome.proofs.Outcome.{answer_unique}
use Rattle.spec_spline.specs.Space.{Space, part_end, first_column, column_count, conditions_before, row_count}
use Rattle.spec_spline.specs.Table.{Table, numerators, denominators}
use Rattle.spec_spline.specs.Build.{weights, last_part, clears, numerators_after, denominators_after}
use Rattle.spec_spline.proofs.Parts.{Boundary, first-starts, part-ends}
use Rattle.spec_spline.proofs.Legal.{Checked, checked_inverts, lengths_fit_inverts}
use Rattle.build_cells.proofs.Buffer.{numerators-again, denominators-again}
use Rattle.theorems_beams.specs.Sections.{section, part_at, beside}
use Rattle.theorems_beams.specs.Parts.{Starts}
use Rattle.theorems_beams.proofs.Sections.{section_all, front-columns, orders_fit}
use Rattle.theorems_beams.proofs.Ends.{boundary_starts}
use Rattle.theorems_beams.proofs.PartLegal.{part-segments, parts_are_legal}
use Rattle.theorems_beams.proofs.Fronts.{no_front, front-answers, front-refuses, front-rows, front-rows_more, front-last_part, refused_front}
use Rattle.build_space.specs.Machine.{space}
use Rattle.build_space.specs.Legal.{ListsLegal, PartLegal}
use Rattle.build_space.proofs.Legal.{checked_legal, legal_checked, legal_first-column-high}
use Rattle.base_outcome.specs.Machine.{reply}
use Rattle.build_joins.proofs.Ends.{weights_cleared}
use Rattle.build.specs.Leaves.{BeamEnds}

-- ---- what a call answers and leaves

-- a refusal that leaves the buffers
pub beam_unchanged : (s : Space) (o : Outcome Table) (num den : List ℤ) {code place : ℕ} → o ≡ refusal code place → clears code ≡ false
    → BeamEnds s o (Err (refused code place)) num den num den
unfolding numerators_after denominators_after
beam_unchanged s o num den {code} {place} e kept =
    subst (λ x. BeamEnds s x (Err (refused code place)) num den num den) (sym e)
    (record { answers = refl; numerators_are = sym (cond_false _ _ kept); denominators_are = sym (cond_false _ _ kept) })

-- ---- a buffer while the parts are built

-- It holds the last part of the front up to segment a, and a table laid over that is as one laid over what was there first.
pub record Laid (lay : Table → List ℤ → List ℤ) (s : Space) (a : ℕ) (t : Table) (first now : List ℤ) : Type 0 where
  pub over : (u : Table) → lay u now ≡ lay u first
  pub is : 0 < a → now ≡ lay (last_part (section s 0 a) t) first

laid-first : (lay : Table → List ℤ → List ℤ) (s : Space) (xs : List ℤ) → Laid lay s 0 [] xs xs
laid-first lay s xs = record { over = λ u. refl; is = λ h. absurd (omega arith) }

laid_more : (lay : Table → List ℤ → List ℤ) → ((t u : Table) (xs : List ℤ) → lay t (lay u xs) ≡ lay t xs)
    → (s : Space) {a e : ℕ} {t t' u : Table} {first now next : List ℤ}
    → Laid lay s a t first now → next ≡ lay u now → last_part (section s 0 e) t' ≡ u → Laid lay s e t' first next
laid_more lay again s {u = u} {first = first} {now = now} l p last = record {
  over = λ t. ap (lay t) p ∙ again t u now ∙ l.over t;
  is = λ _. p ∙ l.over u ∙ ap (λ x. lay x first) (sym last);
}

-- ---- the parts of a beam

-- the slices that the machine lends of the three lists are the lists of a section
pub sliced : (s : Space) (a e : ℕ) → a < e
    → space (take (e + 1 - a) (drop a s.breaks)) (take (e - a) (drop a s.degrees)) (take (e - 1 - a) (drop a s.orders)) ≡ section s a (e - a)
sliced s a e l =
    ap₂ (λ m n. space (take m (drop a s.breaks)) (take (e - a) (drop a s.degrees)) (take n (drop a s.orders)))
    (let z : e + 1 - a ≡ suc (e - a) = omega arith in z) (let z : e - 1 - a ≡ e - a - 1 = omega arith in z)

-- where a part lies in the three lists
pub record Lies (breaks degrees orders a e : ℕ) : Type 0 where
  pub some : a < e
  pub within : e ≤ degrees
  pub break-count : breaks ≡ degrees + 1
  pub order-count : orders + 1 ≡ degrees
  pub few : degrees ≤ 48

-- The parts before segment a are built.
pub record Before (s : Space) (num₀ den₀ num den : List ℤ) (rows a : ℕ) : Type 0 where
  pub boundary : Boundary s a
  pub table : Table
  pub answers : weights (section s 0 a) ≡ answer table
  pub rows_are : rows ≡ row_count (section s 0 a)
  pub num_laid : Laid numerators s a table num₀ num
  pub den-laid : Laid denominators s a table den₀ den

pub before-first : (s : Space) (num den : List ℤ) → Before s num den num den 0 0
unfolding first_column conditions_before
before-first s num den = record {
  boundary = record { within = omega arith; starts = λ _. first-starts s };
  table = [];
  answers = no_front s;
  rows_are = refl;
  num_laid = laid-first numerators s num;
  den-laid = laid-first denominators s den;
}

-- All parts are built: the front is the beam.
pub record Whole (s : Space) (num₀ den₀ num den : List ℤ) (rows a : ℕ) (t : Table) : Type 0 where
  pub front : section s 0 a ≡ s
  pub rows_are : rows ≡ row_count s
  pub num_is : num ≡ numerators (last_part s t) num₀
  pub den_is : den ≡ denominators (last_part s t) den₀

module _ (b d o : List ℤ) (legal : ListsLegal b d o) where
  abbrev s : Space
  s = space b d o

  pub checks : Checked s
  checks = (checked_inverts s (legal_checked b d o legal)).1

  -- each part's lists are legal
  pub part_legal : (a : ℕ) → Starts s a → let p = part_at s a in PartLegal p.breaks p.degrees p.orders
  part_legal a A = let p = part_at s a in record {
    lists = checked_legal p.breaks p.degrees p.orders (parts_are_legal s (legal_checked b d o legal) a A);
    few = omega (arith, part-segments s a A, legal.part-counts a A.below A.starts);
  }

  module _ {a e : ℕ} (A : Starts s a) (ends : e ≡ part_end s a) where
    pub part_lies : Lies (length b) (length d) (length o) a e
    part_lies = let p = part-ends s a A.below in record {
      some = omega (arith, ends, p.above);
      within = omega (arith, ends, p.boundary.within);
      break-count = legal.break-count;
      order-count = legal.order-count;
      few = legal.few;
    }

    -- the slices are the part's lists
    pub slices_are : space (take (e + 1 - a) (drop a b)) (take (e - a) (drop a d)) (take (e - 1 - a) (drop a o)) ≡ part_at s a
    slices_are = sliced s a e part_lies.some ∙ ap (λ n. section s a (n - a)) ends

    pub slices_legal : PartLegal (take (e + 1 - a) (drop a b)) (take (e - a) (drop a d)) (take (e - 1 - a) (drop a o))
    slices_legal = subst (λ (p : Space). PartLegal p.breaks p.degrees p.orders) (sym slices_are) (part_legal a A)

  module _ {num₀ den₀ num den : List ℤ} {rows a : ℕ} (st : Before s num₀ den₀ num den rows a) where
    pub rows-high : rows ≤ 288
    rows-high =
        omega (
          arith,
          st.rows_are,
          st.boundary.within,
          front-columns s a st.boundary.within,
          legal_first-column-high b d o legal a st.boundary.within,
          legal.few,
        )

    module _ (l : a < length d) where
      pub starts : Starts s a
      starts = boundary_starts st.boundary l

      abbrev part : Space
      part = part_at s a

      -- with one part more
      module _ {u : Table} (e : weights part ≡ answer u) where
        abbrev both : Table
        both = beside (first_column s a) (column_count part) st.table u

        front_is : weights (section s 0 (part_end s a)) ≡ answer both
        front_is = front-answers s (orders_fit s checks) a starts st.answers e

        pub both_is : (t : Table) → weights (section s 0 (part_end s a)) ≡ answer t → both ≡ t
        both_is t z = answer_unique front_is z

        pub part-laid : {num' den' : List ℤ} → num' ≡ numerators u num → den' ≡ denominators u den
            → Before s num₀ den₀ num' den' (rows + row_count part) (part_end s a)
        part-laid p q = record {
          boundary = (part-ends s a l).boundary;
          table = both;
          answers = front_is;
          rows_are = omega (arith, st.rows_are, front-rows s a starts, front-rows_more s (orders_fit s checks) a starts);
          num_laid = laid_more numerators numerators-again s st.num_laid p last_is;
          den-laid = laid_more denominators denominators-again s st.den-laid q last_is;
        }
          where
            last_is : last_part (section s 0 (part_end s a)) both ≡ u
            last_is = front-last_part s a starts st.table u st.answers

        pub part_more : {n : ℕ} {num' den' : List ℤ} → n ≡ row_count part → num' ≡ numerators_after (weights part) num
            → den' ≡ denominators_after (weights part) den → Before s num₀ den₀ num' den' (rows + n) (part_end s a)
        unfolding numerators_after denominators_after
        part_more {n} {num'} {den'} count p q =
            subst (λ m. Before s num₀ den₀ num' den' (rows + m) (part_end s a)) (sym count)
            (part-laid (p ∙ ap (λ x. numerators_after x num) e) (q ∙ ap (λ x. denominators_after x den) e))

      -- a part that is refused
      pub part_refused : {code place : ℕ} {num' den' : List ℤ} → weights part ≡ refusal code place → num' ≡ numerators_after (weights part) num
          → den' ≡ denominators_after (weights part) den → BeamEnds s (weights s) (Err (refused code (capped (a + place)))) num₀ den₀ num' den'
      unfolding numerators_after denominators_after
      part_refused {code} {place} {num'} {den'} e p q =
          let told = weights_cleared part e in
          subst (λ x. BeamEnds s x (Err (refused code (capped (a + place)))) num₀ den₀ num' den')
          (sym (refused_front s checks (part_end s a) (part-ends s a l).boundary (front-refuses s (orders_fit s checks) a starts st.answers e)))
          (record {
            answers = refl;
            numerators_are = p ∙ ap (λ x. numerators_after x num) e ∙ cond_true _ _ told ∙ st.num_laid.over [] ∙ sym (cond_true _ _ told);
            denominators_are = q ∙ ap (λ x. denominators_after x den) e ∙ cond_true _ _ told ∙ st.den-laid.over [] ∙ sym (cond_true _ _ told);
          })

    -- after the last part
    module _ (l : length d ≤ a) where
      pub parts_whole : Whole s num₀ den₀ num den rows a st.table
      parts_whole = record {
        front = front;
        rows_are = st.rows_are ∙ ap row_count front;
        num_is = st.num_laid.is some ∙ ap (λ x. numerators (last_part x st.table) num₀) front;
        den_is = st.den-laid.is some ∙ ap (λ x. denominators (last_part x st.table) den₀) front;
      }
        where
          front : section s 0 a ≡ s
          front = ap (section s 0) (let z : a ≡ length d = omega (arith, st.boundary.within) in z) ∙ section_all s (lengths_fit_inverts s checks.lengths)

          some : 0 < a
          some = omega (arith, legal.some)

      pub parts_done : BeamEnds s (weights s) (Ok rows) num₀ den₀ num den
      unfolding numerators_after denominators_after
      parts_done =
          let w = parts_whole in
          subst (λ x. BeamEnds s x (Ok rows) num₀ den₀ num den) (sym (ap weights (sym w.front) ∙ st.answers))
          (record { answers = ap answer w.rows_are; numerators_are = w.num_is; denominators_are = w.den_is })
