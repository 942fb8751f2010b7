-- The loop over the parts of a beam: what the buffers and the two lists of ordinates hold once the parts before segment a are
-- built, how one part more changes that, and what is left after the last part or after the first that is refused.
use mathlib.Core.Path.{◌≡◌, refl, sym, ◌∙◌, ap, ap₂, subst}
use mathlib.Core.List.{List, ◌++◌, append-nil, append_assoc}
use Prim.Native.Nat.{ℕ, ◌+◌, ◌-◌, ◌<◌, ◌≤◌}
use native.Mathlib.Omega.{arith}
use lib.IntN.{ℤ}
use lib.ListN.{length, take, drop, length-take, drop_of_length-le}
use lib.Seq.{take_at, drop_at, drop-drop}
use Rattle.std.specs.Prelude.{Err, Ok, Result}
use Rattle.base_outcome.specs.declared.Refusal.{Refusal}
use Rattle.base_outcome.specs.Machine.{refused}
use Rattle.base_exact.specs.Tabulate.{tab}
use Rattle.base_exact.proofs.Tabulate.{tab_length}
use Rattle.base_outcome.specs.Outcome.{Outcome, answer, refusal, capped, with_answer}
use Rattle.spec_spline.specs.Space.{Space, segments, part_end, first_column, column_count, row_count, rows_before}
use Rattle.spec_spline.specs.Table.{Table}
use Rattle.spec_spline.specs.Build.{weights, last_part, numerators_after, denominators_after}
use Rattle.spec_spline.specs.Reading.{Wood, earlywood, latewood, coefficient, ordinate, ordinates}
use Rattle.base_outcome.proofs.Outcome.{answer_unique, answer_not_refusal}
use Rattle.spec_spline.proofs.Parts.{part-ends}
use Rattle.spec_spline.proofs.Legal.{Checked, checked_inverts, Lengths, lengths_fit_inverts}
use Rattle.theorems_beams.specs.Sections.{section, part_at, beside}
use Rattle.theorems_beams.specs.Parts.{Starts}
use Rattle.theorems_beams.proofs.Sections.{section_all, front-columns, OrdersFit, orders_fit}
use Rattle.theorems_beams.proofs.PartLegal.{part-last_part}
use Rattle.theorems_beams.proofs.Fronts.{part-columns, front-rows_more, front-rows, front-rows-within}
use Rattle.theorems_beams.proofs.Reading.{front-ordinates}
use Rattle.build_space.specs.Legal.{ListsLegal}
use Rattle.build_space.proofs.Legal.{legal_checked}
use Rattle.base_outcome.specs.Machine.{reply}
use Rattle.build.proofs.Beam.{Before, before-first, starts, both_is, part_more, part_refused, parts_done}
use Rattle.base_outcome.proofs.Reply.{Counted, count_inverts, refused_inverts}
use Rattle.curve_parts.specs.Parts.{Lent, lent, PartsLeave}

pub ordinates_length : (s : Space) (t : Table) (a : ℕ → ℤ) → length (ordinates s t a) ≡ column_count s
unfolding ordinates
ordinates_length s t a = tab_length (column_count s) (ordinate t a)

-- The ordinates of a beam's front stand at the front of a list, the first so many cells of it.
abbrev Fronted : Space → ℕ → Table → (ℕ → ℤ) → ℕ → List ℤ → List ℤ → Type 0
Fronted s a t coefs column os₀ os = os ≡ ordinates (section s 0 a) t coefs ++ drop column os₀

module _ (s : Space) (coefs : List ℤ) (l₀ : Lent) where
  -- The parts before segment a are built, and the ordinates of their columns are worked out.
  pub record Front (row column a : ℕ) (l : Lent) : Type 0 where
    pub state : Before s l₀.num l₀.den l.num l.den row a
    pub columns : column ≡ first_column s a
    pub early_is : Fronted s a state.table (coefficient earlywood coefs) column l₀.early l.early
    pub late_is : Fronted s a state.table (coefficient latewood coefs) column l₀.late l.late

  -- no part yet
  pub front-first : Front 0 0 0 l₀
  unfolding first_column ordinates tab
  front-first = record { state = before-first s l₀.num l₀.den; columns = refl; early_is = refl; late_is = refl }

-- a list with other numbers in the cells from `column` up to `end`
abbrev pub filled : ℕ → ℕ → List ℤ → List ℤ → List ℤ
filled column end os mid = take column os ++ (mid ++ drop (end - column) (drop column os))

-- these cells of a list
abbrev pub cells_of : ℕ → ℕ → List ℤ → List ℤ
cells_of column end os = take (end - column) (drop column os)

module _ (s : Space) (legal : ListsLegal s.breaks s.degrees s.orders) where
  checks : Checked s
  checks = (checked_inverts s (legal_checked _ _ _ legal)).1

  lengths : Lengths s
  lengths = lengths_fit_inverts s checks.lengths

  fit : OrdersFit s
  fit = orders_fit s checks

  module _ (coefs : List ℤ) (l₀ : Lent) {row column a : ℕ} {l : Lent} (f : Front s coefs l₀ row column a l) where
    -- ---- one part more
    module _ (more : a < length s.degrees) where
      abbrev part : Space
      part = part_at s a

      abbrev own : Wood → ℕ → ℤ
      own wood i = coefficient wood coefs (row + i)

      begins : Starts s a
      begins = starts _ _ _ legal f.state more

      pub columns_more : column + column_count part ≡ first_column s (part_end s a)
      columns_more = ap (λ n. n + column_count part) f.columns ∙ sym (part-columns s fit a begins)

      rows_are : row ≡ rows_before s a
      rows_are = f.state.rows_are ∙ front-rows s a begins

      -- the rows of the parts up to this one are among the beam's
      pub rows-within : row + row_count part ≤ row_count s
      rows-within =
          omega (
            arith,
            rows_are,
            front-rows_more s fit a begins,
            front-rows-within s lengths fit (part_end s a) (part-ends s a more).boundary,
          )

      -- the ordinates of a wood part, with those of the part put behind them in so many cells of the list
      grown : (wood : Wood) (os₀ : List ℤ) {os mid : List ℤ} (n : ℕ) (u : Table) → n ≡ column_count part
          → Fronted s a f.state.table (coefficient wood coefs) column os₀ os
          → mid ≡ ordinates part u (own wood) ++ drop (column_count part) (take n (drop column os))
          → Fronted s (part_end s a) (beside (first_column s a) (column_count part) f.state.table u) (coefficient wood coefs)
          (column + n) os₀ (take column os ++ (mid ++ drop n (drop column os)))
      grown wood os₀ {os} {mid} n u n_is os-is mid-is =
          ap₂ (λ xs ys. xs ++ (mid ++ ys)) before_is after_is
          ∙ ap (λ ys. before ++ (ys ++ drop (column + n) os₀)) mid_all
          ∙ sym (append_assoc before (ordinates part u (own wood)) (drop (column + n) os₀))
          ∙ ap (λ ys. ys ++ drop (column + n) os₀) joined
        where
          before : List ℤ
          before = ordinates (section s 0 a) f.state.table (coefficient wood coefs)

          size : length before ≡ column
          size =
              ordinates_length (section s 0 a) f.state.table (coefficient wood coefs) ∙ front-columns s a f.state.boundary.within
              ∙ sym f.columns

          before_is : take column os ≡ before
          before_is = ap (take column) os-is ∙ take_at before (drop column os₀) column size

          after_is : drop n (drop column os) ≡ drop (column + n) os₀
          after_is = ap (drop n) (ap (drop column) os-is ∙ drop_at before (drop column os₀) column size) ∙ drop-drop n column os₀

          mid_all : mid ≡ ordinates part u (own wood)
          mid_all = mid-is ∙ ap (λ ys. ordinates part u (own wood) ++ ys)
              (drop_of_length-le (take n (drop column os)) {i = column_count part} (omega (arith, length-take n (drop column os))))
              ∙ append-nil (ordinates part u (own wood))

          joined : before ++ ordinates part u (own wood)
              ≡ ordinates (section s 0 (part_end s a)) (beside (first_column s a) (column_count part) f.state.table u)
              (coefficient wood coefs)
          joined = ap (λ r. before ++ ordinates part u (λ i. coefficient wood coefs (r + i))) rows_are
              ∙ sym (front-ordinates s fit a begins f.state.table u f.state.answers (coefficient wood coefs))

      -- the last part of a part is all of it
      one_part : (x : Outcome Table) → with_answer (last_part part) x ≡ x
      one_part (answer u) = ap answer (part-last_part s a begins u)
      one_part (refusal code place) = refl

      -- it is built in the columns up to `end`
      module _ (end : ℕ) (end_is : end ≡ first_column s (part_end s a)) (r : Result ℕ Refusal) {l' : Lent}
          (left : PartsLeave part own r (lent l.num l.den (cells_of column end l.early) (cells_of column end l.late)) l') where
        -- the lists with the part's ordinates put in
        abbrev pub after : Lent
        after = lent l'.num l'.den (filled column end l.early l'.early) (filled column end l.late l'.late)

        num_is : l'.num ≡ numerators_after (weights part) l.num
        num_is = left.numerators_are ∙ ap (λ x. numerators_after x l.num) (one_part (weights part))

        den_is : l'.den ≡ denominators_after (weights part) l.den
        den_is = left.denominators_are ∙ ap (λ x. denominators_after x l.den) (one_part (weights part))

        -- with an answer
        answered : {m : ℕ} → r ≡ Ok m → Front s coefs l₀ (row + m) end (part_end s a) after
        answered {m} e = record {
          state = state';
          columns = end_is;
          early_is = grown earlywood l₀.early (end - column) x.result size f.early_is (left.early_is x.result x.is)
              ∙ moved earlywood l₀.early;
          late_is = grown latewood l₀.late (end - column) x.result size f.late_is (left.late_is x.result x.is)
              ∙ moved latewood l₀.late;
        }
          where
            x : Counted (λ _. row_count part) (weights part) m
            x = count_inverts (λ _. row_count part) (weights part) (ap reply (sym e) ∙ left.answers)

            state' : Before s l₀.num l₀.den l'.num l'.den (row + m) (part_end s a)
            state' = part_more _ _ _ legal f.state more x.is x.count num_is den_is

            size : end - column ≡ column_count part
            size = omega (arith, end_is, columns_more)

            both : Table
            both = beside (first_column s a) (column_count part) f.state.table x.result

            same : both ≡ state'.table
            same = both_is _ _ _ legal f.state more x.is state'.table state'.answers

            up_to_end : column + (end - column) ≡ end
            up_to_end = omega (arith, end_is, columns_more)

            moved : (wood : Wood) (os₀ : List ℤ)
                → ordinates (section s 0 (part_end s a)) both (coefficient wood coefs) ++ drop (column + (end - column)) os₀
                ≡ ordinates (section s 0 (part_end s a)) state'.table (coefficient wood coefs) ++ drop end os₀
            moved wood os₀ = ap₂ (λ t k. ordinates (section s 0 (part_end s a)) t (coefficient wood coefs) ++ drop k os₀) same up_to_end

        pub front_more : {m : ℕ} (next : ℕ) → next ≡ part_end s a → r ≡ Ok m → Front s coefs l₀ (row + m) end next after
        front_more {m} next z e = subst (λ k. Front s coefs l₀ (row + m) end k after) (sym z) (answered e)

        -- with a refusal
        pub front_refused : {e : Refusal} {counted : ℕ} {early'' late'' : List ℤ} → r ≡ Err e → counted ≡ capped (a + e.place)
            → PartsLeave s (λ wood. coefficient wood coefs) (Err (refused e.code counted)) l₀ (lent l'.num l'.den early'' late'')
        front_refused {e} h p =
            let stopped = refused_inverts (λ _. row_count part) (weights part) (ap reply (sym h) ∙ left.answers) in
            let ends = part_refused _ _ _ legal f.state more stopped num_is den_is in
            let refused = refused_inverts (λ _. row_count s) (weights s) ends.answers in
            record {
              answers = ap (λ (n : ℕ). (refusal e.code n)) p ∙ ends.answers;
              numerators_are = ends.numerators_are;
              denominators_are = ends.denominators_are;
              early_is = λ t z. absurd (answer_not_refusal z refused);
              late_is = λ t z. absurd (answer_not_refusal z refused);
            }

    -- ---- all parts are built
    pub front-whole : length s.degrees ≤ a → PartsLeave s (λ wood. coefficient wood coefs) (Ok row) l₀ l
    front-whole none_left = let ends = parts_done _ _ _ legal f.state none_left in record {
      answers = ends.answers;
      numerators_are = ends.numerators_are;
      denominators_are = ends.denominators_are;
      early_is = λ t z. f.early_is ∙ whole earlywood l₀.early t z;
      late_is = λ t z. f.late_is ∙ whole latewood l₀.late t z;
    }
      where
        end : a ≡ segments s
        end = omega (arith, f.state.boundary.within)

        all : section s 0 a ≡ s
        all = ap (section s 0) end ∙ section_all s lengths

        whole : (wood : Wood) (os₀ : List ℤ) (t : Table) → weights s ≡ answer t
            → ordinates (section s 0 a) f.state.table (coefficient wood coefs) ++ drop column os₀
            ≡ ordinates s t (coefficient wood coefs) ++ drop (column_count s) os₀
        whole wood os₀ t z =
            ap₂ (λ x k. ordinates x f.state.table (coefficient wood coefs) ++ drop k os₀) all (f.columns ∙ ap (first_column s) end)
            ∙ ap (λ u. ordinates s u (coefficient wood coefs) ++ drop (column_count s) os₀)
            (answer_unique (ap weights (sym all) ∙ f.state.answers) z)
