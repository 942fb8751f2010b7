-- The parts of an accepted beam as the sheet prints them: each is accepted and built as the whole table's rows and columns, so
-- the lines printed from the buffers follow those of the rows before it.
use mathlib.Core.Path.{◌≡◌, refl, sym, ap, ap₂, ◌∙◌}
use mathlib.Core.Logic.{◌⊎◌, inl, inr}
use mathlib.Core.List.{List, ◌++◌}
use Prim.Native.Nat.{ℕ, ◌+◌, ◌*◌, ◌-◌, ◌<◌, ◌≤◌}
use native.Mathlib.Nat.{zero-add}
use native.Mathlib.Omega.{arith}
use lib.IntN.{ℤ}
use lib.ListN.{length}
use Rattle.std.specs.Prelude.{Err, Ok, Result}
use Rattle.base_outcome.specs.declared.Refusal.{Refusal}
use Rattle.base_exact.proofs.Decide.{le_or_lt}
use Rattle.base_outcome.specs.Outcome.{answer, with_answer}
use Rattle.spec_spline.specs.Space.{Space, segments, part_end, first_column, column_count, conditions_before, row_count, rows_before}
use Rattle.spec_spline.specs.Table.{Table, row, cell, row_cells, table_cells, numerators, denominators}
use Rattle.spec_spline.specs.Build.{space_weights, weights, last_part, numerators_after, denominators_after}
use Rattle.spec_spline.specs.Piecewise.{Accepted}
use Rattle.spec_spline.specs.Reading.{Pair}
use Rattle.base_outcome.proofs.Outcome.{answer_not_refusal}
use Rattle.spec_spline.proofs.Parts.{Boundary, first-starts, part-ends}
use Rattle.spec_spline.proofs.Legal.{Checked, Lengths, lengths_fit_inverts, checked-passes}
use Rattle.spec_spline.proofs.Table.{entry_past}
use Rattle.theorems_weights.proofs.PublishedBasis.{rows_and_columns}
use Rattle.build_space.specs.Legal.{ListsLegal, PartLegal}
use Rattle.build_space.proofs.Legal.{checked_legal, legal_first-column-high, legal_row-count-sum, part-column-count-high}
use Rattle.base_outcome.specs.Machine.{reply}
use Rattle.base_outcome.proofs.Reply.{count_inverts, refused_inverts}
use Rattle.build.proofs.Beam.{part_legal}
use Rattle.theorems_beams.specs.Sections.{section, part_at}
use Rattle.theorems_beams.specs.Parts.{Starts, PartOf}
use Rattle.theorems_beams.proofs.Sections.{section_all, front-columns, OrdersFit, orders_fit}
use Rattle.theorems_beams.proofs.Ends.{boundary_starts}
use Rattle.theorems_beams.proofs.PartLegal.{part-last_part}
use Rattle.theorems_beams.proofs.Fronts.{part-columns, front-rows, front-rows_more}
use Rattle.theorems_beams.proofs.Parts.{accepted-checked, weights_by_parts}
use Rattle.build_cells.proofs.Buffer.{kept-numerators, kept-denominators}
use Rattle.base_print.specs.Buffer.{Puts}
use Rattle.base_sorting.specs.Sorted.{sorted}
use Rattle.spec_sheet.specs.Printout.{count_line, weight_lines, value_lines, low_positions, low_lines, answer_text}
use Rattle.sheet_weights.specs.Printed.{weight_line_limit, stored_weights}
use Rattle.base_print.proofs.Buffer.{puts_none, puts_then, puts_within, puts_as}
use Rattle.sheet_weights.proofs.Stored.{Holds, first_rows, rows_none, rows_all, rows_more}
use Rattle.sheet_beam.specs.Beam.{table_of, weights_text, Filled}

-- ---- an accepted beam
module _ (s : Space) (x : Accepted s) where
  passed : Checked s
  passed = (accepted-checked s x).0

  pub beam-lengths : Lengths s
  beam-lengths = lengths_fit_inverts s passed.lengths

  fitting : OrdersFit s
  fitting = orders_fit s passed

  pub beam_legal : ListsLegal s.breaks s.degrees s.orders
  beam_legal = checked_legal s.breaks s.degrees s.orders (checked-passes s passed)

  pub table_is : table_of (space_weights s) ≡ x.table
  unfolding table_of
  table_is = ap table_of x.is

  -- the rows of its fronts are few enough for the limit of their lines
  pub front-rows_few : (b : ℕ) → b ≤ segments s → row_count (section s 0 b) ≤ 288
  front-rows_few b h =
      let L = beam-lengths in
      omega (arith, front-columns s b h, legal_first-column-high s.breaks s.degrees s.orders beam_legal b h, L.few_segments)

  -- all its rows
  pub beam-lines : weight_lines (first_rows (row_count s) (table_of (space_weights s))) ≡ weights_text s
  unfolding weights_text
  beam-lines =
      ap weight_lines (ap (λ k. first_rows k (table_of (space_weights s))) (sym (rows_and_columns s x).0 ∙ ap length (sym table_is))
      ∙ rows_all (table_of (space_weights s)))

  pub rows_at_end : {b : ℕ} → b ≡ segments s → row_count (section s 0 b) ≡ row_count s
  rows_at_end e = ap (λ b. row_count (section s 0 b)) e ∙ ap row_count (section_all s beam-lengths)

  -- ---- the part that starts with segment a
  module _ (a : ℕ) (A : Starts s a) where
    abbrev part : Space
    part = part_at s a

    abbrev of : PartOf s x.table a
    of = weights_by_parts s x a A

    abbrev pub part-accepted : Accepted part
    part-accepted = of.accepted

    abbrev table : Table
    table = part-accepted.table

    shape : (length table ≡ row_count part) × ((i : ℕ) → i < row_count part → length (row table i) ≡ column_count part)
    shape = rows_and_columns part part-accepted

    legal_part : PartLegal part.breaks part.degrees part.orders
    legal_part = part_legal s.breaks s.degrees s.orders beam_legal a A

    columns-fit : column_count part ≤ row_cells
    columns-fit = part-column-count-high part.breaks part.degrees part.orders legal_part

    pub part-rows_fit : row_count part ≤ row_cells
    part-rows_fit = omega (arith, columns-fit, legal_row-count-sum part.breaks part.degrees part.orders legal_part.lists)

    -- the whole table holds it, with zeros beside it
    holds : Holds x.table (rows_before s a) (first_column s a) table
    holds = record {
      few = omega (arith, shape.0, part-rows_fit);
      narrow = λ i h. rw (shape.1 i (omega (arith, shape.0))) columns-fit;
      same = λ i j h. go i j (omega (arith, shape.0)) (le_or_lt (column_count part) j);
      zero-before = λ i j h l. of.zero-beside i j (omega (arith, shape.0)) (inl l);
    }
      where
        go : (i j : ℕ) → i < row_count part → (column_count part ≤ j) ⊎ (j < column_count part)
            → cell x.table (rows_before s a + i) (first_column s a + j) ≡ cell table i j
        go i j h (inr l) = of.same i j h l
        go i j h (inl l) =
            of.zero-beside i (first_column s a + j) h (inr (omega (arith, part-columns s fitting a A)))
            ∙ sym (entry_past (row table i) j (rw (shape.1 i h) l))

    pub part-answers : weights part ≡ answer table
    part-answers = (accepted-checked part part-accepted).1

    -- building it answers its row count
    pub part_told : (r : Result ℕ Refusal) → reply r ≡ with_answer (λ _. row_count part) (weights part) → r ≡ Ok (row_count part)
    part_told (Ok n) e = ap Ok (count_inverts (λ _. row_count part) (weights part) e).count
    part_told (Err r) e = absurd (answer_not_refusal part-answers (refused_inverts (λ _. row_count part) (weights part) e))

    -- and leaves the buffers as long as they were
    pub numerators_long : (num : List ℤ) → table_cells ≤ length num → length (numerators_after (weights part) num) ≡ length num
    unfolding numerators_after
    numerators_long num h = ap (λ o. length (numerators_after o num)) part-answers ∙ (kept-numerators table num h).long

    pub denominators_long : (den : List ℤ) → table_cells ≤ length den → length (denominators_after (weights part) den) ≡ length den
    unfolding denominators_after
    denominators_long den h = ap (λ o. length (denominators_after o den)) part-answers ∙ (kept-denominators table den h).long

    -- so its lines follow those of the rows before it
    pub part-lines : (num den : List ℤ) → weight_lines (first_rows (row_count (section s 0 (part_end s a))) (table_of (space_weights s)))
        ≡ weight_lines (first_rows (row_count (section s 0 a)) (table_of (space_weights s)))
        ++ weight_lines (stored_weights (row_count (section s 0 a)) (first_column s a) (row_cells * row_count part) (numerators_after (weights part) num)
        (denominators_after (weights part) den))
    unfolding numerators_after denominators_after
    part-lines num den =
        rw (part-answers, table_is, front-rows s a A, front-rows_more s fitting a A, sym shape.0)
        (rows_more x.table (rows_before s a) (first_column s a) table holds num den)

-- ---- printing part by part

-- The lines of the rows before segment a are printed.
pub record Before (s : Space) (num₀ den₀ : List ℤ) (out₀ : List ℕ) (at : ℕ) (num den : List ℤ) (out : List ℕ) (next row a : ℕ) : Type 0 where
  pub boundary : Boundary s a
  pub rows : row ≡ row_count (section s 0 a)
  pub num_long : length num ≡ length num₀
  pub den_long : length den ≡ length den₀
  pub put : Puts (weight_line_limit * (row_cells * row)) at (weight_lines (first_rows row (table_of (space_weights s)))) out₀ out next

pub before-first : (s : Space) (num den : List ℤ) (out : List ℕ) (at : ℕ) → Before s num den out at num den out at 0 0
unfolding first_column conditions_before
before-first s num den out at = record {
  boundary = record { within = omega arith; starts = λ _. first-starts s };
  rows = refl;
  num_long = refl;
  den_long = refl;
  put = puts_as (sym (rows_none (table_of (space_weights s)))) (puts_none at out);
}

module _ {s : Space} (x : Accepted s) {num₀ den₀ : List ℤ} {out₀ : List ℕ} {at : ℕ} {num den : List ℤ} {out : List ℕ} {next row a : ℕ}
    (t : Before s num₀ den₀ out₀ at num den out next row a) where
  pub rows_few : row ≤ 288
  rows_few = omega (arith, t.rows, front-rows_few s x a t.boundary.within)

  pub next_near : next ≤ at + weight_line_limit * (row_cells * 288)
  next_near = omega (arith, t.put.near, rows_few)

  pub starts : a < segments s → Starts s a
  starts h = boundary_starts t.boundary h

  -- one part more
  pub before-next : (h : a < segments s) → table_cells ≤ length num₀ → table_cells ≤ length den₀
      → {b column n : ℕ} {num' den' : List ℤ} {out' : List ℕ} {next' : ℕ}
      → b ≡ part_end s a → column ≡ first_column s a → n ≡ row_count (part_at s a) → num' ≡ numerators_after (weights (part_at s a)) num
      → den' ≡ denominators_after (weights (part_at s a)) den
      → Puts (weight_line_limit * (row_cells * n)) next (weight_lines (stored_weights row column (row_cells * n) num' den')) out out' next'
      → Before s num₀ den₀ out₀ at num' den' out' next' (row + n) b
  before-next h nl dl {b} {column} {n} {num'} {den'} eb ec en pn pd p =
      let A = starts h in
      let more : row + n ≡ row_count (section s 0 (part_end s a)) = omega (arith, t.rows, en, front-rows s a A, front-rows_more s (fitting s x) a A) in
      record {
        boundary = rw eb (part-ends s a h).boundary;
        rows = more ∙ ap (λ k. row_count (section s 0 k)) (sym eb);
        num_long = ap length pn ∙ numerators_long s x a A num (omega (arith, t.num_long)) ∙ t.num_long;
        den_long = ap length pd ∙ denominators_long s x a A den (omega (arith, t.den_long)) ∙ t.den_long;
        put = puts_within (omega arith) (puts_as
            (sym (rw (more, t.rows, ec, en, pn, pd) (part-lines s x a A num den)))
            (puts_then t.put p));
      }

  -- all parts
  pub before_end : segments s ≤ a → Puts (weight_line_limit * (row_cells * 288)) at (weights_text s) out₀ out next
  before_end h =
      let all : row ≡ row_count s = t.rows ∙ rows_at_end s x (let e : a ≡ segments s = omega (arith, t.boundary.within) in e) in
      puts_within (omega (arith, rows_few)) (puts_as (ap (λ k. weight_lines (first_rows k (table_of (space_weights s)))) all ∙ beam-lines s x) t.put)

-- ---- the printout of a beam in the buffers
module _ {s : Space} {n : ℕ} {num den : List ℤ} (f : Filled s n num den) (xs : List ℤ) (vs : List Pair) where
  pub answer-joined : count_line n ++ (weights_text s ++ (value_lines xs vs ++ low_lines (sorted (low_positions xs vs))))
      ≡ answer_text (table_of (space_weights s)) xs vs
  unfolding answer_text weights_text
  answer-joined =
      ap (λ k. count_line k ++ (weights_text s ++ (value_lines xs vs ++ low_lines (sorted (low_positions xs vs)))))
      (f.rows ∙ sym (rows_and_columns s f.accepted).0 ∙ ap length (sym (table_is s f.accepted)))

-- ---- a beam of one part, which is in the buffers as a whole
module _ {s : Space} {n : ℕ} {num den : List ℤ} (f : Filled s n num den) (one : part_end s 0 ≡ segments s) where
  abbrev all : Table
  all = f.accepted.table

  first_part : Starts s 0
  first_part = record { below = omega (arith, (beam-lengths s f.accepted).some_segment); starts = first-starts s }

  whole : part_at s 0 ≡ s
  whole = ap (section s 0) (let e : part_end s 0 - 0 ≡ segments s = omega (arith, one) in e) ∙ section_all s (beam-lengths s f.accepted)

  last_is_all : last_part s all ≡ all
  last_is_all = ap (λ p. last_part p all) (sym whole) ∙ part-last_part s 0 first_part all

  pub one_rows_fit : n ≤ row_cells
  one_rows_fit = omega (arith, f.rows, ap row_count whole, part-rows_fit s f.accepted 0 first_part)

  holds_all : Holds all 0 0 all
  holds_all = record {
    few = omega (arith, one_rows_fit, f.rows, (rows_and_columns s f.accepted).0);
    narrow =
        λ i h. omega (
          arith,
          (rows_and_columns s f.accepted).1 i (omega (arith, (rows_and_columns s f.accepted).0)),
          ap column_count whole,
          columns-fit s f.accepted 0 first_part,
        );
    same = λ i j h. ap₂ (cell all) (zero-add i) (zero-add j);
    zero-before = λ i j h l. absurd (omega arith);
  }

  pub one_lines : weight_lines (stored_weights 0 0 (row_cells * n) num den) ≡ weights_text s
  one_lines =
      ap₂ (λ a b. weight_lines (stored_weights 0 0 (row_cells * n) a b)) (f.num_is ∙ ap (λ u. numerators u num) last_is_all)
      (f.den_is ∙ ap (λ u. denominators u den) last_is_all)
      ∙ ap (λ k. weight_lines (stored_weights 0 0 (row_cells * k) (numerators all num) (denominators all den)))
      (f.rows ∙ sym (rows_and_columns s f.accepted).0)
      ∙ sym (rows_more all 0 0 all holds_all num den
      ∙ ap (λ l. l ++ weight_lines (stored_weights 0 0 (row_cells * length all) (numerators all num) (denominators all den))) (rows_none all))
      ∙ ap₂ (λ k u. weight_lines (first_rows k u)) (zero-add (length all) ∙ (rows_and_columns s f.accepted).0) (sym (table_is s f.accepted))
      ∙ beam-lines s f.accepted
