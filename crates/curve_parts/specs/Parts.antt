-- What building the parts of a beam asks and leaves, for a beam and for one part of it by itself.
use Rattle.std.specs.Prelude.{List, ◌++◌, ◌≡◌, ℕ, ◌+◌, ◌≤◌, ℤ, length, drop, Result}
use Rattle.base_outcome.specs.Outcome.{answer, with_answer}
use Rattle.spec_spline.specs.Space.{Space, part_end, column_count, row_count}
use Rattle.spec_spline.specs.Table.{Table, table_cells}
use Rattle.spec_spline.specs.Build.{weights, last_part, numerators_after, denominators_after}
use Rattle.spec_spline.specs.Reading.{Wood, earlywood, latewood, ordinates}
use Rattle.theorems_beams.specs.Sections.{part_at}
use Rattle.theorems_beams.specs.Parts.{Starts}
use Rattle.build_space.specs.Legal.{ListsLegal}
use Rattle.base_outcome.specs.Machine.{reply}
use Rattle.base_outcome.specs.declared.Refusal.{Refusal}
use Rattle.curve_ordinates.specs.Ordinates.{Coefficients}

-- ---- the lent lists

-- The two weight buffers, and a list for the ordinates of each wood part.
pub record Lent : Type 0 where
  pub num : List ℤ
  pub den : List ℤ
  pub early : List ℤ
  pub late : List ℤ

abbrev pub lent : List ℤ → List ℤ → List ℤ → List ℤ → Lent
lent num den early late = record { num = num; den = den; early = early; late = late }

-- ---- what is asked

-- Both weight buffers take a whole table.
pub record TableRoom (l : Lent) : Type 0 where
  pub num_long : table_cells ≤ length l.num
  pub den_long : table_cells ≤ length l.den

-- The lists are legal, and the part from segment a up to segment b is one of theirs.
pub record PartOf (s : Space) (a b : ℕ) : Type 0 where
  pub legal : ListsLegal s.breaks s.degrees s.orders
  pub starts : Starts s a
  pub ends : b ≡ part_end s a

-- A part, with its coefficients from row `row` of the beam's on, and lists of its columns.
pub record PartAsks (s : Space) (a b : ℕ) (coefs : List ℤ) (row : ℕ) (l : Lent) : Type 0 where
  pub part : PartOf s a b
  pub coefficients : Coefficients coefs (row_count s)
  pub rows-within : row + row_count (part_at s a) ≤ row_count s
  pub room : TableRoom l
  pub early_long : length l.early ≡ column_count (part_at s a)
  pub late_long : length l.late ≡ column_count (part_at s a)

-- A beam, with its coefficients, and lists that take its columns.
pub record PartsAsk (s : Space) (coefs : List ℤ) (l : Lent) : Type 0 where
  pub legal : ListsLegal s.breaks s.degrees s.orders
  pub coefficients : Coefficients coefs (row_count s)
  pub room : TableRoom l
  pub early_long : column_count s ≤ length l.early
  pub late_long : column_count s ≤ length l.late

-- ---- what is left

-- The row count or the refusal; the two buffers as after building; and after an answer the ordinates of all columns with these
-- coefficients, for each wood part at the front of its list.
pub record PartsLeave (s : Space) (coefs : Wood → ℕ → ℤ) (r : Result ℕ Refusal) (before after : Lent) : Type 0 where
  pub answers : reply r ≡ with_answer (λ _. row_count s) (weights s)
  pub numerators_are : after.num ≡ numerators_after (with_answer (last_part s) (weights s)) before.num
  pub denominators_are : after.den ≡ denominators_after (with_answer (last_part s) (weights s)) before.den
  pub early_is : (t : Table) → weights s ≡ answer t
      → after.early ≡ ordinates s t (coefs earlywood) ++ drop (column_count s) before.early
  pub late_is : (t : Table) → weights s ≡ answer t
      → after.late ≡ ordinates s t (coefs latewood) ++ drop (column_count s) before.late
