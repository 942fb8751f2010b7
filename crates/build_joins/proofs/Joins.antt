-- The joins of a legal space: that the machine's sides are those of join j and fit what a step asks, and what the joins start from.
use mathlib.Core.Path.{◌≡◌, sym, ◌∙◌, ap, subst}
use mathlib.Core.List.{List, [], ◌++◌}
use Prim.Native.Nat.{ℕ, suc, ◌+◌, ◌-◌, ◌<◌, ◌≤◌}
use native.Mathlib.Omega.{arith}
use native.Mathlib.Numerals.{add-one}
use lib.IntN.{ℤ, pos}
use lib.ListN.{length, take, drop}
use Rattle.base_exact.specs.Rational.{int}
use Rattle.base_outcome.specs.Outcome.{answer, with_answer}
use Rattle.spec_spline.specs.Space.{Space, segments, segment_limit, degree, column_count, condition_count, conditions_before, first_column}
use Rattle.spec_spline.specs.Conditions.{conditions}
use Rattle.spec_spline.specs.Table.{Table, row, row_cells, table_cells, identity, numerators, denominators}
use Rattle.spec_spline.specs.Step.{jump}
use Rattle.spec_spline.specs.Build.{order_steps}
use Rattle.build_space.specs.Machine.{space}
use Rattle.build_space.specs.Legal.{PartLegal}
use Rattle.build_space.proofs.Bounds.{first-column-zero, first-column-next, conditions-before-next}
use Rattle.build_space.proofs.Legal.{legal_width_low, legal_width-high, legal_degree-high, legal_conditions-high, legal_conditions-left}
use Rattle.build_space.proofs.Legal.{legal_conditions-right, legal_columns-within, legal_conditions-before, part-column-count-high}
use Rattle.build_space.proofs.Partial.{first-column_partial}
use Rattle.spec_spline.proofs.Space.{first_column_mono}
use Rattle.build_cells.specs.Held.{Holds}
use Rattle.build_cells.proofs.Buffer.{holds-left}
use Rattle.build_conditions.specs.Sides.{SideIs, JoinIs, JoinFits}
use Rattle.build_conditions.specs.declared.Side.{Side}
use Rattle.build_conditions.specs.declared.Join.{Join}
use Rattle.build_joins.specs.Leaves.{Start}
use Rattle.build_joins.proofs.Grown.{first_proper, first-numerators, first-denominators}
use Rattle.build_joins.proofs.Later.{orders_all, row-idle}

-- ---- a join of a legal part

-- a side, and so a join, needs only the breakpoints and the degrees
side-whole : (b d o : List ℤ) {side : Side} {i : ℕ} → SideIs side (space b d []) i → SideIs side (space b d o) i
side-whole b d o {side} {i} h = record {
  degree_is = h.degree_is;
  length_is = h.length_is;
  column_is = h.column_is ∙ sym (first-column_partial b d [] i) ∙ first-column_partial b d o i;
}

pub join-whole : (b d o : List ℤ) {join : Join} {j : ℕ} → JoinIs join (space b d []) j → JoinIs join (space b d o) j
join-whole b d o h = record { left_is = side-whole b d o h.left_is; right_is = side-whole b d o h.right_is }

module _ (b d o : List ℤ) (part : PartLegal b d o) (j : ℕ) (within : j < length o) where
  -- no condition touches the rows of later segments, so that they stay as they are
  pub join-idle : (columns k : ℕ) → k < condition_count (space b d o) j → (i : ℕ)
      → jump j (conditions (space b d o) j k) (row (drop (first_column (space b d o) (suc (suc j))) (identity columns)) i) ≡ answer (int (pos 0))
  join-idle columns k h i = row-idle (space b d o) j k columns i (omega (arith, legal_conditions-left b d o part.lists j within))
      (omega (arith, legal_conditions-right b d o part.lists j within))

  pub join-later : (columns : ℕ) (t : Table) → order_steps (space b d o) j (condition_count (space b d o) j) (t ++ drop (first_column (space b d o) (suc (suc j))) (identity columns))
      ≡ with_answer (λ u. u ++ drop (first_column (space b d o) (suc (suc j))) (identity columns)) (order_steps (space b d o) j (condition_count (space b d o) j) t)
  join-later columns t = orders_all (space b d o) j (condition_count (space b d o) j) t (drop (first_column (space b d o) (suc (suc j))) (identity columns)) (λ k h i l. join-idle columns k h i)

  pub join-fits : {join : Join} → JoinIs join (space b d o) j → (k : ℕ) → k < condition_count (space b d o) j → JoinFits join k
  join-fits is k h = record {
    space = space b d o;
    index = j;
    is = is;
    left-short = legal_width-high b d o part.lists j (omega (arith, part.lists.order-count));
    right-short = legal_width-high b d o part.lists (suc j) (omega (arith, part.lists.order-count));
    left_long = legal_width_low b d o part.lists j (omega (arith, part.lists.order-count));
    right_long = legal_width_low b d o part.lists (suc j) (omega (arith, part.lists.order-count));
    left-degree = legal_degree-high b d o part.lists j (omega (arith, part.lists.order-count));
    right-degree = legal_degree-high b d o part.lists (suc j) (omega (arith, part.lists.order-count));
    order-left = omega (arith, legal_conditions-left b d o part.lists j within);
    order-right = omega (arith, legal_conditions-right b d o part.lists j within);
    order = omega (arith, legal_conditions-high b d o part.lists j within);
    left-columns = omega (arith, first-column-next (space b d o) j);
    right-columns = omega (arith, legal_columns-within b d o part.lists (suc j) (omega (arith, part.lists.order-count)), part-column-count-high b d o part);
  }

  -- the conditions up to and with this join are no more than the columns of the segments up to it
  pub conditions-left : conditions_before (space b d o) j + condition_count (space b d o) j ≤ first_column (space b d o) (suc j)
  conditions-left = omega (arith, conditions-before-next (space b d o) j, legal_conditions-before b d o part.lists (suc j) (omega (arith, part.lists.order-count)))

-- what the joins start from: the columns of the space, and the rows of its first segment
pub record Beginning (s : Space) (columns rows : ℕ) : Type 0 where
  pub columns_are : columns ≡ column_count s
  pub columns-fit : columns ≤ row_cells
  pub rows_are : rows ≡ first_column s 1
  pub rows_few : rows ≤ columns

pub beginning : (b d o : List ℤ) → PartLegal b d o → (columns p : ℕ) → columns ≡ column_count (space b d o) → p ≡ degree (space b d o) 0 → Beginning (space b d o) columns (p + 1)
beginning b d o part columns p columns_are is = record {
  columns_are = columns_are;
  columns-fit = omega (arith, columns_are, part-column-count-high b d o part);
  rows_are = rows_are;
  rows_few = omega (arith, rows_are, columns_are, first_column_mono (space b d o) 1 (length d) (omega (arith, part.lists.order-count)));
}
  where
    rows_are : p + 1 ≡ first_column (space b d o) 1
    rows_are = omega (arith, is, first-column-zero (space b d o), first-column-next (space b d o) 0)

pub begins : {s : Space} {columns rows : ℕ} (num den : List ℤ) {num' den' : List ℤ} → Beginning s columns rows → table_cells ≤ length num → table_cells ≤ length den
    → num' ≡ numerators (identity rows) num → den' ≡ denominators (identity rows) den → Start s num' den' columns
begins {columns = columns} {rows = rows} num den {num' = num'} {den' = den'} b long long' p q = record {
  count = b.columns_are;
  room = b.columns-fit;
  holds = subst (λ (k : ℕ). Holds num' den' (take k (identity columns))) b.rows_are (holds-left num den (take rows (identity columns)) long long'
      (p ∙ first-numerators rows columns num b.rows_few) (q ∙ first-denominators rows columns den b.rows_few) (first_proper rows columns b.rows_few b.columns-fit).fit);
}

-- what a turn at join j asks and counts, where the rows so far are those of the segments up to it
pub record AtJoin (s : Space) (columns rows n : ℕ) (join : Join) (j : ℕ) : Type 0 where
  pub is : JoinIs join s j
  pub fitting : (k : ℕ) → k < n → JoinFits join k
  pub enough : n ≤ rows
  pub low : rows + (join.right.degree + 1) ≤ row_cells
  pub wide : join.right.column + (join.right.degree + 1) ≤ columns
  pub next : rows + (join.right.degree + 1) - n + conditions_before s (j + 1) ≡ first_column s (suc (j + 1))
  pub before_last : j < segments s - 1
  pub small : j < segment_limit

pub at_join : (b d o : List ℤ) → PartLegal b d o → (j : ℕ) → j < length o → (columns rows n : ℕ) (join : Join) → JoinIs join (space b d []) j → n ≡ condition_count (space b d o) j
    → columns ≡ column_count (space b d o) → columns ≤ row_cells → rows + conditions_before (space b d o) j ≡ first_column (space b d o) (suc j) → AtJoin (space b d o) columns rows n join j
at_join b d o part j within columns rows n join part_is count columns_are columns-fit rows_are = record {
  is = is;
  fitting = λ k h. join-fits b d o part j within is k (subst (λ m. k < m) count h);
  enough = enough;
  low = omega (arith, last-column, is.right_is.degree_is, first-column-next s (suc j), rows_are, columns-fit);
  wide = omega (arith, last-column, is.right_is.column_is, is.right_is.degree_is, first-column-next s (suc j));
  next = omega (
    arith,
    enough,
    rows_are,
    conditions-before-next s j,
    count,
    is.right_is.degree_is,
    first-column-next s (suc j),
    ap (conditions_before s) (add-one j),
    ap (λ k. first_column s (suc k)) (add-one j),
  );
  before_last = omega (arith, part.lists.order-count);
  small = omega (arith, part.lists.order-count, part.few);
}
  where
    s : Space
    s = space b d o

    is : JoinIs join s j
    is = join-whole b d o part_is

    last-column : first_column s (suc (suc j)) ≤ columns
    last-column = omega (arith, first_column_mono s (suc (suc j)) (length d) (omega (arith, part.lists.order-count)), columns_are)

    enough : n ≤ rows
    enough = omega (arith, conditions-left b d o part j within, rows_are, count)
