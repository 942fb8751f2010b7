-- The joins of a part, as turns. The rows of a segment come in with the join before it.
use mathlib.Core.Path.{◌≡◌, ◌∙◌, ap, subst}
use mathlib.Core.List.{List, [], ◌++◌}
use Prim.Native.Nat.{ℕ, suc, ◌+◌, ◌-◌, ◌<◌, ◌≤◌}
use native.Mathlib.Omega.{arith}
use lib.IntN.{ℤ}
use lib.ListN.{length, drop, drop_of_length-le}
use Rattle.spec_spline.specs.Space.{Space, segments, degree, first_column, column_count, condition_count, conditions_before}
use Rattle.spec_spline.specs.Table.{Table, row_cells, identity}
use Rattle.spec_spline.specs.Build.{order_steps}
use Rattle.spec_spline.proofs.Space.{first_column_mono}
use Rattle.spec_spline.proofs.Table.{identity-rows}
use Rattle.build_space.specs.Machine.{space}
use Rattle.build_space.specs.Legal.{PartLegal}
use Rattle.build_space.proofs.Bounds.{first-column-next, conditions-before-next}
use Rattle.build_joins.specs.Leaves.{grown}
use Rattle.build_step.proofs.Stepped.{Proper, orders_less}
use Rattle.build_joins.proofs.Grown.{grown_proper, grown-later}
use Rattle.build_joins.proofs.Joins.{join-later, conditions-left}
use Rattle.build_step.proofs.Repeated.{Turns}

-- the rows of the identity for the segments after segment j
abbrev pub later : Space → ℕ → ℕ → Table
later s columns j = drop (first_column s (suc j)) (identity columns)

-- with the rows of the segment on the right of join j, those of the segments after it are left
pub grown-whole : (s : Space) (columns j : ℕ) (t : Table) → t ++ later s columns j ≡ grown s j columns t ++ later s columns (suc j)
grown-whole s columns j t =
    grown-later t (first_column s (suc j)) (degree s (suc j) + 1) columns
    ∙ ap (λ c. grown s j columns t ++ drop c (identity columns)) (let z : first_column s (suc j) + (degree s (suc j) + 1) ≡ first_column s (suc (suc j)) = omega
    (arith, first-column-next s (suc j)) in z)

-- after the last join none are left
pub later-none : (s : Space) (columns j : ℕ) → columns ≡ column_count s → suc j ≡ segments s → later s columns j ≡ []
later-none s columns j count last = drop_of_length-le (identity columns) {i = first_column s (suc j)} (omega (arith, identity-rows columns, count, ap (first_column s) last))

module _ (b d o : List ℤ) (part : PartLegal b d o) (columns : ℕ) (columns_are : columns ≡ column_count (space b d o)) (columns-fit : columns ≤ row_cells) where
  abbrev s : Space
  s = space b d o

  pub within : {j : ℕ} → j < segments s - 1 → j < length o
  within l = omega (arith, part.lists.order-count)

  -- the rows that have come in before join j
  abbrev pub rows_in : ℕ → ℕ
  rows_in j = first_column s (suc j) - conditions_before s j

  pub laid_proper : (j : ℕ) (t : Table) → j < segments s - 1 → Proper t (rows_in j) columns → Proper (grown s j columns t) (rows_in j + (degree s (suc j) + 1)) columns
  laid_proper j t l p =
      grown_proper t (rows_in j) (first_column s (suc j)) (degree s (suc j) + 1) columns p
      (omega (arith, first-column-next s (suc j), first_column_mono s (suc (suc j)) (length d) (omega (arith, within l, part.lists.order-count)), columns_are))
      (omega (arith, first-column-next s (suc j), first_column_mono s (suc (suc j)) (length d) (omega (arith, within l, part.lists.order-count)), columns_are, columns-fit))

  pub rows_left : (j : ℕ) → j < segments s - 1 → rows_in j + (degree s (suc j) + 1) - condition_count s j ≡ rows_in (suc j)
  rows_left j l = omega (arith, first-column-next s (suc j), conditions-before-next s j, conditions-left b d o part j (within l))

  abbrev pub join-turns : Turns Table
  join-turns = record {
    table = λ t. t;
    first = identity (column_count s);
    count = segments s - 1;
    step = λ j. order_steps s j (condition_count s j);
    work = λ j t. order_steps s j (condition_count s j) (grown s j columns t);
    whole = λ j t. t ++ later s columns j;
    Sound = λ j t. Proper t (rows_in j) columns;
    fits = λ j t p. p.fit;
    turn = λ j t l p. ap (order_steps s j (condition_count s j)) (grown-whole s columns j t) ∙ join-later b d o part j (within l) columns (grown s j columns t);
    keeps = λ j t u l p e. subst (λ m. Proper u m columns) (rows_left j l) (orders_less s j (condition_count s j) (grown s j columns t) e (laid_proper j t l p));
  }
