-- What the joins of a part start from, and what they and its build leave in the two lent buffers.
use Rattle.std.specs.Prelude.{Result, Ok, Err, List, ◌++◌, ◌≡◌, ℕ, suc, ◌+◌, ◌≤◌, ℤ, take, drop}
use Rattle.base_outcome.specs.Outcome.{Outcome, answer, refusal, with_answer}
use Rattle.base_outcome.specs.Machine.{reply, refused}
use Rattle.base_outcome.specs.declared.Refusal.{Refusal}
use Rattle.spec_spline.specs.Space.{Space, degree, first_column, column_count}
use Rattle.spec_spline.specs.Table.{Table, row_cells, identity}
use Rattle.spec_spline.specs.Build.{numerators_after, denominators_after}
use Rattle.build_cells.specs.Held.{Holds}
use Rattle.build_cells.specs.Left.{Left}

-- The table with the identity's rows for the segment on the right of join j, of all of the space's columns.
abbrev pub grown : Space → ℕ → ℕ → Table → Table
grown s j columns t = t ++ take (degree s (suc j) + 1) (drop (first_column s (suc j)) (identity columns))

-- The buffers hold the first segment's rows of the identity of the space's columns; the rows of the others are to come.
pub record Start (s : Space) (num den : List ℤ) (columns : ℕ) : Type 0 where
  pub count : columns ≡ column_count s
  pub room : columns ≤ row_cells
  pub holds : Holds num den (take (first_column s 1) (identity columns))

-- The number n of rows, or the refusal.
abbrev pub told_joins : ℕ → Outcome Table → Result ℕ Refusal
told_joins n (answer t) = Ok n
told_joins n (refusal code place) = Err (refused code place)

-- What the joins leave: the table with its n rows, or the refusal.
abbrev pub JoinsLeave : Outcome Table → ℕ → Result ℕ Refusal → List ℤ → List ℤ → List ℤ → List ℤ → Type 0
JoinsLeave o n r num den num' den' = Left (λ t. t) (told_joins n) o r num den num' den'

-- What the build of a part answers and leaves, by the outcome o with n rows.
pub record Ends (o : Outcome Table) (n : ℕ) (r : Result ℕ Refusal) (num den num' den' : List ℤ) : Type 0 where
  pub answers : reply r ≡ with_answer (λ _. n) o
  pub numerators_are : num' ≡ numerators_after o num
  pub denominators_are : den' ≡ denominators_after o den
