-- Buffers that are long enough let the build's outcome through, and what they hold is the last part of the whole table.
use mathlib.Core.Path.{◌≡◌, ◌∙◌}
use Prim.Native.Nat.{ℕ, ◌+◌, ◌≤◌}
use borrow.Author.Tests.{le-ltb}
use Rattle.base_exact.proofs.Decide.{cond_false}
use Rattle.base_outcome.specs.Outcome.{Outcome}
use Rattle.spec_spline.specs.Space.{Space, last_part_start, first_column, rows_before}
use Rattle.spec_spline.specs.Table.{Table, cell, table_cells}
use Rattle.spec_spline.specs.Build.{long_enough, last_part}
use Rattle.spec_spline.proofs.Table.{cell-drop}

pub long-enough : {A : Type 0} (n d : ℕ) (o : Outcome A) → table_cells ≤ n → table_cells ≤ d → long_enough n d o ≡ o
long-enough n d o h k = cond_false _ _ (le-ltb n table_cells h) ∙ cond_false _ _ (le-ltb d table_cells k)

pub last-part-cell : (s : Space) (t : Table) (i c : ℕ) → cell (last_part s t) i c ≡ cell t (rows_before s (last_part_start s) + i) (first_column s (last_part_start s) + c)
unfolding last_part
last-part-cell s t i c = cell-drop (rows_before s (last_part_start s)) (first_column s (last_part_start s)) t i c
