-- The cells after a call hold the published weights, proved: the last part lies in the buffers as spec_spline/specs/Table says.
use mathlib.Core.Path.{◌≡◌, sym, ◌∙◌, ap, subst}
use mathlib.Core.List.{List}
use Prim.Native.Nat.{ℕ, ◌+◌, ◌*◌, ◌<◌}
use lib.IntN.{ℤ, pos}
use lib.ListN.{length, drop}
use Rattle.base_exact.specs.Rational.{den}
use Rattle.base_outcome.specs.Outcome.{Outcome, answer, with_answer}
use Rattle.spec_spline.specs.Space.{Space}
use Rattle.spec_spline.specs.Table.{Table, cell, row_cells, table_cells, numerators, denominators}
use Rattle.spec_spline.specs.Build.{space_weights, built, last_part, numerators_after, denominators_after}
use Rattle.spec_published.specs.Published.{extraction}
use Rattle.spec_spline.proofs.Table.{laid_cell}
use Rattle.spec_spline.proofs.Build.{long-enough, last-part-cell}
use Rattle.theorems_weights.specs.Cells.{HoldsFraction, AcceptedSpacesAreBuilt, last_part_cell, CellsHoldPublishedWeights}
use Rattle.theorems_weights.proofs.Published.{weights_are_published}

pub accepted_spaces_are_built : AcceptedSpacesAreBuilt
unfolding built
accepted_spaces_are_built s a n d h k = long-enough n d (space_weights s) h k ∙ a.is

-- buffers that hold the last part of a table of the whole beam
module _ (s : Space) (t : Table) (nums dens : List ℤ) (i c : ℕ) (p : i < row_cells) (q : c < row_cells) where
  held-cell : cell (last_part s t) i c ≡ last_part_cell s t i c
  held-cell = last-part-cell s t i c

  pub last-part-held : HoldsFraction (last_part_cell s t i c) (numerators_after (answer (last_part s t)) nums) (denominators_after (answer (last_part s t)) dens) (row_cells * i + c)
  unfolding numerators_after denominators_after numerators denominators
  last-part-held = record {
    numerator = laid_cell (λ q. q.num) (last_part s t) (drop table_cells nums) i c p q ∙ ap (λ q. q.num) held-cell;
    denominator = laid_cell (λ q. pos (den q)) (last_part s t) (drop table_cells dens) i c p q ∙ ap (λ q. pos (den q)) held-cell;
  }

  -- the table is the published one, and a call ends with its last part
  pub published_held : t ≡ extraction s → (o : Outcome Table) → o ≡ answer (last_part s t)
      → HoldsFraction (last_part_cell s (extraction s) i c) (numerators_after o nums) (denominators_after o dens) (row_cells * i + c)
  published_held w o e =
      subst (λ o. HoldsFraction (last_part_cell s (extraction s) i c) (numerators_after o nums) (denominators_after o dens) (row_cells * i + c)) (sym e)
      (subst (λ u. HoldsFraction (last_part_cell s u i c) (numerators_after (answer (last_part s t)) nums) (denominators_after (answer (last_part s t)) dens) (row_cells * i + c)) w last-part-held)

pub cells_hold_published_weights : CellsHoldPublishedWeights
cells_hold_published_weights s a nums dens h k i c p q =
    published_held s a.table nums dens i c p q (weights_are_published s a) (with_answer (last_part s) (built s (length nums) (length dens)))
    (ap (with_answer (last_part s)) (accepted_spaces_are_built s a (length nums) (length dens) h k))
