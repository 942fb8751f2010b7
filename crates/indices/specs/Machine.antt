-- The machine's form of what the definitions of ring indices say: code 14 by the value cells.
use Rattle.std.specs.Prelude.{Result, List, ◌≡◌, ℕ, ◌*◌, ◌≤◌, ℤ, length}
use Rattle.base_outcome.specs.declared.Refusal.{Refusal}
use Rattle.base_exact.specs.Tabulate.{tab}
use Rattle.base_outcome.specs.Codes as codes
use Rattle.base_outcome.specs.Outcome.{Outcome, answer}
use Rattle.base_outcome.specs.Search.{first}
use Rattle.base_outcome.specs.Tests.{refuse_first}
use Rattle.base_outcome.specs.Machine.{reply}
use Rattle.spec_spline.specs.CurveCall.{position_limit, CurveEnd}
use Rattle.spec_calls.specs.Indices.{indices_returned, indices_after}
use Rattle.indices_rings.specs.Cells.{bad_cell, cell_index}

-- Code 14 at the first ring that it refuses, or the indices.
unfoldable pub cells_indexed : List ℤ → List ℤ → ℕ → Outcome (List ℤ)
cells_indexed widths cells offset = refuse_first codes.ring (first (length widths) (bad_cell widths cells offset))
    (answer (tab (length widths) (cell_index widths cells offset)))

-- ---- what is asked, and what is left

-- Value cells for the rings, room for their indices, and no more rings than a curve call takes.
pub record IndexAsks (widths values indices : List ℤ) : Type 0 where
  pub valued : 2 * length widths ≤ length values
  pub room : length widths ≤ length indices
  pub few : length widths ≤ position_limit

-- The answer and the buffer are those of this outcome.
pub record Indexed (o : Outcome (List ℤ)) (r : Result ℕ Refusal) (indices indices_now : List ℤ) : Type 0 where
  pub answers : reply r ≡ indices_returned o
  pub indices_are : indices_now ≡ indices_after o indices

-- The answer and the buffers are those of this end of the curve call.
pub record CurveLeaves (e : CurveEnd) (r : Result ℕ Refusal) (num den values : List ℤ) : Type 0 where
  pub answers : reply r ≡ e.answers
  pub numerators_are : num ≡ e.numerators
  pub denominators_are : den ≡ e.denominators
  pub values_are : values ≡ e.values
