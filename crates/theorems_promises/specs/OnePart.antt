-- "The parts of a space are what lies between its discontinuities" (§ 1): a space without discontinuities has one part, and is its
-- own last part. So for such a space all that is said of the last part, and of the buffers that hold it, is said of the whole
-- space.
use Rattle.std.specs.Prelude.{◌≡◌, true, List, ℕ, ◌+◌, ◌*◌, ◌-◌, ◌<◌, ◌≤◌, ℤ, negsuc, length}
use Rattle.base_outcome.specs.Outcome.{answer}
use Rattle.spec_spline.specs.Space.{Space, segments, order, starts_part, part_end, last_part_start, checked}
use Rattle.spec_spline.specs.Table.{Table, cell, row_cells, table_cells}
use Rattle.spec_spline.specs.Build.{last_part, build_end}
use Rattle.spec_published.specs.Published.{extraction}
use Rattle.spec_spline.specs.Piecewise.{Accepted}
use Rattle.theorems_weights.specs.Cells.{HoldsFraction}
use Rattle.theorems_beams.specs.Sections.{part_at}

-- No join has the order -1.
abbrev pub NoDiscontinuity : Space → Type 0
NoDiscontinuity s = (j : ℕ) → j < segments s - 1 → ¬ (order s j ≡ negsuc 0)

-- No segment but the first starts a part,
abbrev pub OnePartStarts : Type 0
OnePartStarts = (s : Space) → NoDiscontinuity s → (i : ℕ) → i < segments s → starts_part s i ≡ true → i ≡ 0

-- the part that it starts ends with the last segment,
abbrev pub OnePartEnds : Type 0
OnePartEnds = (s : Space) → NoDiscontinuity s → part_end s 0 ≡ segments s

-- and is the space itself.
abbrev pub OnePartIsTheSpace : Type 0
OnePartIsTheSpace = (s : Space) → checked s ≡ answer s → NoDiscontinuity s → part_at s 0 ≡ s

-- It is the last part too: from segment 0 on, and all of a table.
abbrev pub OnePartIsTheLast : Type 0
OnePartIsTheLast = (s : Space) → NoDiscontinuity s → (last_part_start s ≡ 0) × ((t : Table) → last_part s t ≡ t)

-- So after building an accepted one, cell 72·i + c holds the published weight of row i on column c, with nothing moved.
abbrev pub OnePartFillsTheCells : Type 0
OnePartFillsTheCells = (s : Space) → Accepted s → NoDiscontinuity s
    → (nums dens : List ℤ) → table_cells ≤ length nums → table_cells ≤ length dens
    → (i c : ℕ) → i < row_cells → c < row_cells
    → HoldsFraction (cell (extraction s) i c) (build_end s nums dens).numerators (build_end s nums dens).denominators (row_cells * i + c)
