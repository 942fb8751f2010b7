-- The w lines of a whole beam, and what the two buffers hold when they are to be written.
use Rattle.std.specs.Prelude.{List, [], ◌≡◌, ℕ, ◌+◌, ◌*◌, ◌^◌, ◌≤◌, ℤ, length}
use Rattle.base_outcome.specs.Outcome.{Outcome, answer, refusal}
use Rattle.spec_spline.specs.Space.{Space, segment_limit, degree_limit, part_end, row_count}
use Rattle.spec_spline.specs.Table.{Table, table_cells, numerators, denominators}
use Rattle.spec_spline.specs.Build.{weights, space_weights, last_part, numerators_after, denominators_after}
use Rattle.spec_spline.specs.Listing.{table_weights}
use Rattle.spec_spline.specs.Piecewise.{Accepted}
use Rattle.theorems_beams.specs.Sections.{part_at}
use Rattle.theorems_beams.specs.Parts.{Starts}
use Rattle.base_text.specs.Bytes.{Text}
use Rattle.spec_sheet.specs.Printout.{weight_lines}

-- The most rows of a beam, 288: no more than its columns, which are at most six a segment.
abbrev pub row_limit : ℕ
row_limit = segment_limit * (degree_limit + 1)

-- The table of an outcome; no rows where it is refused.
unfoldable pub table_of : Outcome Table → Table
table_of (answer t) = t
table_of (refusal code place) = []

-- The w lines of a beam, "for each non-zero weight of the whole beam" (§ 13): those of its whole table.
unfoldable pub weights_text : Space → Text
weights_text s = weight_lines (table_weights 0 (table_of (space_weights s)))

-- The beam is accepted and has n rows, and the two buffers hold its last part.
pub record Filled (s : Space) (n : ℕ) (num den : List ℤ) : Type 0 where
  pub accepted : Accepted s
  pub rows : n ≡ row_count s
  pub num_long : table_cells ≤ length num
  pub den_long : table_cells ≤ length den
  pub num_is : num ≡ numerators (last_part s accepted.table) num
  pub den_is : den ≡ denominators (last_part s accepted.table) den

-- An accepted beam, the two segments between which a part of it lies, and buffers for its table.
pub record PartAsks (s : Space) (a b : ℕ) (num den : List ℤ) : Type 0 where
  pub accepted : Accepted s
  pub num_long : table_cells ≤ length num
  pub den_long : table_cells ≤ length den
  pub starts : Starts s a
  pub ends : b ≡ part_end s a

-- The number of rows of the part from segment a on, and the buffers with its table.
pub record PartBuilt (s : Space) (a : ℕ) (num den num_now den_now : List ℤ) (rows : ℕ) : Type 0 where
  pub rows_are : rows ≡ row_count (part_at s a)
  pub num_is : num_now ≡ numerators_after (weights (part_at s a)) num
  pub den_is : den_now ≡ denominators_after (weights (part_at s a)) den

-- An accepted beam, buffers for the table of a part, and an index to write at.
pub record PartsAsk (s : Space) (num den : List ℤ) (at : ℕ) : Type 0 where
  pub accepted : Accepted s
  pub near : at ≤ 2 ^ 40
  pub num_long : table_cells ≤ length num
  pub den_long : table_cells ≤ length den
