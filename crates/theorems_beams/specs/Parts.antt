-- The theorem that joins the parts of a beam: "a part's weights are the whole table's weights on its rows and columns, with zeros
-- elsewhere in these rows and columns, and the first refused part refuses the beam" (§ 4).
use Rattle.std.specs.Prelude.{◌≡◌, true, ◌⊎◌, ℕ, ◌+◌, ◌<◌, ◌≤◌, pos}
use Rattle.base_exact.specs.Rational.{int}
use Rattle.base_outcome.specs.Outcome.{answer, refusal, capped, ◌then◌}
use Rattle.spec_spline.specs.Space.{Space, segments, starts_part, part_end, checked, first_column, column_count, row_count, rows_before}
use Rattle.spec_spline.specs.Table.{Table, cell}
use Rattle.spec_spline.specs.Build.{weights}
use Rattle.spec_spline.specs.Piecewise.{Accepted}
use Rattle.theorems_beams.specs.Sections.{section, part_at, beside, later}

-- Segment a starts a part of the beam.
pub record Starts (s : Space) (a : ℕ) : Type 0 where
  pub below : a < segments s
  pub starts : starts_part s a ≡ true

-- The parts of a beam whose lists are legal are spaces whose lists are legal: the limits of a part are those of a space of one
-- part.
abbrev pub PartsAreLegal : Type 0
PartsAreLegal = (s : Space) → checked s ≡ answer s → (a : ℕ) → Starts s a → checked (part_at s a) ≡ answer (part_at s a)

-- A beam cut before segment a: its weights are those of the two sections, each on its rows and columns, or the refusal of the
-- first section that is refused.
abbrev pub CutWeights : Type 0
CutWeights = (s : Space) → checked s ≡ answer s → (a n : ℕ) → Starts s a → segments s ≡ a + n
    → weights s ≡ (weights (section s 0 a) then λ t. later a (weights (section s a n)) then λ u. answer
    (beside (column_count (section s 0 a)) (column_count (section s a n)) t u))

-- The part that starts with segment a is built by itself to t: the whole table has t's weights on the part's rows and columns,
-- and zeros elsewhere in these rows and in these columns.
pub record PartOf (s : Space) (whole : Table) (a : ℕ) : Type 0 where
  pub accepted : Accepted (part_at s a)
  pub same : (i c : ℕ) → i < row_count (part_at s a) → c < column_count (part_at s a)
      → cell whole (rows_before s a + i) (first_column s a + c) ≡ cell accepted.table i c
  pub zero-beside : (i c : ℕ) → i < row_count (part_at s a) → (c < first_column s a) ⊎ (first_column s (part_end s a) ≤ c)
      → cell whole (rows_before s a + i) c ≡ int (pos 0)
  pub zero-above_and_below : (i c : ℕ) → c < column_count (part_at s a) → (i < rows_before s a) ⊎ (rows_before s a + row_count (part_at s a) ≤ i)
      → cell whole i (first_column s a + c) ≡ int (pos 0)

-- So the weights of an accepted beam are its parts' weights.
abbrev pub WeightsByParts : Type 0
WeightsByParts = (s : Space) (x : Accepted s) (a : ℕ) → Starts s a → PartOf s x.table a

-- The first part that is refused, with this code and place.
pub record FirstRefused (s : Space) (code place : ℕ) : Type 0 where
  pub start : ℕ
  pub starts : Starts s start
  pub earlier : (a : ℕ) → a < start → Starts s a → Accepted (part_at s a)
  pub own : ℕ
  pub refuses : weights (part_at s start) ≡ refusal code own
  pub place_is : place ≡ capped (start + own)

-- A beam whose lists are legal is refused where, and as, its first refused part is.
abbrev pub RefusedWithAPart : Type 0
RefusedWithAPart = (s : Space) → checked s ≡ answer s → (code place : ℕ) → weights s ≡ refusal code place → FirstRefused s code place

-- And where a part is refused, the beam is.
abbrev pub RefusedByAPart : Type 0
RefusedByAPart = (s : Space) → checked s ≡ answer s → (code place : ℕ) → FirstRefused s code place → weights s ≡ refusal code place
