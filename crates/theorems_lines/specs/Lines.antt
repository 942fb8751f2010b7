-- Straight lines are reproduced: a straight line on each part of a beam, the same or another, is the curve of one and only one list of
-- coefficients. Its ordinates lie at the breakpoint plus t/p of the segment's length, as on any line in Bernstein form. This holds in
-- every space whose lists are legal, whatever 8 says.
use Rattle.std.specs.Prelude.{◌≡◌, ℕ, suc, ◌+◌, ◌*◌, ◌<◌, ◌≤◌, pos, length}
use Rattle.base_exact.specs.Rational.{ℚ, int, ◌+ᵠ◌, ◌*ᵠ◌, ◌/ᵠ◌}
use Rattle.spec_spline.specs.Space.{Space, segments, break, degree, width, condition_count, first_column, column_count}
use Rattle.spec_spline.specs.Table.{Row, entry}
use Rattle.spec_spline.specs.Piecewise.{Accepted}
use Rattle.spec_published.specs.Published.{extraction}
use Rattle.theorems_weights.specs.PublishedBasis.{OneCombination}
use Rattle.theorems_basis.specs.Basis.{LegalLists}

-- Where ordinate t of segment j stands: at the breakpoint, plus t of p parts of the segment's length.
unfoldable pub place_of : Space → ℕ → ℕ → ℚ
place_of s j t = int (break s j) +ᵠ int (pos (width s j)) *ᵠ int (pos t) /ᵠ int (pos (degree s j))

-- The piecewise curve o is the line with this start and slope on each segment; across a join that is no discontinuity they stay.
pub record Line (s : Space) (start slope : ℕ → ℚ) (o : Row) : Type 0 where
  pub columns : length o ≡ column_count s
  pub ordinates : (j t : ℕ) → j < segments s → t ≤ degree s j → entry o (first_column s j + t) ≡ start j +ᵠ slope j *ᵠ place_of s j t
  pub kept : (j : ℕ) → suc j < segments s → 0 < condition_count s j → (start j ≡ start (suc j)) × (slope j ≡ slope (suc j))

-- It has one list.
abbrev pub LinesHaveOneList : Type 0
LinesHaveOneList = (s : Space) → LegalLists s → (start slope : ℕ → ℚ) (o : Row) → Line s start slope o → OneCombination s (extraction s) o

-- Likewise of the weights of an accepted space.
abbrev pub AcceptedLinesHaveOneList : Type 0
AcceptedLinesHaveOneList = (s : Space) (a : Accepted s) (start slope : ℕ → ℚ) (o : Row) → Line s start slope o
    → OneCombination s a.table o
