-- Minimal support: no curve of an accepted space lives on less than a row does. A curve that meets all join conditions and vanishes on
-- every column on which row i has no weight is a multiple of row i.
use Rattle.std.specs.Prelude.{◌≡◌, ℕ, ◌<◌, pos}
use Rattle.base_exact.specs.Rational.{ℚ, int, ◌*ᵠ◌}
use Rattle.spec_spline.specs.Space.{Space, column_count, row_count}
use Rattle.spec_spline.specs.Table.{Table, Row, entry, cell}
use Rattle.spec_spline.specs.Piecewise.{MeetsAll, Accepted}

-- The curve o is zero on every column on which row i has no weight.
abbrev pub LivesOn : Space → Table → ℕ → Row → Type 0
LivesOn s t i o = (c : ℕ) → c < column_count s → cell t i c ≡ int (pos 0) → entry o c ≡ int (pos 0)

-- It is the row times one number.
pub record Multiple (s : Space) (t : Table) (i : ℕ) (o : Row) : Type 0 where
  pub factor : ℚ
  pub is : (c : ℕ) → c < column_count s → entry o c ≡ factor *ᵠ cell t i c

abbrev pub RowsAreMinimal : Type 0
RowsAreMinimal = (s : Space) (a : Accepted s) (i : ℕ) → i < row_count s → (o : Row) → MeetsAll s o → LivesOn s a.table i o
    → Multiple s a.table i o
