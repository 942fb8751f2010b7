-- The weights are the published construction's, each combination of rows meets every join condition,
-- and each piecewise curve that meets them all is a combination in exactly one way. The multipliers are any fractions.
use Rattle.std.specs.Prelude.{◌≡◌, List, ℕ, ◌<◌, length}
use Rattle.base_exact.specs.Rational.{ℚ}
use Rattle.spec_spline.specs.Space.{Space, column_count, row_count}
use Rattle.spec_spline.specs.Table.{Row, Table, row}
use Rattle.spec_published.specs.Published.{extraction}
use Rattle.spec_spline.specs.Piecewise.{Accepted, MeetsAll, combination}

-- The weights of an accepted space are the extraction matrix of the published construction, entry for entry.
abbrev pub WeightsArePublished : Type 0
WeightsArePublished = (s : Space) (a : Accepted s) → a.table ≡ extraction s

-- They have n rows, and each row has an entry for every column.
abbrev pub RowsAndColumns : Type 0
RowsAndColumns = (s : Space) (a : Accepted s) → (length a.table ≡ row_count s)
    × ((i : ℕ) → i < row_count s → length (row a.table i) ≡ column_count s)

-- Every combination of the rows meets every join condition.
abbrev pub CombinationsMeetConditions : Type 0
CombinationsMeetConditions = (s : Space) (a : Accepted s) (multipliers : List ℚ)
    → MeetsAll s (combination (column_count s) multipliers a.table)

-- o is the combination with these n multipliers, and with no others.
pub record OneCombination (s : Space) (t : Table) (o : Row) : Type 0 where
  pub multipliers : List ℚ
  pub count : length multipliers ≡ row_count s
  pub gives : combination (column_count s) multipliers t ≡ o
  pub only : (others : List ℚ) → length others ≡ row_count s → combination (column_count s) others t ≡ o → others ≡ multipliers

-- Every piecewise curve that meets all join conditions is one and only one combination of the rows.
abbrev pub ConditionsGiveOneCombination : Type 0
ConditionsGiveOneCombination = (s : Space) (a : Accepted s) (o : Row) → MeetsAll s o → OneCombination s a.table o
