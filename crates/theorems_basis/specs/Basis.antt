-- The published construction is a basis for every space whose lists pass 2 to 5 and 15, whatever the size of its fractions:
-- nothing is tested for its size here, so code 8 is a limit of the machine alone and says nothing against the space.
use Rattle.std.specs.Prelude.{◌≡◌, List, ℕ, ◌+◌, ◌*◌, ◌<◌, ◌≤◌, ℤ, pos, length}
use Rattle.base_exact.specs.Rational.{ℚ, int}
use Rattle.base_exact.specs.Order.{◌≤ᵠ◌}
use Rattle.base_exact.specs.Sum.{sum}
use Rattle.base_outcome.specs.Codes as codes
use Rattle.base_outcome.specs.Outcome.{Outcome, answer, refusal}
use Rattle.spec_spline.specs.Space.{Space, checked, column_count, row_count}
use Rattle.spec_spline.specs.Table.{Row, Table, row, cell, row_cells, table_cells}
use Rattle.spec_spline.specs.Build.{space_weights, build_end}
use Rattle.spec_published.specs.Published.{extraction}
use Rattle.spec_spline.specs.Piecewise.{MeetsAll, combination}
use Rattle.theorems_weights.specs.PublishedBasis.{OneCombination}
use Rattle.theorems_weights.specs.Cells.{HoldsFraction, last_part_cell}

-- A space whose lists pass 2 to 5 and 15.
abbrev pub LegalLists : Space → Type 0
LegalLists s = checked s ≡ answer s

-- The rows of a table are a basis for the join conditions of a space: n rows with an entry for every column, none negative,
-- with sum one in each column; each of them, and each of their combinations, meets every condition; and every piecewise curve
-- that meets all conditions is one combination in exactly one way.
pub record IsBasis (s : Space) (t : Table) : Type 0 where
  pub rows : length t ≡ row_count s
  pub columns : (i : ℕ) → i < row_count s → length (row t i) ≡ column_count s
  pub not_negative : (i c : ℕ) → int (pos 0) ≤ᵠ cell t i c
  pub column_sums : (c : ℕ) → c < column_count s → sum (row_count s) (λ i. cell t i c) ≡ int (pos 1)
  pub rows_meet : (i : ℕ) → i < row_count s → MeetsAll s (row t i)
  pub combinations_meet : (multipliers : List ℚ) → MeetsAll s (combination (column_count s) multipliers t)
  pub one_combination : (o : Row) → MeetsAll s o → OneCombination s t o

-- The published construction's rows are a basis in every legal space.
abbrev pub PublishedIsABasis : Type 0
PublishedIsABasis = (s : Space) → LegalLists s → IsBasis s (extraction s)

-- The weights are these rows, or code 8.
pub data PublishedOrTooLarge (s : Space) (o : Outcome Table) : Type 0 where
  published : o ≡ answer (extraction s) → PublishedOrTooLarge s o
  too_large : (place : ℕ) → o ≡ refusal codes.tooLarge place → PublishedOrTooLarge s o

-- A legal space has the published weights, or is refused with 8: no other code is left.
abbrev pub LegalIsPublishedOrTooLarge : Type 0
LegalIsPublishedOrTooLarge = (s : Space) → LegalLists s → PublishedOrTooLarge s (space_weights s)

-- Cell 72·i + c of the two buffers holds the published weight of the last part's row i on its column c.
abbrev pub HoldsPublished : Space → List ℤ → List ℤ → Type 0
HoldsPublished s nums dens =
    (i c : ℕ) → i < row_cells → c < row_cells → HoldsFraction (last_part_cell s (extraction s) i c) nums dens (row_cells * i + c)

-- After building with these two buffers lent: n is answered and they hold the published weights, or code 8 is given.
pub data BuiltOrTooLarge (s : Space) (nums dens : List ℤ) : Type 0 where
  holds : (build_end s nums dens).answers ≡ answer (row_count s)
      → HoldsPublished s (build_end s nums dens).numerators (build_end s nums dens).denominators → BuiltOrTooLarge s nums dens
  refused : (place : ℕ) → (build_end s nums dens).answers ≡ refusal codes.tooLarge place → BuiltOrTooLarge s nums dens

-- Building a legal space in buffers that are long enough ends in one of these two ways.
abbrev pub LegalIsBuiltOrTooLarge : Type 0
LegalIsBuiltOrTooLarge = (s : Space) → LegalLists s → (nums dens : List ℤ) → table_cells ≤ length nums → table_cells ≤ length dens
    → BuiltOrTooLarge s nums dens

-- After 8 the published rows are a basis all the same.
abbrev pub EightHasABasis : Type 0
EightHasABasis = (s : Space) (place : ℕ) → space_weights s ≡ refusal codes.tooLarge place → IsBasis s (extraction s)
