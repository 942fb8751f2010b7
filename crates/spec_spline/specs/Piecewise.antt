-- Piecewise curves, the join conditions they meet (§ 7), combinations of rows (§ 12), and accepted spaces (§ 5). All sums are
-- exact; nothing is tested for its size here.
use Rattle.std.specs.Prelude.{◌≡◌, List, [], ◌∷◌, ℕ, ◌-◌, ◌<◌, pos, length}
use Rattle.base_exact.specs.Rational.{ℚ, int, ◌+ᵠ◌, ◌*ᵠ◌}
use Rattle.base_exact.specs.Sum.{sum}
use Rattle.base_exact.specs.Tabulate.{tab}
use Rattle.base_outcome.specs.Outcome.{answer}
use Rattle.spec_spline.specs.Space.{Space, segments, column_count, condition_count}
use Rattle.spec_spline.specs.Conditions.{Entry, conditions}
use Rattle.spec_spline.specs.Table.{Row, Table, entry, cell}
use Rattle.spec_spline.specs.Build.{space_weights}

-- "its ordinates times the conditions of that step" (§ 7), summed over the non-zero conditions.
unfoldable pub pairing : Row → List Entry → ℚ
pairing o [] = int (pos 0)
pairing o (e ∷ es) = entry o e.column *ᵠ int e.condition +ᵠ pairing o es

-- "It meets the condition of a join and an order where its ordinates times the conditions of that step (§ 5, 1) sum to zero." (§ 7)
-- The condition of order k at join j.
abbrev pub Meets : Space → Row → ℕ → ℕ → Type 0
Meets s o j k = pairing o (conditions s j k) ≡ int (pos 0)

-- "A piecewise curve is a list of fractions, one a column." (§ 7) Here one that meets all join conditions.
pub record MeetsAll (s : Space) (o : Row) : Type 0 where
  pub columns : length o ≡ column_count s
  pub meets : (j k : ℕ) → j < segments s - 1 → k < condition_count s j → Meets s o j k

-- "The combination of the rows" (§ 12): multiplier i times row i, summed over the rows, for a table with this many columns.
unfoldable pub combination : ℕ → List ℚ → Table → Row
combination columns multipliers t = tab columns (λ c. sum (length t) (λ i. entry multipliers i *ᵠ cell t i c))

-- "A space is accepted where none of 2 to 5, 15, 8 and 9 applies." (§ 5) It has weights.
pub record Accepted (s : Space) : Type 0 where
  pub table : Table
  pub is : space_weights s ≡ answer table
