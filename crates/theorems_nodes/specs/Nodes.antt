-- The nodes of a space, the coefficients of the line y = x, rise strictly from row to row of each part, at every order. Of the three rows
-- at a join of order 2 the middle one has no ordinate of its own: its node is a formula in the degrees and lengths beside the join.
use Rattle.std.specs.Prelude.{◌≡◌, ◌≢◌, List, ℕ, suc, ◌+◌, ◌-◌, ◌*◌, ◌<◌, pos}
use Rattle.base_exact.specs.Rational.{ℚ, int, ◌+ᵠ◌, ◌-ᵠ◌, ◌/ᵠ◌}
use Rattle.base_exact.specs.Order.{◌<ᵠ◌}
use Rattle.spec_spline.specs.Space.{Space, segments, break, order, degree, width, column_count, condition_count, row_count, rows_before}
use Rattle.spec_spline.specs.Table.{Table, entry}
use Rattle.spec_spline.specs.Piecewise.{Accepted, combination}
use Rattle.theorems_acceptance.specs.ClosedForms.{left_size, right_size, join_row}
use Rattle.theorems_lines.specs.Lines.{Line}

-- The list whose curve is the line y = x.
abbrev pub AreNodes : Space → Table → List ℚ → Type 0
AreNodes s t nodes = Line s (λ j. int (pos 0)) (λ j. int (pos 1)) (combination (column_count s) nodes t)

-- Rows i and i + 1 belong to one part: no part starts with row i + 1.
abbrev pub InOnePart : Space → ℕ → Type 0
InOnePart s i = (j : ℕ) → suc j < segments s → condition_count s j ≡ 0 → suc i ≢ rows_before s (suc j)

abbrev pub NodesRise : Type 0
NodesRise = (s : Space) (a : Accepted s) (nodes : List ℚ) → AreNodes s a.table nodes
    → (i : ℕ) → suc i < row_count s → InOnePart s i → entry nodes i <ᵠ entry nodes (suc i)

-- p q ((p - 1) b + (q - 1) a), with degree p and length a on the left of join j, q and b on its right.
abbrev pub spread : Space → ℕ → ℕ
spread s j = degree s j * degree s (suc j) * ((degree s j - 1) * width s (suc j) + (degree s (suc j) - 1) * width s j)

-- At a join at x: x + (p (p - 1) b² - q (q - 1) a²) / (p q ((p - 1) b + (q - 1) a)).
unfoldable pub middle_node : Space → ℕ → ℚ
middle_node s j = int (break s (suc j)) +ᵠ (left_size s j 2 -ᵠ right_size s j 2) /ᵠ int (pos (spread s j))

abbrev pub MiddleNodesAreFormulas : Type 0
MiddleNodesAreFormulas = (s : Space) (a : Accepted s) (nodes : List ℚ) → AreNodes s a.table nodes
    → (j : ℕ) → suc j < segments s → order s j ≡ pos 2 → entry nodes (join_row s j - 1) ≡ middle_node s j
