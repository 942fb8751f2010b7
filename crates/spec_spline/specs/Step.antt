-- One step of the build: the jumps, the rows they span, the factors and the new rows, with the counted fractions in
-- the order of the specification (§ 5). j is the join, which is the place of 8 and 9.
use Rattle.std.specs.Prelude.{Bool, cond, not, ◌&&◌, List, [], ◌∷◌, ◌++◌, ℕ, suc, ◌+◌, ◌-◌, pos, length, take, drop}
use Rattle.std.proofs.Math.Option.{Option, some, none}
use Rattle.base_exact.specs.Rational.{ℚ, int, ◌+ᵠ◌, ◌*ᵠ◌, ◌-ᵠ◌, ◌/ᵠ◌}
use Rattle.base_exact.specs.Order.{is_zero, ltᵠ}
use Rattle.base_exact.specs.Sum.{sum}
use Rattle.base_fraction.specs.Size.{fits}
use Rattle.base_outcome.specs.Codes as codes
use Rattle.base_outcome.specs.Outcome.{Outcome, answer, refuse, ◌then◌, collect}
use Rattle.base_outcome.specs.Search.{first, last, found}
use Rattle.spec_spline.specs.Conditions.{Entry}
use Rattle.spec_spline.specs.Table.{Row, Table, entry, row}

-- A counted fraction: code 8 where it is too large.
unfoldable pub count : ℕ → ℚ → Outcome ℚ
count j q = cond (fits q) (answer q) (refuse codes.tooLarge j)

-- The sum so far, and each product weight times condition with its partial sum, columns rising.
unfoldable pub add_products : ℕ → Row → ℚ → List Entry → Outcome ℚ
add_products j r s [] = answer s
add_products j r s (e ∷ es) = count j (entry r e.column *ᵠ int e.condition) then λ p. count j (s +ᵠ p) then λ t. add_products j r t es

-- "The jump of a row is the sum of weight times condition over the columns with a non-zero condition, columns rising." (§ 5)
abbrev pub jump : ℕ → List Entry → Row → Outcome ℚ
jump j κ r = add_products j r (int (pos 0)) κ

-- The jumps of all rows, rows rising.
abbrev pub jumps : ℕ → List Entry → Table → Outcome (List ℚ)
jumps j κ t = collect (length t) (λ i. jump j κ (row t i))

-- The jump of row i has a value other than zero.
abbrev pub jumps_at : List ℚ → ℕ → Bool
jumps_at js i = not (is_zero (entry js i))

-- The rows f to l.
pub record Span : Type 0 where
  pub f : ℕ
  pub l : ℕ

-- A zero lies between f and l.
abbrev pub zero_between : List ℚ → ℕ → ℕ → Bool
zero_between js f l = found (first (l - f) (λ d. is_zero (entry js (f + d))))

abbrev pub span_of : ℕ → List ℚ → Option ℕ → Option ℕ → Outcome Span
span_of j js none l = refuse codes.jumps j
span_of j js (some f) none = refuse codes.jumps j
span_of j js (some f) (some l) = cond (zero_between js f l) (refuse codes.jumps j) (answer (record { f = f; l = l }))

-- "f and l are the first and the last row with a non-zero jump. Number 9 where there is none, or a zero jump between them." (§ 5)
unfoldable pub span : ℕ → List ℚ → Outcome Span
span j js = span_of j js (first (length js) (jumps_at js)) (last (length js) (jumps_at js))

-- S: the sum of jumps f to i.
unfoldable pub partial_sum : List ℚ → ℕ → ℕ → ℚ
partial_sum js f i = sum (suc i - f) (λ d. entry js (f + d))

-- The factor from S and the jump: "S and then w(i), which is tested for 8 before it is tested for 9" (§ 5), and "number 9 where
-- w(i) is not strictly between 0 and 1" (§ 5).
unfoldable pub quotient_factor : ℕ → ℚ → ℚ → Outcome ℚ
quotient_factor j s q =
    count j s then λ s.
    count j (s /ᵠ q) then λ w.
    cond (ltᵠ (int (pos 0)) w && ltᵠ w (int (pos 1))) (answer w) (refuse codes.jumps j)

-- The factor of row i: w = S / jump i.
abbrev pub factor : ℕ → List ℚ → ℕ → ℕ → Outcome ℚ
factor j js f i = quotient_factor j (partial_sum js f i) (entry js i)

-- The factors of the rows f to l: 1 at f, w for f + 1 to l - 1, 0 at l.
unfoldable pub factors : ℕ → List ℚ → Span → Outcome (List ℚ)
factors j js g = collect (g.l - g.f - 1) (λ d. factor j js g.f (g.f + 1 + d)) then λ ws. answer
    (int (pos 1) ∷ (ws ++ (int (pos 0) ∷ [])))

-- "the first product, the second product, the sum" (§ 5).
unfoldable pub new_entry : ℕ → ℚ → ℚ → ℚ → ℚ → Outcome ℚ
new_entry j w v x y = count j (w *ᵠ x) then λ p. count j ((int (pos 1) -ᵠ v) *ᵠ y) then λ q. count j (p +ᵠ q)

-- w(i)·(old row i) + (1 - w(i+1))·(old row i+1), columns rising.
abbrev pub new_row : ℕ → ℚ → ℚ → Row → Row → Outcome Row
new_row j w v r r' = collect (length r) (λ c. new_entry j w v (entry r c) (entry r' c))

-- The new rows f to l - 1, rows rising.
unfoldable pub new_rows : ℕ → Span → List ℚ → Table → Outcome Table
new_rows j g ws t = collect (g.l - g.f) (λ d. new_row j (entry ws d) (entry ws (suc d)) (row t (g.f + d)) (row t (g.f + suc d)))

-- ---- the two halves of a step

-- What a step works out before it makes rows new: its jumps, the rows that they span and the factors of these rows.
pub record Planned : Type 0 where
  pub jumps : List ℚ
  pub span : Span
  pub factors : List ℚ

-- These jumps with the factors of these rows.
unfoldable pub plan_over : ℕ → List ℚ → Span → Outcome Planned
plan_over j js g = factors j js g then λ ws. answer (record { jumps = js; span = g; factors = ws })

-- What follows from the jumps: the rows that they span, and the factors of these rows.
unfoldable pub plan_from : ℕ → List ℚ → Outcome Planned
plan_from j js = span j js then plan_over j js

-- The first half of a step, or its refusal.
unfoldable pub planned : ℕ → List Entry → Table → Outcome Planned
planned j κ t = jumps j κ t then plan_from j

-- The second half: "Row i below f stays.", then the new rows, and "Row i from l on becomes old row i + 1: there is one row less."
-- (§ 5)
unfoldable pub rows_renewed : ℕ → Span → List ℚ → Table → Outcome Table
rows_renewed j g ws t = new_rows j g ws t then λ rs. answer (take g.f t ++ (rs ++ drop (suc g.l) t))

-- One step with the conditions κ at join j.
unfoldable pub step : ℕ → List Entry → Table → Outcome Table
step j κ t = planned j κ t then λ p. rows_renewed j p.span p.factors t
