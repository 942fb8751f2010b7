-- The coefficients that give a list of local ordinates (§ 12): the steps of the build in order, each followed by
-- the undoing of its weights. Ordinates and coefficients are both in 256ths. j is the join, which is the place of 19 and 20.
use Rattle.std.specs.Prelude.{cond, List, [], ◌∷◌, ◌++◌, map, ℕ, zero, suc, ◌+◌, ◌-◌, ℤ, pos, length, take, drop}
use Rattle.base_exact.specs.Rational.{ℚ, int, ◌+ᵠ◌, ◌*ᵠ◌, ◌-ᵠ◌, ◌/ᵠ◌}
use Rattle.base_exact.specs.Order.{is_zero}
use Rattle.base_fraction.specs.Size.{fits}
use Rattle.base_outcome.specs.Codes as codes
use Rattle.base_outcome.specs.Outcome.{Outcome, answer, refuse, ◌then◌, repeat}
use Rattle.spec_spline.specs.Space.{Space, segments, column_count, condition_count}
use Rattle.spec_spline.specs.Conditions.{Entry, conditions}
use Rattle.spec_spline.specs.Table.{Table, entry, identity}
use Rattle.spec_spline.specs.Step.{Span, jumps_at, Planned, planned, rows_renewed}

-- A fraction of the undoing: 20 where it is "too large in the sense of § 5" (§ 12).
unfoldable pub fitted : ℕ → ℚ → Outcome ℚ
fitted j q = cond (fits q) (answer q) (refuse codes.too_large_to_undo j)

-- "the products of present number and jump over the rows with a non-zero jump, rows rising, and their partial sums" (§ 12), of the
-- first n rows.
unfoldable pub jump_sum : ℕ → List ℚ → List ℚ → ℕ → Outcome ℚ
jump_sum j js cs zero = answer (int (pos 0))
jump_sum j js cs (suc n) = jump_sum j js cs n then λ s. cond (jumps_at js n) (fitted j (entry cs n *ᵠ entry js n) then λ p. fitted j (s +ᵠ p))
    (answer s)

-- "19 where that sum is not zero" (§ 12).
unfoldable pub balanced : ℕ → List ℚ → List ℚ → Outcome (Unit {0})
balanced j js cs = jump_sum j js cs (length js) then λ s. cond (is_zero s) (answer tt) (refuse codes.no_coefficients j)

-- "the share (1 - w(i))·(new number of row i - 1), the difference (number of row i) - share, and the quotient difference / w(i),
-- each 20 where too large, is the new number of row i" (§ 12): of a row with factor w and present number c, given the new number of
-- the row before it.
unfoldable pub undone_coefficient : ℕ → ℚ → ℚ → ℚ → Outcome ℚ
undone_coefficient j w c before = fitted j ((int (pos 1) -ᵠ w) *ᵠ before) then λ share. fitted j (c -ᵠ share) then λ d. fitted j (d /ᵠ w)

-- The new coefficient of row f + n, given those of the rows f to f + n - 1. Row f is divided by 1: it keeps its coefficient.
abbrev pub undone_row : ℕ → List ℚ → List ℚ → ℕ → ℕ → List ℚ → Outcome ℚ
undone_row j ws cs f zero ds = answer (entry cs f)
undone_row j ws cs f (suc n) ds = undone_coefficient j (entry ws (suc n)) (entry cs (f + suc n)) (entry ds n)

-- "row f keeps its number; for i from f + 1 to l - 1" the new number of row i (§ 12): those of the n rows from row f on.
unfoldable pub undone_rows : ℕ → List ℚ → List ℚ → ℕ → ℕ → Outcome (List ℚ)
undone_rows j ws cs f zero = answer []
undone_rows j ws cs f (suc n) = undone_rows j ws cs f n then λ ds. undone_row j ws cs f n ds then λ d. answer (ds ++ (d ∷ []))

-- The new coefficients of all rows: those below f and above l stay, row l's is dropped.
unfoldable pub undone : ℕ → Span → List ℚ → List ℚ → Outcome (List ℚ)
undone j g ws cs = undone_rows j ws cs g.f (g.l - g.f) then λ ds. answer (take g.f cs ++ (ds ++ drop (suc g.l) cs))

-- A table, and a coefficient for each of its rows.
pub record Combination : Type 0 where
  pub table : Table
  pub coefficients : List ℚ

-- The zero test and then the undoing, with what the step has worked out.
abbrev pub undoing : ℕ → Planned → List ℚ → Outcome (List ℚ)
undoing j p cs = balanced j p.jumps cs then λ _. undone j p.span p.factors cs

-- One step: "first all that building does, with its own 8 and 9" (§ 12), then the zero test and the undoing.
unfoldable pub recover_step : ℕ → List Entry → Combination → Outcome Combination
recover_step j κ r =
    planned j κ r.table then λ p.
    rows_renewed j p.span p.factors r.table then λ t.
    undoing j p r.coefficients then λ ds.
    answer (record { table = t; coefficients = ds })

-- The first n orders at join j, as the build takes them.
unfoldable pub recover_orders : Space → ℕ → ℕ → Combination → Outcome Combination
recover_orders s j n r = repeat n (λ k. recover_step j (conditions s j k)) r

-- The first n joins from the left: at first the identity, with the ordinates themselves.
unfoldable pub recover_joins : Space → List ℤ → ℕ → Outcome Combination
recover_joins s ordinates n = repeat n (λ j. recover_orders s j (condition_count s j))
    (record { table = identity (column_count s); coefficients = map int ordinates })

-- The weights of a legal space and the coefficients that give these ordinates, or 8, 9, 19 or 20.
unfoldable pub recovered : Space → List ℤ → Outcome Combination
recovered s ordinates = recover_joins s ordinates (segments s - 1)
