-- The refusals 6 and 7 of a legal space, each by itself.
use Rattle.std.specs.Prelude.{Bool, cond, not, List, ◌≡◌, ℕ, ◌+◌, ◌*◌, eqb, ℤ, pos, length, get_or}
use Rattle.base_outcome.specs.Codes as codes
use Rattle.base_outcome.specs.Outcome.{Outcome, answer, refuse, largest_place}
use Rattle.base_outcome.specs.Search.{first}
use Rattle.spec_spline.specs.Space.{Space, row_count}
use Rattle.base_outcome.specs.Tests.{between, refuse_first}
use Rattle.spec_spline.specs.CurveCall.{bad_coefficient}
use Rattle.build_space.specs.Legal.{BreaksLegal}

-- Code 6: the count first, two numbers a row.
unfoldable pub coefficients_checked : Space → List ℤ → Outcome (Unit {0})
coefficients_checked s coefs = cond (eqb (length coefs) (2 * row_count s))
    (refuse_first codes.coefficient (first (length coefs) (bad_coefficient coefs)) (answer tt)) (refuse codes.coefficient largest_place)

-- Entry i of a list lies outside the two bounds.
abbrev pub outside : List ℤ → ℤ → ℤ → ℕ → Bool
outside list low high i = not (between low high (get_or list i (pos 0)))

-- Code 7.
unfoldable pub positions_checked : List ℤ → ℤ → ℤ → Outcome (Unit {0})
positions_checked positions low high = refuse_first codes.position (first (length positions) (outside positions low high)) (answer tt)

-- Legal breakpoints of m segments.
pub record SpanAsks (breaks : List ℤ) (m : ℕ) : Type 0 where
  pub count : length breaks ≡ m + 1
  pub legal : BreaksLegal breaks
