-- Curve calls on spaces whose orders are all at most 1 (§ 5): within the specification's limits they answer, and
-- nothing is asked of the space but legal lists.
use Rattle.std.specs.Prelude.{◌≡◌, not, List, ℕ, ◌*◌, ◌<◌, ◌≤◌, T, ℤ, length}
use Rattle.base_outcome.specs.Outcome.{answer}
use Rattle.spec_spline.specs.Space.{Space, row_count, checked}
use Rattle.spec_spline.specs.Table.{table_cells}
use Rattle.spec_spline.specs.CurveCall.{position_limit, bad_coefficient, bad_position, curve_outcome, returned}
use Rattle.theorems_acceptance.specs.Acceptance.{OrdersAtMostOne}

-- Lists, coefficients, positions and buffers within the specification's limits, the lists part by part: what the codes 1 to 7 and
-- 15 ask for.
pub record WithinLimits (s : Space) (coefs positions : List ℤ) (num_length den_length values_length : ℕ) : Type 0 where
  pub lists : checked s ≡ answer s
  pub coefficient_count : length coefs ≡ 2 * row_count s
  pub coefficients : (i : ℕ) → i < length coefs → T (not (bad_coefficient coefs i))
  pub position_count : length positions ≤ position_limit
  pub in_span : (i : ℕ) → i < length positions → T (not (bad_position s positions i))
  pub numerators : table_cells ≤ num_length
  pub denominators : table_cells ≤ den_length
  pub values : 2 * length positions ≤ values_length

-- Such a call on such a space answers, with the count of positions.
abbrev pub LowOrderCallsAnswer : Type 0
LowOrderCallsAnswer = (s : Space) (coefs positions : List ℤ) (num_length den_length values_length : ℕ)
    → WithinLimits s coefs positions num_length den_length values_length → OrdersAtMostOne s
    → returned (curve_outcome s coefs positions num_length den_length values_length) ≡ answer (length positions)
