-- What a power and a scale ask of degrees, orders and lengths.
use Rattle.std.specs.Prelude.{ℕ, ◌≤◌, ℤ, pos, nat_abs, ◌≤ℤ◌}
use Rattle.spec_spline.specs.Space.{span_limit, degree_limit}

-- A length, which is not below zero and at most the longest span, and an order up to 2.
pub record PowerAsks (x : ℤ) (k : ℕ) : Type 0 where
  pub low : pos 0 ≤ℤ x
  pub short : nat_abs x ≤ span_limit
  pub order : k ≤ 2

-- A degree up to the greatest, an order up to 2, and the other side's length, which is not below zero and at most the longest span.
pub record ScaleAsks (p k : ℕ) (other : ℤ) : Type 0 where
  pub degree : p ≤ degree_limit
  pub order : k ≤ 2
  pub low : pos 0 ≤ℤ other
  pub short : nat_abs other ≤ span_limit
