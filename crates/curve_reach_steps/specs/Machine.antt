-- The value of held ordinates at an offset of a segment, and the least offset at which values reach a target.
use Rattle.std.specs.Prelude.{List, ◌≡◌, ℕ, suc, ◌+◌, ◌*◌, ◌<◌, ◌≤◌, ℤ, pos, nat_abs, ◌+ℤ◌, get_or, ◌<ℤ◌, ◌≤ℤ◌}
use Rattle.spec_spline.specs.Reading.{triangle}
use Rattle.curve_ordinates.specs.Ordinates.{ordinate_limit}

-- The value at offset u of d, of the p + 1 ordinates from column c on.
unfoldable pub value_on : List ℤ → ℕ → ℕ → ℕ → ℕ → ℤ
value_on os c p d u = triangle d (pos u) (λ k. get_or os (c + k) (pos 0)) p 0

-- No less than the rise so far, and no less than that from `low` to `high`.
pub record RiseIs (rise : ℕ) (low high : ℤ) (r : ℕ) : Type 0 where
  pub at-least : rise ≤ r
  pub small : r ≤ 2 * ordinate_limit
  pub covers : high ≤ℤ (low +ℤ pos r)

-- The value at offset u, which is no larger than an ordinate can be.
pub record ValueOnIs (os : List ℤ) (c p d u : ℕ) (r : ℤ) : Type 0 where
  pub is : r ≡ value_on os c p d u
  pub small : nat_abs r ≤ ordinate_limit

-- No value before r reaches the target, from `start` on and before `end`, and that at r does where r is before `end`.
pub record LeastFrom (f : ℕ → ℤ) (target : ℤ) (start end r : ℕ) : Type 0 where
  pub after : start ≤ r
  pub none_before : (u : ℕ) → start ≤ u → u < r → u < end → f u <ℤ target
  pub there : r < end → target ≤ℤ f r

-- r is 1 or more, and none of the p + 1 ordinates from column c on is followed by one that is higher by more than r.
pub record Steepest (os : List ℤ) (c p r : ℕ) : Type 0 where
  pub positive : 1 ≤ r
  pub small : r ≤ 2 * ordinate_limit
  pub rises : (j : ℕ) → j < p → get_or os (c + suc j) (pos 0) ≤ℤ (get_or os (c + j) (pos 0) +ℤ pos r)
