-- A number that is between two bounds; which orders are a discontinuity's; and where the columns of segments lie: a later
-- segment does not start before an earlier one.
use mathlib.Core.Path.{◌≡◌, ap}
use mathlib.Core.Logic.{◌⊎◌, inl, inr}
use mathlib.Core.Bool.{true, false, not}
use Prim.Native.Nat.{ℕ, zero, suc, ◌+◌, ◌<◌, ◌≤◌}
use native.Mathlib.Omega.{arith}
use native.Mathlib.Nat.{eq-or-lt_of_le}
use borrow.Author.Tests.{eq-eqb, ne_eqb}
use lib.IntN.{ℤ, pos, negsuc, ◌+ℤ◌, nat_abs}
use lib.Signed.{le_z, ◌≤ℤ◌}
use Rattle.base_exact.proofs.Decide.{and-true, not-false}
use Rattle.base_exact.proofs.Integer.{up, dn, bal_+, ext, abs-zero}
use Rattle.base_exact.proofs.Word.{le_z_true}
use Rattle.spec_spline.specs.Space.{Space, order, degree, condition_count, is_discontinuity, first_column, segments, column_count}
use Rattle.base_outcome.specs.Tests.{between}

pub between_inverts : (low high z : ℤ) → not (between low high z) ≡ false → (low ≤ℤ z) × (z ≤ℤ high)
between_inverts low high z e = let b = and-true (le_z low z) (le_z z high) (not-false _ e) in (le_z_true low z b.0, le_z_true z high b.1)

-- ---- a join has no condition exactly where its order is -1

pub is-discontinuity : (s : Space) (i : ℕ) → order s i ≡ negsuc 0 → is_discontinuity s i ≡ true
is-discontinuity s i e = eq-eqb (condition_count s i) 0 (ap (λ z. nat_abs (z +ℤ pos 1)) e)

pub is_no_discontinuity : (s : Space) (i : ℕ) → ¬ (order s i ≡ negsuc 0) → is_discontinuity s i ≡ false
is_no_discontinuity s i n =
    ne_eqb (condition_count s i) 0
    (λ e. n (ext (order s i) (negsuc 0) (omega (arith, bal_+ (order s i) (pos 1), ap up (abs-zero (order s i +ℤ pos 1) e), ap dn (abs-zero (order s i +ℤ pos 1) e)))))

-- ---- columns

pub first_column_mono : (s : Space) (i n : ℕ) → i ≤ n → first_column s i ≤ first_column s n
unfolding first_column
first_column_mono s i zero h = omega (arith, ap (first_column s) (let e : i ≡ 0 = omega arith in e))
first_column_mono s i (suc n) h = go (λ l. first_column_mono s i n l) (eq-or-lt_of_le h)
  where
    go : (i ≤ n → first_column s i ≤ first_column s n) → (i ≡ suc n) ⊎ (i < suc n) → first_column s i ≤ first_column s n + (degree s n + 1)
    go ih (inl e) = omega (arith, ap (first_column s) e)
    go ih (inr l) = omega (arith, ih (omega arith))

-- a column of segment j
pub segment-column : (s : Space) (j k : ℕ) → j < segments s → k ≤ degree s j → first_column s j + k < column_count s
unfolding first_column
segment-column s j k h l = omega (arith, first_column_mono s (suc j) (segments s) h)
