-- s and the coefficients with weight on a segment: no column of the segment has more weights than s, and the least and the
-- greatest coefficient with weight on the segment bound all those with weight in one of its columns.
use mathlib.Core.Path.{◌≡◌, sym, ap, subst}
use mathlib.Core.Logic.{◌⊎◌, inl, inr}
use mathlib.Core.Bool.{true}
use mathlib.Core.List.{List}
use mathlib.Core.Option.{get_or}
use Prim.Native.Nat.{ℕ, zero, suc, ◌+◌, ◌<◌, ◌≤◌, max}
use native.Mathlib.Omega.{arith}
use native.Mathlib.Nat.{eq-or-lt_of_le, le-max_left, le-max_right, le_trans}
use lib.IntN.{ℤ, pos}
use lib.ListN.{length}
use lib.Signed.{le_z, ◌≤ℤ◌}
use Rattle.base_exact.proofs.Decide.{true_not_false}
use Rattle.base_outcome.specs.Search.{first, found, how_many}
use Rattle.spec_spline.specs.Space.{Space, degree, first_column}
use Rattle.spec_spline.specs.Table.{Table}
use Rattle.spec_spline.specs.Reading.{Wood, coefficient, has_weight}
use Rattle.spec_spline.specs.ExactCurve.{largest, most_weights, weighs_on, least_on, greatest_on}
use Rattle.base_outcome.proofs.Search.{Searched, at, nowhere, search_first}
use Rattle.theorems_values.proofs.Extremum.{Best, least_exists, greatest_exists, least_le, le_greatest}

pub le_largest : (n k : ℕ) (f : ℕ → ℕ) → k < n → f k ≤ largest n f
unfolding largest
le_largest zero k f h = absurd (omega arith)
le_largest (suc n) k f h = go (λ l. le_largest n k f l) (eq-or-lt_of_le h)
  where
    go : (k < n → f k ≤ largest n f) → (suc k ≡ suc n) ⊎ (suc k < suc n) → f k ≤ max (largest n f) (f n)
    go ih (inl e) = subst (λ m. f m ≤ max (largest n f) (f n)) (let z : n ≡ k = omega arith in z) (le-max_right (largest n f) (f n))
    go ih (inr l) = le_trans (ih (omega arith)) (le-max_left (largest n f) (f n))

module _ (s : Space) (w : Table) (j : ℕ) where
  -- s bounds the count of weights in a column
  pub column_at_most_s : (k : ℕ) → k ≤ degree s j → how_many (length w) (has_weight w (first_column s j + k)) ≤ most_weights s w j
  unfolding most_weights
  column_at_most_s k h = le_largest (suc (degree s j)) k (λ t. how_many (length w) (has_weight w (first_column s j + t))) (omega arith)

  -- weight in a column is weight on the segment
  pub weighs_in_column : (k i : ℕ) → k ≤ degree s j → has_weight w (first_column s j + k) i ≡ true → weighs_on s w j i ≡ true
  unfolding weighs_on
  weighs_in_column k i h p = go (search_first (λ t. has_weight w (first_column s j + t) i) (suc (degree s j)))
    where
      go : Searched (λ t. has_weight w (first_column s j + t) i) (suc (degree s j)) → found (first (suc (degree s j)) (λ t. has_weight w (first_column s j + t) i)) ≡ true
      go (at t F e) = ap found e
      go (nowhere f e) = absurd (true_not_false p (f k (omega arith)))

  -- where a row has weight on the segment, the two are coefficients of such rows
  module _ (wood : Wood) (coefs : List ℤ) (i : ℕ) (below : i < length w) (weighs : weighs_on s w j i ≡ true) where
    pub least_on_is : Best le_z (weighs_on s w j) (coefficient wood coefs) (length w) (least_on s w wood coefs j)
    unfolding least_on
    least_on_is = let e = least_exists (weighs_on s w j) (coefficient wood coefs) (length w) i below weighs in
        subst (Best le_z (weighs_on s w j) (coefficient wood coefs) (length w)) (sym (ap (λ o. get_or o (pos 0)) e.found)) e.is_best

    pub greatest_on_is : Best (λ y z. le_z z y) (weighs_on s w j) (coefficient wood coefs) (length w) (greatest_on s w wood coefs j)
    unfolding greatest_on
    greatest_on_is = let e = greatest_exists (weighs_on s w j) (coefficient wood coefs) (length w) i below weighs in
        subst (Best (λ y z. le_z z y) (weighs_on s w j) (coefficient wood coefs) (length w)) (sym (ap (λ o. get_or o (pos 0)) e.found)) e.is_best

    pub least_on_le : least_on s w wood coefs j ≤ℤ coefficient wood coefs i
    least_on_le = least_le (weighs_on s w j) (coefficient wood coefs) (length w) least_on_is i below weighs

    pub le_greatest_on : coefficient wood coefs i ≤ℤ greatest_on s w wood coefs j
    le_greatest_on = le_greatest (weighs_on s w j) (coefficient wood coefs) (length w) greatest_on_is i below weighs
