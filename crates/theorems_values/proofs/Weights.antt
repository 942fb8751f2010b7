-- The weights of an accepted space, column by column: from 0 to 1 and summing to one, so that some row has weight in every
-- column. A code proof cites `weight-num-le-den` for the size of a term's numerator.
use mathlib.Core.Path.{◌≡◌, refl, sym, ◌∙◌, ap, subst}
use mathlib.Core.Logic.{◌⊎◌, inl, inr}
use mathlib.Core.Bool.{Bool, true, false, cond}
use Prim.Native.Nat.{ℕ, zero, suc, ◌+◌, ◌<◌, ◌≤◌}
use native.Mathlib.Omega.{arith}
use native.Mathlib.Nat.{eq-or-lt_of_le}
use lib.IntN.{pos, nat_abs}
use lib.ListN.{length}
use Rattle.base_exact.specs.Rational.{ℚ, den, int}
use Rattle.base_exact.specs.Order.{is_zero, ◌≤ᵠ◌, Nn}
use Rattle.base_exact.specs.Sum.{sum}
use Rattle.base_exact.proofs.Decide.{le_or_lt, not-false}
use Rattle.base_exact.proofs.Integer as Z
use Rattle.base_exact.proofs.Rational.{int_nonzero}
use Rattle.base_exact.proofs.Order.{int_mono, is_zero_true, unit_num_le_den}
use Rattle.base_exact.proofs.Sum.{sum-zero, sum-place_le}
use Rattle.base_outcome.specs.Search.{how_many}
use Rattle.spec_spline.specs.Space.{Space, column_count}
use Rattle.spec_spline.specs.Table.{Table, cell}
use Rattle.spec_spline.specs.Piecewise.{Accepted}
use Rattle.spec_spline.specs.Reading.{has_weight}
use Rattle.theorems_weights.proofs.Built.{built}
use Rattle.spec_spline.proofs.Table.{cell-past}
use Rattle.theorems_weights.proofs.PublishedBasis.{cell-beside}

-- What a column of an accepted table is.
pub record Column (t : Table) (c : ℕ) : Type 0 where
  pub not_negative : (i : ℕ) → Nn (cell t i c)
  pub sums_one : sum (length t) (λ i. cell t i c) ≡ int (pos 1)

pub accepted-column : (s : Space) (a : Accepted s) (c : ℕ) → c < column_count s → Column a.table c
accepted-column s a c h = let b = built s a.table a.is in record { not_negative = λ i. b.basis.not_negative i c; sums_one = b.basis.column_sums c h }

-- ---- rows with weight

pub no_weight-zero : (t : Table) (c i : ℕ) → has_weight t c i ≡ false → cell t i c ≡ int (pos 0)
no_weight-zero t c i e = is_zero_true (cell t i c) (not-false (is_zero (cell t i c)) e)

-- none of the places counted passes
pub how_many-none : (n : ℕ) (test : ℕ → Bool) → how_many n test ≡ 0 → (k : ℕ) → k < n → test k ≡ false
unfolding how_many
how_many-none zero test e k h = absurd (omega arith)
how_many-none (suc n) test e k h = go (λ l. how_many-none n test (omega arith) k l) (test n) refl (eq-or-lt_of_le h)
  where
    go : (k < n → test k ≡ false) → (b : Bool) → test n ≡ b → (suc k ≡ suc n) ⊎ (suc k < suc n) → test k ≡ false
    go ih true p q = absurd (omega (arith, e, ap (λ b. how_many n test + cond b 1 0) p))
    go ih false p (inl z) = ap test (let y : k ≡ n = omega arith in y) ∙ p
    go ih false p (inr l) = ih (omega arith)

-- a row that passes, where one is counted
pub record Passing (n : ℕ) (test : ℕ → Bool) : Type 0 where
  pub index : ℕ
  pub below : index < n
  pub passes : test index ≡ true

pub how_many_some : (n : ℕ) (test : ℕ → Bool) → 0 < how_many n test → Passing n test
unfolding how_many
how_many_some zero test h = absurd (omega arith)
how_many_some (suc n) test h = go (λ l. how_many_some n test l) (test n) refl
  where
    go : (0 < how_many n test → Passing n test) → (b : Bool) → test n ≡ b → Passing (suc n) test
    go ih true p = record { index = n; below = omega arith; passes = p }
    go ih false p = let r = ih (omega (arith, h, ap (λ b. how_many n test + cond b 1 0) p)) in record { index = r.index; below = omega (arith, r.below); passes = r.passes }

-- a column that sums to one is not all zeros
pub some_weight : (t : Table) (c : ℕ) → Column t c → 0 < how_many (length t) (has_weight t c)
some_weight t c C = go (le_or_lt (how_many (length t) (has_weight t c)) 0)
  where
    go : (how_many (length t) (has_weight t c) ≤ 0) ⊎ (0 < how_many (length t) (has_weight t c)) → 0 < how_many (length t) (has_weight t c)
    go (inl h) = absurd (int_nonzero 0 (sym C.sums_one ∙ sum-zero (length t) (λ i k. no_weight-zero t c i (how_many-none (length t) (has_weight t c) (omega arith) i k))))
    go (inr h) = h

-- ---- the size of a weight

-- no weight is above one
pub weight_at_most_one : (s : Space) (a : Accepted s) (i c : ℕ) → cell a.table i c ≤ᵠ int (pos 1)
weight_at_most_one s a i c = go (le_or_lt (length a.table) i) (le_or_lt (column_count s) c)
  where
    zero_le_one : {q : ℚ} → q ≡ int (pos 0) → q ≤ᵠ int (pos 1)
    zero_le_one e = subst (λ t. t ≤ᵠ int (pos 1)) (sym e) (int_mono (Z.≤_in (pos 0) (pos 1) (omega arith)))

    go : (length a.table ≤ i) ⊎ (i < length a.table) → (column_count s ≤ c) ⊎ (c < column_count s) → cell a.table i c ≤ᵠ int (pos 1)
    go (inl h) k = zero_le_one (cell-past a.table i c h)
    go (inr h) (inl k) = zero_le_one (cell-beside (column_count s) a.table (built s a.table a.is).basis.wide i c k)
    go (inr h) (inr k) = let C = accepted-column s a c k in subst (λ t. cell a.table i c ≤ᵠ t) C.sums_one (sum-place_le (length a.table) i h (λ j l. C.not_negative j))

-- so its numerator's size is at most its denominator
pub weight_num_le_den : (s : Space) (a : Accepted s) (i c : ℕ) → nat_abs (cell a.table i c).num ≤ den (cell a.table i c)
weight_num_le_den s a i c = unit_num_le_den (cell a.table i c) ((built s a.table a.is).basis.not_negative i c) (weight_at_most_one s a i c)
