-- The rows with weight on one ordinate: numbers that are positive from one row to another and zero elsewhere. Mixing
-- neighbouring rows, as a step does, keeps this form and moves its two ends as Rows' `Moves` says.
use mathlib.Core.Path.{◌≡◌, refl, sym, ◌∙◌, ap, ap₂, subst}
use mathlib.Core.Logic.{◌≢◌, ◌⊎◌, inl, inr}
use mathlib.Core.List.{[]}
use Prim.Native.Nat.{ℕ, suc, ◌<◌, ◌≤◌}
use native.Mathlib.Omega.{arith}
use lib.IntN.{pos}
use Rattle.base_exact.specs.Rational.{ℚ, ◌+ᵠ◌, ◌*ᵠ◌, -ᵠ◌, ◌-ᵠ◌, int}
use Rattle.base_exact.specs.Order.{◌<ᵠ◌, Nn}
use Rattle.base_exact.specs.Sum.{sum}
use Rattle.base_exact.proofs.Decide.{le_or_lt}
use Rattle.base_exact.proofs.Ring.{ring}
use Rattle.base_exact.proofs.Rational.{ℚ-ring, readsℚ, zero-mul, mul-zero, add-zero, add_comm}
use Rattle.base_exact.proofs.Order.{nn_int, nn_mul, pos_nn, pos_nonzero, pos_add, pos_mul}
use Rattle.base_exact.proofs.Sum.{sum-only}
use Rattle.theorems_weights.proofs.NullSpace.{mixed}
use Rattle.theorems_stages.proofs.Rows.{Moves}

-- Positive from row low to row high, zero elsewhere.
pub record Support (v : ℕ → ℚ) (low high : ℕ) : Type 0 where
  pub positive : (i : ℕ) → low ≤ i → i ≤ high → int (pos 0) <ᵠ v i
  pub below : (i : ℕ) → i < low → v i ≡ int (pos 0)
  pub above : (i : ℕ) → high < i → v i ≡ int (pos 0)

-- The factors of a step whose jumps span the rows f to l: 1 up to f, 0 from l on, and strictly between in between.
pub record Mixing (f l : ℕ) (w : ℕ → ℚ) : Type 0 where
  pub full : (i : ℕ) → i ≤ f → w i ≡ int (pos 1)
  pub none : (i : ℕ) → l ≤ i → w i ≡ int (pos 0)
  pub some : (i : ℕ) → i < l → int (pos 0) <ᵠ w i
  pub rest : (i : ℕ) → f < i → int (pos 0) <ᵠ int (pos 1) -ᵠ w i

pub support_nn : {v : ℕ → ℚ} {low high : ℕ} → Support v low high → (i : ℕ) → Nn (v i)
support_nn {v} {low} {high} S i = go (le_or_lt low i) (le_or_lt i high)
  where
    zero : v i ≡ int (pos 0) → Nn (v i)
    zero e = subst Nn (sym e) (nn_int 0)

    go : (low ≤ i) ⊎ (i < low) → (i ≤ high) ⊎ (high < i) → Nn (v i)
    go (inl a) (inl b) = pos_nn (S.positive i a b)
    go (inl a) (inr b) = zero (S.above i b)
    go (inr a) b = zero (S.below i a)

pub support_same : {v v' : ℕ → ℚ} {low high : ℕ} → ((i : ℕ) → v i ≡ v' i) → Support v low high → Support v' low high
support_same e S = record {
  positive = λ i a b. subst (λ t. int (pos 0) <ᵠ t) (e i) (S.positive i a b);
  below = λ i a. sym (e i) ∙ S.below i a;
  above = λ i a. sym (e i) ∙ S.above i a;
}

-- the same rows under other names
pub support_ends : {v : ℕ → ℚ} {low high low' high' : ℕ} → low ≡ low' → high ≡ high' → Support v low high → Support v low' high'
support_ends {v} {low} {high} {low'} {high'} p q S = subst (λ n. Support v low' n) q (subst (λ n. Support v n high) p S)

-- A single row with weight, in a column that sums to one over its n rows, has weight 1.
pub support_one : (n : ℕ) {v : ℕ → ℚ} {r : ℕ} → Support v r r → sum n v ≡ int (pos 1) → ((i : ℕ) → n ≤ i → v i ≡ int (pos 0)) → v r ≡ int (pos 1)
support_one n {v} {r} S e past = sym (sum-only n r {f = v} (inside (le_or_lt n r)) (λ i k o. off i o (le_or_lt r i))) ∙ e
  where
    inside : (n ≤ r) ⊎ (r < n) → r < n
    inside (inl a) = absurd (pos_nonzero (S.positive r (omega arith) (omega arith)) (past r a))
    inside (inr a) = a

    off : (i : ℕ) → i ≢ r → (r ≤ i) ⊎ (i < r) → v i ≡ int (pos 0)
    off i o (inl a) = S.above i (omega arith)
    off i o (inr a) = S.below i a

module _ (f l : ℕ) (w v : ℕ → ℚ) (low high low' high' : ℕ) (M : Mixing f l w) (S : Support v low high) (ordered : low ≤ high) (spread : f < l) (m : Moves f l low high low' high') where
  -- Which of the two old rows gives new row i its weight.
  data Fed (i : ℕ) : Type 0 where
    own : i < l → low ≤ i → i ≤ high → Fed i
    next : f ≤ i → low ≤ suc i → suc i ≤ high → Fed i

  fed : (i : ℕ) → low' ≤ i → i ≤ high' → Fed i
  fed i a b = go (le_or_lt low f) (le_or_lt l high)
    where
      go : (low ≤ f) ⊎ (f < low) → (l ≤ high) ⊎ (high < l) → Fed i
      go (inl c) (inr d) = let x = m.low_kept c in let y = m.high-kept d in own (omega arith) (omega arith) (omega arith)
      go (inl c) (inl d) = let x = m.low_kept c in let y = m.high-moved d in at (le_or_lt l i)
        where
          at : (l ≤ i) ⊎ (i < l) → Fed i
          at (inl k) = let x = m.low_kept c in let y = m.high-moved d in next (omega arith) (omega arith) (omega arith)
          at (inr k) = let x = m.low_kept c in let y = m.high-moved d in own k (omega arith) (omega arith)
      go (inr c) (inr d) = at (le_or_lt low i)
        where
          at : (low ≤ i) ⊎ (i < low) → Fed i
          at (inl k) = let x = m.low_moved c in let y = m.high-kept d in own (omega arith) k (omega arith)
          at (inr k) = let x = m.low_moved c in let y = m.high-kept d in next (omega arith) (omega arith) (omega arith)
      go (inr c) (inl d) = let x = m.low_moved c in let y = m.high-moved d in next (omega arith) (omega arith) (omega arith)

  w_nn : (i : ℕ) → Nn (w i)
  w_nn i = go (le_or_lt l i)
    where
      go : (l ≤ i) ⊎ (i < l) → Nn (w i)
      go (inl k) = subst Nn (sym (M.none i k)) (nn_int 0)
      go (inr k) = pos_nn (M.some i k)

  rest-zero : (i : ℕ) → i ≤ f → int (pos 1) -ᵠ w i ≡ int (pos 0)
  rest-zero i k = ap (λ t. int (pos 1) -ᵠ t) (M.full i k) ∙ ring ℚ-ring [] (search readsℚ) (search readsℚ) refl

  rest_nn : (i : ℕ) → Nn (int (pos 1) -ᵠ w i)
  rest_nn i = go (le_or_lt i f)
    where
      go : (i ≤ f) ⊎ (f < i) → Nn (int (pos 1) -ᵠ w i)
      go (inl k) = subst Nn (sym (rest-zero i k)) (nn_int 0)
      go (inr k) = pos_nn (M.rest i k)

  -- the two parts of a new row where they are zero
  own-zero : (i : ℕ) → (l ≤ i) ⊎ (v i ≡ int (pos 0)) → w i *ᵠ v i ≡ int (pos 0)
  own-zero i (inl k) = ap (λ t. t *ᵠ v i) (M.none i k) ∙ zero-mul (v i)
  own-zero i (inr e) = ap (λ t. w i *ᵠ t) e ∙ mul-zero (w i)

  next-zero : (i : ℕ) → (i ≤ f) ⊎ (v i ≡ int (pos 0)) → (int (pos 1) -ᵠ w i) *ᵠ v i ≡ int (pos 0)
  next-zero i (inl k) = ap (λ t. t *ᵠ v i) (rest-zero i k) ∙ zero-mul (v i)
  next-zero i (inr e) = ap (λ t. (int (pos 1) -ᵠ w i) *ᵠ t) e ∙ mul-zero (int (pos 1) -ᵠ w i)

  pub support_mixed : Support (mixed w v) low' high'
  unfolding mixed
  support_mixed = record {
    positive = λ i a b. positive i (fed i a b);
    below = λ i a. ap₂ ◌+ᵠ◌ (own-zero i (inr (low_own i a))) (next-zero (suc i) (low_next i a)) ∙ add-zero _;
    above = λ i a. ap₂ ◌+ᵠ◌ (own-zero i (high-own i a)) (next-zero (suc i) (inr (high-next i a))) ∙ add-zero _;
  }
    where
      positive : (i : ℕ) → Fed i → int (pos 0) <ᵠ w i *ᵠ v i +ᵠ (int (pos 1) -ᵠ w (suc i)) *ᵠ v (suc i)
      positive i (own a b c) = pos_add (pos_mul (M.some i a) (S.positive i b c)) (nn_mul (rest_nn (suc i)) (support_nn S (suc i)))
      positive i (next a b c) = subst (λ t. int (pos 0) <ᵠ t) (add_comm _ _) (pos_add (pos_mul (M.rest (suc i) (omega arith)) (S.positive (suc i) b c)) (nn_mul (w_nn i) (support_nn S i)))

      low_own : (i : ℕ) → i < low' → v i ≡ int (pos 0)
      low_own i a = S.below i (go (le_or_lt low f))
        where
          go : (low ≤ f) ⊎ (f < low) → i < low
          go (inl c) = omega (arith, m.low_kept c)
          go (inr c) = omega (arith, m.low_moved c)

      low_next : (i : ℕ) → i < low' → (suc i ≤ f) ⊎ (v (suc i) ≡ int (pos 0))
      low_next i a = go (le_or_lt low f)
        where
          go : (low ≤ f) ⊎ (f < low) → (suc i ≤ f) ⊎ (v (suc i) ≡ int (pos 0))
          go (inl c) = inl (omega (arith, m.low_kept c))
          go (inr c) = inr (S.below (suc i) (omega (arith, m.low_moved c)))

      high-own : (i : ℕ) → high' < i → (l ≤ i) ⊎ (v i ≡ int (pos 0))
      high-own i a = go (le_or_lt l high)
        where
          go : (l ≤ high) ⊎ (high < l) → (l ≤ i) ⊎ (v i ≡ int (pos 0))
          go (inl c) = inl (omega (arith, m.high-moved c))
          go (inr c) = inr (S.above i (omega (arith, m.high-kept c)))

      high-next : (i : ℕ) → high' < i → v (suc i) ≡ int (pos 0)
      high-next i a = S.above (suc i) (go (le_or_lt l high))
        where
          go : (l ≤ high) ⊎ (high < l) → high < suc i
          go (inl c) = omega (arith, m.high-moved c)
          go (inr c) = omega (arith, m.high-kept c)
