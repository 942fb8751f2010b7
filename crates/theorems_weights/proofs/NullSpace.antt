-- One step of the build on functions: n numbers J (the jumps) that sum to zero, with factors w such that w(i)·J(i) is the
-- sum of J(0) to J(i). Mixing neighbours by w gives n - 1 vectors that span, without redundancy, what J annihilates, and
-- it keeps sums. It is apart from tables and conditions: only this identity and the places of the zeros are used.
use mathlib.Core.Path.{◌≡◌, refl, sym, ◌∙◌, ap, ap₂}
use mathlib.Core.Logic.{◌≢◌, ◌⊎◌, inl, inr}
use mathlib.Core.Bool.{cond}
use mathlib.Core.List.{[], ◌∷◌}
use Prim.Native.Nat.{ℕ, zero, suc, ◌-◌, ◌<◌, ◌≤◌}
use native.Mathlib.Omega.{arith}
use native.Mathlib.Nat.{eq-or-lt_of_le}
use lib.Dec.{leb, le→leb}
use lib.Arith.{lt→nleb}
use lib.IntN.{pos, negsuc}
use Rattle.base_exact.specs.Rational.{ℚ, ◌+ᵠ◌, ◌*ᵠ◌, -ᵠ◌, ◌-ᵠ◌, int, inv}
use Rattle.base_exact.specs.Sum.{sum}
use Rattle.base_exact.proofs.Decide.{le_or_lt, holds_true, fails_false, cond_true, cond_false}
use Rattle.base_exact.proofs.Ring.{ring, by_eq}
use Rattle.base_exact.proofs.Rational.{ℚ-ring, readsℚ, mul_inv, mul_cancel, mul_comm, zero-mul, int_nonzero}
use Rattle.base_exact.proofs.Sum.{sum-zero, sum_past}

-- where k stands: up to f, up to l, or past l
data Place (f l k : ℕ) : Type 0 where
  low : k ≤ f → Place f l k
  mid : f < k → k ≤ l → Place f l k
  high : l < k → Place f l k

place : (f l k : ℕ) → Place f l k
place f l k = go (le_or_lt k f) (le_or_lt k l)
  where
    go : (k ≤ f) ⊎ (f < k) → (k ≤ l) ⊎ (l < k) → Place f l k
    go (inl p) q = low p
    go (inr p) (inl q) = mid p q
    go (inr p) (inr q) = high q

-- Neighbours mixed: what row i becomes.
unfoldable pub mixed : (ℕ → ℚ) → (ℕ → ℚ) → ℕ → ℚ
mixed w x i = w i *ᵠ x i +ᵠ (int (pos 1) -ᵠ w (suc i)) *ᵠ x (suc i)

-- The factors of the old rows from those of the new rows, where c (i + 1) is the factor of new row i.
unfoldable pub lifted : (ℕ → ℚ) → (ℕ → ℚ) → ℕ → ℚ
lifted w c i = w i *ᵠ c (suc i) +ᵠ (int (pos 1) -ᵠ w i) *ᵠ c i

-- A combination of the new rows is one of the old rows.
module _ (w c x : ℕ → ℚ) where
  reindex_ends : (m : ℕ) → sum m (λ i. c (suc i) *ᵠ mixed w x i)
      ≡ sum (suc m) (λ i. lifted w c i *ᵠ x i) -ᵠ (int (pos 1) -ᵠ w 0) *ᵠ c 0 *ᵠ x 0 -ᵠ w m *ᵠ c (suc m) *ᵠ x m
  unfolding sum mixed lifted
  reindex_ends zero = ring ℚ-ring (x 0 ∷ w 0 ∷ c 0 ∷ c 1 ∷ []) (search readsℚ depth 30) (search readsℚ depth 30) refl
  reindex_ends (suc m) = ap (λ t. t +ᵠ c (suc m) *ᵠ (w m *ᵠ x m +ᵠ (int (pos 1) -ᵠ w (suc m)) *ᵠ x (suc m))) (reindex_ends m)
      ∙ ring ℚ-ring (sum m (λ i. lifted w c i *ᵠ x i) ∷ x m ∷ x 0 ∷ w 0 ∷ w m ∷ w (suc m) ∷ x (suc m) ∷ c 0 ∷ c m ∷ c (suc m) ∷ c (suc (suc m)) ∷ [])
      (search readsℚ depth 40) (search readsℚ depth 40) refl

  pub reindex : (m : ℕ) → w 0 ≡ int (pos 1) → w m ≡ int (pos 0) → sum m (λ i. c (suc i) *ᵠ mixed w x i) ≡ sum (suc m) (λ i. lifted w c i *ᵠ x i)
  reindex m h k = reindex_ends m
      ∙ ap₂ (λ s t. sum (suc m) (λ i. lifted w c i *ᵠ x i) -ᵠ (int (pos 1) -ᵠ s) *ᵠ c 0 *ᵠ x 0 -ᵠ t *ᵠ c (suc m) *ᵠ x m) h k
      ∙ ring ℚ-ring (sum (suc m) (λ i. lifted w c i *ᵠ x i) ∷ x 0 ∷ c 0 ∷ c (suc m) ∷ x m ∷ []) (search readsℚ depth 30) (search readsℚ depth 30) refl

-- What a step is given.
pub record Jumps (n f l : ℕ) (J w : ℕ → ℚ) : Type 0 where
  pub ordered : f < l
  pub below : l < n
  pub before : (j : ℕ) → j < f → (J j ≡ int (pos 0)) × (w j ≡ int (pos 1))
  pub after : (j : ℕ) → l < j → (J j ≡ int (pos 0)) × (w j ≡ int (pos 0))
  pub at_first : w f ≡ int (pos 1)
  pub at_last : w l ≡ int (pos 0)
  pub jump : (j : ℕ) → f ≤ j → j ≤ l → J j ≢ int (pos 0)
  pub part : (j : ℕ) → f < j → j ≤ l → sum j J ≢ int (pos 0)
  pub whole : sum (suc l) J ≡ int (pos 0)
  pub weight : (j : ℕ) → j < n → w j *ᵠ J j ≡ sum (suc j) J

-- x is lifted from c exactly where, at each k, the jumps below k times c(k) are the sum of x(j)·J(j) below k.
module _ (J w : ℕ → ℚ) where
  balance_of_lifted : (x c : ℕ → ℚ) (n : ℕ) → ((j : ℕ) → j < n → w j *ᵠ J j ≡ sum (suc j) J)
      → ((j : ℕ) → j < n → lifted w c j ≡ x j)
      → (k : ℕ) → k ≤ n → sum k J *ᵠ c k ≡ sum k (λ j. x j *ᵠ J j)
  unfolding sum lifted
  balance_of_lifted x c n H e zero h = ring ℚ-ring (c 0 ∷ []) (search readsℚ) (search readsℚ) refl
  balance_of_lifted x c n H e (suc k) h =
      by_eq ℚ-ring (c k -ᵠ c (suc k)) (H k (omega arith)) (by_eq ℚ-ring (int (pos 1)) (balance_of_lifted x c n H e k (omega arith)) (by_eq ℚ-ring (J k) (e k (omega arith))
      (ring ℚ-ring (sum k J ∷ J k ∷ w k ∷ c (suc k) ∷ c k ∷ sum k (λ j. x j *ᵠ J j) ∷ x k ∷ []) (search readsℚ depth 30) (search readsℚ depth 30) refl)))

  lifted_of_balance : (x c : ℕ → ℚ) (j : ℕ) → w j *ᵠ J j ≡ sum (suc j) J → J j ≢ int (pos 0)
      → sum j J *ᵠ c j ≡ sum j (λ j. x j *ᵠ J j) → sum (suc j) J *ᵠ c (suc j) ≡ sum (suc j) (λ j. x j *ᵠ J j)
      → lifted w c j ≡ x j
  unfolding sum lifted
  lifted_of_balance x c j H z h k = mul_cancel z
      (by_eq ℚ-ring (c (suc j) -ᵠ c j) H (by_eq ℚ-ring (int (pos 1)) k (by_eq ℚ-ring (int (negsuc 0)) h
      (ring ℚ-ring (sum j J ∷ J j ∷ w j ∷ c (suc j) ∷ c j ∷ sum j (λ j. x j *ᵠ J j) ∷ x j ∷ []) (search readsℚ depth 30) (search readsℚ depth 30) refl))))

pub lifted_at_one : (w c : ℕ → ℚ) (j : ℕ) → w j ≡ int (pos 1) → lifted w c j ≡ c (suc j)
unfolding lifted
lifted_at_one w c j e = ap (λ t. t *ᵠ c (suc j) +ᵠ (int (pos 1) -ᵠ t) *ᵠ c j) e ∙ ring ℚ-ring (c (suc j) ∷ c j ∷ []) (search readsℚ depth 20) (search readsℚ depth 20) refl

pub lifted_at_zero : (w c : ℕ → ℚ) (j : ℕ) → w j ≡ int (pos 0) → lifted w c j ≡ c j
unfolding lifted
lifted_at_zero w c j e = ap (λ t. t *ᵠ c (suc j) +ᵠ (int (pos 1) -ᵠ t) *ᵠ c j) e ∙ ring ℚ-ring (c (suc j) ∷ c j ∷ []) (search readsℚ depth 20) (search readsℚ depth 20) refl

-- a sum of ones is lifted from ones
pub lifted_one : (w : ℕ → ℚ) (i : ℕ) → lifted w (λ j. int (pos 1)) i ≡ int (pos 1)
unfolding lifted
lifted_one w i = ring ℚ-ring (w i ∷ []) (search readsℚ depth 20) (search readsℚ depth 20) refl

module _ {n f l : ℕ} {J w : ℕ → ℚ} (G : Jumps n f l J w) where
  -- the factors are 1 up to f and 0 from l on
  pub one_up_to : (i : ℕ) → i ≤ f → w i ≡ int (pos 1)
  one_up_to i h = go (eq-or-lt_of_le h)
    where
      go : (i ≡ f) ⊎ (i < f) → w i ≡ int (pos 1)
      go (inl e) = ap w e ∙ G.at_first
      go (inr k) = (G.before i k).1

  pub first-factor : w 0 ≡ int (pos 1)
  first-factor = one_up_to 0 (omega arith)

  pub last-factor : (k : ℕ) → l ≤ k → w k ≡ int (pos 0)
  last-factor k h = go (place l l k)
    where
      go : Place l l k → w k ≡ int (pos 0)
      go (low q) = ap w (let e : k ≡ l = omega arith in e) ∙ G.at_last
      go (mid q r) = absurd (omega arith)
      go (high q) = (G.after k q).1

  pub factor_nonzero : (i : ℕ) → i < l → w i ≢ int (pos 0)
  factor_nonzero i h e = go (le_or_lt i f)
    where
      go : (i ≤ f) ⊎ (f < i) → ⊥
      go (inl k) = int_nonzero 0 (sym (one_up_to i k) ∙ e)
      go (inr k) = let b = G.below in G.part (suc i) (omega arith) (omega arith) (sym (G.weight i (omega arith)) ∙ ap (λ t. t *ᵠ J i) e ∙ zero-mul (J i))

  -- every mixed row is annihilated
  pub mixed_null : (i : ℕ) → suc i < n → mixed w J i ≡ int (pos 0)
  unfolding sum mixed
  mixed_null i h = by_eq ℚ-ring (int (pos 1)) (G.weight i (omega arith)) (by_eq ℚ-ring (int (negsuc 0)) (G.weight (suc i) h)
      (ring ℚ-ring (w i ∷ J i ∷ w (suc i) ∷ J (suc i) ∷ sum i J ∷ []) (search readsℚ depth 30) (search readsℚ depth 30) refl))

  module _ (x : ℕ → ℚ) (annihilated : sum n (λ j. x j *ᵠ J j) ≡ int (pos 0)) where
    X : ℕ → ℚ
    X j = x j *ᵠ J j

    X-zero : (j : ℕ) → J j ≡ int (pos 0) → X j ≡ int (pos 0)
    unfolding X
    X-zero j e = ap (λ t. x j *ᵠ t) e ∙ ring ℚ-ring (x j ∷ []) (search readsℚ) (search readsℚ) refl

    X-past : (k : ℕ) → l < k → k ≤ n → sum k X ≡ int (pos 0)
    unfolding X
    X-past k h q = sym (sum_past k n X q (λ i r s. X-zero i (G.after i (omega arith)).0)) ∙ annihilated

    -- the factors of the new rows
    pub coefficient : ℕ → ℚ
    coefficient k = cond (leb k f) (x (k - 1)) (cond (leb k l) (sum k X *ᵠ inv (sum k J)) (x k))

    coefficient_low : (k : ℕ) → k ≤ f → coefficient k ≡ x (k - 1)
    unfolding coefficient
    coefficient_low k h = cond_true _ _ (holds_true (leb k f) (le→leb k f h))

    coefficient_mid : (k : ℕ) → f < k → k ≤ l → coefficient k ≡ sum k X *ᵠ inv (sum k J)
    unfolding coefficient
    coefficient_mid k h q = cond_false _ _ (fails_false (leb k f) (lt→nleb k f h)) ∙ cond_true _ _ (holds_true (leb k l) (le→leb k l q))

    coefficient-high : (k : ℕ) → l < k → coefficient k ≡ x k
    unfolding coefficient
    coefficient-high k h = let q = G.ordered in cond_false _ _ (fails_false (leb k f) (lt→nleb k f (omega arith))) ∙ cond_false _ _ (fails_false (leb k l) (lt→nleb k l h))

    balance : (k : ℕ) → k ≤ n → sum k J *ᵠ coefficient k ≡ sum k X
    balance k h = go (place f l k)
      where
        go : Place f l k → sum k J *ᵠ coefficient k ≡ sum k X
        go (low q) = ap (λ t. t *ᵠ coefficient k) (sum-zero k (λ i r. (G.before i (omega arith)).0)) ∙ zero-mul (coefficient k)
            ∙ sym (sum-zero k (λ i r. X-zero i (G.before i (omega arith)).0))
        go (mid q r) = ap (λ t. sum k J *ᵠ t) (coefficient_mid k q r) ∙ by_eq ℚ-ring (sum k X) (mul_inv (sum k J) (G.part k q r))
            (ring ℚ-ring (sum k J ∷ sum k X ∷ inv (sum k J) ∷ []) (search readsℚ depth 20) (search readsℚ depth 20) refl)
        go (high q) = ap (λ t. t *ᵠ coefficient k) (sum_past (suc l) k J q (λ i r s. (G.after i r).0) ∙ G.whole) ∙ zero-mul (coefficient k) ∙ sym (X-past k q h)

    -- x is lifted from them
    pub coefficient_lifts : (j : ℕ) → j < n → lifted w coefficient j ≡ x j
    unfolding X
    coefficient_lifts j h = go (place f l (suc j)) (place f l j)
      where
        inside : f ≤ j → j ≤ l → lifted w coefficient j ≡ x j
        inside p q = lifted_of_balance J w x coefficient j (G.weight j h) (G.jump j p q) (balance j (omega arith)) (balance (suc j) h)

        go : Place f l (suc j) → Place f l j → lifted w coefficient j ≡ x j
        go (low q) z = lifted_at_one w coefficient j (G.before j q).1 ∙ coefficient_low (suc j) q ∙ ap x (let e : suc j - 1 ≡ j = omega arith in e)
        go (mid q r) z = inside (omega arith) (omega arith)
        go (high q) (low r) = let b = G.ordered in absurd (omega arith)
        go (high q) (mid r s) = inside (omega arith) s
        go (high q) (high r) = lifted_at_zero w coefficient j (G.after j r).1 ∙ coefficient-high j r

  -- and from no others
  pub lifted_unique : (c d : ℕ → ℚ) → ((j : ℕ) → j < n → lifted w c j ≡ lifted w d j) → (k : ℕ) → suc k < n → c (suc k) ≡ d (suc k)
  lifted_unique c d e k h = go (place f l (suc k))
    where
      go : Place f l (suc k) → c (suc k) ≡ d (suc k)
      go (low q) = sym (lifted_at_one w c k (G.before k q).1) ∙ e k (omega arith) ∙ lifted_at_one w d k (G.before k q).1
      go (mid q r) = mul_cancel (G.part (suc k) q r) (mul_comm (c (suc k)) (sum (suc k) J)
          ∙ balance_of_lifted J w (lifted w d) c n G.weight e (suc k) (omega arith)
          ∙ sym (balance_of_lifted J w (lifted w d) d n G.weight (λ j i. refl) (suc k) (omega arith)) ∙ mul_comm (sum (suc k) J) (d (suc k)))
      go (high q) = sym (lifted_at_zero w c (suc k) (G.after (suc k) q).1) ∙ e (suc k) h ∙ lifted_at_zero w d (suc k) (G.after (suc k) q).1
