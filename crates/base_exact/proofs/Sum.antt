-- Laws of finite sums: extensionality, linearity, exchange, splitting, a single place, and order. A claim about places
-- asks it only below n.
use mathlib.Core.Path.{◌≡◌, refl, sym, ◌∙◌, ap, ap₂, subst}
use mathlib.Core.Logic.{◌≢◌, ◌⊎◌, inl, inr}
use mathlib.Core.List.{[], ◌∷◌}
use Prim.Native.Nat.{ℕ, zero, suc, ◌+◌, ◌-◌, ◌<◌, ◌≤◌}
use native.Mathlib.Omega.{arith}
use native.Mathlib.Nat.{eq-or-lt_of_le, add-zero as ℕ-add-zero, add-suc}
use native.Mathlib.Numerals.{add-one}
use lib.IntN.{pos}
use Rattle.base_exact.specs.Rational.{ℚ, ◌+ᵠ◌, ◌*ᵠ◌, -ᵠ◌, ◌-ᵠ◌, int}
use Rattle.base_exact.specs.Order.{◌≤ᵠ◌, ◌<ᵠ◌, Nn, absᵠ}
use Rattle.base_exact.specs.Sum.{sum}
use Rattle.base_exact.proofs.Ring.{Is, ring, reads}
use Rattle.base_exact.proofs.Rational.{ℚ-ring, readsℚ, add-zero, zero-add, int-add}
use Rattle.base_exact.proofs.Order.{nn_int, nn_add, ≤-refl, ≤_trans, le_nn, le_by, lt_by, lt_pos, pos_add, +_mono, +_mono_<, abs-add, abs_of_nn}

pub sum_ext : (n : ℕ) {f g : ℕ → ℚ} → ((i : ℕ) → i < n → f i ≡ g i) → sum n f ≡ sum n g
unfolding sum
sum_ext zero h = refl
sum_ext (suc n) h = ap₂ ◌+ᵠ◌ (sum_ext n (λ i k. h i (omega arith))) (h n (omega arith))

-- ---- linearity
pub sum-add : (n : ℕ) (f g : ℕ → ℚ) → sum n (λ i. f i +ᵠ g i) ≡ sum n f +ᵠ sum n g
unfolding sum
sum-add zero f g = ring ℚ-ring [] (search readsℚ) (search readsℚ) refl
sum-add (suc n) f g = ap (λ t. t +ᵠ (f n +ᵠ g n)) (sum-add n f g) ∙ ring ℚ-ring (sum n f ∷ sum n g ∷ f n ∷ g n ∷ []) (search reads) (search reads) refl

pub sum_mul : (n : ℕ) (c : ℚ) (f : ℕ → ℚ) → sum n (λ i. c *ᵠ f i) ≡ c *ᵠ sum n f
unfolding sum
sum_mul zero c f = ring ℚ-ring (c ∷ []) (search readsℚ) (search readsℚ) refl
sum_mul (suc n) c f = ap (λ t. t +ᵠ c *ᵠ f n) (sum_mul n c f) ∙ ring ℚ-ring (c ∷ sum n f ∷ f n ∷ []) (search reads) (search reads) refl

pub sum_mul_right : (n : ℕ) (c : ℚ) (f : ℕ → ℚ) → sum n (λ i. f i *ᵠ c) ≡ sum n f *ᵠ c
unfolding sum
sum_mul_right zero c f = ring ℚ-ring (c ∷ []) (search readsℚ) (search readsℚ) refl
sum_mul_right (suc n) c f = ap (λ t. t +ᵠ f n *ᵠ c) (sum_mul_right n c f) ∙ ring ℚ-ring (c ∷ sum n f ∷ f n ∷ []) (search reads) (search reads) refl

pub sum_neg : (n : ℕ) (f : ℕ → ℚ) → sum n (λ i. -ᵠ f i) ≡ -ᵠ sum n f
unfolding sum
sum_neg zero f = ring ℚ-ring [] (search readsℚ) (search readsℚ) refl
sum_neg (suc n) f = ap (λ t. t +ᵠ (-ᵠ f n)) (sum_neg n f) ∙ ring ℚ-ring (sum n f ∷ f n ∷ []) (search reads) (search reads) refl

pub sum_sub : (n : ℕ) (f g : ℕ → ℚ) → sum n (λ i. f i -ᵠ g i) ≡ sum n f -ᵠ sum n g
sum_sub n f g = sum-add n f (λ i. -ᵠ g i) ∙ ap (λ t. sum n f +ᵠ t) (sum_neg n g)

pub sum-zero : (n : ℕ) {f : ℕ → ℚ} → ((i : ℕ) → i < n → f i ≡ int (pos 0)) → sum n f ≡ int (pos 0)
unfolding sum
sum-zero zero h = refl
sum-zero (suc n) h = ap₂ ◌+ᵠ◌ (sum-zero n (λ i k. h i (omega arith))) (h n (omega arith)) ∙ add-zero _

pub sum_const : (n : ℕ) (c : ℚ) → sum n (λ _. c) ≡ int (pos n) *ᵠ c
unfolding sum
sum_const zero c = ring ℚ-ring (c ∷ []) (search readsℚ) (search readsℚ) refl
sum_const (suc n) c = ap (λ t. t +ᵠ c) (sum_const n c)
    ∙ ring ℚ-ring (int (pos n) ∷ c ∷ []) (search readsℚ) (sum-read) refl
    ∙ ap (λ t. t *ᵠ c) (sym (int-add (pos n) (pos 1)) ∙ ap (λ k. int (pos k)) (add-one n))
  where
    sum-read : Is ℚ-ring (int (pos n) ∷ c ∷ []) ((int (pos n) +ᵠ int (pos 1)) *ᵠ c)
    sum-read = search readsℚ

-- ---- order of summation, parts, places
pub sum-swap : (m n : ℕ) (f : ℕ → ℕ → ℚ) → sum m (λ i. sum n (f i)) ≡ sum n (λ j. sum m (λ i. f i j))
unfolding sum
sum-swap zero n f = sym (sum-zero n (λ i h. refl))
sum-swap (suc m) n f = ap (λ t. t +ᵠ sum n (f m)) (sum-swap m n f) ∙ sym (sum-add n (λ j. sum m (λ i. f i j)) (f m))

pub sum-last : (n : ℕ) (f : ℕ → ℚ) → sum (suc n) f ≡ sum n f +ᵠ f n
unfolding sum
sum-last n f = refl

pub sum-front : (n : ℕ) (f : ℕ → ℚ) → sum (suc n) f ≡ f 0 +ᵠ sum n (λ i. f (suc i))
unfolding sum
sum-front zero f = ring ℚ-ring (f 0 ∷ []) (search readsℚ) (search readsℚ) refl
sum-front (suc n) f = ap (λ t. t +ᵠ f (suc n)) (sum-front n f) ∙ ring ℚ-ring (f 0 ∷ sum n (λ i. f (suc i)) ∷ f (suc n) ∷ []) (search reads) (search reads) refl

pub sum-split : (m n : ℕ) (f : ℕ → ℚ) → sum (m + n) f ≡ sum m f +ᵠ sum n (λ i. f (m + i))
unfolding sum
sum-split m zero f = ap (λ k. sum k f) (ℕ-add-zero m) ∙ sym (add-zero (sum m f))
sum-split m (suc n) f = ap (λ k. sum k f) (add-suc m n) ∙ ap (λ t. t +ᵠ f (m + n)) (sum-split m n f)
    ∙ ring ℚ-ring (sum m f ∷ sum n (λ i. f (m + i)) ∷ f (m + n) ∷ []) (search reads) (search reads) refl

-- nothing is added past m
pub sum_past : (m n : ℕ) (f : ℕ → ℚ) → m ≤ n → ((i : ℕ) → m ≤ i → i < n → f i ≡ int (pos 0)) → sum n f ≡ sum m f
sum_past m n f h z = ap (λ k. sum k f) (let e : n ≡ m + (n - m) = omega arith in e) ∙ sum-split m (n - m) f
    ∙ ap (λ t. sum m f +ᵠ t) (sum-zero (n - m) {f = λ i. f (m + i)} (λ i l. z (m + i) (omega arith) (omega arith))) ∙ add-zero (sum m f)

-- nor before m
pub sum-skip : (m n : ℕ) (f : ℕ → ℚ) → ((i : ℕ) → i < m → f i ≡ int (pos 0)) → sum (m + n) f ≡ sum n (λ i. f (m + i))
sum-skip m n f z = sum-split m n f ∙ ap (λ t. t +ᵠ sum n (λ i. f (m + i))) (sum-zero m z) ∙ zero-add _

-- only the place k counts
pub sum-only : (n k : ℕ) {f : ℕ → ℚ} → k < n → ((i : ℕ) → i < n → i ≢ k → f i ≡ int (pos 0)) → sum n f ≡ f k
unfolding sum
sum-only zero k h z = absurd (omega arith)
sum-only (suc n) k {f} h z = go (λ l. sum-only n k {f = f} l (λ i l. z i (omega arith))) (eq-or-lt_of_le h)
  where
    go : (k < n → sum n f ≡ f k) → (suc k ≡ suc n) ⊎ (suc k < suc n) → sum n f +ᵠ f n ≡ f k
    go ih (inl e) = ap₂ ◌+ᵠ◌ (sum-zero n {f = f} (λ i l. z i (omega arith) (omega arith))) (ap f (let t : n ≡ k = omega arith in t))
        ∙ ring ℚ-ring (f k ∷ []) (search readsℚ) (search readsℚ) refl
    go ih (inr l) = ap₂ ◌+ᵠ◌ (ih (omega arith)) (z n (omega arith) (omega arith)) ∙ add-zero (f k)

-- ---- order
pub sum_nn : (n : ℕ) {f : ℕ → ℚ} → ((i : ℕ) → i < n → Nn (f i)) → Nn (sum n f)
unfolding sum
sum_nn zero h = nn_int 0
sum_nn (suc n) h = nn_add (sum_nn n (λ i k. h i (omega arith))) (h n (omega arith))

pub sum_mono : (n : ℕ) {f g : ℕ → ℚ} → ((i : ℕ) → i < n → f i ≤ᵠ g i) → sum n f ≤ᵠ sum n g
unfolding sum
sum_mono zero h = ≤-refl _
sum_mono (suc n) h = +_mono (sum_mono n (λ i k. h i (omega arith))) (h n (omega arith))

-- strict at one place is enough
pub sum_mono_at : (n k : ℕ) {f g : ℕ → ℚ} → k < n → ((i : ℕ) → i < n → f i ≤ᵠ g i) → f k <ᵠ g k → sum n f <ᵠ sum n g
unfolding sum
sum_mono_at zero k l h s = absurd (omega arith)
sum_mono_at (suc n) k {f} {g} l h s = go (λ l. sum_mono_at n k {f = f} {g = g} l (λ i l. h i (omega arith)) s) (eq-or-lt_of_le l)
  where
    go : (k < n → sum n f <ᵠ sum n g) → (suc k ≡ suc n) ⊎ (suc k < suc n) → sum n f +ᵠ f n <ᵠ sum n g +ᵠ g n
    go ih (inl e) =
        lt_by (pos_add (lt_pos (subst (λ t. f t <ᵠ g t) (let t : k ≡ n = omega arith in t) s))
        (le_nn (sum_mono n {f = f} {g = g} (λ i l. h i (omega arith)))))
        (ring ℚ-ring (sum n f ∷ f n ∷ sum n g ∷ g n ∷ []) (search reads) (search reads) refl)
    go ih (inr m) = +_mono_< (ih (omega arith)) (h n (omega arith))

-- a place is at most the sum where no place is negative
pub sum-place_le : (n k : ℕ) {f : ℕ → ℚ} → k < n → ((i : ℕ) → i < n → Nn (f i)) → f k ≤ᵠ sum n f
unfolding sum
sum-place_le zero k l h = absurd (omega arith)
sum-place_le (suc n) k {f} l h = go (λ m. sum-place_le n k {f = f} m (λ i m. h i (omega arith))) (eq-or-lt_of_le l)
  where
    go : (k < n → f k ≤ᵠ sum n f) → (suc k ≡ suc n) ⊎ (suc k < suc n) → f k ≤ᵠ sum n f +ᵠ f n
    go ih (inl e) =
        le_by (sum_nn n {f = f} (λ i m. h i (omega arith))) (ring ℚ-ring (sum n f ∷ f n ∷ []) (search reads) (search reads) refl
        ∙ ap (λ j. sum n f +ᵠ f n -ᵠ f j) (let z : n ≡ k = omega arith in z))
    go ih (inr m) = le_by (nn_add (le_nn (ih (omega arith))) (h n (omega arith))) (ring ℚ-ring (sum n f ∷ f n ∷ f k ∷ []) (search reads) (search reads) refl)

-- the triangle inequality
pub sum-abs : (n : ℕ) (f : ℕ → ℚ) → absᵠ (sum n f) ≤ᵠ sum n (λ i. absᵠ (f i))
unfolding sum
sum-abs zero f = rw (abs_of_nn (nn_int 0)) (≤-refl _)
sum-abs (suc n) f = ≤_trans (abs-add (sum n f) (f n)) (+_mono (sum-abs n f) (≤-refl _))
