-- An ordinate is worked out from the rows with weight alone: where the rows before and behind some rows have none on a column, it is the
-- ordinate of these rows as a table by themselves. And numbers that agree give the same triangle.
use mathlib.Core.Path.{◌≡◌, refl, ◌∙◌, ap, ap₂}
use mathlib.Core.Bool.{Bool, false, cond, not}
use mathlib.Core.Option.{Option, some, none}
use Prim.Native.Nat.{ℕ, zero, suc, ◌+◌, ◌-◌, ◌<◌, ◌≤◌}
use native.Mathlib.Omega.{arith}
use native.Mathlib.Nat.{add-zero, add-suc}
use lib.IntN.{ℤ, pos, ◌+ℤ◌}
use lib.ListN.{length}
use lib.Signed.{le_z}
use Rattle.base_exact.specs.Rational.{ℚ, int}
use Rattle.base_exact.specs.Order.{is_zero}
use Rattle.base_exact.proofs.Integer.{+-zero}
use Rattle.base_exact.proofs.Order.{zero_test}
use Rattle.base_exact.proofs.Decide.{cond_false}
use Rattle.spec_spline.specs.Table.{Table, cell}
use Rattle.spec_spline.specs.Reading.{has_weight, term, term_sum, best, preferred, at_least, at_most, ordinate, blend, triangle}
use Rattle.theorems_beams.proofs.Reading.{best-agree}

-- ---- the best of numbers, with places that do not pass

module _ (prefers : ℤ → ℤ → Bool) (passes : ℕ → Bool) (a : ℕ → ℤ) where
  none_before : (m : ℕ) → ((i : ℕ) → i < m → passes i ≡ false) → best prefers m passes a ≡ none
  unfolding best
  none_before zero h = refl
  none_before (suc m) h = cond_false _ _ (h m (omega arith)) ∙ none_before m (λ i l. h i (omega arith))

  best-behind : (m n : ℕ) → ((i : ℕ) → i < m → passes i ≡ false) → best prefers (m + n) passes a ≡ best prefers n (λ i. passes (m + i)) (λ i. a (m + i))
  unfolding best
  best-behind m zero h = ap (λ k. best prefers k passes a) (add-zero m) ∙ none_before m h
  best-behind m (suc n) h = ap (λ k. best prefers k passes a) (add-suc m n) ∙ ap (λ o. cond (passes (m + n)) (some (preferred prefers o (a (m + n)))) o) (best-behind m n h)

  best-within : (m n : ℕ) → ((i : ℕ) → m ≤ i → i < m + n → passes i ≡ false) → best prefers (m + n) passes a ≡ best prefers m passes a
  unfolding best
  best-within m zero h = ap (λ k. best prefers k passes a) (add-zero m)
  best-within m (suc n) h = ap (λ k. best prefers k passes a) (add-suc m n) ∙ cond_false _ _ (h (m + n) (omega arith) (omega arith)) ∙ best-within m n (λ i k l. h i k (omega arith))

-- ---- the sum of terms

abbrev weighed : ℚ → ℤ → ℤ
weighed q z = cond (not (is_zero q)) (term q z) (pos 0)

weighed-zero : {q : ℚ} (z : ℤ) → q ≡ int (pos 0) → weighed q z ≡ pos 0
weighed-zero {q} z e = cond_false (term q z) (pos 0) (ap not (zero_test e))

module _ (t : Table) (a : ℕ → ℤ) (c : ℕ) where
  nothing-before : (m : ℕ) → ((i : ℕ) → i < m → cell t i c ≡ int (pos 0)) → term_sum t a c m ≡ pos 0
  unfolding term_sum
  nothing-before zero h = refl
  nothing-before (suc m) h = ap (λ z. term_sum t a c m +ℤ z) (weighed-zero (a m) (h m (omega arith))) ∙ +-zero (term_sum t a c m) ∙ nothing-before m (λ i l. h i (omega arith))

  sum-behind : (u : Table) (b : ℕ → ℤ) (d m n : ℕ) → ((i : ℕ) → i < m → cell t i c ≡ int (pos 0)) → ((i : ℕ) → i < n → cell t (m + i) c ≡ cell u i d) → ((i : ℕ) → i < n → a (m + i) ≡ b i)
      → term_sum t a c (m + n) ≡ term_sum u b d n
  unfolding term_sum
  sum-behind u b d m zero h k l = ap (term_sum t a c) (add-zero m) ∙ nothing-before m h
  sum-behind u b d m (suc n) h k l =
      ap (term_sum t a c) (add-suc m n) ∙ ap₂ ◌+ℤ◌ (sum-behind u b d m n h (λ i w. k i (omega arith)) (λ i w. l i (omega arith))) (ap₂ weighed (k n (omega arith)) (l n (omega arith)))

  sum-within : (m n : ℕ) → ((i : ℕ) → m ≤ i → i < m + n → cell t i c ≡ int (pos 0)) → term_sum t a c (m + n) ≡ term_sum t a c m
  unfolding term_sum
  sum-within m zero h = ap (term_sum t a c) (add-zero m)
  sum-within m (suc n) h = ap (term_sum t a c) (add-suc m n) ∙ ap (λ z. term_sum t a c (m + n) +ℤ z) (weighed-zero (a (m + n)) (h (m + n) (omega arith) (omega arith)))
      ∙ +-zero (term_sum t a c (m + n)) ∙ sum-within m n (λ i k l. h i k (omega arith))

-- ---- ordinates

same-ordinate : {g g' l l' : Option ℤ} {z z' : ℤ} → g ≡ g' → l ≡ l' → z ≡ z' → at_most g (at_least l z) ≡ at_most g' (at_least l' z')
same-ordinate {g' = g'} {l = l} {l' = l'} {z = z} p q r = ap (λ x. at_most x (at_least l z)) p ∙ ap₂ (λ x y. at_most g' (at_least x y)) q r

-- Column d of the table u is column c of t from row m on, and the other rows of t have no weight there.
pub record Window (t u : Table) (c d m : ℕ) : Type 0 where
  pub above : (i : ℕ) → i < m → cell t i c ≡ int (pos 0)
  pub within : (i : ℕ) → i < length u → cell t (m + i) c ≡ cell u i d
  pub below : (i : ℕ) → m + length u ≤ i → cell t i c ≡ int (pos 0)
  pub fits : m + length u ≤ length t

module _ (t u : Table) (c d m : ℕ) (W : Window t u c d m) (a b : ℕ → ℤ) (same : (i : ℕ) → i < length u → a (m + i) ≡ b i) where
  rest : ℕ
  rest = length t - (m + length u)

  whole : length t ≡ m + length u + rest
  unfolding rest
  whole = omega (arith, W.fits)

  bests : (prefers : ℤ → ℤ → Bool) → best prefers (length t) (has_weight t c) a ≡ best prefers (length u) (has_weight u d) b
  bests prefers =
      ap (λ n. best prefers n (has_weight t c) a) whole
      ∙ best-within prefers (has_weight t c) a (m + length u) rest (λ i k l. ap not (zero_test (W.below i k)))
      ∙ best-behind prefers (has_weight t c) a m (length u) (λ i l. ap not (zero_test (W.above i l)))
      ∙ best-agree prefers (length u) (λ i. has_weight t c (m + i)) (has_weight u d) (λ i. a (m + i)) b (λ i l. ap (λ q. not (is_zero q)) (W.within i l)) same

  pub ordinate-window : ordinate t a c ≡ ordinate u b d
  unfolding ordinate
  ordinate-window = same-ordinate (bests (λ y z. le_z z y)) (bests le_z)
      (ap (term_sum t a c) whole ∙ sum-within t a c (m + length u) rest (λ i k l. W.below i k) ∙ sum-behind t a c u b d m (length u) W.above W.within same)

-- ---- the triangle

pub triangle-agree : (d : ℕ) (u : ℤ) (g h : ℕ → ℤ) (p : ℕ) → ((k : ℕ) → k ≤ p → g k ≡ h k) → (n k : ℕ) → k + n ≤ p → triangle d u g n k ≡ triangle d u h n k
unfolding triangle
triangle-agree d u g h p all zero k l = all k (omega arith)
triangle-agree d u g h p all (suc n) k l = ap₂ (blend d u) (triangle-agree d u g h p all n k (omega arith)) (triangle-agree d u g h p all n (suc k) (omega arith))
