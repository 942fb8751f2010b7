-- The ordinates against the exact ones: the limits only move the sum of the terms towards the exact ordinate, which lies
-- between them, so an ordinate too is off by at most half the count of its weights, and it is within the limits.
use mathlib.Core.Path.{◌≡◌, refl, sym, ◌∙◌, ap, ap₂, subst}
use mathlib.Core.Bool.{Bool, true, false, cond}
use mathlib.Core.Option.{some}
use Prim.Native.Nat.{ℕ, ◌<◌}
use lib.IntN.{ℤ, pos}
use lib.ListN.{length}
use lib.Signed.{le_z, lt_z, ◌≤ℤ◌}
use Rattle.base_exact.specs.Rational.{ℚ, int, ◌*ᵠ◌}
use Rattle.base_exact.specs.Order.{◌≤ᵠ◌, Nn}
use Rattle.base_exact.specs.Sum.{sum}
use Rattle.base_exact.proofs.Integer as Z
use Rattle.base_exact.proofs.Rational.{mul-one, mul-zero}
use Rattle.base_exact.proofs.Order.{≤-refl, ≤_trans, int_mono, +_mono, *_mono}
use Rattle.base_exact.proofs.Sum.{sum_mono, sum_mul}
use Rattle.base_exact.proofs.Word.{lt_z_true, lt_z_false}
use Rattle.base_outcome.specs.Search.{how_many}
use Rattle.spec_spline.specs.Table.{Table, cell}
use Rattle.spec_spline.specs.Reading.{fine, has_weight, term_sum, at_least, at_most, ordinate}
use Rattle.theorems_values.proofs.Within.{Within, halves, nn_halves, le_add}
use Rattle.theorems_values.proofs.Fine.{fine_mono}
use Rattle.theorems_values.proofs.Extremum.{Extreme, least_exists, greatest_exists, least_le, le_greatest}
use Rattle.theorems_values.proofs.Weights.{Column, no_weight-zero, Passing, how_many_some, some_weight}
use Rattle.theorems_values.proofs.Triangle.{Between}
use Rattle.theorems_values.proofs.Terms.{sum-within}

-- The sum that an ordinate stands for.
unfoldable pub exact_ordinate : Table → (ℕ → ℤ) → ℕ → ℚ
exact_ordinate t a c = sum (length t) (λ i. int (fine (a i)) *ᵠ cell t i c)

-- ---- a limit

-- z, or the lower limit b where z is under it.
data Raised (z b : ℤ) : ℤ → Type 0 where
  kept : b ≤ℤ z → Raised z b z
  raised : z ≤ℤ b → Raised z b b

-- z, or the upper limit b where z is above it.
data Lowered (z b : ℤ) : ℤ → Type 0 where
  kept : z ≤ℤ b → Lowered z b z
  lowered : b ≤ℤ z → Lowered z b b

raise : (z b : ℤ) → Raised z b (cond (lt_z z b) b z)
raise z b = go (lt_z z b) refl
  where
    go : (p : Bool) → lt_z z b ≡ p → Raised z b (cond p b z)
    go true e = raised (Z.<-≤ z b (lt_z_true z b e))
    go false e = kept (lt_z_false z b e)

lower : (z b : ℤ) → Lowered z b (cond (lt_z b z) b z)
lower z b = go (lt_z b z) refl
  where
    go : (p : Bool) → lt_z b z ≡ p → Lowered z b (cond p b z)
    go true e = lowered (Z.<-≤ b z (lt_z_true b z e))
    go false e = kept (lt_z_false b z e)

-- each limit keeps a number within b of an exact one that meets it
raised-within : {b e : ℚ} {z low y : ℤ} → Nn b → int low ≤ᵠ e → Within b e z → Raised z low y → Within b e y
raised-within n from w (kept h) = w
raised-within n from w (raised h) = record { not_above = ≤_trans from (le_add n); not_below = ≤_trans w.not_below (+_mono (int_mono h) (≤-refl _)) }

lowered-within : {b e : ℚ} {z high y : ℤ} → Nn b → e ≤ᵠ int high → Within b e z → Lowered z high y → Within b e y
lowered-within n to w (kept h) = w
lowered-within n to w (lowered h) = record { not_above = ≤_trans (int_mono h) w.not_above; not_below = ≤_trans to (le_add n) }

-- and it is within all bounds that hold of the limits
limited-between : {z low high y x l u : ℤ} → Raised z low y → Lowered y high x → l ≤ℤ low → l ≤ℤ high → high ≤ℤ u → Between l u x
limited-between {z} {low} {high} {l = l} {u} (kept h) (kept k) p q r = record { at-least = Z.≤_trans l low z p h; at-most = Z.≤_trans z high u k r }
limited-between {z} {low} {high} {l = l} {u} (raised h) (kept k) p q r = record { at-least = p; at-most = Z.≤_trans low high u k r }
limited-between {u = u} R (lowered k) p q r = record { at-least = q; at-most = r }

module _ (t : Table) (a : ℕ → ℤ) (c : ℕ) where
  module _ (C : Column t c) where
    weighted : Passing (length t) (has_weight t c)
    weighted = how_many_some (length t) (has_weight t c) (some_weight t c C)

    -- an exact ordinate is a mean of 256 times the coefficients with weight
    pub exact_at_least : (b : ℤ) → ((i : ℕ) → i < length t → has_weight t c i ≡ true → b ≤ℤ a i) → int (fine b) ≤ᵠ exact_ordinate t a c
    unfolding exact_ordinate
    exact_at_least b h = subst (λ q. q ≤ᵠ sum (length t) (λ i. int (fine (a i)) *ᵠ cell t i c))
        (sum_mul (length t) (int (fine b)) (λ i. cell t i c) ∙ ap (λ q. int (fine b) *ᵠ q) C.sums_one ∙ mul-one (int (fine b)))
        (sum_mono (length t) (λ i l. place i l (has_weight t c i) refl))
      where
        place : (i : ℕ) → i < length t → (p : Bool) → has_weight t c i ≡ p → int (fine b) *ᵠ cell t i c ≤ᵠ int (fine (a i)) *ᵠ cell t i c
        place i l true e = *_mono (C.not_negative i) (int_mono (fine_mono b (a i) (h i l e)))
        place i l false e = subst (λ w. int (fine b) *ᵠ w ≤ᵠ int (fine (a i)) *ᵠ w) (sym (no_weight-zero t c i e))
            (subst (λ q. q ≤ᵠ int (fine (a i)) *ᵠ int (pos 0)) (mul-zero (int (fine (a i))) ∙ sym (mul-zero (int (fine b)))) (≤-refl _))

    pub exact_at_most : (b : ℤ) → ((i : ℕ) → i < length t → has_weight t c i ≡ true → a i ≤ℤ b) → exact_ordinate t a c ≤ᵠ int (fine b)
    unfolding exact_ordinate
    exact_at_most b h = subst (λ q. sum (length t) (λ i. int (fine (a i)) *ᵠ cell t i c) ≤ᵠ q)
        (sum_mul (length t) (int (fine b)) (λ i. cell t i c) ∙ ap (λ q. int (fine b) *ᵠ q) C.sums_one ∙ mul-one (int (fine b)))
        (sum_mono (length t) (λ i l. place i l (has_weight t c i) refl))
      where
        place : (i : ℕ) → i < length t → (p : Bool) → has_weight t c i ≡ p → int (fine (a i)) *ᵠ cell t i c ≤ᵠ int (fine b) *ᵠ cell t i c
        place i l true e = *_mono (C.not_negative i) (int_mono (fine_mono (a i) b (h i l e)))
        place i l false e = subst (λ w. int (fine (a i)) *ᵠ w ≤ᵠ int (fine b) *ᵠ w) (sym (no_weight-zero t c i e))
            (subst (λ q. q ≤ᵠ int (fine b) *ᵠ int (pos 0)) (mul-zero (int (fine b)) ∙ sym (mul-zero (int (fine (a i))))) (≤-refl _))

    low : Extreme le_z (has_weight t c) a (length t)
    low = least_exists (has_weight t c) a (length t) weighted.index weighted.below weighted.passes

    high : Extreme (λ y z. le_z z y) (has_weight t c) a (length t)
    high = greatest_exists (has_weight t c) a (length t) weighted.index weighted.below weighted.passes

    sum_of_terms : ℤ
    sum_of_terms = term_sum t a c (length t)

    -- both limits are there
    ordinate_is : at_most (some high.value) (at_least (some low.value) sum_of_terms) ≡ ordinate t a c
    unfolding ordinate sum_of_terms
    ordinate_is = ap₂ (λ h l. at_most h (at_least l (term_sum t a c (length t)))) (sym high.found) (sym low.found)

    -- the ordinate is off by at most half the count of its weights
    pub ordinate-within : Within (halves (how_many (length t) (has_weight t c))) (exact_ordinate t a c) (ordinate t a c)
    unfolding sum_of_terms exact_ordinate
    ordinate-within = subst (Within (halves (how_many (length t) (has_weight t c))) (exact_ordinate t a c)) ordinate_is
        (lowered-within (nn_halves (how_many (length t) (has_weight t c))) (exact_at_most high.value (le_greatest (has_weight t c) a (length t) high.is_best))
        (raised-within (nn_halves (how_many (length t) (has_weight t c))) (exact_at_least low.value (least_le (has_weight t c) a (length t) low.is_best))
        (sum-within t a c (length t)) (raise (term_sum t a c (length t)) (fine low.value))) (lower _ (fine high.value)))

    -- and the ordinate is between 256 times any bounds of the coefficients with weight
    pub ordinate-between : (l u : ℤ) → ((i : ℕ) → i < length t → has_weight t c i ≡ true → l ≤ℤ a i) → ((i : ℕ) → i < length t → has_weight t c i ≡ true → a i ≤ℤ u)
        → Between (fine l) (fine u) (ordinate t a c)
    unfolding sum_of_terms
    ordinate-between l u from to = subst (Between (fine l) (fine u)) ordinate_is
        (limited-between (raise (term_sum t a c (length t)) (fine low.value)) (lower _ (fine high.value))
        (fine_mono l low.value (subst (λ z. l ≤ℤ z) low.is_best.is (from low.is_best.index low.is_best.below low.is_best.passing)))
        (fine_mono l high.value (subst (λ z. l ≤ℤ z) high.is_best.is (from high.is_best.index high.is_best.below high.is_best.passing)))
        (fine_mono high.value u (subst (λ z. z ≤ℤ u) high.is_best.is (to high.is_best.index high.is_best.below high.is_best.passing))))
