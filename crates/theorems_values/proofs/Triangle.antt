-- The rounded triangle against the exact one: a blend of numbers that differ from exact ones by at most so much differs by at
-- most one half more, and a blend of numbers within whole limits stays within them. By induction so is every number of the
-- triangle.
use mathlib.Core.Path.{◌≡◌, refl, sym, ◌∙◌, ap, ap₂, subst}
use mathlib.Core.List.{[], ◌∷◌}
use Prim.Native.Nat.{ℕ, zero, suc, ◌+◌, ◌<◌, ◌≤◌}
use native.Mathlib.Omega.{arith}
use lib.IntN.{ℤ, pos, ◌+ℤ◌, ◌-ℤ◌, ◌*ℤ◌}
use lib.Signed.{◌≤ℤ◌}
use Rattle.base_exact.specs.Rational.{ℚ, int, inv, ◌+ᵠ◌, ◌*ᵠ◌}
use Rattle.base_exact.specs.Order.{◌≤ᵠ◌, Nn}
use Rattle.base_exact.proofs.Integer as Z
use Rattle.base_exact.proofs.Ring.{ring, reads, by_eq}
use Rattle.base_exact.proofs.Rational.{ℚ-ring, readsℚ, int-add, int_mul, int_sub, mul_inv}
use Rattle.base_exact.proofs.Order.{nn_mul, nn_inv, nn_int, zero_le_nn, int_mono, pos_nonzero}
use Rattle.spec_spline.specs.Reading.{rounded, blend, triangle}
use Rattle.theorems_values.proofs.Within.{Within, halves, halves_add, within-chain}
use Rattle.theorems_values.proofs.Rounding.{quotient, pos_of_nat, rounded-within, rounded_at_least, rounded_at_most}
use Rattle.theorems_values.proofs.Mean.{Factors, mean_at_least, mean_at_most, mean_within}
use Rattle.theorems_values.proofs.Bernstein.{exact_triangle}

-- (D - u)/D and u/D.
abbrev pub left_factor : ℕ → ℤ → ℚ
left_factor d u = int (pos d -ℤ u) *ᵠ inv (int (pos d))

abbrev pub right_factor : ℕ → ℤ → ℚ
right_factor d u = int u *ᵠ inv (int (pos d))

-- The whole number g is neither below low nor above high.
pub record Between (low high g : ℤ) : Type 0 where
  pub at-least : low ≤ℤ g
  pub at-most : g ≤ℤ high

module _ (d : ℕ) (u : ℤ) (positive : 0 < d) (from : pos 0 ≤ℤ u) (to : u ≤ℤ pos d) where
  pub factors : Factors (left_factor d u) (right_factor d u)
  factors = record {
    left = nn_mul (zero_le_nn (int_mono (Z.non_neg_le (pos d -ℤ u) (Z.le_sub u (pos d) to)))) inverse;
    right = nn_mul (zero_le_nn (int_mono from)) inverse;
    whole = ap (λ t. t *ᵠ inv (int (pos d)) +ᵠ right_factor d u) (int_sub (pos d) u)
        ∙ by_eq ℚ-ring (int (pos 1)) (mul_inv (int (pos d)) (pos_nonzero (pos_of_nat d positive)))
        (ring ℚ-ring (int (pos d) ∷ int u ∷ inv (int (pos d)) ∷ []) (search readsℚ depth 20) (search readsℚ depth 20) refl);
  }
    where
      inverse : Nn (inv (int (pos d)))
      inverse = nn_inv (nn_int d)

  -- what a blend rounds is the mean
  quotient_is_mean : (g h : ℤ) → quotient ((pos d -ℤ u) *ℤ g +ℤ u *ℤ h) d ≡ left_factor d u *ᵠ int g +ᵠ right_factor d u *ᵠ int h
  quotient_is_mean g h = ap (λ t. t *ᵠ inv (int (pos d))) (int-add ((pos d -ℤ u) *ℤ g) (u *ℤ h) ∙ ap₂ ◌+ᵠ◌ (int_mul (pos d -ℤ u) g) (int_mul u h))
      ∙ ring ℚ-ring (int (pos d -ℤ u) ∷ int g ∷ int u ∷ int h ∷ inv (int (pos d)) ∷ []) (search reads depth 20) (search reads depth 20) refl

  -- ---- one blend

  pub blend-within : {b e e' : ℚ} {g g' : ℤ} → Within b e g → Within b e' g' → Within (b +ᵠ halves 1) (left_factor d u *ᵠ e +ᵠ right_factor d u *ᵠ e') (blend d u g g')
  unfolding blend
  blend-within {b} {e} {e'} {g} {g'} w w' = within-chain b
      (mean_within factors b e e' w.not_above w'.not_above)
      (mean_within factors b (int g) (int g') w.not_below w'.not_below)
      (subst (λ q. Within (halves 1) q (rounded z d)) (quotient_is_mean g g') (rounded-within z d positive))
    where
      z : ℤ
      z = (pos d -ℤ u) *ℤ g +ℤ u *ℤ g'

  pub blend-between : {low high g g' : ℤ} → Between low high g → Between low high g' → Between low high (blend d u g g')
  unfolding blend
  blend-between {low} {high} {g} {g'} w w' = record {
    at-least = rounded_at_least low z d positive (subst (λ t. int low ≤ᵠ t) (sym (quotient_is_mean g g')) (mean_at_least factors (int_mono w.at-least) (int_mono w'.at-least)));
    at-most = rounded_at_most high z d positive (subst (λ t. t ≤ᵠ int high) (sym (quotient_is_mean g g')) (mean_at_most factors (int_mono w.at-most) (int_mono w'.at-most)));
  }
    where
      z : ℤ
      z = (pos d -ℤ u) *ℤ g +ℤ u *ℤ g'

  -- ---- the triangle of the numbers 0 to p

  -- each blend adds at most one half
  pub triangle-within : (p s : ℕ) (e : ℕ → ℚ) (g : ℕ → ℤ) → ((k : ℕ) → k ≤ p → Within (halves s) (e k) (g k))
      → (n k : ℕ) → k + n ≤ p → Within (halves (s + n)) (exact_triangle (left_factor d u) (right_factor d u) e n k) (triangle d u g n k)
  unfolding triangle exact_triangle
  triangle-within p s e g all zero k h = subst (λ n. Within (halves n) (e k) (g k)) (let z : s ≡ s + 0 = omega arith in z) (all k (omega arith))
  triangle-within p s e g all (suc n) k h = subst (λ b. Within b (exact_triangle (left_factor d u) (right_factor d u) e (suc n) k) (triangle d u g (suc n) k))
      (halves_add (s + n) 1 ∙ ap halves (let z : s + n + 1 ≡ s + suc n = omega arith in z))
      (blend-within (triangle-within p s e g all n k (omega arith)) (triangle-within p s e g all n (suc k) (omega arith)))

  pub triangle-between : (p : ℕ) (low high : ℤ) (g : ℕ → ℤ) → ((k : ℕ) → k ≤ p → Between low high (g k))
      → (n k : ℕ) → k + n ≤ p → Between low high (triangle d u g n k)
  unfolding triangle
  triangle-between p low high g all zero k h = all k (omega arith)
  triangle-between p low high g all (suc n) k h = blend-between (triangle-between p low high g all n k (omega arith)) (triangle-between p low high g all n (suc k) (omega arith))
