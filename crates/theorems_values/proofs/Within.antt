-- A whole number within a bound of an exact number, on either side, and bounds that count halves. Nothing is rounded here.
use mathlib.Core.Path.{◌≡◌, refl, sym, ◌∙◌, ap, subst}
use mathlib.Core.List.{[], ◌∷◌}
use Prim.Native.Nat.{ℕ, ◌+◌, ◌≤◌}
use native.Mathlib.Omega.{arith}
use lib.IntN.{ℤ, pos, ◌+ℤ◌}
use Rattle.base_exact.specs.Rational.{ℚ, int, inv, ◌+ᵠ◌, ◌*ᵠ◌, ◌/ᵠ◌}
use Rattle.base_exact.specs.Order.{◌≤ᵠ◌, Nn}
use Rattle.base_exact.proofs.Integer as Z
use Rattle.base_exact.proofs.Ring.{ring, reads}
use Rattle.base_exact.proofs.Rational.{ℚ-ring, int-add, add_mul}
use Rattle.base_exact.proofs.Order.{nn_mul, nn_inv, nn_int, le_by, ≤-refl, ≤_trans, +_mono, *_mono, int_mono}

-- The whole number g and the exact number e differ by at most b.
pub record Within (b e : ℚ) (g : ℤ) : Type 0 where
  pub not_above : int g ≤ᵠ e +ᵠ b
  pub not_below : e ≤ᵠ int g +ᵠ b

-- ---- n halves

abbrev pub halves : ℕ → ℚ
halves n = int (pos n) /ᵠ int (pos 2)

pub halves_add : (m n : ℕ) → halves m +ᵠ halves n ≡ halves (m + n)
halves_add m n = sym (ap (λ t. t *ᵠ inv (int (pos 2))) (int-add (pos m) (pos n)) ∙ add_mul (int (pos m)) (int (pos n)) (inv (int (pos 2))))

pub nn_halves : (n : ℕ) → Nn (halves n)
nn_halves n = nn_mul (nn_int n) (nn_inv (nn_int 2))

pub halves_mono : (m n : ℕ) → m ≤ n → halves m ≤ᵠ halves n
halves_mono m n h = *_mono (nn_inv (nn_int 2)) (int_mono (Z.≤_in (pos m) (pos n) (omega arith)))

-- ---- bounds

-- a number that is not negative, added
pub le_add : {x b : ℚ} → Nn b → x ≤ᵠ x +ᵠ b
le_add {x} {b} h = le_by h (ring ℚ-ring (x ∷ b ∷ []) (search reads) (search reads) refl)

-- a number itself
pub within_same : (g : ℤ) → Within (halves 0) (int g) g
within_same g = record { not_above = le_add (nn_halves 0); not_below = le_add (nn_halves 0) }

-- a greater bound
pub within_more : {b c e : ℚ} {g : ℤ} → b ≤ᵠ c → Within b e g → Within c e g
within_more {b} {c} {e} {g} h w = record { not_above = ≤_trans w.not_above (+_mono (≤-refl e) h); not_below = ≤_trans w.not_below (+_mono (≤-refl (int g)) h) }

-- two sums
pub within-add : {b c e x : ℚ} {g h : ℤ} → Within b e g → Within c x h → Within (b +ᵠ c) (e +ᵠ x) (g +ℤ h)
within-add {b} {c} {e} {x} {g} {h} w v = record {
  not_above = subst (λ t. t ≤ᵠ e +ᵠ x +ᵠ (b +ᵠ c)) (sym (int-add g h)) (subst (λ t. int g +ᵠ int h ≤ᵠ t) (regroup e b x c) (+_mono w.not_above v.not_above));
  not_below = subst (λ t. e +ᵠ x ≤ᵠ t +ᵠ (b +ᵠ c)) (sym (int-add g h)) (subst (λ t. e +ᵠ x ≤ᵠ t) (regroup (int g) b (int h) c) (+_mono w.not_below v.not_below));
}
  where
    regroup : (p q r s : ℚ) → p +ᵠ q +ᵠ (r +ᵠ s) ≡ p +ᵠ r +ᵠ (q +ᵠ s)
    regroup p q r s = ring ℚ-ring (p ∷ q ∷ r ∷ s ∷ []) (search reads depth 20) (search reads depth 20) refl

-- a number within c of one that differs by at most b from e
pub within-chain : (b : ℚ) {c e q : ℚ} {g : ℤ} → q ≤ᵠ e +ᵠ b → e ≤ᵠ q +ᵠ b → Within c q g → Within (b +ᵠ c) e g
within-chain b {c} {e} {q} {g} h k w = record {
  not_above = subst (λ t. int g ≤ᵠ t) (regroup e b c) (≤_trans w.not_above (+_mono h (≤-refl c)));
  not_below = subst (λ t. e ≤ᵠ t) (regroup' (int g) b c) (≤_trans k (+_mono w.not_below (≤-refl b)));
}
  where
    regroup : (p q r : ℚ) → p +ᵠ q +ᵠ r ≡ p +ᵠ (q +ᵠ r)
    regroup p q r = ring ℚ-ring (p ∷ q ∷ r ∷ []) (search reads) (search reads) refl

    regroup' : (p q r : ℚ) → p +ᵠ r +ᵠ q ≡ p +ᵠ (q +ᵠ r)
    regroup' p q r = ring ℚ-ring (p ∷ q ∷ r ∷ []) (search reads) (search reads) refl
