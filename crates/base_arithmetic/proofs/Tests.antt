-- Order of a fraction by its parts in any terms, and the tests of machine numbers that code takes for it.
use mathlib.Core.Path.{◌≡◌, refl, sym, ap, ap₂, ◌∙◌}
use mathlib.Core.Bool.{Bool, true, false}
use Prim.Native.Nat.{ℕ}
use native.Mathlib.Omega.{arith}
use lib.Dec.{T}
use lib.IntN.{ℤ, pos, nat_abs, zero-*ℤ, ◌*ℤ◌}
use lib.Signed.{lt_z, ◌<ℤ◌}
use Rattle.base_exact.specs.Rational.{ℚ, int}
use Rattle.base_exact.specs.Order.{ltᵠ}
use Rattle.base_exact.proofs.Integer.{*_one}
use Rattle.base_exact.proofs.Order.{is_lt, lt_is}
use Rattle.base_exact.proofs.Word.{pos_of}
use Rattle.base_exact.proofs.Rational.{◌is◌over◌, is_int}
use Rattle.base_fraction.specs.Machine.{ratio}
use Rattle.base_fraction.proofs.Value.{ratio_is}

-- two tests that hold in the same cases are the same
same_truth : (a b : Bool) → (T a → T b) → (T b → T a) → a ≡ b
same_truth true true f g = refl
same_truth true false f g = absurd (f tt)
same_truth false true f g = absurd (g tt)
same_truth false false f g = refl

-- two fractions compare as the cross products of any terms of theirs
pub is_ltᵠ : {p q : ℚ} {a c : ℤ} {b d : ℕ} → p is a over b → q is c over d → ltᵠ p q ≡ lt_z (a *ℤ pos d) (c *ℤ pos b)
is_ltᵠ h k = same_truth _ _ (λ t. (lt_is h k (record { lt = t })).lt) (λ t. (is_lt h k (record { lt = t })).lt)

-- ---- the machine's tests

module _ (n d : ℤ) (h : pos 0 <ℤ d) where
  pub ratio_positive : lt_z (pos 0) n ≡ ltᵠ (int (pos 0)) (ratio n d)
  ratio_positive = sym (is_ltᵠ (is_int (pos 0)) (ratio_is n d h) ∙ ap₂ lt_z (zero-*ℤ (pos (nat_abs d))) (*_one n))

  pub ratio-below_one : lt_z n d ≡ ltᵠ (ratio n d) (int (pos 1))
  ratio-below_one = sym (is_ltᵠ (ratio_is n d h) (is_int (pos 1)) ∙ ap₂ lt_z (*_one n) (ap pos (omega arith) ∙ sym (pos_of d h).0))
