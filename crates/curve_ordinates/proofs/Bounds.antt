-- The limits of one ordinate, and the size of a rounded term.
use mathlib.Core.Path.{◌≡◌, refl, ◌∙◌, ap}
use mathlib.Core.Bool.{Bool, true, false, cond}
use mathlib.Core.Option.{some}
use Prim.Native.Nat.{ℕ, ◌<◌, ◌≤◌}
use native.Mathlib.Omega.{arith}
use lib.IntN.{ℤ, pos, nat_abs, ◌*ℤ◌}
use lib.Signed.{lt_z, ◌≤ℤ◌}
use Rattle.base_exact.proofs.Decide.{cond_true, cond_false}
use Rattle.base_exact.proofs.Integer.{abs_mul_le, abs_le_in, abs_le_out, ≤_trans}
use Rattle.base_exact.proofs.Floor.{nearest-abs}
use Rattle.base_exact.proofs.Word.{lt_z_false}
use Rattle.spec_spline.specs.Reading.{fine, at_least, at_most, rounded}
use Rattle.curve_ordinates.specs.Ordinates.{given, ordinate_limit}

-- ---- the limits

module _ (known : Bool) (s l g : ℤ) where
  pub limits_unknown : known ≡ false → at_most (given known g) (at_least (given known l) s) ≡ s
  limits_unknown e = ap (λ t. at_most (given t g) (at_least (given t l) s)) e

  pub limits-below : known ≡ true → lt_z s (fine l) ≡ true
      → at_most (given known g) (at_least (given known l) s) ≡ cond (lt_z (fine g) (fine l)) (fine g) (fine l)
  limits-below e p =
      ap (λ t. at_most (given t g) (at_least (given t l) s)) e ∙ ap (λ z. cond (lt_z (fine g) z) (fine g) z) (cond_true (fine l) s p)

  pub limits-above : known ≡ true → lt_z s (fine l) ≡ false
      → at_most (given known g) (at_least (given known l) s) ≡ cond (lt_z (fine g) s) (fine g) s
  limits-above e p =
      ap (λ t. at_most (given t g) (at_least (given t l) s)) e ∙ ap (λ z. cond (lt_z (fine g) z) (fine g) z) (cond_false (fine l) s p)

-- they keep a sum within them; a sum of nothing is 0
pub limits-abs : (known : Bool) (s l g : ℤ) → nat_abs l ≤ 1000000 → nat_abs g ≤ 1000000 → (known ≡ false → s ≡ pos 0)
    → nat_abs (at_most (given known g) (at_least (given known l) s)) ≤ ordinate_limit
limits-abs false s l g hl hg z = rw (z refl) (omega arith)
limits-abs true s l g hl hg z = go (lt_z s (fine l)) refl
  where
    low : nat_abs (fine l) ≤ ordinate_limit
    low = abs_mul_le (pos 256) l 256 1000000 (omega arith) hl

    high : nat_abs (fine g) ≤ ordinate_limit
    high = abs_mul_le (pos 256) g 256 1000000 (omega arith) hg

    upper : (x : ℤ) → (x ≤ℤ fine g → nat_abs x ≤ ordinate_limit) → (b : Bool) → lt_z (fine g) x ≡ b
        → nat_abs (cond b (fine g) x) ≤ ordinate_limit
    upper x h true e = high
    upper x h false e = h (lt_z_false (fine g) x e)

    go : (b : Bool) → lt_z s (fine l) ≡ b → nat_abs (at_most (some g) (cond b (fine l) s)) ≤ ordinate_limit
    go true e = upper (fine l) (λ _. low) (lt_z (fine g) (fine l)) refl
    go false e =
        upper s (λ k. abs_le_in s ordinate_limit (≤_trans _ (fine l) _ (abs_le_out (fine l) ordinate_limit low).0 (lt_z_false s (fine l) e))
        (≤_trans _ (fine g) _ k (abs_le_out (fine g) ordinate_limit high).1)) (lt_z (fine g) s) refl

-- ---- a rounded term

-- a coefficient in range times a weight of at most one
pub term-abs : (a num : ℤ) (d : ℕ) → 0 < d → nat_abs a ≤ 1000000 → nat_abs num ≤ d → nat_abs (rounded (fine a *ℤ num) d) ≤ ordinate_limit
unfolding rounded
term-abs a num d positive h l =
    nearest-abs (fine a *ℤ num) d ordinate_limit positive
    (abs_mul_le (fine a) num ordinate_limit d (abs_mul_le (pos 256) a 256 1000000 (omega arith) h) l)
