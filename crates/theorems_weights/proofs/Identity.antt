-- The table that the build starts with is a basis where there are no conditions.
use mathlib.Core.Path.{◌≡◌, sym, ◌∙◌, ap, subst}
use mathlib.Core.Logic.{◌⊎◌, inl, inr}
use mathlib.Core.List.{List}
use Prim.Native.Nat.{ℕ, ◌<◌, ◌≤◌}
use native.Mathlib.Omega.{arith}
use native.Mathlib.Decide.{dec_lt, ℕ_discrete}
use lib.IntN.{pos}
use lib.ListN.{length}
use Rattle.base_exact.specs.Rational.{ℚ, ◌*ᵠ◌, int}
use Rattle.base_exact.specs.Order.{Nn}
use Rattle.base_exact.specs.Sum.{sum}
use Rattle.base_exact.proofs.Decide.{le_or_lt}
use Rattle.base_exact.proofs.Rational.{mul-zero, mul-one, one-mul}
use Rattle.base_exact.proofs.Order.{nn_int}
use Rattle.base_exact.proofs.Sum.{sum_ext, sum-zero, sum-only}
use Rattle.spec_spline.specs.Conditions.{Entry}
use Rattle.spec_spline.specs.Table.{cell, identity}
use Rattle.spec_spline.proofs.Table.{identity-rows, identity_wide, identity_on, identity_off, identity_low}
use Rattle.theorems_weights.proofs.Basis.{Basis, combined}

module _ (n : ℕ) where
  identity_not_negative : (i c : ℕ) → Nn (cell (identity n) i c)
  identity_not_negative i c = go (ℕ_discrete i c) (dec_lt i n)
    where
      none : cell (identity n) i c ≡ int (pos 0) → Nn (cell (identity n) i c)
      none e = subst Nn (sym e) (nn_int 0)

      go : Dec (i ≡ c) → Dec (i < n) → Nn (cell (identity n) i c)
      go (no h) d = none (identity_off n i c h)
      go (yes h) (no k) = none (identity_low n i c (omega arith))
      go (yes h) (yes k) = subst (λ j. Nn (cell (identity n) i j)) h (subst Nn (sym (identity_on n i k)) (nn_int 1))

  -- a sum against a column picks one place
  pub column_picks : (a : ℕ → ℚ) (c : ℕ) → c < n → combined a (identity n) c ≡ a c
  column_picks a c h = ap (λ m. sum m (λ i. a i *ᵠ cell (identity n) i c)) (identity-rows n)
      ∙ sum-only n c {f = λ i. a i *ᵠ cell (identity n) i c} h (λ i k o. ap (λ t. a i *ᵠ t) (identity_off n i c o) ∙ mul-zero (a i))
      ∙ ap (λ t. a c *ᵠ t) (identity_on n c h) ∙ mul-one (a c)

  pub identity_basis : (K : List Entry → Type 0) → ((κ : List Entry) → K κ → ⊥) → Basis K n (identity n)
  identity_basis K empty = record {
    wide = record { each = λ i h. identity_wide n i (rw (identity-rows n) at h) };
    not_negative = identity_not_negative;
    column_sums = λ c h. sum_ext (length (identity n)) (λ i k. sym (one-mul (cell (identity n) i c))) ∙ column_picks (λ i. int (pos 1)) c h;
    meets = λ κ k i. absurd (empty κ k);
    spans = λ z out met. (z, λ c. picked z out c (le_or_lt n c));
    unique = λ a b e i h. sym (column_picks a i (rw (identity-rows n) at h)) ∙ e i ∙ column_picks b i (rw (identity-rows n) at h);
  }
    where
      picked : (z : ℕ → ℚ) → ((c : ℕ) → n ≤ c → z c ≡ int (pos 0)) → (c : ℕ) → (n ≤ c) ⊎ (c < n) → combined z (identity n) c ≡ z c
      picked z out c (inl h) = sum-zero (length (identity n)) (λ i k. ap (λ t. z i *ᵠ t) (identity_off n i c (λ e. omega (arith, identity-rows n))) ∙ mul-zero (z i)) ∙ sym (out c h)
      picked z out c (inr h) = column_picks z c h
