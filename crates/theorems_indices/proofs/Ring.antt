-- One ring: when code 14 refuses it, as the machine tests it one bound after the other, what a ring that passes has, and its
-- index.
use mathlib.Core.Path.{◌≡◌, refl, sym, ◌∙◌, ap, ap₂}
use mathlib.Core.Logic.{◌≢◌}
use mathlib.Core.Bool.{Bool, true, false, cond, not, ◌&&◌, ◌||◌}
use Prim.Native.Nat.{◌≤◌}
use native.Mathlib.Omega.{arith}
use borrow.Author.Tests.{ne_eqb, eq-eqb}
use lib.Dec.{eqb}
use lib.IntN.{ℤ, pos, negsuc, nat_abs, ◌*ℤ◌}
use lib.Signed.{le_z, lt_z, ◌<ℤ◌, ◌≤ℤ◌}
use Rattle.base_exact.specs.Floor.{floor_div}
use Rattle.base_exact.proofs.Decide.{cond_true, cond_false, or-false, and-true, true_not_false}
use Rattle.base_exact.proofs.Integer.{abs-zero, ≤_out, abs_le_in, ≤_in}
use Rattle.base_exact.proofs.Word.{lt_z_true, lt_z_false, le_z_false, le_test, not_le_test}
use Rattle.base_outcome.specs.Tests.{between}
use Rattle.spec_spline.proofs.Space.{between_inverts}
use Rattle.spec_calls.specs.Indices.{width_limit, is_absent, is_refused, index_scale, index_of}

-- ---- code 14

module _ (width value : ℤ) where
  abbrev by_value : Bool
  by_value = not (is_absent width) && le_z value (pos 0)

  pub refused_below : lt_z width (pos 0) ≡ true → true ≡ is_refused width value
  unfolding is_refused
  refused_below e = sym (ap (λ b. not (b && le_z width (pos width_limit)) || by_value) (not_le_test {a = pos 0} {b = width} (lt_z_true width (pos 0) e)))

  pub refused_above : lt_z width (pos 0) ≡ false → lt_z (pos width_limit) width ≡ true → true ≡ is_refused width value
  unfolding is_refused
  refused_above e k =
      sym (ap₂ (λ a b. not (a && b) || by_value) (le_test {a = pos 0} {b = width} (lt_z_false width (pos 0) e))
      (not_le_test {a = width} {b = pos width_limit} (lt_z_true (pos width_limit) width k)))

  pub refused_in_range : lt_z width (pos 0) ≡ false → lt_z (pos width_limit) width ≡ false → by_value ≡ is_refused width value
  unfolding is_refused
  refused_in_range e k =
      sym (ap₂ (λ a b. not (a && b) || by_value) (le_test {a = pos 0} {b = width} (lt_z_false width (pos 0) e))
      (le_test {a = width} {b = pos width_limit} (lt_z_false (pos width_limit) width k)))

  pub absent : width ≡ pos 0 → is_absent width ≡ true
  absent e = eq-eqb (nat_abs width) 0 (ap nat_abs e)

  pub present : width ≢ pos 0 → is_absent width ≡ false
  present n = ne_eqb (nat_abs width) 0 (λ e. n (abs-zero width e))

  pub absent-passes : width ≡ pos 0 → false ≡ is_refused width value
  unfolding is_refused
  absent-passes e = sym (ap (λ (z : ℤ). not (between (pos 0) (pos width_limit) z) || (not (is_absent z) && le_z value (pos 0))) e)

  pub present_by_value : lt_z width (pos 0) ≡ false → lt_z (pos width_limit) width ≡ false → width ≢ pos 0 → le_z value (pos 0) ≡ is_refused width value
  present_by_value e k n = sym (ap (λ b. not b && le_z value (pos 0)) (present n)) ∙ refused_in_range e k

  -- a ring that passes has a width in its range, and, where it is present, a value above zero
  pub passes-width : is_refused width value ≡ false → (pos 0 ≤ℤ width) × (width ≤ℤ pos width_limit)
  unfolding is_refused
  passes-width e = between_inverts (pos 0) (pos width_limit) width (or-false (not (between (pos 0) (pos width_limit) width)) by_value e).0

  pub passes-small : is_refused width value ≡ false → nat_abs width ≤ width_limit
  passes-small e = small width (passes-width e)
    where
      small : (z : ℤ) → (pos 0 ≤ℤ z) × (z ≤ℤ pos width_limit) → nat_abs z ≤ width_limit
      small (pos n) h = omega (arith, ≤_out (pos n) (pos width_limit) h.1)
      small (negsuc n) h = absurd h.0.le

  pub passes-value : is_refused width value ≡ false → width ≢ pos 0 → pos 0 <ℤ value
  unfolding is_refused
  passes-value e n =
      le_z_false value (pos 0)
      (go (le_z value (pos 0)) (ap (λ b. not b && le_z value (pos 0)) (sym (present n))
      ∙ (or-false (not (between (pos 0) (pos width_limit) width)) by_value e).1))
    where
      go : (b : Bool) → (true && b) ≡ false → b ≡ false
      go true k = absurd (true_not_false refl k)
      go false k = refl

  -- ---- the index
  pub index-absent : width ≡ pos 0 → negsuc 0 ≡ index_of width value
  unfolding index_of
  index-absent e = sym (cond_true _ _ (absent e))

  pub index_present : width ≢ pos 0 → floor_div (index_scale *ℤ width) (nat_abs value) ≡ index_of width value
  unfolding index_of
  index_present n = sym (cond_false _ _ (present n))
