-- Which positions of a segment the search may pass over: all of them where its ordinates lie below the target, and after a value
-- below it those that the steepest rise of the ordinates cannot bring up to it.
use mathlib.Core.Path.{◌≡◌, sym, ap, subst}
use mathlib.Core.Logic.{◌⊎◌, inl, inr}
use mathlib.Core.Bool.{Bool, true, false}
use mathlib.Core.List.{List}
use Prim.Native.Nat.{ℕ, suc, ◌+◌, ◌*◌, ◌-◌, ◌/◌, ◌<◌, ◌≤◌}
use native.Mathlib.Omega.{arith}
use native.Mathlib.Nat.{eq-or-lt_of_le, mul-le-mul_right, le_of_mul-le-mul_right, div-add-mod', mod-lt}
use lib.IntN.{ℤ, pos, neg_ℤ, nat_abs, ◌+ℤ◌, ◌-ℤ◌}
use lib.ListN.{get_or}
use lib.Signed.{le_z, ◌<ℤ◌, ◌≤ℤ◌}
use Rattle.base_exact.proofs.Decide.{true_not_false}
use Rattle.base_exact.proofs.Integer as Z
use Rattle.base_exact.proofs.Word.{le_z_true, le_z_false}
use Rattle.base_outcome.specs.Search.{first, found}
use Rattle.base_outcome.proofs.Search.{Searched, at, nowhere, search_first}
use Rattle.theorems_values.proofs.Triangle.{Between, triangle-between}
use Rattle.curve_ordinates.specs.Ordinates.{Bounded, ordinate_limit}
use Rattle.curve_reach_steps.specs.Machine.{value_on, Steepest}
use Rattle.curve_reach_steps.proofs.Distances.{past}
use Rattle.curve_reach_steps.proofs.Steps.{triangle-moved}

module _ (os : List ℤ) (c p d u : ℕ) (positive : 0 < d) (to : u ≤ d) where
  -- between whole bounds of the ordinates
  value-between : (low high : ℤ) → ((k : ℕ) → k ≤ p → Between low high (get_or os (c + k) (pos 0))) → Between low high (value_on os c p d u)
  unfolding value_on
  value-between low high all =
      triangle-between d (pos u) positive (Z.≤_in (pos 0) (pos u) (omega arith)) (Z.≤_in (pos u) (pos d) (omega arith)) p low high
      (λ k. get_or os (c + k) (pos 0)) all p 0 (omega arith)

  pub value-small : Bounded os → nat_abs (value_on os c p d u) ≤ ordinate_limit
  value-small bounded =
      let b = value-between (neg_ℤ (pos ordinate_limit)) (pos ordinate_limit)
      (λ k h. let a = Z.abs_le_out _ ordinate_limit (bounded (c + k)) in record { at-least = a.0; at-most = a.1 }) in
      Z.abs_le_in (value_on os c p d u) ordinate_limit b.at-least b.at-most

  -- ordinates that all lie below the target
  pub all_below : Bounded os → (target : ℤ) → ((k : ℕ) → k ≤ p → get_or os (c + k) (pos 0) <ℤ target) → value_on os c p d u <ℤ target
  all_below bounded target below =
      Z.<_in _ target (omega (arith, Z.≤_out _ _ b.at-most, Z.bal_+ target (neg_ℤ (pos 1)), Z.bal_neg (pos 1)))
    where
      b : Between (neg_ℤ (pos ordinate_limit)) (target -ℤ pos 1) (value_on os c p d u)
      b = value-between (neg_ℤ (pos ordinate_limit)) (target -ℤ pos 1) (λ k h. record {
        at-least = (Z.abs_le_out _ ordinate_limit (bounded (c + k))).0;
        at-most = Z.≤_in _ _ (omega (arith, Z.<_out _ _ (below k h), Z.bal_+ target (neg_ℤ (pos 1)), Z.bal_neg (pos 1)));
      })

-- whether one of the ordinates reaches the target
module _ (os : List ℤ) (c p : ℕ) (target : ℤ) where
  abbrev reaching : ℕ → Bool
  reaching k = le_z target (get_or os (c + k) (pos 0))

  pub one_bounds : Bounded os → found (first (suc p) reaching) ≡ true → target ≤ℤ pos ordinate_limit
  one_bounds bounded e = go (search_first reaching (suc p))
    where
      go : Searched reaching (suc p) → target ≤ℤ pos ordinate_limit
      go (at i F z) =
          Z.≤_trans target (get_or os (c + i) (pos 0)) (pos ordinate_limit) (le_z_true _ _ F.meets)
          (Z.abs_le_out _ ordinate_limit (bounded (c + i))).1
      go (nowhere h z) = absurd (true_not_false e (ap found z))

  pub none-reaches : found (first (suc p) reaching) ≡ false → (k : ℕ) → k ≤ p → get_or os (c + k) (pos 0) <ℤ target
  none-reaches e k l = go (search_first reaching (suc p))
    where
      go : Searched reaching (suc p) → get_or os (c + k) (pos 0) <ℤ target
      go (at i F z) = absurd (true_not_false (ap found z) e)
      go (nowhere h z) = le_z_false _ _ (h k (omega arith))

-- ---- what a step costs

-- the number c of whole steps in the gap g, less one: p·c is below g, and not below g - p
module _ (p g : ℕ) (0<p : 0 < p) where
  abbrev wholes : ℕ
  wholes = (g - 1) / p

  wholes_below : p * wholes ≤ g - 1
  wholes_below = omega (arith, div-add-mod' (g - 1) p)

  wholes_above : g - p ≤ wholes * p
  wholes_above = omega (arith, div-add-mod' (g - 1) p, mod-lt (g - 1) 0<p)

-- k steps of rise Δ take no more than the whole steps of d
cost-fits : (p g k Δ d : ℕ) (0<p : 0 < p) → k * (p * Δ) ≤ (g - p) * d → k * Δ ≤ wholes p g 0<p * d
cost-fits p g k Δ d 0<p h = le_of_mul-le-mul_right {k = p} (omega (arith, mul-le-mul_right d (wholes_above p g 0<p))) 0<p

module _ (os : List ℤ) (c p d Δ u r : ℕ) (target : ℤ) (0<p : 0 < p) (positive : 0 < d) (steep : Steepest os c p Δ)
    (below : value_on os c p d u <ℤ target)
    (cost : r * (p * Δ) ≤ (nat_abs (target -ℤ value_on os c p d u) - p) * d) where
  abbrev value : ℤ
  value = value_on os c p d u

  abbrev gap : ℕ
  gap = nat_abs (target -ℤ value)

  target_is : value +ℤ pos gap ≡ target
  target_is = past value target (Z.<-≤ value target below)

  gap_positive : 0 < gap
  gap_positive = omega (arith, Z.<_out _ _ (subst (λ t. value <ℤ t) (sym target_is) below), Z.bal_+ value (pos gap))

  -- k positions on
  moved : (k : ℕ) → k ≤ r → u + k ≤ d → value_on os c p d (u + k) <ℤ target
  unfolding value_on
  moved k h to = Z.≤-<_trans _ (value +ℤ pos (p * wholes p gap 0<p)) _
      (triangle-moved d positive (pos u) (pos k) (Z.≤_in (pos 0) (pos u) (omega arith)) (Z.≤_in (pos 0) (pos k) (omega arith))
      (Z.≤_in (pos (u + k)) (pos d) (omega arith))
      p (wholes p gap 0<p) (pos Δ) (λ j. get_or os (c + j) (pos 0)) steep.rises
      (Z.≤_in (pos (k * Δ)) (pos (wholes p gap 0<p * d))
      (omega (arith, cost-fits p gap k Δ d 0<p (omega (arith, mul-le-mul_right (p * Δ) h, cost))))) p 0 (omega arith))
      (subst (λ t. (value +ℤ pos (p * wholes p gap 0<p)) <ℤ t) target_is
      (Z.<_in _ _ (omega (
        arith,
        wholes_below p gap 0<p,
        gap_positive,
        Z.bal_+ value (pos gap),
        Z.bal_+ value (pos (p * wholes p gap 0<p)),
      ))))

  pub passed : (w : ℕ) → u ≤ w → w ≤ u + r → w ≤ d → value_on os c p d w <ℤ target
  passed w h k to = go (eq-or-lt_of_le h)
    where
      go : (u ≡ w) ⊎ (u < w) → value_on os c p d w <ℤ target
      go (inl e) = subst (λ v. value_on os c p d v <ℤ target) e below
      go (inr l) =
          subst (λ v. value_on os c p d v <ℤ target) (let z : u + (w - u) ≡ w = omega arith in z) (moved (w - u) (omega arith) (omega arith))
