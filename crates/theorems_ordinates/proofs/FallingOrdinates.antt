-- Exact ordinates that fall, proved along the steps of the build: a step's new rows, combined by numbers that do not rise, are the old rows combined by
-- means of neighbouring ones, which do not rise either.
use mathlib.Core.Path.{◌≡◌, refl, sym, ◌∙◌, ap, subst}
use mathlib.Core.Logic.{◌⊎◌, inl, inr}
use mathlib.Core.List.{List, [], ◌∷◌}
use Prim.Native.Nat.{ℕ, zero, suc, ◌+◌, ◌-◌, ◌<◌, ◌≤◌, min}
use native.Mathlib.Omega.{arith}
use lib.IntN.{pos}
use lib.ListN.{length}
use Rattle.base_exact.specs.Rational.{ℚ, int, ◌+ᵠ◌, ◌*ᵠ◌, ◌-ᵠ◌}
use Rattle.base_exact.specs.Order.{◌≤ᵠ◌, Nn}
use Rattle.base_exact.specs.Sum.{sum}
use Rattle.base_exact.proofs.Decide.{le_or_lt}
use Rattle.base_exact.proofs.Order as Q
use Rattle.base_exact.proofs.Ring.{ring}
use Rattle.base_exact.proofs.Rational.{ℚ-ring, readsℚ, mul-one, mul-zero}
use Rattle.base_exact.proofs.Sum.{sum_ext, sum-only}
use Rattle.base_exact.proofs.Tabulate.{tab_get_d}
use Rattle.base_outcome.specs.Outcome.{answer}
use Rattle.spec_spline.specs.Space.{Space, segments, column_count, row_count}
use Rattle.spec_spline.specs.Conditions.{conditions}
use Rattle.spec_spline.specs.Table.{Table, entry, cell, identity}
use Rattle.spec_spline.specs.Step.{step}
use Rattle.spec_spline.specs.Build.{order_steps, join_steps, weights}
use Rattle.spec_spline.specs.Piecewise.{Accepted, combination}
use Rattle.spec_spline.proofs.Table.{identity-rows, identity_on, identity_off}
use Rattle.spec_spline.proofs.Induction.{joins_hold}
use Rattle.theorems_weights.proofs.Built.{built, row_count_lem}
use Rattle.theorems_weights.proofs.NullSpace.{lifted, reindex, first-factor, last-factor}
use Rattle.theorems_weights.proofs.Stepped.{Stepped}
use Rattle.theorems_values.proofs.Segment.{accepted-checked}
use Rattle.theorems_stages.proofs.Limits.{Limits, limits}
use Rattle.theorems_stages.proofs.Stages.{At}
use Rattle.theorems_stages.proofs.Reached.{Reached, start-reached, step-reached, next-reached, advance}
use Rattle.theorems_ordinates.specs.FallingOrdinates.{DoNotRise, ExactOrdinatesFall}

-- Numbers that do not rise.
abbrev Falls : (ℕ → ℚ) → Type 0
Falls c = (i : ℕ) → c (suc i) ≤ᵠ c i

-- The ordinate of column d, of the rows combined by c.
abbrev at : (ℕ → ℚ) → Table → ℕ → ℚ
at c t d = sum (length t) (λ i. c i *ᵠ cell t i d)

record Kept (s : Space) (join k : ℕ) (t : Table) : Type 0 where
  reached : Reached s join k t
  falls : (c : ℕ → ℚ) → Falls c → (d : ℕ) → suc d < column_count s → at c t (suc d) ≤ᵠ at c t d

-- ---- one step

module _ (w c : ℕ → ℚ) (nonneg : (i : ℕ) → Nn (w i)) (atmost : (i : ℕ) → Nn (int (pos 1) -ᵠ w i)) (F : Falls c) where
  lower : (i : ℕ) → c (suc i) ≤ᵠ lifted w c i
  unfolding lifted
  lower i = Q.le_by (Q.nn_mul (atmost i) (Q.le_nn (F i))) (ring ℚ-ring (w i ∷ c i ∷ c (suc i) ∷ []) (search readsℚ depth 30) (search readsℚ depth 30) refl)

  upper : (i : ℕ) → lifted w c i ≤ᵠ c i
  unfolding lifted
  upper i = Q.le_by (Q.nn_mul (nonneg i) (Q.le_nn (F i))) (ring ℚ-ring (w i ∷ c i ∷ c (suc i) ∷ []) (search readsℚ depth 30) (search readsℚ depth 30) refl)

  lifted_falls : Falls (lifted w c)
  lifted_falls i = Q.≤_trans (upper (suc i)) (lower i)

-- c (i + 1) is the factor of new row i
shifted : (ℕ → ℚ) → ℕ → ℚ
shifted c zero = c 0
shifted c (suc i) = c i

shifted_falls : (c : ℕ → ℚ) → Falls c → Falls (shifted c)
unfolding shifted
shifted_falls c F zero = Q.≤-refl (c 0)
shifted_falls c F (suc i) = F i

module _ {s : Space} {join k : ℕ} {t t' : Table} (A : At s join k) (K : Kept s join k t) (e : step join (conditions s join k) t ≡ answer t') where
  T : Stepped (conditions s join k) (column_count s) t t'
  T = (advance A K.reached e).stepped

  -- the new rows combined are the old rows combined
  combined : (c : ℕ → ℚ) (d : ℕ) → at c t' d ≡ at (lifted T.w (shifted c)) t d
  unfolding shifted
  combined c d = sum_ext (length t') (λ i h. ap (λ q. c i *ᵠ q) (T.cells i d))
      ∙ reindex T.w (shifted c) (λ r. cell t r d) (length t') (first-factor T.null) (last-factor T.null (length t') (omega (arith, T.null.below, T.rows)))
      ∙ ap (λ n. sum n (λ i. lifted T.w (shifted c) i *ᵠ cell t i d)) T.rows

  kept : Kept s join (suc k) t'
  kept = record {
    reached = step-reached A K.reached e;
    falls = λ c F d h. subst (λ q. q ≤ᵠ at c t' d) (sym (combined c (suc d))) (subst (λ q. at (lifted T.w (shifted c)) t (suc d) ≤ᵠ q) (sym (combined c d))
        (K.falls (lifted T.w (shifted c)) (lifted_falls T.w (shifted c) T.not_negative T.at_most_one (shifted_falls c F)) d h));
  }

-- ---- all steps

at_identity : (c : ℕ → ℚ) (n d : ℕ) → d < n → at c (identity n) d ≡ c d
at_identity c n d h = sum-only (length (identity n)) d {f = λ i. c i *ᵠ cell (identity n) i d} (omega (arith, identity-rows n))
    (λ i k o. ap (λ q. c i *ᵠ q) (identity_off n i d o) ∙ mul-zero (c i)) ∙ ap (λ q. c d *ᵠ q) (identity_on n d h) ∙ mul-one (c d)

start-kept : (s : Space) → Kept s 0 0 (identity (column_count s))
start-kept s = record {
  reached = start-reached s;
  falls = λ c F d h. subst (λ q. q ≤ᵠ at c (identity (column_count s)) d) (sym (at_identity c (column_count s) (suc d) h))
      (subst (λ q. c (suc d) ≤ᵠ q) (sym (at_identity c (column_count s) d (omega arith))) (F d));
}

joins-kept : (s : Space) → Limits s → (t : Table) → join_steps s (segments s - 1) ≡ answer t → Kept s (segments s - 1) 0 t
unfolding join_steps order_steps
joins-kept s M t e = joins_hold s (λ j k. step j (conditions s j k)) (Kept s)
    (λ j k t t' h m K r. kept (record { limits = M; join-below = h; order_below = m }) K r)
    (λ j t h K. record { reached = next-reached K.reached; falls = K.falls })
    (segments s - 1) (omega arith) (start-kept s) e

module _ (s : Space) (a : Accepted s) (multipliers : List ℚ) (D : DoNotRise s multipliers) where
  final : Kept s (segments s - 1) 0 a.table
  unfolding weights
  final = joins-kept s (limits s (accepted-checked s a).1) a.table (built s a.table a.is).weights_are

  -- the last multiplier stands for all behind it
  held : ℕ → ℚ
  held i = entry multipliers (min i (row_count s - 1))

  held_falls : Falls held
  unfolding held
  held_falls i = go (le_or_lt (row_count s) (suc i))
    where
      go : (row_count s ≤ suc i) ⊎ (suc i < row_count s) → entry multipliers (min (suc i) (row_count s - 1)) ≤ᵠ entry multipliers (min i (row_count s - 1))
      go (inl l) = subst (λ n. entry multipliers n ≤ᵠ entry multipliers (min i (row_count s - 1))) (let z : min i (row_count s - 1) ≡ min (suc i) (row_count s - 1) = omega arith in z) (Q.≤-refl _)
      go (inr l) = subst (λ n. entry multipliers n ≤ᵠ entry multipliers (min i (row_count s - 1))) (let z : suc i ≡ min (suc i) (row_count s - 1) = omega arith in z)
          (subst (λ n. entry multipliers (suc i) ≤ᵠ entry multipliers n) (let z : i ≡ min i (row_count s - 1) = omega arith in z) (D i l))

  ordinate_is : (d : ℕ) → d < column_count s → entry (combination (column_count s) multipliers a.table) d ≡ at held a.table d
  unfolding combination held
  ordinate_is d h = tab_get_d (column_count s) (λ e. sum (length a.table) (λ i. entry multipliers i *ᵠ cell a.table i e)) d (int (pos 0)) h
      ∙ sum_ext (length a.table) (λ i l. ap (λ n. entry multipliers n *ᵠ cell a.table i d)
      (let z : i ≡ min i (row_count s - 1) = omega (arith, row_count_lem s a.table (built s a.table a.is)) in z))

  ordinates_fall : (c : ℕ) → suc c < column_count s
      → entry (combination (column_count s) multipliers a.table) (suc c) ≤ᵠ entry (combination (column_count s) multipliers a.table) c
  ordinates_fall c h = subst (λ q. q ≤ᵠ entry (combination (column_count s) multipliers a.table) c) (sym (ordinate_is (suc c) h))
      (subst (λ q. at held a.table (suc c) ≤ᵠ q) (sym (ordinate_is c (omega arith))) (final.falls held held_falls c h))

pub exact-ordinates_fall : ExactOrdinatesFall
exact-ordinates_fall s a multipliers D c h = ordinates_fall s a multipliers D c h
