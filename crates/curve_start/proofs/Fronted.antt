-- The ordinates of a wood part at the front of a list of zeros: the values are by them alone, and none is large.
use mathlib.Core.Path.{◌≡◌, refl, sym, ◌∙◌, ap}
use mathlib.Core.Logic.{◌⊎◌, inl, inr}
use mathlib.Core.List.{List, ◌++◌}
use Prim.Native.Nat.{ℕ, zero, suc, ◌+◌, ◌-◌, ◌*◌, ◌<◌, ◌≤◌}
use native.Mathlib.Omega.{arith}
use lib.IntN.{ℤ, pos, nat_abs}
use lib.ListN.{length, get_or, drop, replicate, get_or-append, get_or-eq_default}
use lib.Seq.{get_or-drop, get_or-append-add}
use Rattle.base_exact.proofs.Decide.{le_or_lt}
use Rattle.base_exact.proofs.Tabulate.{tab_get_d}
use Rattle.spec_spline.specs.Space.{Space, degree, first_column, column_count}
use Rattle.spec_spline.specs.Table.{Table}
use Rattle.spec_spline.specs.Reading.{earlywood, latewood, coefficient, ordinate, ordinates, fine_width, offset, triangle, blended}
use Rattle.curve_ordinates.specs.Ordinates.{Bounded, ordinate_limit}
use Rattle.curve_ordinates.proofs.Columns.{ordinate-small}
use Rattle.curve_parts.specs.Parts.{Lent, lent}
use Rattle.curve_start.specs.Machine.{Call, CurvesHeld}
use Rattle.curve_parts.proofs.Fronts.{ordinates_length}

-- 0 everywhere, also past the end
zeros : (n j : ℕ) → get_or (replicate n (pos 0)) j (pos 0) ≡ pos 0
zeros zero j = refl
zeros (suc n) zero = refl
zeros (suc n) (suc j) = zeros n j

-- the numbers of a list in front of zeros
in_front : (os : List ℤ) (k n j : ℕ) → get_or (os ++ drop k (replicate n (pos 0))) j (pos 0) ≡ get_or os j (pos 0)
in_front os k n j = go (le_or_lt (length os) j)
  where
    go : (length os ≤ j) ⊎ (j < length os) → get_or (os ++ drop k (replicate n (pos 0))) j (pos 0) ≡ get_or os j (pos 0)
    go (inl l) =
        ap (λ i. get_or (os ++ drop k (replicate n (pos 0))) i (pos 0)) (let e : j ≡ length os + (j - length os) = omega arith in e)
        ∙ get_or-append-add os (drop k (replicate n (pos 0))) (j - length os) (pos 0)
        ∙ get_or-drop k (replicate n (pos 0)) (j - length os) (pos 0)
        ∙ zeros n (k + (j - length os))
        ∙ sym (get_or-eq_default os (pos 0) {n = j} l)
    go (inr l) = get_or-append os (drop k (replicate n (pos 0))) (pos 0) j l

module _ (s : Space) (t : Table) (n : ℕ) where
  -- a list's front with the ordinates for these coefficients
  abbrev pub fronted : (ℕ → ℤ) → List ℤ
  fronted a = ordinates s t a ++ drop (column_count s) (replicate n (pos 0))

  pub blended_fronted : (a : ℕ → ℤ) (i : ℕ) (x : ℤ) → blended s (fronted a) i x ≡ blended s (ordinates s t a) i x
  unfolding blended
  blended_fronted a i x = λ z. triangle (fine_width s i) (offset s i x)
      (λ k. in_front (ordinates s t a) (column_count s) n (first_column s i + k) z) (degree s i) 0

  -- none is larger than 256 times the largest coefficient
  pub fronted_bounded : (a : ℕ → ℤ) → ((i : ℕ) → nat_abs (a i) ≤ 1000000) → Bounded (fronted a)
  unfolding ordinates
  fronted_bounded a small j = rw (in_front (ordinates s t a) (column_count s) n j) (go (le_or_lt (column_count s) j))
    where
      go : (column_count s ≤ j) ⊎ (j < column_count s) → nat_abs (get_or (ordinates s t a) j (pos 0)) ≤ ordinate_limit
      go (inl l) = rw (get_or-eq_default (ordinates s t a) (pos 0) {n = j} (rw (ordinates_length s t a) l)) (omega arith)
      go (inr l) = rw (tab_get_d (column_count s) (ordinate t a) j (pos 0) l) (ordinate-small t a small j)

-- ---- what an answered call holds, where the lists of ordinates were zeros

module _ (m : ℕ) {c : Call} {n : ℕ} {num den : List ℤ} {after : Lent}
    (h : CurvesHeld c n (lent num den (replicate m (pos 0)) (replicate m (pos 0))) after) where
  pub early_bounded : Bounded after.early
  early_bounded = rw h.early_is
      (fronted_bounded c.lists h.table m (coefficient earlywood c.coefs) (λ i. h.coefficients.small (2 * i + 0)))

  pub late_bounded : Bounded after.late
  late_bounded = rw h.late_is
      (fronted_bounded c.lists h.table m (coefficient latewood c.coefs) (λ i. h.coefficients.small (2 * i + 1)))
