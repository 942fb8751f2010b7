-- The coefficients while a step is undone: those of the rows f to i - 1 are new, the others old.
use mathlib.Core.Path.{◌≡◌, refl, sym, ◌∙◌, ap, ap₂}
use mathlib.Core.Logic.{◌≢◌, ◌⊎◌, inl, inr}
use mathlib.Core.Bool.{true}
use mathlib.Core.List.{List, [], ◌∷◌, ◌++◌}
use Prim.Native.Nat.{ℕ, zero, suc, ◌+◌, ◌-◌, ◌<◌, ◌≤◌}
use native.Mathlib.Omega.{arith}
use native.Mathlib.Nat.{eq-or-lt_of_le}
use native.Mathlib.Decide.{dec_lt, ℕ_discrete}
use lib.IntN.{pos}
use lib.ListN.{length, take, drop, length-append}
use lib.Seq.{get_or-drop}
use Rattle.base_exact.specs.Rational.{ℚ, int}
use Rattle.base_fraction.specs.Size.{fits}
use Rattle.base_outcome.specs.Outcome.{answer, refusal, ◌then◌}
use Rattle.spec_spline.specs.Table.{entry}
use Rattle.base_outcome.proofs.Outcome.{then_answers, then_refuses}
use Rattle.spec_spline.proofs.Splice.{spliced_length, spliced-before, spliced-inside, spliced-after}
use Rattle.build_factors.specs.Jumps.{AllFit}
use Rattle.base_fraction.proofs.Fractions.{entry_new, entry_kept}
use Rattle.spec_calls.specs.Recovery.{undone_coefficient, undone_row, undone_rows}

-- The old coefficients with the new ones ds from f up to i.
abbrev pub renewed : ℕ → List ℚ → List ℚ → ℕ → List ℚ
renewed f ps ds i = take f ps ++ (ds ++ drop i ps)

module _ (f i : ℕ) (ps ds : List ℚ) (order : f ≤ i) (within : i ≤ length ps) (size : length ds ≡ i - f) where
  pub renewed_length : length (renewed f ps ds i) ≡ length ps
  renewed_length = spliced_length ps ds f i (omega arith) ∙ omega (arith, size)

  pub renewed_old : (k : ℕ) → i ≤ k → entry (renewed f ps ds i) k ≡ entry ps k
  renewed_old k h = spliced-after ps ds f i (omega arith) k k (int (pos 0)) (omega (arith, size)) (omega (arith, size))

  pub renewed_new : (n : ℕ) → n < i - f → entry (renewed f ps ds i) (f + n) ≡ entry ds n
  renewed_new n h = spliced-inside ps ds f i (omega arith) (f + n) (int (pos 0)) (omega arith) (omega (arith, size)) ∙ ap (entry ds) (let z : f + n - f ≡ n = omega arith in z)

  -- the coefficient of row i is worked out from these as from the old ones
  pub row_same : (j : ℕ) (us : List ℚ) → undone_row j us (renewed f ps ds i) f (i - f) (drop f (renewed f ps ds i)) ≡ undone_row j us ps f (i - f) ds
  row_same j us = go (i - f) refl
    where
      go : (n : ℕ) → n ≡ i - f → undone_row j us (renewed f ps ds i) f n (drop f (renewed f ps ds i)) ≡ undone_row j us ps f n ds
      go zero z = ap answer (renewed_old f (omega arith))
      go (suc n) z = ap₂ (undone_coefficient j (entry us (suc n))) (renewed_old (f + suc n) (omega arith)) (get_or-drop f (renewed f ps ds i) n (int (pos 0)) ∙ renewed_new n (omega arith))

  -- one number more
  more_size : (d : ℚ) → length (ds ++ (d ∷ [])) ≡ suc i - f
  more_size d = length-append ds (d ∷ []) ∙ omega (arith, size)

  module _ (d : ℚ) (room : i < length ps) where
    pub more_here : entry (renewed f ps (ds ++ (d ∷ [])) (suc i)) i ≡ d
    more_here = spliced-inside ps (ds ++ (d ∷ [])) f (suc i) (omega arith) i (int (pos 0)) order (omega (arith, more_size d)) ∙ entry_new ds d (i - f) size

    pub more_other : (k : ℕ) → k ≢ i → entry (renewed f ps ds i) k ≡ entry (renewed f ps (ds ++ (d ∷ [])) (suc i)) k
    more_other k h = go (dec_lt k f) (dec_lt k i)
      where
        go : Dec (k < f) → Dec (k < i) → entry (renewed f ps ds i) k ≡ entry (renewed f ps (ds ++ (d ∷ [])) (suc i)) k
        go (yes l) m = spliced-before ps ds f i (omega arith) k (int (pos 0)) l ∙ sym (spliced-before ps (ds ++ (d ∷ [])) f (suc i) (omega arith) k (int (pos 0)) l)
        go (no l) (yes m) =
            spliced-inside ps ds f i (omega arith) k (int (pos 0)) (omega arith) (omega (arith, size))
            ∙ entry_kept ds d (k - f) (λ e. h (omega (arith, e, size)))
            ∙ sym (spliced-inside ps (ds ++ (d ∷ [])) f (suc i) (omega arith) k (int (pos 0)) (omega arith) (omega (arith, more_size d)))
        go (no l) (no m) = renewed_old k (omega arith) ∙ sym (spliced-after ps (ds ++ (d ∷ [])) f (suc i) (omega arith) k k (int (pos 0)) (omega (arith, more_size d, h)) (omega (arith, more_size d)))

  pub renewed_fit : AllFit ps → AllFit ds → AllFit (renewed f ps ds i)
  renewed_fit p q k = go (dec_lt k f) (dec_lt k i)
    where
      go : Dec (k < f) → Dec (k < i) → fits (entry (renewed f ps ds i) k) ≡ true
      go (yes l) m = ap fits (spliced-before ps ds f i (omega arith) k (int (pos 0)) l) ∙ p k
      go (no l) (yes m) = ap fits (spliced-inside ps ds f i (omega arith) k (int (pos 0)) (omega arith) (omega (arith, size))) ∙ q (k - f)
      go (no l) (no m) = ap fits (renewed_old k (omega arith)) ∙ p k

pub more_fit : (ds : List ℚ) (d : ℚ) → AllFit ds → fits d ≡ true → AllFit (ds ++ (d ∷ []))
more_fit ds d p h k = go (ℕ_discrete k (length ds))
  where
    go : Dec (k ≡ length ds) → fits (entry (ds ++ (d ∷ [])) k) ≡ true
    go (yes e) = ap fits (entry_new ds d k (sym e)) ∙ h
    go (no e) = ap fits (sym (entry_kept ds d k e)) ∙ p k

-- ---- the new coefficients of the rows, one after the other
module _ (j : ℕ) (us ps : List ℚ) (f : ℕ) where
  pub rows_none : undone_rows j us ps f 0 ≡ answer []
  unfolding undone_rows
  rows_none = refl

  pub rows_more : (n : ℕ) {ds : List ℚ} {d : ℚ} → undone_rows j us ps f n ≡ answer ds → undone_row j us ps f n ds ≡ answer d → undone_rows j us ps f (suc n) ≡ answer (ds ++ (d ∷ []))
  unfolding undone_rows
  rows_more n {ds} e h = then_answers (λ xs. undone_row j us ps f n xs then λ x. answer (xs ++ (x ∷ []))) e ∙ then_answers (λ x. answer (ds ++ (x ∷ []))) h

  pub rows_end : (n : ℕ) {ds : List ℚ} {code place : ℕ} → undone_rows j us ps f n ≡ answer ds → undone_row j us ps f n ds ≡ refusal code place → undone_rows j us ps f (suc n) ≡ refusal code place
  unfolding undone_rows
  rows_end n {ds} e h = then_answers (λ xs. undone_row j us ps f n xs then λ x. answer (xs ++ (x ∷ []))) e ∙ then_refuses (λ x. answer (ds ++ (x ∷ []))) h

  rows_next : (n : ℕ) {code place : ℕ} → undone_rows j us ps f n ≡ refusal code place → undone_rows j us ps f (suc n) ≡ refusal code place
  unfolding undone_rows
  rows_next n e = then_refuses (λ xs. undone_row j us ps f n xs then λ x. answer (xs ++ (x ∷ []))) e

  pub rows_stay : (m n : ℕ) {code place : ℕ} → m ≤ n → undone_rows j us ps f m ≡ refusal code place → undone_rows j us ps f n ≡ refusal code place
  rows_stay m zero h e = ap (undone_rows j us ps f) (let z : 0 ≡ m = omega arith in z) ∙ e
  rows_stay m (suc n) {code} {place} h e = go (λ l. rows_stay m n l e) (eq-or-lt_of_le h)
    where
      go : (m ≤ n → undone_rows j us ps f n ≡ refusal code place) → (m ≡ suc n) ⊎ (m < suc n) → undone_rows j us ps f (suc n) ≡ refusal code place
      go ih (inl z) = ap (undone_rows j us ps f) (sym z) ∙ e
      go ih (inr l) = rows_next n (ih (omega arith))
