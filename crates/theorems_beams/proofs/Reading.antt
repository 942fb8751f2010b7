-- The ordinates of two tables in one: a column of the first table has the first's ordinate, and a column of the second the
-- second's, with the coefficients from its first row on.
use mathlib.Core.Path.{◌≡◌, refl, sym, ◌∙◌, ap, ap₂}
use mathlib.Core.Bool.{Bool, false, cond, not}
use mathlib.Core.List.{List, ◌++◌}
use mathlib.Core.Option.{Option, some, none}
use Prim.Native.Nat.{ℕ, zero, suc, ◌+◌, ◌*◌, ◌<◌}
use native.Mathlib.Omega.{arith}
use native.Mathlib.Nat.{add-zero, add-suc}
use lib.IntN.{ℤ, pos, ◌+ℤ◌}
use lib.ListN.{length, get_or, take, drop}
use lib.Seq.{get_or-take, get_or-drop}
use lib.Signed.{le_z}
use Rattle.base_exact.specs.Rational.{ℚ, int}
use Rattle.base_exact.specs.Order.{is_zero}
use Rattle.base_exact.specs.Tabulate.{tab}
use Rattle.base_exact.proofs.Integer.{+-zero}
use Rattle.base_exact.proofs.Order.{zero_test}
use Rattle.base_exact.proofs.Decide.{cond_false}
use Rattle.base_exact.proofs.Tabulate.{tab_ext, tab-add}
use Rattle.base_outcome.specs.Outcome.{answer}
use Rattle.spec_spline.specs.Space.{Space, part_end, first_column, column_count, rows_before}
use Rattle.spec_spline.specs.Table.{Table, cell}
use Rattle.spec_spline.specs.Build.{weights}
use Rattle.spec_spline.specs.Reading.{Wood, earlywood, latewood, wood_index, coefficient, has_weight, term, term_sum, best, preferred, at_least, at_most, ordinate, ordinates}
use Rattle.spec_spline.proofs.Parts.{part-ends}
use Rattle.spec_spline.proofs.Shape.{Wide, weights_shaped}
use Rattle.theorems_beams.specs.Sections.{section, part_at, beside}
use Rattle.theorems_beams.specs.Parts.{Starts}
use Rattle.theorems_beams.proofs.Sections.{front-columns, OrdersFit}
use Rattle.theorems_beams.proofs.Beside.{beside_length, cell-upper, cell-lower, cell-lower-left, cell-upper-right}
use Rattle.theorems_beams.proofs.Fronts.{part-columns, front-rows}

-- ---- the best of numbers, with places that do not pass
module _ (prefers : ℤ → ℤ → Bool) where
  pub best-agree : (n : ℕ) (passes passes' : ℕ → Bool) (a a' : ℕ → ℤ) → ((i : ℕ) → i < n → passes i ≡ passes' i) → ((i : ℕ) → i < n → a i ≡ a' i) → best prefers n passes a ≡ best prefers n passes' a'
  unfolding best
  best-agree zero passes passes' a a' h k = refl
  best-agree (suc n) passes passes' a a' h k =
      ap₂ (λ b z. cond b (some (preferred prefers (best prefers n passes a) z)) (best prefers n passes a)) (h n (omega arith)) (k n (omega arith))
      ∙ ap (λ o. cond (passes' n) (some (preferred prefers o (a' n))) o) (best-agree n passes passes' a a' (λ i l. h i (omega arith)) (λ i l. k i (omega arith)))

  best-past : (m n : ℕ) (passes : ℕ → Bool) (a : ℕ → ℤ) → ((i : ℕ) → i < n → passes (m + i) ≡ false) → best prefers (m + n) passes a ≡ best prefers m passes a
  unfolding best
  best-past m zero passes a h = ap (λ k. best prefers k passes a) (add-zero m)
  best-past m (suc n) passes a h = ap (λ k. best prefers k passes a) (add-suc m n) ∙ cond_false _ _ (h n (omega arith)) ∙ best-past m n passes a (λ i l. h i (omega arith))

  best_none : (m : ℕ) (passes : ℕ → Bool) (a : ℕ → ℤ) → ((i : ℕ) → i < m → passes i ≡ false) → best prefers m passes a ≡ none
  unfolding best
  best_none zero passes a h = refl
  best_none (suc m) passes a h = cond_false _ _ (h m (omega arith)) ∙ best_none m passes a (λ i l. h i (omega arith))

  best-skip : (m n : ℕ) (passes : ℕ → Bool) (a : ℕ → ℤ) → ((i : ℕ) → i < m → passes i ≡ false) → best prefers (m + n) passes a ≡ best prefers n (λ i. passes (m + i)) (λ i. a (m + i))
  unfolding best
  best-skip m zero passes a h = ap (λ k. best prefers k passes a) (add-zero m) ∙ best_none m passes a h
  best-skip m (suc n) passes a h = ap (λ k. best prefers k passes a) (add-suc m n) ∙ ap (λ o. cond (passes (m + n)) (some (preferred prefers o (a (m + n)))) o) (best-skip m n passes a h)

-- ---- the sum of terms
abbrev weighed : ℚ → ℤ → ℤ
weighed q z = cond (not (is_zero q)) (term q z) (pos 0)

weighed-zero : {q : ℚ} (z : ℤ) → q ≡ int (pos 0) → weighed q z ≡ pos 0
weighed-zero {q} z e = cond_false (term q z) (pos 0) (ap not (zero_test e))

pub sums_agree : (t t' : Table) (a a' : ℕ → ℤ) (c c' n : ℕ) → ((i : ℕ) → i < n → cell t i c ≡ cell t' i c') → ((i : ℕ) → i < n → a i ≡ a' i) → term_sum t a c n ≡ term_sum t' a' c' n
unfolding term_sum
sums_agree t t' a a' c c' zero h k = refl
sums_agree t t' a a' c c' (suc n) h k = ap₂ ◌+ℤ◌ (sums_agree t t' a a' c c' n (λ i l. h i (omega arith)) (λ i l. k i (omega arith))) (ap₂ weighed (h n (omega arith)) (k n (omega arith)))

sum_past : (t : Table) (a : ℕ → ℤ) (c m n : ℕ) → ((i : ℕ) → i < n → cell t (m + i) c ≡ int (pos 0)) → term_sum t a c (m + n) ≡ term_sum t a c m
unfolding term_sum
sum_past t a c m zero h = ap (term_sum t a c) (add-zero m)
sum_past t a c m (suc n) h =
    ap (term_sum t a c) (add-suc m n) ∙ ap (λ z. term_sum t a c (m + n) +ℤ z) (weighed-zero (a (m + n)) (h n (omega arith))) ∙ +-zero (term_sum t a c (m + n))
    ∙ sum_past t a c m n (λ i l. h i (omega arith))

sum-none : (t : Table) (a : ℕ → ℤ) (c m : ℕ) → ((i : ℕ) → i < m → cell t i c ≡ int (pos 0)) → term_sum t a c m ≡ pos 0
unfolding term_sum
sum-none t a c zero h = refl
sum-none t a c (suc m) h = ap (λ z. term_sum t a c m +ℤ z) (weighed-zero (a m) (h m (omega arith))) ∙ +-zero (term_sum t a c m) ∙ sum-none t a c m (λ i l. h i (omega arith))

sum-skip : (t u : Table) (a : ℕ → ℤ) (c d m n : ℕ) → ((i : ℕ) → i < m → cell t i c ≡ int (pos 0)) → ((i : ℕ) → cell t (m + i) c ≡ cell u i d) → term_sum t a c (m + n) ≡ term_sum u (λ i. a (m + i)) d n
unfolding term_sum
sum-skip t u a c d m zero h k = ap (term_sum t a c) (add-zero m) ∙ sum-none t a c m h
sum-skip t u a c d m (suc n) h k = ap (term_sum t a c) (add-suc m n) ∙ ap₂ ◌+ℤ◌ (sum-skip t u a c d m n h k) (ap (λ q. weighed q (a (m + n))) (k n))

-- ---- ordinates
same-ordinate : {g g' l l' : Option ℤ} {z z' : ℤ} → g ≡ g' → l ≡ l' → z ≡ z' → at_most g (at_least l z) ≡ at_most g' (at_least l' z')
same-ordinate {g' = g'} {l = l} {l' = l'} {z = z} p q r = ap (λ x. at_most x (at_least l z)) p ∙ ap₂ (λ x y. at_most g' (at_least x y)) q r

-- coefficients that agree on the table's rows
pub ordinate-agree : (t : Table) (a a' : ℕ → ℤ) (c : ℕ) → ((i : ℕ) → i < length t → a i ≡ a' i) → ordinate t a c ≡ ordinate t a' c
unfolding ordinate
ordinate-agree t a a' c h = same-ordinate
    (best-agree (λ y z. le_z z y) (length t) (has_weight t c) (has_weight t c) a a' (λ i l. refl) h)
    (best-agree le_z (length t) (has_weight t c) (has_weight t c) a a' (λ i l. refl) h)
    (sums_agree t t a a' c c (length t) (λ i l. refl) h)

module _ (left right : ℕ) (t u : Table) (a : ℕ → ℤ) where
  abbrev both : Table
  both = beside left right t u

  pub ordinate-left : (c : ℕ) → c < left → ordinate both a c ≡ ordinate t a c
  unfolding ordinate
  ordinate-left c h = same-ordinate (bests (λ y z. le_z z y)) (bests le_z)
      (ap (term_sum both a c) (beside_length left right t u) ∙ sum_past both a c (length t) (length u) (λ i l. cell-lower-left left right t u i c h)
      ∙ sums_agree both t a a c c (length t) (λ i l. cell-upper left right t u i c l) (λ i l. refl))
    where
      bests : (prefers : ℤ → ℤ → Bool) → best prefers (length both) (has_weight both c) a ≡ best prefers (length t) (has_weight t c) a
      bests prefers =
          ap (λ n. best prefers n (has_weight both c) a) (beside_length left right t u)
          ∙ best-past prefers (length t) (length u) (has_weight both c) a (λ i l. ap not (zero_test (cell-lower-left left right t u i c h)))
          ∙ best-agree prefers (length t) (has_weight both c) (has_weight t c) a a (λ i l. ap (λ q. not (is_zero q)) (cell-upper left right t u i c l)) (λ i l. refl)

  pub ordinate-right : Wide left t → (c : ℕ) → ordinate both a (left + c) ≡ ordinate u (λ i. a (length t + i)) c
  unfolding ordinate
  ordinate-right W c = same-ordinate (bests (λ y z. le_z z y)) (bests le_z)
      (ap (term_sum both a (left + c)) (beside_length left right t u) ∙ sum-skip both u a (left + c) c (length t) (length u) (λ i l. nothing i l) (λ i. cell-lower left right t u i c))
    where
      nothing : (i : ℕ) → i < length t → cell both i (left + c) ≡ int (pos 0)
      nothing i l = cell-upper-right left right t u W i (left + c) l (omega arith)

      bests : (prefers : ℤ → ℤ → Bool) → best prefers (length both) (has_weight both (left + c)) a ≡ best prefers (length u) (has_weight u c) (λ i. a (length t + i))
      bests prefers =
          ap (λ n. best prefers n (has_weight both (left + c)) a) (beside_length left right t u)
          ∙ best-skip prefers (length t) (length u) (has_weight both (left + c)) a (λ i l. ap not (zero_test (nothing i l)))
          ∙ best-agree prefers (length u) (λ i. has_weight both (left + c) (length t + i)) (has_weight u c) (λ i. a (length t + i)) (λ i. a (length t + i))
          (λ i l. ap (λ q. not (is_zero q)) (cell-lower left right t u i c)) (λ i l. refl)

-- the ordinates of a front: those of the front before the part, then the part's
pub front-ordinates : (s : Space) → OrdersFit s → (a : ℕ) → Starts s a → (t u : Table) → weights (section s 0 a) ≡ answer t → (coefs : ℕ → ℤ)
    → ordinates (section s 0 (part_end s a)) (beside (first_column s a) (column_count (part_at s a)) t u) coefs
    ≡ ordinates (section s 0 a) t coefs ++ ordinates (part_at s a) u (λ i. coefs (rows_before s a + i))
unfolding ordinates
front-ordinates s F a A t u e coefs =
    ap (λ n. tab n (ordinate T coefs)) (front-columns s (part_end s a) (part-ends s a A.below).boundary.within ∙ part-columns s F a A)
    ∙ tab-add (first_column s a) (column_count (part_at s a)) (ordinate T coefs)
    ∙ ap₂ ◌++◌
    (tab_ext (first_column s a) (λ c h. ordinate-left (first_column s a) (column_count (part_at s a)) t u coefs c h) ∙ ap (λ n. tab n (ordinate t coefs)) (sym columns))
    (tab_ext (column_count (part_at s a)) (λ c h. ordinate-right (first_column s a) (column_count (part_at s a)) t u coefs wide c ∙ ap (λ n. ordinate u (λ i. coefs (n + i)) c) rows))
  where
    T : Table
    T = beside (first_column s a) (column_count (part_at s a)) t u

    columns : column_count (section s 0 a) ≡ first_column s a
    columns = front-columns s a (omega (arith, A.below))

    wide : Wide (first_column s a) t
    wide = rw columns at (weights_shaped (section s 0 a) e).wide

    rows : length t ≡ rows_before s a
    rows = (weights_shaped (section s 0 a) e).rows ∙ front-rows s a A

-- the coefficients of the n rows from row r on, as a part of the list
pub coefficient_middle : (part : Wood) (coefs : List ℤ) (r n i : ℕ) → i < n → coefficient part (take (2 * n) (drop (2 * r) coefs)) i ≡ coefficient part coefs (r + i)
coefficient_middle part coefs r n i h =
    get_or-take (2 * n) (drop (2 * r) coefs) (2 * i + wood_index part) (pos 0) (below part)
    ∙ get_or-drop (2 * r) coefs (2 * i + wood_index part) (pos 0)
    ∙ ap (λ k. get_or coefs k (pos 0)) (let e : 2 * r + (2 * i + wood_index part) ≡ 2 * (r + i) + wood_index part = omega arith in e)
  where
    below : (part : Wood) → 2 * i + wood_index part < 2 * n
    below earlywood = omega arith
    below latewood = omega arith
