-- The tests of a step, all good: the counted fractions have a property Q, and those of the shape pass. Here from jumps whose
-- partial sums alternate, and what Q asks of the parts.
use mathlib.Core.Path.{◌≡◌, sym, ◌∙◌, ap, ap₂, subst}
use mathlib.Core.Logic.{◌⊎◌, inl, inr}
use mathlib.Core.Bool.{true, false, not, ◌&&◌}
use mathlib.Core.List.{List, [], ◌∷◌, ◌++◌}
use mathlib.Core.Option.{some, get_or}
use Prim.Native.Nat.{ℕ, zero, suc, ◌+◌, ◌-◌, ◌<◌, ◌≤◌}
use native.Mathlib.Omega.{arith}
use lib.IntN.{pos}
use lib.ListN.{length}
use Rattle.base_exact.specs.Rational.{ℚ, int, ◌/ᵠ◌}
use Rattle.base_exact.specs.Order.{is_zero, ltᵠ}
use Rattle.base_exact.specs.Sum.{sum}
use Rattle.base_exact.proofs.Decide.{le_or_lt}
use Rattle.base_exact.proofs.Order.{zero_test, nonzero_test, lt_test}
use Rattle.base_exact.proofs.Sum.{sum_ext, sum-skip}
use Rattle.base_exact.proofs.Tabulate.{tab_length, tab_get_d}
use Rattle.base_outcome.specs.Search.{first, last, found}
use Rattle.spec_spline.specs.Conditions.{Entry}
use Rattle.spec_spline.specs.Table.{Table, entry, row, cell}
use Rattle.spec_spline.specs.Step.{jumps_at, zero_between, partial_sum}
use Rattle.spec_spline.specs.Piecewise.{pairing}
use Rattle.base_outcome.proofs.Search.{first_at, first-none, last_at}
use Rattle.spec_spline.proofs.Table.{entry_past}
use Rattle.theorems_weights.specs.Counted.{Test, counted, shaped, joined, jump_tests, exact_jumps, first_jump, last_jump, shape_test, quotient, factor_tests}
use Rattle.theorems_weights.specs.Counted.{inner_rows, inner_row, exact_factors, entry_tests, row_tests, step_tests}
use Rattle.theorems_weights.proofs.Stepped.{values, values-past}
use Rattle.theorems_weights.proofs.PublishedBasis.{pairing-applied}
use Rattle.theorems_stages.proofs.Alternating.{Alternates, jump-before, jump-after, jump-inside, quotient-above, quotient-below}

-- A counted fraction has the property; a test of the shape passes.
abbrev pub Good : (ℚ → Type 0) → Test → Type 0
Good Q (counted join q) = Q q
Good Q (shaped join b) = b ≡ true

-- All tests of the list.
pub data Every (P : Test → Type 0) : List Test → Type 0 where
  nothing : Every P []
  more : {x : Test} {xs : List Test} → P x → Every P xs → Every P (x ∷ xs)

pub every_append : {P : Test → Type 0} {xs ys : List Test} → Every P xs → Every P ys → Every P (xs ++ ys)
every_append nothing b = b
every_append (more p a) b = more p (every_append a b)

pub every_joined : {P : Test → Type 0} (n : ℕ) (f : ℕ → List Test) → ((i : ℕ) → i < n → Every P (f i)) → Every P (joined n f)
unfolding joined
every_joined zero f h = nothing
every_joined (suc n) f h = every_append (every_joined n f (λ i l. h i (omega arith))) (h n (omega arith))

-- one of them
pub every_one : {P : Test → Type 0} (xs ys : List Test) (x : Test) → Every P (xs ++ (x ∷ ys)) → P x
every_one [] ys x (more p a) = p
every_one (y ∷ xs) ys x (more p a) = every_one xs ys x a

module _ (κ : List Entry) (t : Table) (f l : ℕ) (A : Alternates f l (λ n. sum n (values κ t))) (spread : f < l) where
  js : List ℚ
  js = exact_jumps κ t

  jump-count : length js ≡ length t
  unfolding js exact_jumps
  jump-count = tab_length (length t) (λ i. pairing (row t i) κ)

  pub jump_at : (i : ℕ) → entry (exact_jumps κ t) i ≡ values κ t i
  unfolding js exact_jumps
  jump_at i = go (le_or_lt (length t) i)
    where
      go : (length t ≤ i) ⊎ (i < length t) → entry (exact_jumps κ t) i ≡ values κ t i
      go (inl h) = entry_past (exact_jumps κ t) i (rw jump-count h) ∙ sym (values-past κ t i h)
      go (inr h) = tab_get_d (length t) (λ i. pairing (row t i) κ) i (int (pos 0)) h ∙ pairing-applied (row t i) κ

  jumps_true : (i : ℕ) → f ≤ i → i ≤ l → jumps_at js i ≡ true
  unfolding js
  jumps_true i h k = ap not (nonzero_test (λ z. jump-inside f l (values κ t) A spread i h k (sym (jump_at i) ∙ z)))

  jumps_false : (i : ℕ) → values κ t i ≡ int (pos 0) → jumps_at js i ≡ false
  unfolding js
  jumps_false i z = ap not (zero_test (jump_at i ∙ z))

  -- a row with a jump is a row of the table
  inside : (i : ℕ) → f ≤ i → i ≤ l → i < length js
  inside i h k = go (le_or_lt (length t) i)
    where
      go : (length t ≤ i) ⊎ (i < length t) → i < length js
      go (inl a) = absurd (jump-inside f l (values κ t) A spread i h k (values-past κ t i a))
      go (inr a) = rw jump-count a

  first_found : first (length js) (jumps_at js) ≡ some f
  first_found = first_at (jumps_at js) (length js) f (inside f (omega arith) (omega arith)) (jumps_true f (omega arith) (omega arith)) (λ i h. jumps_false i (jump-before f l (values κ t) A i h))

  last_found : last (length js) (jumps_at js) ≡ some l
  last_found = last_at (jumps_at js) (length js) l (inside l (omega arith) (omega arith)) (jumps_true l (omega arith) (omega arith)) (λ i h k. jumps_false i (jump-after f l (values κ t) A i h))

  pub first_is : first_jump (exact_jumps κ t) ≡ f
  unfolding first_jump js
  first_is = ap (λ o. get_or o 0) first_found

  pub last_is : last_jump (exact_jumps κ t) ≡ l
  unfolding last_jump js
  last_is = ap (λ o. get_or o 0) last_found

  no_gap : zero_between js f l ≡ false
  unfolding js
  no_gap =
      ap found (first-none (λ d. is_zero (entry js (f + d))) (l - f)
      (λ d h. nonzero_test (λ z. jump-inside f l (values κ t) A spread (f + d) (omega arith) (omega arith) (sym (jump_at (f + d)) ∙ z))))

  pub sum_is : (i : ℕ) → f ≤ i → partial_sum (exact_jumps κ t) (first_jump (exact_jumps κ t)) i ≡ sum (suc i) (values κ t)
  unfolding partial_sum
  sum_is i h = ap (λ r. sum (suc i - r) (λ d. entry (exact_jumps κ t) (r + d))) first_is
      ∙ sum_ext (suc i - f) (λ d k. jump_at (f + d)) ∙ sym (sum-skip f (suc i - f) (values κ t) (jump-before f l (values κ t) A))
      ∙ ap (λ n. sum n (values κ t)) (let z : f + (suc i - f) ≡ suc i = omega arith in z)

  pub quotient_is : (i : ℕ) → f ≤ i → quotient (exact_jumps κ t) i ≡ sum (suc i) (values κ t) /ᵠ values κ t i
  unfolding quotient
  quotient_is i h = ap₂ ◌/ᵠ◌ (sum_is i h) (jump_at i)

  -- ---- the tests

  module _ (Q : ℚ → Type 0) (join : ℕ)
      (products : (i : ℕ) → i < length t → Every (Good Q) (jump_tests join (row t i) (int (pos 0)) κ))
      (sums : (i : ℕ) → f < i → i < l → Q (sum (suc i) (values κ t)) × Q (sum (suc i) (values κ t) /ᵠ values κ t i))
      (entries : (d c : ℕ) → d < l - f
      → Every (Good Q) (entry_tests join (entry (exact_factors (exact_jumps κ t)) d) (entry (exact_factors (exact_jumps κ t)) (suc d)) (cell t (f + d) c)
      (cell t (f + suc d) c))) where
    shape_good : Every (Good Q) (shape_test join js ∷ [])
    unfolding shape_test js
    shape_good = more (ap₂ (λ o b. found o && not b) first_found (ap₂ (zero_between js) first_is last_is ∙ no_gap)) nothing

    factor-good : (i : ℕ) → f < i → i < l → Every (Good Q) (factor_tests join js i)
    unfolding factor_tests js
    factor-good i h k = more (subst Q (sym (sum_is i (omega arith))) (sums i h k).0) (more (subst Q (sym (quotient_is i (omega arith))) (sums i h k).1)
        (more (ap₂ ◌&&◌ (ap (λ q. ltᵠ (int (pos 0)) q) (quotient_is i (omega arith)) ∙ lt_test (quotient-above f l (values κ t) A i h k))
        (ap (λ q. ltᵠ q (int (pos 1))) (quotient_is i (omega arith)) ∙ lt_test (quotient-below f l (values κ t) A i h k))) nothing))

    pub step-good : Every (Good Q) (step_tests join κ t)
    unfolding step_tests inner_rows inner_row row_tests js
    step-good = every_append (every_joined (length t) _ products) (every_append shape_good (every_append
        (every_joined (inner_rows js) _ (λ d h. factor-good (inner_row js d) (omega (arith, first_is)) (omega (arith, first_is, last_is))))
        (every_joined (last_jump js - first_jump js) _ (λ d h. every_joined (length (row t (first_jump js + d))) _ (λ c k.
        subst (λ r. Every (Good Q) (entry_tests join (entry (exact_factors js) d) (entry (exact_factors js) (suc d)) (cell t (r + d) c) (cell t (r + suc d) c)))
        (sym first_is) (entries d c (omega (arith, first_is, last_is))))))))
