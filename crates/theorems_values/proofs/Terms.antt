-- The terms of an ordinate: each is off by at most one half, so the sum over the rows with weight by at most half their count.
use mathlib.Core.Path.{◌≡◌, refl, sym, ◌∙◌, ap, subst}
use mathlib.Core.Bool.{Bool, true, false, cond}
use mathlib.Core.List.{[], ◌∷◌}
use Prim.Native.Nat.{ℕ, zero, suc, ◌+◌}
use native.Mathlib.Omega.{arith}
use lib.IntN.{ℤ, pos, ◌+ℤ◌, ◌*ℤ◌, +ℤ_idr}
use Rattle.base_exact.specs.Rational.{ℚ, den, int, inv, ◌+ᵠ◌, ◌*ᵠ◌}
use Rattle.base_exact.specs.Sum.{sum}
use Rattle.base_exact.proofs.Ring.{ring, by_eq}
use Rattle.base_exact.proofs.Rational.{ℚ-ring, readsℚ, self, is_mul_int, int_mul, int_nonzero, mul_inv, mul-zero, add-zero}
use Rattle.base_outcome.specs.Search.{how_many}
use Rattle.spec_spline.specs.Table.{Table, cell}
use Rattle.spec_spline.specs.Reading.{fine, rounded, has_weight, term, term_sum}
use Rattle.theorems_values.proofs.Within.{Within, halves, halves_add, within_same, within-add}
use Rattle.theorems_values.proofs.Rounding.{quotient, rounded-within}
use Rattle.theorems_values.proofs.Weights.{no_weight-zero}

-- ---- one term

-- what a term rounds is 256·coefficient·weight
term-quotient : (w : ℚ) (x : ℤ) → quotient (fine x *ℤ w.num) (den w) ≡ int (fine x) *ᵠ w
term-quotient w x = ap (λ t. t *ᵠ inv (int (pos (den w)))) (int_mul (fine x) w.num ∙ ap (λ t. int (fine x) *ᵠ t) (sym (is_mul_int (self w))))
    ∙ by_eq ℚ-ring (int (fine x) *ᵠ w) (mul_inv (int (pos (den w))) (int_nonzero w.dm))
    (ring ℚ-ring (int (fine x) ∷ w ∷ int (pos (den w)) ∷ inv (int (pos (den w))) ∷ []) (search readsℚ depth 20) (search readsℚ depth 20) refl)

pub term-within : (w : ℚ) (x : ℤ) → Within (halves 1) (int (fine x) *ᵠ w) (term w x)
unfolding term
term-within w x = subst (λ q. Within (halves 1) q (rounded (fine x *ℤ w.num) (den w))) (term-quotient w x) (rounded-within (fine x *ℤ w.num) (den w) (omega arith))

-- ---- the sum of the terms

-- one term more
one_term : (n : ℕ) {z τ : ℤ} {e x : ℚ} → Within (halves n) e z → Within (halves 1) x τ → Within (halves (n + 1)) (e +ᵠ x) (z +ℤ τ)
one_term n {z} {τ} {e} {x} S w = subst (λ b. Within b (e +ᵠ x) (z +ℤ τ)) (halves_add n 1) (within-add S w)

module _ (t : Table) (a : ℕ → ℤ) (c : ℕ) where
  -- the first n rows
  pub sum-within : (n : ℕ) → Within (halves (how_many n (has_weight t c))) (sum n (λ i. int (fine (a i)) *ᵠ cell t i c)) (term_sum t a c n)
  unfolding term_sum sum how_many
  sum-within zero = within_same (pos 0)
  sum-within (suc n) = go (sum-within n) (has_weight t c n) refl
    where
      exact : ℚ
      exact = sum n (λ i. int (fine (a i)) *ᵠ cell t i c)

      Next : Bool → ℚ → Type 0
      Next b q = Within (halves (how_many n (has_weight t c) + cond b 1 0)) q (term_sum t a c n +ℤ cond b (term (cell t n c) (a n)) (pos 0))

      go : Within (halves (how_many n (has_weight t c))) exact (term_sum t a c n) → (b : Bool) → has_weight t c n ≡ b → Next (has_weight t c n) (exact +ᵠ int (fine (a n)) *ᵠ cell t n c)
      go S true e = subst (λ b. Next b (exact +ᵠ int (fine (a n)) *ᵠ cell t n c)) (sym e) (one_term (how_many n (has_weight t c)) S (term-within (cell t n c) (a n)))
      go S false e = subst (λ b. Next b (exact +ᵠ int (fine (a n)) *ᵠ cell t n c)) (sym e)
          (subst (Next false) (sym (add-zero exact) ∙ ap (λ q. exact +ᵠ q) (sym (ap (λ w. int (fine (a n)) *ᵠ w) (no_weight-zero t c n e) ∙ mul-zero (int (fine (a n))))))
          (subst (λ m. Within (halves m) exact (term_sum t a c n +ℤ pos 0)) (let z : how_many n (has_weight t c) ≡ how_many n (has_weight t c) + 0 = omega arith in z)
          (subst (Within (halves (how_many n (has_weight t c))) exact) (sym (+ℤ_idr (term_sum t a c n))) S)))
