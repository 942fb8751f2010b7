-- What an entry of a new row answers, and beside a zero.
use mathlib.Core.Path.{◌≡◌, refl, ◌∙◌, ap, ap₂}
use mathlib.Core.Bool.{true}
use Prim.Native.Nat.{ℕ}
use native.Mathlib.Omega.{arith}
use lib.IntN.{pos}
use Rattle.base_exact.specs.Rational.{ℚ, int, ◌+ᵠ◌, ◌-ᵠ◌, ◌*ᵠ◌}
use Rattle.base_exact.proofs.Rational.{add-zero, mul-zero}
use Rattle.base_fraction.specs.Size.{fits}
use Rattle.std.specs.Prelude.{Some}
use Rattle.base_fraction.proofs.Value.{fraction-int}
use Rattle.base_fraction.proofs.Size.{int-fits}
use Rattle.base_outcome.specs.Outcome.{answer, ◌then◌}
use Rattle.spec_spline.specs.Step.{count, new_entry}
use Rattle.base_outcome.proofs.Outcome.{then_answers}
use Rattle.spec_spline.proofs.Step.{count_fits}
use Rattle.spec_spline.proofs.NewRows.{new_entry-answers as new_entry-is}
use Rattle.build_counted.specs.Machine.{counted}
use Rattle.build_counted.proofs.Counted.{count-again, zero-before}

-- w x + (1 - v) y
unfoldable pub mixture : ℚ → ℚ → ℚ → ℚ → ℚ
mixture w v x y = w *ᵠ x +ᵠ (int (pos 1) -ᵠ v) *ᵠ y

-- the only answer, and it fits
pub new_entry-answers : (j : ℕ) (w v x y : ℚ) {q : ℚ} → new_entry j w v x y ≡ answer q → (q ≡ mixture w v x y) × (fits q ≡ true)
unfolding mixture
new_entry-answers j w v x y e = new_entry-is j w v x y e

-- a product with zero fits
zero-product : (j : ℕ) (u : ℚ) → count j (u *ᵠ int (pos 0)) ≡ answer (int (pos 0))
zero-product j u = ap (count j) (mul-zero u) ∙ count_fits j (int (pos 0)) (int-fits (pos 0) (omega arith))

-- of two zeros
pub zero-entry : (j : ℕ) (w v : ℚ) {x y : ℚ} → x ≡ int (pos 0) → y ≡ int (pos 0) → counted (new_entry j w v x y) ≡ Some (record { num = pos 0; den = pos 1 })
unfolding counted new_entry
zero-entry j w v a b =
    ap₂ (λ x y. counted (new_entry j w v x y)) a b
    ∙ ap counted (
    then_answers (λ p. count j ((int (pos 1) -ᵠ v) *ᵠ int (pos 0)) then λ q. count j (p +ᵠ q)) (zero-product j w)
    ∙ then_answers (λ q. count j (int (pos 0) +ᵠ q)) (zero-product j (int (pos 1) -ᵠ v))
    ∙ ap (count j) (add-zero (int (pos 0)))
    ∙ count_fits j (int (pos 0)) (int-fits (pos 0) (omega arith)))
    ∙ ap Some (fraction-int (pos 0))

-- of zero and an entry: the second product
pub first-zero : (j : ℕ) (w v : ℚ) {x : ℚ} (y : ℚ) → x ≡ int (pos 0) → new_entry j w v x y ≡ count j ((int (pos 1) -ᵠ v) *ᵠ y)
unfolding new_entry
first-zero j w v y e =
    ap (λ x. new_entry j w v x y) e
    ∙ then_answers (λ p. count j ((int (pos 1) -ᵠ v) *ᵠ y) then λ q. count j (p +ᵠ q)) (zero-product j w)
    ∙ zero-before j ((int (pos 1) -ᵠ v) *ᵠ y) (int (pos 0)) refl

-- of an entry and zero: the first
pub second-zero : (j : ℕ) (w v : ℚ) (x : ℚ) {y : ℚ} → y ≡ int (pos 0) → new_entry j w v x y ≡ count j (w *ᵠ x)
unfolding new_entry
second-zero j w v x e =
    ap (new_entry j w v x) e
    ∙ count-again j (w *ᵠ x) (λ p. count j ((int (pos 1) -ᵠ v) *ᵠ int (pos 0)) then λ q. count j (p +ᵠ q))
    (λ _. then_answers (λ q. count j (w *ᵠ x +ᵠ q)) (zero-product j (int (pos 1) -ᵠ v)) ∙ ap (count j) (add-zero (w *ᵠ x)))
