-- A column of conditions as a linear functional of the ordinates, and that the build's jump of a row is its value there.
use mathlib.Core.Path.{◌≡◌, refl, sym, ◌∙◌, ap, ap₂}
use mathlib.Core.List.{List, [], ◌∷◌}
use Prim.Native.Nat.{ℕ, zero, suc}
use lib.IntN.{pos}
use Rattle.base_exact.specs.Rational.{ℚ, ◌+ᵠ◌, ◌*ᵠ◌, int}
use Rattle.base_exact.specs.Sum.{sum}
use Rattle.base_exact.proofs.Ring.{ring}
use Rattle.base_exact.proofs.Rational.{ℚ-ring, readsℚ, add-zero, add_assoc, add_comm}
use Rattle.base_outcome.specs.Outcome.{answer, ◌then◌}
use Rattle.spec_spline.specs.Conditions.{Entry}
use Rattle.spec_spline.specs.Table.{Row, entry}
use Rattle.spec_spline.specs.Step.{count, add_products, jump}
use Rattle.base_outcome.proofs.Outcome.{then_inverts, Chained, answer_unique}
use Rattle.spec_spline.proofs.Step.{count-answers}

-- The sum of ordinate times condition.
unfoldable pub applied : List Entry → (ℕ → ℚ) → ℚ
applied [] z = int (pos 0)
applied (e ∷ es) z = z e.column *ᵠ int e.condition +ᵠ applied es z

pub applied_ext : (κ : List Entry) {x y : ℕ → ℚ} → ((c : ℕ) → x c ≡ y c) → applied κ x ≡ applied κ y
unfolding applied
applied_ext [] h = refl
applied_ext (e ∷ es) h = ap₂ (λ s t. s *ᵠ int e.condition +ᵠ t) (h e.column) (applied_ext es h)

pub applied-zero : (κ : List Entry) → applied κ (λ c. int (pos 0)) ≡ int (pos 0)
unfolding applied
applied-zero [] = refl
applied-zero (e ∷ es) = ap (λ t. int (pos 0) *ᵠ int e.condition +ᵠ t) (applied-zero es) ∙ ring ℚ-ring (int e.condition ∷ []) (search readsℚ depth 20) (search readsℚ depth 20) refl

pub applied-mix : (κ : List Entry) (a b : ℚ) (x y : ℕ → ℚ) → applied κ (λ c. a *ᵠ x c +ᵠ b *ᵠ y c) ≡ a *ᵠ applied κ x +ᵠ b *ᵠ applied κ y
unfolding applied
applied-mix [] a b x y = ring ℚ-ring (a ∷ b ∷ []) (search readsℚ depth 20) (search readsℚ depth 20) refl
applied-mix (e ∷ es) a b x y = ap (λ t. (a *ᵠ x e.column +ᵠ b *ᵠ y e.column) *ᵠ int e.condition +ᵠ t) (applied-mix es a b x y)
    ∙ ring ℚ-ring (a ∷ b ∷ x e.column ∷ y e.column ∷ int e.condition ∷ applied es x ∷ applied es y ∷ []) (search readsℚ depth 30) (search readsℚ depth 30) refl

one_times : (s p : ℚ) → s +ᵠ p ≡ int (pos 1) *ᵠ s +ᵠ p
one_times s p = ring ℚ-ring (s ∷ p ∷ []) (search readsℚ) (search readsℚ) refl

-- of a combination: the combination of the values
pub applied-sum : (κ : List Entry) (n : ℕ) (a : ℕ → ℚ) (x : ℕ → ℕ → ℚ) → applied κ (λ c. sum n (λ i. a i *ᵠ x i c)) ≡ sum n (λ i. a i *ᵠ applied κ (x i))
unfolding sum
applied-sum κ zero a x = applied-zero κ
applied-sum κ (suc n) a x =
    applied_ext κ (λ c. one_times (sum n (λ i. a i *ᵠ x i c)) (a n *ᵠ x n c))
    ∙ applied-mix κ (int (pos 1)) (a n) (λ c. sum n (λ i. a i *ᵠ x i c)) (x n)
    ∙ ap (λ t. int (pos 1) *ᵠ t +ᵠ a n *ᵠ applied κ (x n)) (applied-sum κ n a x)
    ∙ sym (one_times (sum n (λ i. a i *ᵠ applied κ (x i))) (a n *ᵠ applied κ (x n)))

-- ---- the build's jumps

pub add_products_inverts : (j : ℕ) (r : Row) (s : ℚ) (κ : List Entry) {q : ℚ} → add_products j r s κ ≡ answer q → q ≡ s +ᵠ applied κ (entry r)
unfolding add_products applied
add_products_inverts j r s [] e = answer_unique e refl ∙ sym (add-zero s)
add_products_inverts j r s (e ∷ es) {q} h =
    go (then_inverts (count j (entry r e.column *ᵠ int e.condition)) (λ p. count j (s +ᵠ p) then λ t. add_products j r t es) h) (λ t. add_products_inverts j r t es)
  where
    go : Chained (count j (entry r e.column *ᵠ int e.condition)) (λ p. count j (s +ᵠ p) then λ t. add_products j r t es) q
        → ((t : ℚ) → add_products j r t es ≡ answer q → q ≡ t +ᵠ applied es (entry r)) → q ≡ s +ᵠ (entry r e.column *ᵠ int e.condition +ᵠ applied es (entry r))
    go c ih = let d = then_inverts (count j (s +ᵠ c.middle)) (λ t. add_products j r t es) c.after in
        ih d.middle d.after
        ∙ ap (λ t. t +ᵠ applied es (entry r)) ((count-answers j (s +ᵠ c.middle) d.before).0 ∙ ap (λ t. s +ᵠ t) (count-answers j (entry r e.column *ᵠ int e.condition) c.before).0)
        ∙ add_assoc s _ _

-- the jump of a row is the functional's value there
pub jump_inverts : (j : ℕ) (κ : List Entry) (r : Row) {q : ℚ} → jump j κ r ≡ answer q → q ≡ applied κ (entry r)
jump_inverts j κ r e = add_products_inverts j r (int (pos 0)) κ e ∙ add_comm _ _ ∙ add-zero _
