-- The partial sums of a step's jumps change their sign from row to row, at every stage: so the jumps have the shape that
-- code 9 asks for.
use mathlib.Core.Path.{◌≡◌, refl, sym, ◌∙◌, ap, subst}
use mathlib.Core.List.{[], ◌∷◌}
use Prim.Native.Nat.{ℕ, zero, suc, ◌+◌, ◌<◌, ◌≤◌}
use native.Mathlib.Omega.{arith}
use lib.IntN.{pos}
use Rattle.base_exact.specs.Rational.{ℚ, -ᵠ◌, int}
use Rattle.base_exact.specs.Order.{◌<ᵠ◌}
use Rattle.base_exact.specs.Sum.{sum}
use Rattle.base_exact.proofs.Ring.{ring}
use Rattle.base_exact.proofs.Rational.{ℚ-ring, readsℚ}
use Rattle.base_exact.proofs.Order.{pos_add, pos_mul, pos_nn}
use Rattle.spec_spline.specs.Space.{Space, degree}
use Rattle.spec_spline.specs.Conditions.{conditions}
use Rattle.spec_spline.specs.Table.{Table}
use Rattle.theorems_weights.proofs.Stepped.{values}
use Rattle.theorems_weights.proofs.Condition.{divisor}
use Rattle.theorems_stages.proofs.RowMoves.{first_spanned, last_spanned, last_is}
use Rattle.theorems_stages.proofs.Stages.{met, few, spanning}
use Rattle.theorems_stages.proofs.Invariant.{Due}
use Rattle.theorems_stages.proofs.Alternating.{Alternates, alternates_scaled, signs_alternate}
use Rattle.theorems_stages.proofs.JumpSums.{jump_sum, partial_is, divisor_positive, sums_before, sums_after}
use Rattle.theorems_stages.proofs.OrderSums.{A_pos, B_pos, zero-last, one_first, one_last, two_first, two_second, two_last, a_pos, b_pos, b_rest}

-- the three orders of a step
data Order (k : ℕ) : Type 0 where
  is_zero : k ≡ 0 → Order k
  is_one : k ≡ 1 → Order k
  is_two : k ≡ 2 → Order k

order_of : (k : ℕ) → k ≤ 2 → Order k
order_of zero h = is_zero refl
order_of (suc zero) h = is_one refl
order_of (suc (suc zero)) h = is_two refl
order_of (suc (suc (suc k))) h = absurd (omega arith)

signed : {x y : ℚ} → x ≡ y → int (pos 0) <ᵠ y → int (pos 0) <ᵠ x
signed e p = subst (λ z. int (pos 0) <ᵠ z) (sym e) p

twice : (q : ℚ) → -ᵠ (-ᵠ q) ≡ q
twice q = ring ℚ-ring (q ∷ []) (search readsℚ depth 20) (search readsℚ depth 20) refl

module _ {s : Space} {join k : ℕ} {t : Table} (D : Due s join k t) where
  abbrev f : ℕ
  f = first_spanned (degree s) (met s join k) join k

  abbrev H : ℕ → ℚ
  H n = jump_sum s join k t n

  -- the last sum is positive, the one before it negative, and the one before that positive
  last_positive : int (pos 0) <ᵠ H (suc (f + k))
  last_positive = go (order_of k (few D.at))
    where
      go : Order k → int (pos 0) <ᵠ H (suc (f + k))
      go (is_zero e) = signed (ap H (let z : suc (f + k) ≡ suc f = omega arith in z) ∙ zero-last D e) (A_pos D)
      go (is_one e) = signed (ap H (let z : suc (f + k) ≡ suc (suc f) = omega arith in z) ∙ one_last D e) (B_pos D)
      go (is_two e) = signed (ap H (let z : suc (f + k) ≡ suc (suc (suc f)) = omega arith in z) ∙ two_last D e) (B_pos D)

  second_negative : 0 < k → int (pos 0) <ᵠ -ᵠ H (f + k)
  second_negative p = go (order_of k (few D.at))
    where
      go : Order k → int (pos 0) <ᵠ -ᵠ H (f + k)
      go (is_zero e) = absurd (omega arith)
      go (is_one e) = signed (ap (λ x. -ᵠ x) (ap H (let z : f + k ≡ suc f = omega arith in z) ∙ one_first D e) ∙ twice _) (A_pos D)
      go (is_two e) = signed (ap (λ x. -ᵠ x) (ap H (let z : f + k ≡ suc (suc f) = omega arith in z) ∙ two_second D e) ∙ twice _)
          (pos_add (pos_mul (A_pos D) (b_rest D e)) (pos_nn (pos_mul (B_pos D) (b_pos D e))))

  first_positive : k ≡ 2 → int (pos 0) <ᵠ H (suc f)
  first_positive e = signed (two_first D e) (pos_mul (A_pos D) (a_pos D e))

  pub jumps_alternate : Alternates (first_spanned (degree s) (met s join k) join k) (last_spanned (degree s) (met s join k) join) (λ n. sum n (values (conditions s join k) t))
  jumps_alternate = alternates_scaled (int (pos (divisor s join k))) (divisor_positive D.at) (partial_is s join k t)
      (subst (λ l. Alternates f l H) (sym end) (signs_alternate f k H (few D.at) (sums_before D) (λ n x. sums_after D n (rw end x)) last_positive second_negative first_positive))
    where
      end : last_spanned (degree s) (met s join k) join ≡ suc (f + k)
      end = last_is (spanning D.at)

pub span-spread : (p e : ℕ → ℕ) (join k : ℕ) → first_spanned p e join k < last_spanned p e join
unfolding first_spanned last_spanned
span-spread p e join k = omega arith
