-- The factors of a step as formulas: each is a partial sum of the jumps over the difference of two neighbouring ones, and
-- OrderSums has these sums. At order 2 they still hold two numbers of the table: what the join's ordinate has in its last row,
-- and what the join before has taken of the ordinate where the step begins.
use mathlib.Core.Path.{◌≡◌, refl, sym, ◌∙◌, ap, ap₂}
use mathlib.Core.Logic.{◌≢◌, ◌⊎◌, inl, inr}
use mathlib.Core.List.{[], ◌∷◌}
use Prim.Native.Nat.{ℕ, suc, ◌+◌, ◌-◌, ◌<◌, ◌≤◌}
use native.Mathlib.Omega.{arith}
use lib.IntN.{pos, negsuc}
use lib.ListN.{length}
use Rattle.base_exact.specs.Rational.{ℚ, ◌+ᵠ◌, ◌*ᵠ◌, -ᵠ◌, ◌-ᵠ◌, ◌/ᵠ◌, int}
use Rattle.base_exact.specs.Sum.{sum}
use Rattle.base_exact.proofs.Decide.{le_or_lt}
use Rattle.base_exact.proofs.Ring.{ring, by_eq}
use Rattle.base_exact.proofs.Rational.{ℚ-ring, readsℚ, div_unique, div_mul, mul_nonzero}
use Rattle.base_exact.proofs.Order.{pos_nonzero}
use Rattle.base_exact.proofs.Sum.{sum-last}
use Rattle.spec_spline.specs.Space.{Space, degree, first_column}
use Rattle.spec_spline.specs.Conditions.{conditions}
use Rattle.spec_spline.specs.Table.{Table, cell}
use Rattle.theorems_weights.proofs.Stepped.{values, values-past}
use Rattle.theorems_weights.proofs.Condition.{divisor, left_scale, right_scale}
use Rattle.theorems_acceptance.specs.ClosedForms.{left_size, right_size, share, balance, upper_factor, taken_before, lower_factor}
use Rattle.theorems_stages.proofs.RowMoves.{first_spanned, last_spanned, last_is}
use Rattle.theorems_stages.proofs.Stages.{met, At, spanning}
use Rattle.theorems_stages.proofs.Alternating.{jump-inside}
use Rattle.theorems_stages.proofs.JumpSums.{summed, on_left, jump_sum, partial_is, divisor_positive}
use Rattle.theorems_stages.proofs.OrderSums.{x_all, x_high, x0_high, one_first, one_last, two_first, two_second, two_last}
use Rattle.theorems_stages.proofs.Reached.{Reached, Advance, due, alternate}
use Rattle.theorems_stages.proofs.Signs.{span-spread}

module _ {s : Space} {join k : ℕ} {t t' : Table} (A : At s join k) (R : Reached s join k t) (N : Advance s join k t t') where
  abbrev f : ℕ
  f = first_spanned (degree s) (met s join k) join k

  abbrev l : ℕ
  l = last_spanned (degree s) (met s join k) join

  abbrev J : ℕ → ℚ
  J = values (conditions s join k) t

  abbrev H : ℕ → ℚ
  H = jump_sum s join k t

  abbrev w : ℕ → ℚ
  w = N.stepped.w

  jump_not_zero : (i : ℕ) → f ≤ i → i ≤ l → J i ≢ int (pos 0)
  jump_not_zero i x y = jump-inside f l J (alternate A R) (span-spread (degree s) (met s join k) join k) i x y

  row_below : (i : ℕ) → f ≤ i → i ≤ l → i < length t
  row_below i x y = go (le_or_lt (length t) i)
    where
      go : (length t ≤ i) ⊎ (i < length t) → i < length t
      go (inl z) = absurd (jump_not_zero i x y (values-past (conditions s join k) t i z))
      go (inr z) = z

  -- two neighbouring sums differ by a jump
  sums_differ : (i : ℕ) → H (suc i) -ᵠ H i ≡ int (pos (divisor s join k)) *ᵠ J i
  sums_differ i = ap₂ ◌-ᵠ◌ (sym (partial_is s join k t (suc i)) ∙ ap (λ q. int (pos (divisor s join k)) *ᵠ q) (sum-last i J)) (sym (partial_is s join k t i))
      ∙ ring ℚ-ring (int (pos (divisor s join k)) ∷ sum i J ∷ J i ∷ []) (search readsℚ depth 20) (search readsℚ depth 20) refl

  factor_is : (i : ℕ) → f ≤ i → i ≤ l → w i ≡ H (suc i) /ᵠ (H (suc i) -ᵠ H i)
  factor_is i x y = div_unique (λ z. mul_nonzero (pos_nonzero (divisor_positive A)) (jump_not_zero i x y) (sym (sums_differ i) ∙ z))
      (ap (λ q. w i *ᵠ q) (sums_differ i) ∙ moved (w i) (int (pos (divisor s join k))) (J i)
      ∙ ap (λ q. int (pos (divisor s join k)) *ᵠ q) (N.stepped.null.weight i (row_below i x y)) ∙ partial_is s join k t (suc i))
    where
      moved : (x y z : ℚ) → x *ᵠ (y *ᵠ z) ≡ y *ᵠ (x *ᵠ z)
      moved x y z = ring ℚ-ring (x ∷ y ∷ z ∷ []) (search readsℚ depth 20) (search readsℚ depth 20) refl

  end : l ≡ suc (f + k)
  end = last_is (spanning A)

  left_is : (n : ℕ) → k ≡ n → int (pos (left_scale s join k)) ≡ left_size s join n
  unfolding left_scale left_size
  left_is n e = ap (λ n. left_size s join n) e

  right_is : (n : ℕ) → k ≡ n → int (pos (right_scale s join k)) ≡ right_size s join n
  unfolding right_scale right_size
  right_is n e = ap (λ n. right_size s join n) e

  -- order 1
  pub factor_at_one : k ≡ 1 → w (suc f) ≡ share s join
  unfolding share
  factor_at_one e = factor_is (suc f) (omega arith) (omega (arith, end))
      ∙ ap₂ (λ x y. x /ᵠ (x -ᵠ y)) (one_last (due A R) e ∙ right_is 1 e) (one_first (due A R) e ∙ ap (λ q. -ᵠ q) (left_is 1 e))
      ∙ ap (λ q. right_size s join 1 /ᵠ q) (ring ℚ-ring (right_size s join 1 ∷ left_size s join 1 ∷ []) (search readsℚ depth 20) (search readsℚ depth 20) refl)

  -- ---- order 2

  -- a column's sum short of its last row
  short_of_last : (n c : ℕ) → summed t (suc n) c ≡ int (pos 1) → summed t n c ≡ int (pos 1) -ᵠ cell t n c
  unfolding summed
  short_of_last n c e =
      by_eq ℚ-ring (int (pos 1)) (sym (sum-last n (λ i. cell t i c)) ∙ e)
      (ring ℚ-ring (sum n (λ i. cell t i c) ∷ cell t n c ∷ []) (search readsℚ depth 20) (search readsℚ depth 20) refl)

  -- the weight of the join's ordinate in its last row
  module _ (e : k ≡ 2) (last-weight : cell t (suc (suc f)) (first_column s join + (degree s join - k + 2)) ≡ share s join) where
    pub b_is : on_left s join k t (suc (suc f)) 2 ≡ int (pos 1) -ᵠ share s join
    unfolding on_left
    b_is = short_of_last (suc (suc f)) _ (x_all (due A R) (suc (suc (suc f))) 2 (omega arith) (omega (arith, x_high (due A R) 2 (omega arith) (omega arith))))
        ∙ ap (λ q. int (pos 1) -ᵠ q) last-weight

    second-sum : H (suc (suc f)) ≡ -ᵠ balance s join
    unfolding balance
    second-sum = two_second (due A R) e
        ∙ ap₂ (λ x y. -ᵠ (x *ᵠ (int (pos 1) -ᵠ on_left s join k t (suc (suc f)) 2) +ᵠ y *ᵠ on_left s join k t (suc (suc f)) 2)) (left_is 2 e) (right_is 2 e)
        ∙ ap (λ z. -ᵠ (left_size s join 2 *ᵠ (int (pos 1) -ᵠ z) +ᵠ right_size s join 2 *ᵠ z)) b_is
        ∙ ring ℚ-ring (left_size s join 2 ∷ right_size s join 2 ∷ share s join ∷ []) (search readsℚ depth 30) (search readsℚ depth 30) refl

    pub last_at_two : w (suc (suc f)) ≡ upper_factor s join
    unfolding upper_factor
    last_at_two = factor_is (suc (suc f)) (omega arith) (omega (arith, end))
        ∙ ap₂ (λ x y. x /ᵠ (x -ᵠ y)) (two_last (due A R) e ∙ right_is 2 e) second-sum
        ∙ ap (λ q. right_size s join 2 /ᵠ q) (ring ℚ-ring (right_size s join 2 ∷ balance s join ∷ []) (search readsℚ depth 20) (search readsℚ depth 20) refl)

    -- what is taken of the ordinate where the step begins
    module _ (taken : cell t (suc f) (first_column s join + (degree s join - k + 0)) ≡ taken_before s join) where
      first-sum : H (suc f) ≡ left_size s join 2 *ᵠ (int (pos 1) -ᵠ taken_before s join)
      unfolding on_left
      first-sum = two_first (due A R) e
          ∙ ap₂ ◌*ᵠ◌ (left_is 2 e) (short_of_last (suc f) _ (x_all (due A R) (suc (suc f)) 0 (omega arith) (omega (arith, x0_high (due A R)))) ∙ ap (λ q. int (pos 1) -ᵠ q) taken)

      pub first_at_two : w (suc f) ≡ lower_factor s join
      unfolding lower_factor
      first_at_two =
          factor_is (suc f) (omega arith) (omega (arith, end)) ∙ ap₂ (λ x y. x /ᵠ (x -ᵠ y)) second-sum first-sum
          ∙ turned (balance s join) (left_size s join 2 *ᵠ (int (pos 1) -ᵠ taken_before s join))
          (λ z. mul_nonzero (pos_nonzero (divisor_positive A)) (jump_not_zero (suc f) (omega arith) (omega (arith, end))) (sym (sums_differ (suc f)) ∙ ap₂ ◌-ᵠ◌ second-sum first-sum ∙ z))
        where
          -- both signs changed
          turned : (x y : ℚ) → -ᵠ x -ᵠ y ≢ int (pos 0) → -ᵠ x /ᵠ (-ᵠ x -ᵠ y) ≡ x /ᵠ (x +ᵠ y)
          turned x y n = div_unique (λ z. n (by_eq ℚ-ring (int (negsuc 0)) z (ring ℚ-ring (x ∷ y ∷ []) (search readsℚ depth 20) (search readsℚ depth 20) refl)))
              (by_eq ℚ-ring (int (negsuc 0)) (div_mul (-ᵠ x) (-ᵠ x -ᵠ y) n) (ring ℚ-ring (x ∷ y ∷ -ᵠ x /ᵠ (-ᵠ x -ᵠ y) ∷ []) (search readsℚ depth 30) (search readsℚ depth 30) refl))
