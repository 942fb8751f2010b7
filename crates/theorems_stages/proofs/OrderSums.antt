-- The partial sums of a step's jumps by order: the few of them that are not zero, worked out from the rows of the condition's
-- columns. With A and B for the two sides' scales they are A at order 0, -A and B at order 1, and at order 2 A times what
-- the first ordinate has in the first row, a mean of A and B with its sign changed, and B.
use mathlib.Core.Path.{◌≡◌, refl, sym, ◌∙◌, ap, ap₂}
use mathlib.Core.List.{[], ◌∷◌}
use Prim.Native.Nat.{ℕ, suc, ◌+◌, ◌-◌, ◌<◌, ◌≤◌}
use native.Mathlib.Omega.{arith}
use lib.IntN.{pos}
use Rattle.base_exact.specs.Rational.{ℚ, ◌+ᵠ◌, ◌*ᵠ◌, -ᵠ◌, ◌-ᵠ◌, int}
use Rattle.base_exact.specs.Order.{◌<ᵠ◌}
use Rattle.base_exact.proofs.Ring.{ring}
use Rattle.base_exact.proofs.Rational.{ℚ-ring, readsℚ}
use Rattle.base_exact.proofs.Sum.{sum_ext}
use Rattle.spec_spline.specs.Space.{Space, degree, first_column}
use Rattle.spec_spline.specs.Table.{Table, cell}
use Rattle.theorems_weights.proofs.Difference.{difference, difference_suc, difference-zero}
use Rattle.theorems_weights.proofs.Condition.{left_scale, right_scale}
use Rattle.theorems_stages.proofs.Rows.{lowest, highest}
use Rattle.theorems_stages.proofs.RowMoves.{first_spanned, start_low, start-high, start-high_low, left_low, left-high, right_low, right-high}
use Rattle.theorems_stages.proofs.Stages.{met, met_here, room, room', left-segment, right-segment, spanning}
use Rattle.theorems_stages.proofs.Invariant.{Due}
use Rattle.theorems_stages.proofs.JumpSums.{summed, on_left, on_right, jump_sum, left_positive, right_positive, none_yet, all_done, some_done, some_left}

-- ---- differences of two and three numbers

difference_one : (x : ℕ → ℚ) → difference 1 x ≡ x 1 -ᵠ x 0
difference_one x = difference_suc 0 x ∙ ap₂ ◌-ᵠ◌ (difference-zero (λ u. x (suc u))) (difference-zero x)

difference_two : (x : ℕ → ℚ) → difference 2 x ≡ x 2 -ᵠ x 1 -ᵠ (x 1 -ᵠ x 0)
difference_two x = difference_suc 1 x ∙ ap₂ ◌-ᵠ◌ (difference_one (λ u. x (suc u))) (difference_one x)

module _ {s : Space} {join k : ℕ} {t : Table} (D : Due s join k t) where
  abbrev pub f : ℕ
  f = first_spanned (degree s) (met s join k) join k

  abbrev pub A : ℚ
  A = int (pos (left_scale s join k))

  abbrev pub B : ℚ
  B = int (pos (right_scale s join k))

  abbrev pub H : ℕ → ℚ
  H n = jump_sum s join k t n

  abbrev pub X : ℕ → ℕ → ℚ
  X n u = on_left s join k t n u

  abbrev pub Y : ℕ → ℕ → ℚ
  Y n u = on_right s join t n u

  pub A_pos : int (pos 0) <ᵠ A
  A_pos = left_positive D.at

  pub B_pos : int (pos 0) <ᵠ B
  B_pos = right_positive D.at

  -- ---- the column sums
  x_none : (n u : ℕ) → u ≤ k → n ≤ lowest (degree s) (met s join k) join (degree s join - k + u) → X n u ≡ int (pos 0)
  unfolding on_left
  x_none n u a b = none_yet D join (degree s join - k + u) (left-segment D.at) (omega (arith, room D.at)) n b

  pub x_all : (n u : ℕ) → u ≤ k → highest (degree s) (met s join k) join (degree s join - k + u) < n → X n u ≡ int (pos 1)
  unfolding on_left
  x_all n u a b = all_done D join (degree s join - k + u) (left-segment D.at) (omega (arith, room D.at)) n b

  y_none : (n u : ℕ) → u ≤ k → n ≤ lowest (degree s) (met s join k) (suc join) u → Y n u ≡ int (pos 0)
  unfolding on_right
  y_none n u a b = none_yet D (suc join) u (right-segment D.at) (omega (arith, room' D.at)) n b

  y_all : (n u : ℕ) → u ≤ k → highest (degree s) (met s join k) (suc join) u < n → Y n u ≡ int (pos 1)
  unfolding on_right
  y_all n u a b = all_done D (suc join) u (right-segment D.at) (omega (arith, room' D.at)) n b

  -- ---- the rows of the condition's columns
  x0_low : lowest (degree s) (met s join k) join (degree s join - k + 0) ≡ f
  x0_low = start_low (spanning D.at)

  pub x0_high : highest (degree s) (met s join k) join (degree s join - k + 0) ≤ suc f
  x0_high = start-high (spanning D.at)

  x0_high_low : k ≤ 1 → highest (degree s) (met s join k) join (degree s join - k + 0) ≡ f
  x0_high_low = start-high_low (spanning D.at)

  x_low : (u : ℕ) → 0 < u → u ≤ k → lowest (degree s) (met s join k) join (degree s join - k + u) ≡ suc f
  x_low = left_low (spanning D.at)

  pub x_high : (u : ℕ) → 0 < u → u ≤ k → highest (degree s) (met s join k) join (degree s join - k + u) ≡ f + u
  x_high = left-high (spanning D.at)

  y_low : (u : ℕ) → u ≤ k → lowest (degree s) (met s join k) (suc join) u ≡ suc f + u
  y_low = right_low (spanning D.at)

  y_high : (u : ℕ) → u < k → highest (degree s) (met s join k) (suc join) u ≡ f + k
  y_high = right-high (spanning D.at)

  -- ---- the partial sums, by order
  H-zero : k ≡ 0 → (n : ℕ) → H n ≡ A *ᵠ X n 0 -ᵠ B *ᵠ Y n 0
  unfolding jump_sum
  H-zero e n = ap₂ (λ x y. A *ᵠ x -ᵠ B *ᵠ y) (ap (λ d. difference d (X n)) e ∙ difference-zero (X n)) (ap (λ d. difference d (Y n)) e ∙ difference-zero (Y n))

  H_one : k ≡ 1 → (n : ℕ) → H n ≡ A *ᵠ (X n 1 -ᵠ X n 0) -ᵠ B *ᵠ (Y n 1 -ᵠ Y n 0)
  unfolding jump_sum
  H_one e n = ap₂ (λ x y. A *ᵠ x -ᵠ B *ᵠ y) (ap (λ d. difference d (X n)) e ∙ difference_one (X n)) (ap (λ d. difference d (Y n)) e ∙ difference_one (Y n))

  H_two : k ≡ 2 → (n : ℕ) → H n ≡ A *ᵠ (X n 2 -ᵠ X n 1 -ᵠ (X n 1 -ᵠ X n 0)) -ᵠ B *ᵠ (Y n 2 -ᵠ Y n 1 -ᵠ (Y n 1 -ᵠ Y n 0))
  unfolding jump_sum
  H_two e n = ap₂ (λ x y. A *ᵠ x -ᵠ B *ᵠ y) (ap (λ d. difference d (X n)) e ∙ difference_two (X n)) (ap (λ d. difference d (Y n)) e ∙ difference_two (Y n))

  -- order 0
  pub zero-last : k ≡ 0 → H (suc f) ≡ A
  zero-last e = H-zero e (suc f)
      ∙ ap₂ (λ x y. A *ᵠ x -ᵠ B *ᵠ y) (x_all (suc f) 0 (omega arith) (omega (arith, x0_high_low (omega arith)))) (y_none (suc f) 0 (omega arith) (omega (arith, y_low 0 (omega arith))))
      ∙ ring ℚ-ring (A ∷ B ∷ []) (search readsℚ depth 20) (search readsℚ depth 20) refl

  -- order 1
  pub one_first : k ≡ 1 → H (suc f) ≡ -ᵠ A
  one_first e = H_one e (suc f)
      ∙ ap₂ (λ x y. A *ᵠ x -ᵠ B *ᵠ y)
      (ap₂ ◌-ᵠ◌ (x_none (suc f) 1 (omega arith) (omega (arith, x_low 1 (omega arith) (omega arith)))) (x_all (suc f) 0 (omega arith) (omega (arith, x0_high_low (omega arith)))))
      (ap₂ ◌-ᵠ◌ (y_none (suc f) 1 (omega arith) (omega (arith, y_low 1 (omega arith)))) (y_none (suc f) 0 (omega arith) (omega (arith, y_low 0 (omega arith)))))
      ∙ ring ℚ-ring (A ∷ B ∷ []) (search readsℚ depth 20) (search readsℚ depth 20) refl

  pub one_last : k ≡ 1 → H (suc (suc f)) ≡ B
  one_last e = H_one e (suc (suc f))
      ∙ ap₂ (λ x y. A *ᵠ x -ᵠ B *ᵠ y)
      (ap₂ ◌-ᵠ◌ (x_all (suc (suc f)) 1 (omega arith) (omega (arith, x_high 1 (omega arith) (omega arith)))) (x_all (suc (suc f)) 0 (omega arith) (omega (arith, x0_high_low (omega arith)))))
      (ap₂ ◌-ᵠ◌ (y_none (suc (suc f)) 1 (omega arith) (omega (arith, y_low 1 (omega arith)))) (y_all (suc (suc f)) 0 (omega arith) (omega (arith, y_high 0 (omega arith)))))
      ∙ ring ℚ-ring (A ∷ B ∷ []) (search readsℚ depth 20) (search readsℚ depth 20) refl

  -- order 2: a is what the first ordinate has up to the first row, b what the join's ordinate has up to the second
  abbrev pub a : ℚ
  a = X (suc f) 0

  abbrev pub b : ℚ
  b = X (suc (suc f)) 2

  pub two_first : k ≡ 2 → H (suc f) ≡ A *ᵠ a
  two_first e = H_two e (suc f)
      ∙ ap₂ (λ x y. A *ᵠ x -ᵠ B *ᵠ y)
      (ap₂ (λ x y. x -ᵠ y -ᵠ (y -ᵠ a)) (x_none (suc f) 2 (omega arith) (omega (arith, x_low 2 (omega arith) (omega arith))))
      (x_none (suc f) 1 (omega arith) (omega (arith, x_low 1 (omega arith) (omega arith)))))
      (ap₂ (λ x y. x -ᵠ y -ᵠ (y -ᵠ Y (suc f) 0)) (y_none (suc f) 2 (omega arith) (omega (arith, y_low 2 (omega arith)))) (y_none (suc f) 1 (omega arith) (omega (arith, y_low 1 (omega arith))))
      ∙ ap (λ z. int (pos 0) -ᵠ int (pos 0) -ᵠ (int (pos 0) -ᵠ z)) (y_none (suc f) 0 (omega arith) (omega (arith, y_low 0 (omega arith)))))
      ∙ ring ℚ-ring (A ∷ B ∷ a ∷ []) (search readsℚ depth 30) (search readsℚ depth 30) refl

  same_at_join : k ≡ 2 → (n : ℕ) → Y n 0 ≡ X n 2
  unfolding on_left on_right summed
  same_at_join e n =
      sum_ext n (λ i l. sym (D.shape.joined join (right-segment D.at) (rw (met_here s join k) (omega arith)) i)
      ∙ ap (λ u. cell t i (first_column s join + u)) (let r = room D.at in let z : degree s join ≡ degree s join - k + 2 = omega arith in z))

  pub two_second : k ≡ 2 → H (suc (suc f)) ≡ -ᵠ (A *ᵠ (int (pos 1) -ᵠ b) +ᵠ B *ᵠ b)
  two_second e = H_two e (suc (suc f))
      ∙ ap₂ (λ x y. A *ᵠ x -ᵠ B *ᵠ y)
      (ap₂ (λ x y. b -ᵠ x -ᵠ (x -ᵠ y)) (x_all (suc (suc f)) 1 (omega arith) (omega (arith, x_high 1 (omega arith) (omega arith)))) (x_all (suc (suc f)) 0 (omega arith) (omega (arith, x0_high))))
      (ap₂ (λ x y. x -ᵠ y -ᵠ (y -ᵠ Y (suc (suc f)) 0)) (y_none (suc (suc f)) 2 (omega arith) (omega (arith, y_low 2 (omega arith))))
      (y_none (suc (suc f)) 1 (omega arith) (omega (arith, y_low 1 (omega arith))))
      ∙ ap (λ z. int (pos 0) -ᵠ int (pos 0) -ᵠ (int (pos 0) -ᵠ z)) (same_at_join e (suc (suc f))))
      ∙ ring ℚ-ring (A ∷ B ∷ b ∷ []) (search readsℚ depth 30) (search readsℚ depth 30) refl

  pub two_last : k ≡ 2 → H (suc (suc (suc f))) ≡ B
  two_last e = let n = suc (suc (suc f)) in H_two e n
      ∙ ap₂ (λ x y. A *ᵠ x -ᵠ B *ᵠ y)
      (ap₂ (λ x y. x -ᵠ y -ᵠ (y -ᵠ X n 0)) (x_all n 2 (omega arith) (omega (arith, x_high 2 (omega arith) (omega arith))))
      (x_all n 1 (omega arith) (omega (arith, x_high 1 (omega arith) (omega arith))))
      ∙ ap (λ z. int (pos 1) -ᵠ int (pos 1) -ᵠ (int (pos 1) -ᵠ z)) (x_all n 0 (omega arith) (omega (arith, x0_high))))
      (ap₂ (λ x y. x -ᵠ y -ᵠ (y -ᵠ Y n 0)) (y_none n 2 (omega arith) (omega (arith, y_low 2 (omega arith)))) (y_all n 1 (omega arith) (omega (arith, y_high 1 (omega arith))))
      ∙ ap (λ z. int (pos 0) -ᵠ int (pos 1) -ᵠ (int (pos 1) -ᵠ z)) (y_all n 0 (omega arith) (omega (arith, y_high 0 (omega arith)))))
      ∙ ring ℚ-ring (A ∷ B ∷ []) (search readsℚ depth 30) (search readsℚ depth 30) refl

  pub a_pos : k ≡ 2 → int (pos 0) <ᵠ a
  unfolding on_left
  a_pos e = some_done D join (degree s join - k + 0) (left-segment D.at) (omega (arith, room D.at)) (suc f) (omega (arith, x0_low))

  pub b_pos : k ≡ 2 → int (pos 0) <ᵠ b
  unfolding on_left
  b_pos e = some_done D join (degree s join - k + 2) (left-segment D.at) (omega (arith, room D.at)) (suc (suc f)) (omega (arith, x_low 2 (omega arith) (omega arith)))

  pub b_rest : k ≡ 2 → int (pos 0) <ᵠ int (pos 1) -ᵠ b
  unfolding on_left
  b_rest e = some_left D join (degree s join - k + 2) (left-segment D.at) (omega (arith, room D.at)) (suc (suc f)) (omega (arith, x_high 2 (omega arith) (omega arith)))
