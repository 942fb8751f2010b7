-- The published null_space matrix of a vector that is proportional to the jumps of a step mixes neighbours by the step's
-- factors: its recurrence for the two diagonals, -l(j-1)/l(j) times the entry before, yields w(i) and 1 - w(i+1).
use mathlib.Core.Path.{◌≡◌, refl, sym, ◌∙◌, ap, ap₂}
use mathlib.Core.Logic.{◌≢◌, ◌⊎◌, inl, inr}
use mathlib.Core.Bool.{Bool, true, false, cond, not}
use mathlib.Core.List.{[], ◌∷◌}
use mathlib.Core.Option.{some, get_or}
use Prim.Native.Nat.{ℕ, zero, suc, ◌-◌, ◌<◌, ◌≤◌}
use native.Mathlib.Omega.{arith}
use lib.Dec.{eqb, leb, ltb, eqb→eq, eqb_refl, not_T, le→leb, lt→ltb}
use lib.Arith.{lt→nleb, le→nltb}
use lib.IntN.{pos}
use lib.ListN.{length}
use Rattle.base_exact.specs.Rational.{ℚ, ◌+ᵠ◌, ◌*ᵠ◌, -ᵠ◌, ◌-ᵠ◌, int, inv}
use Rattle.base_exact.specs.Order.{is_zero}
use Rattle.base_exact.specs.Sum.{sum}
use Rattle.base_exact.specs.Tabulate.{tab}
use Rattle.base_exact.proofs.Decide.{le_or_lt, holds_true, fails_false, cond_true, cond_false}
use Rattle.base_exact.proofs.Ring.{ring, reads, by_eq}
use Rattle.base_exact.proofs.Rational.{ℚ-ring, readsℚ, mul_cancel, mul_nonzero, div_mul, mul-zero, zero-mul, zero-add}
use Rattle.base_exact.proofs.Order.{zero_test, nonzero_test}
use Rattle.base_exact.proofs.Sum.{sum-zero, sum_past}
use Rattle.base_exact.proofs.Tabulate.{tab_length, tab_get_d}
use Rattle.base_outcome.specs.Search.{first, last}
use Rattle.spec_spline.specs.Table.{Row, entry, cell}
use Rattle.spec_published.specs.Published.{carried, diagonal, above_diagonal, bidiagonal, nullspace}
use Rattle.base_outcome.proofs.Search.{first_at, last_at}
use Rattle.theorems_weights.proofs.NullSpace.{Jumps, mixed, first-factor, last-factor}

-- a sum over two neighbouring places
pub sum_two : (n r : ℕ) (f : ℕ → ℚ) → suc r < n → ((i : ℕ) → i < n → i ≢ r → i ≢ suc r → f i ≡ int (pos 0)) → sum n f ≡ f r +ᵠ f (suc r)
unfolding sum
sum_two n r f h z = sum_past (suc (suc r)) n f h (λ i p q. z i q (omega arith) (omega arith))
    ∙ ap (λ u. u +ᵠ f r +ᵠ f (suc r)) (sum-zero r (λ i p. z i (omega arith) (omega arith) (omega arith))) ∙ ap (λ u. u +ᵠ f (suc r)) (zero-add (f r))

module _ (v : Row) (n f l : ℕ) (J w : ℕ → ℚ) (ρ : ℚ) (G : Jumps n f l J w) (size : length v ≡ n) (proportional : (i : ℕ) → entry v i ≡ ρ *ᵠ J i) (nonzero : ρ ≢ int (pos 0)) where
  v_inside : (i : ℕ) → f ≤ i → i ≤ l → entry v i ≢ int (pos 0)
  v_inside i h k e = mul_nonzero nonzero (G.jump i h k) (sym (proportional i) ∙ e)

  v_outside : (i : ℕ) → J i ≡ int (pos 0) → entry v i ≡ int (pos 0)
  v_outside i e = proportional i ∙ ap (λ u. ρ *ᵠ u) e ∙ mul-zero ρ

  -- the first and the last non-zero entry
  tested : ℕ → Bool
  tested i = not (is_zero (entry v i))

  tested-inside : (i : ℕ) → f ≤ i → i ≤ l → tested i ≡ true
  unfolding tested
  tested-inside i h k = ap not (nonzero_test (v_inside i h k))

  tested-outside : (i : ℕ) → J i ≡ int (pos 0) → tested i ≡ false
  unfolding tested
  tested-outside i e = ap not (zero_test (v_outside i e))

  first_is : first (length v) tested ≡ some f
  first_is = let o = G.ordered in let b = G.below in first_at tested (length v) f (omega (arith, size)) (tested-inside f (omega arith) (omega arith)) (λ k h. tested-outside k (G.before k h).0)

  last_is : last (length v) tested ≡ some l
  last_is = let o = G.ordered in let b = G.below in last_at tested (length v) l (omega (arith, size)) (tested-inside l (omega arith) (omega arith)) (λ k h m. tested-outside k (G.after k h).0)

  nullspace_is : nullspace v ≡ bidiagonal v f l
  unfolding nullspace tested
  nullspace_is = ap₂ (λ a b. bidiagonal v (get_or a 0) (get_or b 0)) first_is last_is

  -- the recurrence
  carried_is : (j : ℕ) → f ≤ j → j < l → carried v j (w j) ≡ int (pos 1) -ᵠ w (suc j)
  unfolding sum
  carried_is j h k = let b = G.below in mul_cancel (v_inside (suc j) (omega arith) k)
      (quotient_out (entry v j) (inv (entry v (suc j))) (w j) (entry v (suc j)) ∙ ap (λ u. -ᵠ u *ᵠ w j) (div_mul (entry v j) (entry v (suc j)) (v_inside (suc j) (omega arith) k))
      ∙ ap (λ u. -ᵠ u *ᵠ w j) (proportional j)
      ∙ balanced (G.weight j (omega arith)) (G.weight (suc j) (omega arith))
      ∙ ap (λ u. (int (pos 1) -ᵠ w (suc j)) *ᵠ u) (sym (proportional (suc j))))
    where
      quotient_out : (x q d y : ℚ) → -ᵠ (x *ᵠ q) *ᵠ d *ᵠ y ≡ -ᵠ (x *ᵠ q *ᵠ y) *ᵠ d
      quotient_out x q d y = ring ℚ-ring (x ∷ q ∷ d ∷ y ∷ []) (search reads depth 20) (search reads depth 20) refl

      balanced : w j *ᵠ J j ≡ sum j J +ᵠ J j → w (suc j) *ᵠ J (suc j) ≡ sum j J +ᵠ J j +ᵠ J (suc j) → -ᵠ (ρ *ᵠ J j) *ᵠ w j ≡ (int (pos 1) -ᵠ w (suc j)) *ᵠ (ρ *ᵠ J (suc j))
      balanced p q = by_eq ℚ-ring (-ᵠ ρ) p (by_eq ℚ-ring ρ q (ring ℚ-ring (ρ ∷ J j ∷ w j ∷ w (suc j) ∷ J (suc j) ∷ sum j J ∷ []) (search readsℚ depth 30) (search readsℚ depth 30) refl))

  up_to_first : (j : ℕ) → j ≤ f → w j ≡ int (pos 1)
  up_to_first j h = go (le_or_lt f j)
    where
      go : (f ≤ j) ⊎ (j < f) → w j ≡ int (pos 1)
      go (inl k) = ap w (let e : j ≡ f = omega arith in e) ∙ G.at_first
      go (inr k) = (G.before j k).1

  diagonal_is : (r : ℕ) → diagonal v f l r ≡ w r
  unfolding diagonal
  diagonal_is zero = sym (first-factor G)
  diagonal_is (suc j) = go (diagonal_is j) (le_or_lt (suc j) f) (le_or_lt l (suc j))
    where
      rest : ℚ
      rest = cond (ltb (suc j) l) (int (pos 1) -ᵠ carried v j (diagonal v f l j)) (int (pos 0))

      twice : (x : ℚ) → int (pos 1) -ᵠ (int (pos 1) -ᵠ x) ≡ x
      twice x = ring ℚ-ring (x ∷ []) (search readsℚ depth 20) (search readsℚ depth 20) refl

      past : f < suc j → cond (leb (suc j) f) (int (pos 1)) rest ≡ rest
      past p = cond_false (int (pos 1)) rest (fails_false (leb (suc j) f) (lt→nleb (suc j) f p))

      go : diagonal v f l j ≡ w j → (suc j ≤ f) ⊎ (f < suc j) → (l ≤ suc j) ⊎ (suc j < l) → cond (leb (suc j) f) (int (pos 1)) rest ≡ w (suc j)
      go ih (inl h) k = cond_true (int (pos 1)) rest (holds_true (leb (suc j) f) (le→leb (suc j) f h)) ∙ sym (up_to_first (suc j) h)
      go ih (inr h) (inl k) = past h ∙ cond_false _ _ (fails_false (ltb (suc j) l) (le→nltb (suc j) l k)) ∙ sym (last-factor G (suc j) k)
      go ih (inr h) (inr k) = past h ∙ cond_true _ _ (holds_true (ltb (suc j) l) (lt→ltb (suc j) l k))
          ∙ ap (λ u. int (pos 1) -ᵠ u) (ap (carried v j) ih ∙ carried_is j (omega arith) (omega arith)) ∙ twice (w (suc j))

  above_is : (r : ℕ) → above_diagonal v f l r ≡ int (pos 1) -ᵠ w (suc r)
  unfolding above_diagonal
  above_is r = go (le_or_lt l (suc r)) (le_or_lt (suc r) f)
    where
      rest : ℚ
      rest = cond (leb (suc r) f) (int (pos 0)) (carried v r (diagonal v f l r))

      before : suc r < l → cond (leb l (suc r)) (int (pos 1)) rest ≡ rest
      before k = cond_false (int (pos 1)) rest (fails_false (leb l (suc r)) (lt→nleb l (suc r) k))

      go : (l ≤ suc r) ⊎ (suc r < l) → (suc r ≤ f) ⊎ (f < suc r) → cond (leb l (suc r)) (int (pos 1)) rest ≡ int (pos 1) -ᵠ w (suc r)
      go (inl k) h = cond_true (int (pos 1)) rest (holds_true (leb l (suc r)) (le→leb l (suc r) k))
          ∙ ring ℚ-ring [] (search readsℚ) (search readsℚ) refl ∙ ap (λ u. int (pos 1) -ᵠ u) (sym (last-factor G (suc r) k))
      go (inr k) (inl h) = before k ∙ cond_true _ _ (holds_true (leb (suc r) f) (le→leb (suc r) f h))
          ∙ ring ℚ-ring [] (search readsℚ) (search readsℚ) refl ∙ ap (λ u. int (pos 1) -ᵠ u) (sym (up_to_first (suc r) h))
      go (inr k) (inr h) = before k ∙ cond_false _ _ (fails_false (leb (suc r) f) (lt→nleb (suc r) f h)) ∙ ap (carried v r) (diagonal_is r) ∙ carried_is r (omega arith) (omega arith)

  -- ---- the matrix

  abbrev matrix_entry : ℕ → ℕ → ℚ
  matrix_entry r c = cond (eqb c r) (diagonal v f l r) (cond (eqb c (suc r)) (above_diagonal v f l r) (int (pos 0)))

  pub nullspace-rows : length (nullspace v) ≡ n - 1
  unfolding bidiagonal
  nullspace-rows = ap length nullspace_is ∙ tab_length (length v - 1) _ ∙ ap (λ m. m - 1) size

  nullspace-cell : (r c : ℕ) → suc r < n → c < n → cell (nullspace v) r c ≡ matrix_entry r c
  unfolding bidiagonal
  nullspace-cell r c h k = ap (λ t. cell t r c) nullspace_is ∙ ap (λ q. entry q c) (tab_get_d (length v - 1) (λ r. tab (length v) (matrix_entry r)) r [] (omega (arith, size)))
      ∙ tab_get_d (length v) (matrix_entry r) c (int (pos 0)) (omega (arith, size))

  pub nullspace_mixes : (x : ℕ → ℚ) (r : ℕ) → suc r < n → sum n (λ i. cell (nullspace v) r i *ᵠ x i) ≡ mixed w x r
  unfolding mixed
  nullspace_mixes x r h = sum_two n r (λ i. cell (nullspace v) r i *ᵠ x i) h (λ i k p q. ap (λ u. u *ᵠ x i) (nullspace-cell r i h k ∙ other i p q) ∙ zero-mul (x i))
      ∙ ap₂ (λ a b. a *ᵠ x r +ᵠ b *ᵠ x (suc r))
      (nullspace-cell r r h (omega arith) ∙ cond_true _ _ (holds_true (eqb r r) (eqb_refl r)) ∙ diagonal_is r)
      (nullspace-cell r (suc r) h h ∙ cond_false _ _ (differ (suc r) r (omega arith)) ∙ cond_true _ _ (holds_true (eqb (suc r) (suc r)) (eqb_refl (suc r))) ∙ above_is r)
    where
      differ : (a b : ℕ) → a ≢ b → eqb a b ≡ false
      differ a b h = fails_false (eqb a b) (not_T (eqb a b) (λ t. h (eqb→eq a b t)))

      other : (i : ℕ) → i ≢ r → i ≢ suc r → matrix_entry r i ≡ int (pos 0)
      other i p q = cond_false _ _ (differ i r p) ∙ cond_false _ _ (differ i (suc r) q)
