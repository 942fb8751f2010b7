-- The middle node of a join of order 2, proved: the ordinate before the join has weight from two rows alone. The first of them stands for an
-- ordinate, or is the middle one of the join before, so that the formula goes from join to join.
use mathlib.Core.Path.{◌≡◌, refl, sym, ◌∙◌, ap, ap₂, subst}
use mathlib.Core.Logic.{◌≢◌, ◌⊎◌, inl, inr}
use mathlib.Core.Bool.{false, cond, ◌&&◌}
use mathlib.Core.List.{List, [], ◌∷◌}
use Prim.Native.Nat.{ℕ, zero, suc, ◌+◌, ◌-◌, ◌*◌, ◌<◌, ◌≤◌, max}
use native.Mathlib.Omega.{arith}
use native.Mathlib.Nat.{pow-zero, pow-suc, eq-or-lt_of_le}
use native.Mathlib.Decide.{ℕ_discrete}
use borrow.Author.Tests.{eq-eqb, ne_eqb, lt-ltb}
use lib.Dec.{eqb}
use lib.IntN.{ℤ, pos, nat_abs, ◌+ℤ◌}
use lib.ListN.{length}
use Rattle.base_exact.specs.Rational.{ℚ, int, inv, ◌+ᵠ◌, ◌*ᵠ◌, ◌-ᵠ◌, -ᵠ◌, ◌/ᵠ◌}
use Rattle.base_exact.specs.Order.{◌<ᵠ◌}
use Rattle.base_exact.specs.Sum.{sum}
use Rattle.base_exact.proofs.Decide.{le_or_lt, cond_true, cond_false, and-false}
use Rattle.base_exact.proofs.Integer as Z
use Rattle.base_exact.proofs.Order as Q
use Rattle.base_exact.proofs.Ring.{ring, by_eq}
use Rattle.base_exact.proofs.Rational.{ℚ-ring, readsℚ, mul-zero, zero-mul, one-mul, mul_comm, mul_inv, mul_cancel, div_mul, int_mul, int-add, int_sub, int_suc}
use Rattle.base_exact.proofs.Sum.{sum-zero, sum-last, sum_past}
use Rattle.base_exact.proofs.Tabulate.{tab_get_d}
use Rattle.spec_spline.specs.Space.{Space, segments, break, order, degree, width, condition_count, first_column, column_count, conditions_before, row_count, rows_before}
use Rattle.spec_spline.specs.Conditions.{falling, scale}
use Rattle.spec_spline.specs.Table.{entry, cell}
use Rattle.spec_spline.specs.Piecewise.{Accepted, combination}
use Rattle.spec_spline.proofs.Table.{cell-past}
use Rattle.spec_spline.proofs.Legal.{Checked, legal}
use Rattle.spec_spline.proofs.Space.{segment-column}
use Rattle.theorems_weights.proofs.Built.{built, row_count_lem}
use Rattle.theorems_beams.proofs.Sections.{orders_fit, conditions_fewer}
use Rattle.theorems_values.proofs.Segment.{accepted-checked}
use Rattle.theorems_acceptance.specs.WeightCount.{left_conditions, right_conditions}
use Rattle.theorems_acceptance.specs.ClosedForms.{left_size, right_size, share, balance, upper_factor, cubic, taken_before, lower_factor, own_row, join_row, join_column}
use Rattle.theorems_stages.specs.Counts.{full_count}
use Rattle.theorems_acceptance.proofs.ClosedForms.{weights-before-join}
use Rattle.theorems_stages.proofs.Limits.{limits}
use Rattle.theorems_stages.proofs.Support as supports
use Rattle.theorems_support.proofs.Support.{supported}
use Rattle.theorems_lines.specs.Lines.{place_of}
use Rattle.theorems_lines.proofs.Ordinates.{single}
use Rattle.theorems_nodes.specs.Nodes.{AreNodes, spread, middle_node, MiddleNodesAreFormulas}
use Rattle.theorems_nodes.proofs.Balance as algebra
use Rattle.theorems_nodes.proofs.Places.{part, place_is, part_positive, place-last}

-- ---- sizes as products

sized-once : (p w : ℕ) → int (pos (scale p 1 w)) ≡ int (pos p) *ᵠ int (pos w)
unfolding falling
sized-once p w = ap (λ n. int (pos n)) (ap₂ ◌*◌ (let z : 1 * (p - 0) ≡ p = omega arith in z) (pow-suc w 0 ∙ ap (λ n. n * w) (pow-zero w)
    ∙ (let z : 1 * w ≡ w = omega arith in z))) ∙ int_mul (pos p) (pos w)

less_one : (p : ℕ) → 0 < p → int (pos (p - 1)) ≡ int (pos p) -ᵠ int (pos 1)
less_one zero h = absurd (omega arith)
less_one (suc p) h = ap (λ n. int (pos n)) (let z : suc p - 1 ≡ p = omega arith in z) ∙ back (int (pos p)) (int (pos (suc p))) (int_suc p)
  where
    back : (x y : ℚ) → y ≡ x +ᵠ int (pos 1) → x ≡ y -ᵠ int (pos 1)
    back x y e = by_eq ℚ-ring (-ᵠ int (pos 1)) e (ring ℚ-ring (x ∷ y ∷ []) (search readsℚ depth 20) (search readsℚ depth 20) refl)

sized_twice : (p w : ℕ) → 0 < p → int (pos (scale p 2 w)) ≡ int (pos p) *ᵠ (int (pos p) -ᵠ int (pos 1)) *ᵠ (int (pos w) *ᵠ int (pos w))
unfolding falling
sized_twice p w h =
    ap (λ n. int (pos n)) (ap₂ ◌*◌ (ap (λ n. n * (p - 1)) (let z : 1 * (p - 0) ≡ p = omega arith in z)) (pow-suc w 1 ∙ ap (λ n. n * w) (pow-suc w 0 ∙ ap (λ n. n * w) (pow-zero w)
    ∙ (let z : 1 * w ≡ w = omega arith in z))))
    ∙ int_mul (pos (p * (p - 1))) (pos (w * w))
    ∙ ap₂ ◌*ᵠ◌ (int_mul (pos p) (pos (p - 1)) ∙ ap (λ q. int (pos p) *ᵠ q) (less_one p h)) (int_mul (pos w) (pos w))

-- the order of three conditions
order_of : (o : ℤ) → o +ℤ pos 1 ≡ pos full_count → o ≡ pos 2
order_of o e = Z.ext o (pos 2) (omega (arith, Z.bal_+ o (pos 1), ap Z.up e, ap Z.dn e))

-- ---- a sum of two terms

sum-pair : (n k : ℕ) {f : ℕ → ℚ} → suc k < n → ((i : ℕ) → i ≢ k → i ≢ suc k → f i ≡ int (pos 0)) → sum n f ≡ f k +ᵠ f (suc k)
sum-pair n k {f} h off =
    sum_past (suc (suc k)) n f h (λ i a b. off i (λ z. omega arith) (λ z. omega arith))
    ∙ sum-last (suc k) f
    ∙ ap (λ q. q +ᵠ f (suc k)) (sum-last k f ∙ ap (λ q. q +ᵠ f k) (sum-zero k (λ i a. off i (λ z. omega arith) (λ z. omega arith))))
    ∙ ring ℚ-ring (f k ∷ f (suc k) ∷ []) (search readsℚ depth 20) (search readsℚ depth 20) refl

-- ---- one join

module _ (s : Space) (a : Accepted s) (nodes : List ℚ) (N : AreNodes s a.table nodes) where
  c : Checked s
  c = (accepted-checked s a).1

  abbrev node : ℕ → ℚ
  node i = entry nodes i

  pub on_line : (j t : ℕ) → j < segments s → t ≤ degree s j → entry (combination (column_count s) nodes a.table) (first_column s j + t) ≡ place_of s j t
  on_line j t h l = N.ordinates j t h l ∙ ring ℚ-ring (place_of s j t ∷ []) (search readsℚ depth 20) (search readsℚ depth 20) refl

  rows_of : length a.table ≡ row_count s
  rows_of = row_count_lem s a.table (built s a.table a.is)

  module _ (j : ℕ) (h : suc j < segments s) (full : condition_count s j ≡ full_count) where
    left-degree : full_count ≤ degree s j
    left-degree = omega (arith, (legal s c).below-left-degree j (omega arith))

    right-degree : full_count ≤ degree s (suc j)
    right-degree = omega (arith, (legal s c).below-right-degree j (omega arith))

    abbrev p : ℚ
    p = int (pos (degree s j))

    abbrev q : ℚ
    q = int (pos (degree s (suc j)))

    abbrev u : ℚ
    u = int (pos (width s j))

    abbrev v : ℚ
    v = int (pos (width s (suc j)))

    p_positive : int (pos 0) <ᵠ p
    p_positive = Q.pos_of_nat (degree s j) (omega (arith, left-degree))

    q_positive : int (pos 0) <ᵠ q
    q_positive = Q.pos_of_nat (degree s (suc j)) (omega (arith, right-degree))

    u_positive : int (pos 0) <ᵠ u
    u_positive = Q.pos_of_nat (width s j) ((legal s c).positive_width j (omega arith))

    v_positive : int (pos 0) <ᵠ v
    v_positive = Q.pos_of_nat (width s (suc j)) ((legal s c).positive_width (suc j) h)

    left_is : left_size s j 2 ≡ algebra.left p q u v
    unfolding left_size
    left_is = sized_twice (degree s j) (width s (suc j)) (omega (arith, left-degree))

    right_is : right_size s j 2 ≡ algebra.right p q u v
    unfolding right_size
    right_is = sized_twice (degree s (suc j)) (width s j) (omega (arith, right-degree))

    both_positive : int (pos 0) <ᵠ algebra.both p q u v
    both_positive = Q.pos_add (Q.pos_mul p_positive v_positive) (Q.pos_nn (Q.pos_mul q_positive u_positive))

    share_is : share s j *ᵠ algebra.both p q u v ≡ q *ᵠ u
    unfolding share left_size right_size
    share_is = ap₂ (λ x y. x /ᵠ (y +ᵠ x) *ᵠ algebra.both p q u v) (sized-once (degree s (suc j)) (width s j)) (sized-once (degree s j) (width s (suc j)))
        ∙ div_mul (q *ᵠ u) (algebra.both p q u v) (Q.pos_nonzero both_positive)

    balance_is : balance s j *ᵠ algebra.both p q u v ≡ p *ᵠ q *ᵠ (u *ᵠ v) *ᵠ algebra.reach p q u v
    unfolding balance
    balance_is = ap₂ (λ x y. (x *ᵠ share s j +ᵠ y *ᵠ (int (pos 1) -ᵠ share s j)) *ᵠ algebra.both p q u v) left_is right_is ∙ algebra.balance_is p q u v (share s j) share_is

    reach_is : int (pos ((degree s j - 1) * width s (suc j) + (degree s (suc j) - 1) * width s j)) ≡ algebra.reach p q u v
    reach_is = int-add (pos ((degree s j - 1) * width s (suc j))) (pos ((degree s (suc j) - 1) * width s j))
        ∙ ap₂ ◌+ᵠ◌ (int_mul (pos (degree s j - 1)) (pos (width s (suc j))) ∙ ap (λ x. x *ᵠ v) (less_one (degree s j) (omega (arith, left-degree))))
        (int_mul (pos (degree s (suc j) - 1)) (pos (width s j)) ∙ ap (λ x. x *ᵠ u) (less_one (degree s (suc j)) (omega (arith, right-degree))))

    one_positive : (n : ℕ) → full_count ≤ n → int (pos 0) <ᵠ int (pos n) -ᵠ int (pos 1)
    one_positive n l = subst (λ x. int (pos 0) <ᵠ x) (less_one n (omega arith)) (Q.pos_of_nat (n - 1) (omega arith))

    reach_positive : int (pos 0) <ᵠ algebra.reach p q u v
    reach_positive = Q.pos_add (Q.pos_mul (one_positive (degree s j) left-degree) v_positive) (Q.pos_nn (Q.pos_mul (one_positive (degree s (suc j)) right-degree) u_positive))

    balance_positive : int (pos 0) <ᵠ balance s j
    balance_positive = Q.*_cancel_< (Q.pos_nn both_positive) (subst (λ x. int (pos 0) *ᵠ algebra.both p q u v <ᵠ x) (sym balance_is)
        (subst (λ x. x <ᵠ p *ᵠ q *ᵠ (u *ᵠ v) *ᵠ algebra.reach p q u v) (ring ℚ-ring (algebra.both p q u v ∷ []) (search readsℚ depth 20) (search readsℚ depth 20) refl)
        (Q.pos_mul (Q.pos_mul (Q.pos_mul p_positive q_positive) (Q.pos_mul u_positive v_positive)) reach_positive)))

    left_positive : int (pos 0) <ᵠ left_size s j 2
    left_positive = subst (λ x. int (pos 0) <ᵠ x) (sym left_is) (Q.pos_mul (Q.pos_mul p_positive (one_positive (degree s j) left-degree)) (Q.pos_mul v_positive v_positive))

    right_positive : int (pos 0) <ᵠ right_size s j 2
    right_positive = subst (λ x. int (pos 0) <ᵠ x) (sym right_is) (Q.pos_mul (Q.pos_mul q_positive (one_positive (degree s (suc j)) right-degree)) (Q.pos_mul u_positive u_positive))

    -- ---- the ordinate before the join

    pub row_is : join_row s j ≡ rows_before s j + degree s j
    unfolding own_row
    row_is = omega (arith, conditions_fewer s (orders_fit s c) j (omega arith))

    right-full : right_conditions s j ≡ full_count
    unfolding right_conditions
    right-full = cond_true (condition_count s j) 0 (lt-ltb (suc j) (segments s) h) ∙ full

    left_few : left_conditions s j ≤ degree s j
    left_few = go j refl
      where
        go : (n : ℕ) → n ≡ j → left_conditions s n ≤ degree s n
        go zero e = omega arith
        go (suc n) e = (legal s c).below-right-degree n (omega arith)

    is_order : order s j ≡ pos 2
    is_order = order_of (order s j) ((limits s c).count_is_order j (omega arith) ∙ ap pos full)

    abbrev before : ℕ → ℚ
    before r = cell a.table r (first_column s j + (degree s j - 1))

    S : supports.Support before (join_row s j - 2) (join_row s j - 1)
    S = supports.support_ends (let z : rows_before s j + (degree s j - 1) - (right_conditions s j + (degree s j - 1) - (degree s j + 1)) ≡ join_row s j - 2 =
        omega (arith, row_is, right-full, left-degree) in z)
        (let z : rows_before s j + max (degree s j - 1) (left_conditions s j - 1) ≡ join_row s j - 1 = omega (arith, row_is, left_few, left-degree) in z)
        (supported s a j (degree s j - 1) (omega arith) (omega arith))

    weight-first : before (join_row s j - 2) ≡ int (pos 1) -ᵠ lower_factor s j
    weight-first = ap (cell a.table (join_row s j - 2)) (let z : first_column s j + (degree s j - 1) ≡ join_column s j - 1 = omega (arith, left-degree) in z) ∙ (weights-before-join s a j h is_order).0

    weight-second : before (suc (join_row s j - 2)) ≡ lower_factor s j
    weight-second = ap₂ (cell a.table) (let z : suc (join_row s j - 2) ≡ join_row s j - 1 = omega (arith, row_is, left-degree) in z)
        (let z : first_column s j + (degree s j - 1) ≡ join_column s j - 1 = omega (arith, left-degree) in z) ∙ (weights-before-join s a j h is_order).1

    rows_enough : join_row s j < row_count s
    rows_enough = go (le_or_lt (row_count s) (join_row s j))
      where
        go : (row_count s ≤ join_row s j) ⊎ (join_row s j < row_count s) → join_row s j < row_count s
        go (inr l) = l
        go (inl l) = absurd (Q.pos_nonzero (T.positive (join_row s j) (omega (arith, row_is, right-full, left-degree)) (omega (arith, row_is, left_few)))
            (cell-past a.table (join_row s j) (first_column s j + degree s j) (omega (arith, rows_of))))
          where
            T : supports.Support (λ r. cell a.table r (first_column s j + degree s j)) (rows_before s j + degree s j - (right_conditions s j + degree s j - (degree s j + 1)))
                (rows_before s j + max (degree s j) (left_conditions s j - 1))
            T = supported s a j (degree s j) (omega arith) (omega arith)

    -- its place, by the weights of two rows
    two_rows : node (join_row s j - 2) *ᵠ (int (pos 1) -ᵠ lower_factor s j) +ᵠ node (join_row s j - 1) *ᵠ lower_factor s j ≡ place_of s j (degree s j - 1)
    unfolding combination
    two_rows =
        ap (λ i. node (join_row s j - 2) *ᵠ (int (pos 1) -ᵠ lower_factor s j) +ᵠ node i *ᵠ lower_factor s j) (let z : join_row s j - 1 ≡ suc (join_row s j - 2) = omega (arith, row_is, left-degree) in z)
        ∙ ap₂ (λ x y. node (join_row s j - 2) *ᵠ x +ᵠ node (suc (join_row s j - 2)) *ᵠ y) (sym weight-first) (sym weight-second)
        ∙ sym (sum-pair (length a.table) (join_row s j - 2) {f = λ r. node r *ᵠ before r} (omega (arith, rows_of, rows_enough, row_is, left-degree)) off)
        ∙ sym (tab_get_d (column_count s) (λ d. sum (length a.table) (λ r. entry nodes r *ᵠ cell a.table r d)) (first_column s j + (degree s j - 1)) (int (pos 0))
        (segment-column s j (degree s j - 1) (omega arith) (omega arith)))
        ∙ on_line j (degree s j - 1) (omega arith) (omega arith)
      where
        off : (i : ℕ) → i ≢ join_row s j - 2 → i ≢ suc (join_row s j - 2) → node i *ᵠ before i ≡ int (pos 0)
        off i x y = ap (λ w. node i *ᵠ w) (go (le_or_lt (join_row s j - 2) i)) ∙ mul-zero (node i)
          where
            go : (join_row s j - 2 ≤ i) ⊎ (i < join_row s j - 2) → before i ≡ int (pos 0)
            go (inr l) = S.below i l
            go (inl l) = S.above i (past (le_or_lt i (join_row s j - 1)))
              where
                past : (i ≤ join_row s j - 1) ⊎ (join_row s j - 1 < i) → join_row s j - 1 < i
                past (inr m) = m
                past (inl m) = absurd (between (eq-or-lt_of_le l))
                  where
                    between : (join_row s j - 2 ≡ i) ⊎ (join_row s j - 2 < i) → ⊥
                    between (inl e) = x (sym e)
                    between (inr e) = y (let z : i ≡ suc (join_row s j - 2) = omega arith in z)

    -- without the division
    lever : (lw B L t x y z : ℚ) → lw *ᵠ (B +ᵠ L *ᵠ (int (pos 1) -ᵠ t)) ≡ B → x *ᵠ (int (pos 1) -ᵠ lw) +ᵠ y *ᵠ lw ≡ z → B *ᵠ (y -ᵠ z) ≡ L *ᵠ ((int (pos 1) -ᵠ t) *ᵠ (z -ᵠ x))
    lever lw B L t x y z e f = by_eq ℚ-ring (B +ᵠ L *ᵠ (int (pos 1) -ᵠ t)) f (by_eq ℚ-ring (x -ᵠ y) e
        (ring ℚ-ring (lw ∷ B ∷ L ∷ t ∷ x ∷ y ∷ z ∷ []) (search readsℚ depth 40) (search readsℚ depth 40) refl))

    inverse_p : p *ᵠ inv p ≡ int (pos 1)
    inverse_p = mul_inv p (Q.pos_nonzero p_positive)

    inverse_q : q *ᵠ inv q ≡ int (pos 1)
    inverse_q = mul_inv q (Q.pos_nonzero q_positive)

    -- The ordinate before the join stands one part before it, and the one after it one part behind.
    place-before : place_of s j (degree s j - 1) ≡ int (break s (suc j)) -ᵠ u *ᵠ inv p
    place-before = place_is s c j (omega arith) (omega (arith, left-degree)) (degree s j - 1)
        ∙ ap (λ x. int (break s j) +ᵠ x *ᵠ (u *ᵠ inv p)) (less_one (degree s j) (omega (arith, left-degree)))
        ∙ shift (int (break s j)) p (u *ᵠ inv p)
        ∙ ap (λ x. x -ᵠ u *ᵠ inv p) (sym (place_is s c j (omega arith) (omega (arith, left-degree)) (degree s j)) ∙ place-last s c j (omega arith) (omega (arith, left-degree)))
      where
        shift : (x n d : ℚ) → x +ᵠ (n -ᵠ int (pos 1)) *ᵠ d ≡ x +ᵠ n *ᵠ d -ᵠ d
        shift x n d = ring ℚ-ring (x ∷ n ∷ d ∷ []) (search readsℚ depth 20) (search readsℚ depth 20) refl

    place_after : place_of s (suc j) 1 ≡ int (break s (suc j)) +ᵠ v *ᵠ inv q
    place_after = place_is s c (suc j) h (omega (arith, right-degree)) 1 ∙ ap (λ x. int (break s (suc j)) +ᵠ x) (one-mul (v *ᵠ inv q))

    -- The node balances the two sides.
    abbrev Balanced : Type 0
    Balanced = balance s j *ᵠ (node (join_row s j - 1) -ᵠ (int (break s (suc j)) -ᵠ u *ᵠ inv p)) ≡ algebra.left p q u v *ᵠ (u *ᵠ inv p)

    from_right : Balanced → balance s j *ᵠ (int (break s (suc j)) +ᵠ v *ᵠ inv q -ᵠ node (join_row s j - 1)) ≡ right_size s j 2 *ᵠ (v *ᵠ inv q)
    from_right b = algebra.from_right p q u v (balance s j) (inv p) (inv q) inverse_p inverse_q balance_is (Q.pos_nonzero both_positive) (node (join_row s j - 1)) (int (break s (suc j))) b
        ∙ ap (λ x. x *ᵠ (v *ᵠ inv q)) (sym right_is)

    -- where the first of the two rows, with what the join before has taken, is one part before the ordinate
    from_row : (int (pos 1) -ᵠ taken_before s j) *ᵠ (place_of s j (degree s j - 1) -ᵠ node (join_row s j - 2)) ≡ u *ᵠ inv p
        → int (pos 0) <ᵠ int (pos 1) -ᵠ taken_before s j → Balanced
    unfolding lower_factor
    from_row e l = ap (λ x. balance s j *ᵠ (node (join_row s j - 1) -ᵠ x)) (sym place-before)
        ∙ lever (lower_factor s j) (balance s j) (left_size s j 2) (taken_before s j) (node (join_row s j - 2)) (node (join_row s j - 1)) (place_of s j (degree s j - 1))
        (div_mul (balance s j) (balance s j +ᵠ left_size s j 2 *ᵠ (int (pos 1) -ᵠ taken_before s j))
        (Q.pos_nonzero (Q.pos_add balance_positive (Q.pos_nn (Q.pos_mul left_positive l))))) two_rows
        ∙ ap₂ ◌*ᵠ◌ left_is e

  -- ---- from join to join

  -- a row that stands for an ordinate
  no_chain : (j : ℕ) (h : suc j < segments s) (full : condition_count s j ≡ full_count) → left_conditions s j ≤ degree s j - 1
      → (eqb (degree s j) cubic && eqb (left_conditions s j) full_count) ≡ false → Balanced j h full
  unfolding taken_before
  no_chain j h full few test = from_row j h full
      (ap₂ (λ t x. (int (pos 1) -ᵠ t) *ᵠ (place_of s j (degree s j - 1) -ᵠ x)) (cond_false _ _ test) own ∙ parts)
      (subst (λ t. int (pos 0) <ᵠ int (pos 1) -ᵠ t) (sym (cond_false (upper_factor s (j - 1)) (int (pos 0)) test)) (subst (λ x. int (pos 0) <ᵠ x) one_less-none Q.zero<one))
    where
      one_less-none : int (pos 1) ≡ int (pos 1) -ᵠ int (pos 0)
      one_less-none = ring ℚ-ring [] (search readsℚ depth 20) (search readsℚ depth 20) refl

      big : full_count ≤ degree s j
      big = left-degree j h full

      own : node (join_row s j - 2) ≡ place_of s j (degree s j - 2)
      own = sym (single s a (first_column s j + (degree s j - 2)) (join_row s j - 2) (segment-column s j (degree s j - 2) (omega arith) (omega arith))
          (omega (arith, rows_of, rows_enough j h full))
          (supports.support_ends (let z : rows_before s j + (degree s j - 2) - (right_conditions s j + (degree s j - 2) - (degree s j + 1)) ≡ join_row s j - 2 =
          omega (arith, row_is j h full, right-full j h full, big) in z)
          (let z : rows_before s j + max (degree s j - 2) (left_conditions s j - 1) ≡ join_row s j - 2 = omega (arith, row_is j h full, few, big) in z)
          (supported s a j (degree s j - 2) (omega arith) (omega arith))) nodes)
          ∙ on_line j (degree s j - 2) (omega arith) (omega arith)

      parts : (int (pos 1) -ᵠ int (pos 0)) *ᵠ (place_of s j (degree s j - 1) -ᵠ place_of s j (degree s j - 2)) ≡ int (pos (width s j)) *ᵠ inv (int (pos (degree s j)))
      parts = ap₂ (λ x y. (int (pos 1) -ᵠ int (pos 0)) *ᵠ (x -ᵠ y))
          (place_is s c j (omega arith) (omega (arith, big)) (degree s j - 1)
          ∙ ap (λ x. int (break s j) +ᵠ x *ᵠ (int (pos (width s j)) *ᵠ inv (int (pos (degree s j)))))
          (ap (λ n. int (pos n)) (let z : degree s j - 1 ≡ suc (degree s j - 2) = omega (arith, big) in z) ∙ int_suc (degree s j - 2)))
          (place_is s c j (omega arith) (omega (arith, big)) (degree s j - 2))
          ∙ step (int (break s j)) (int (pos (degree s j - 2))) (int (pos (width s j)) *ᵠ inv (int (pos (degree s j))))
        where
          step : (x n d : ℚ) → (int (pos 1) -ᵠ int (pos 0)) *ᵠ (x +ᵠ (n +ᵠ int (pos 1)) *ᵠ d -ᵠ (x +ᵠ n *ᵠ d)) ≡ d
          step x n d = ring ℚ-ring (x ∷ n ∷ d ∷ []) (search readsℚ depth 30) (search readsℚ depth 30) refl

  -- a row that is the middle one of the join before
  chain : (i : ℕ) (h : suc (suc i) < segments s) (full : condition_count s (suc i) ≡ full_count) (before : condition_count s i ≡ full_count) → degree s (suc i) ≡ cubic
      → Balanced i (omega arith) before → Balanced (suc i) h full
  unfolding taken_before upper_factor first_column conditions_before
  chain i h full before three b = from_row (suc i) h full
      (ap₂ (λ t x. (int (pos 1) -ᵠ t) *ᵠ (x -ᵠ node (join_row s (suc i) - 2))) taken second
      ∙ ap (λ r. (int (pos 1) -ᵠ upper_factor s i) *ᵠ (int (break s (suc i)) +ᵠ d +ᵠ d -ᵠ node r)) same_row
      ∙ mul_cancel (Q.pos_nonzero whole)
      (carried (upper_factor s i) (right_size s i 2) (balance s i) (int (break s (suc i))) d (node (join_row s i - 1)) upper (from_right i (omega arith) before b)))
      (subst (λ t. int (pos 0) <ᵠ int (pos 1) -ᵠ t) (sym taken) rest)
    where
      d : ℚ
      d = int (pos (width s (suc i))) *ᵠ inv (int (pos (degree s (suc i))))

      whole : int (pos 0) <ᵠ right_size s i 2 +ᵠ balance s i
      whole = Q.pos_add (right_positive i (omega arith) before) (Q.pos_nn (balance_positive i (omega arith) before))

      upper : upper_factor s i *ᵠ (right_size s i 2 +ᵠ balance s i) ≡ right_size s i 2
      upper = div_mul (right_size s i 2) (right_size s i 2 +ᵠ balance s i) (Q.pos_nonzero whole)

      taken : taken_before s (suc i) ≡ upper_factor s i
      taken = cond_true _ _ (ap₂ ◌&&◌ (eq-eqb (degree s (suc i)) cubic three) (eq-eqb (condition_count s i) full_count before))
          ∙ ap (upper_factor s) (let z : suc i - 1 ≡ i = omega arith in z)

      rest : int (pos 0) <ᵠ int (pos 1) -ᵠ upper_factor s i
      rest = Q.*_cancel_< (Q.pos_nn whole) (subst (λ x. int (pos 0) *ᵠ (right_size s i 2 +ᵠ balance s i) <ᵠ x) (sym (rested (upper_factor s i) (right_size s i 2) (balance s i) upper))
          (subst (λ x. x <ᵠ balance s i) (sym (nothing (right_size s i 2 +ᵠ balance s i))) (balance_positive i (omega arith) before)))
        where
          rested : (t R B : ℚ) → t *ᵠ (R +ᵠ B) ≡ R → (int (pos 1) -ᵠ t) *ᵠ (R +ᵠ B) ≡ B
          rested t R B e = by_eq ℚ-ring (-ᵠ int (pos 1)) e (ring ℚ-ring (t ∷ R ∷ B ∷ []) (search readsℚ depth 20) (search readsℚ depth 20) refl)

          nothing : (x : ℚ) → int (pos 0) *ᵠ x ≡ int (pos 0)
          nothing x = ring ℚ-ring (x ∷ []) (search readsℚ depth 20) (search readsℚ depth 20) refl

      second : place_of s (suc i) (degree s (suc i) - 1) ≡ int (break s (suc i)) +ᵠ d +ᵠ d
      second = ap (place_of s (suc i)) (let z : degree s (suc i) - 1 ≡ 2 = omega arith in z) ∙ place_is s c (suc i) (omega arith) (omega arith) 2 ∙ twice (int (break s (suc i))) d
        where
          twice : (x d : ℚ) → x +ᵠ int (pos 2) *ᵠ d ≡ x +ᵠ d +ᵠ d
          twice x d = ring ℚ-ring (x ∷ d ∷ []) (search readsℚ depth 20) (search readsℚ depth 20) refl

      same_row : join_row s (suc i) - 2 ≡ join_row s i - 1
      same_row = omega (arith, row_is (suc i) h full, row_is i (omega arith) before, conditions_fewer s (orders_fit s c) i (omega arith), left-degree i (omega arith) before)

      carried : (t R B x d m : ℚ) → t *ᵠ (R +ᵠ B) ≡ R → B *ᵠ (x +ᵠ d -ᵠ m) ≡ R *ᵠ d → (int (pos 1) -ᵠ t) *ᵠ (x +ᵠ d +ᵠ d -ᵠ m) *ᵠ (R +ᵠ B) ≡ d *ᵠ (R +ᵠ B)
      carried t R B x d m e f = by_eq ℚ-ring (-ᵠ (x +ᵠ d +ᵠ d -ᵠ m)) e (by_eq ℚ-ring (int (pos 1)) f
          (ring ℚ-ring (t ∷ R ∷ B ∷ x ∷ d ∷ m ∷ []) (search readsℚ depth 40) (search readsℚ depth 40) refl))

  balanced : (j : ℕ) (h : suc j < segments s) (full : condition_count s j ≡ full_count) → Balanced j h full
  balanced zero h full = no_chain zero h full (omega arith) (and-false (eqb (degree s zero) cubic))
  balanced (suc i) h full = go (λ e. balanced i (omega arith) e) (ℕ_discrete (degree s (suc i)) cubic) (ℕ_discrete (condition_count s i) full_count)
    where
      go : ((e : condition_count s i ≡ full_count) → Balanced i (omega arith) e) → Dec (degree s (suc i) ≡ cubic) → Dec (condition_count s i ≡ full_count) → Balanced (suc i) h full
      go earlier (yes d) (yes e) = chain i h full e d (earlier e)
      go earlier (no d) e = no_chain (suc i) h full (omega (arith, left-degree (suc i) h full, (limits s c).few_conditions i (omega arith)))
          (ap (λ b. b && eqb (condition_count s i) full_count) (ne_eqb (degree s (suc i)) cubic d))
      go earlier (yes d) (no e) = no_chain (suc i) h full (omega (arith, (limits s c).few_conditions i (omega arith)))
          (ap₂ ◌&&◌ (eq-eqb (degree s (suc i)) cubic d) (ne_eqb (condition_count s i) full_count e))

  -- ---- the node, and the ordinates beside it

  module _ (j : ℕ) (h : suc j < segments s) (full : condition_count s j ≡ full_count) where
    spread_is : int (pos (spread s j)) ≡ p j h full *ᵠ q j h full *ᵠ algebra.reach (p j h full) (q j h full) (u j h full) (v j h full)
    spread_is = int_mul (pos (degree s j * degree s (suc j))) (pos ((degree s j - 1) * width s (suc j) + (degree s (suc j) - 1) * width s j))
        ∙ ap₂ ◌*ᵠ◌ (int_mul (pos (degree s j)) (pos (degree s (suc j)))) (reach_is j h full)

    spread_positive : int (pos 0) <ᵠ int (pos (spread s j))
    spread_positive = subst (λ x. int (pos 0) <ᵠ x) (sym spread_is) (Q.pos_mul (Q.pos_mul (p_positive j h full) (q_positive j h full)) (reach_positive j h full))

    pub formula : node (join_row s j - 1) ≡ middle_node s j
    unfolding middle_node
    formula = algebra.middle_is (p j h full) (q j h full) (u j h full) (v j h full) (balance s j) (inv (p j h full)) (inv (q j h full)) (inverse_p j h full) (inverse_q j h full)
        (balance_is j h full) (Q.pos_nonzero (both_positive j h full)) (inv (int (pos (spread s j)))) (node (join_row s j - 1)) (int (break s (suc j)))
        (ap (λ x. x *ᵠ inv (int (pos (spread s j)))) (sym spread_is) ∙ mul_inv (int (pos (spread s j))) (Q.pos_nonzero spread_positive))
        (Q.pos_nonzero (balance_positive j h full)) (balanced j h full)
        ∙ ap₂ (λ x y. int (break s (suc j)) +ᵠ (x -ᵠ y) /ᵠ int (pos (spread s j))) (sym (left_is j h full)) (sym (right_is j h full))

    -- a product above zero with one factor above zero
    positive_factor : (B x y : ℚ) → int (pos 0) <ᵠ B → B *ᵠ x ≡ y → int (pos 0) <ᵠ y → int (pos 0) <ᵠ x
    positive_factor B x y b e l = Q.*_cancel_< (Q.pos_nn b) (subst (λ z. int (pos 0) *ᵠ B <ᵠ z) (sym e ∙ mul_comm B x) (subst (λ z. z <ᵠ y) (sym (zero-mul B)) l))

    pub after-left : place_of s j (degree s j - 1) <ᵠ node (join_row s j - 1)
    after-left = Q.pos_lt (positive_factor (balance s j) _ _ (balance_positive j h full)
        (ap (λ x. balance s j *ᵠ (node (join_row s j - 1) -ᵠ x)) (place-before j h full) ∙ balanced j h full ∙ ap (λ x. x *ᵠ (u j h full *ᵠ inv (p j h full))) (sym (left_is j h full)))
        (Q.pos_mul (left_positive j h full) (part_positive s c j (omega arith) (omega (arith, left-degree j h full)))))

    pub before-right : node (join_row s j - 1) <ᵠ place_of s (suc j) 1
    before-right = Q.pos_lt (positive_factor (balance s j) _ _ (balance_positive j h full)
        (ap (λ x. balance s j *ᵠ (x -ᵠ node (join_row s j - 1))) (place_after j h full) ∙ from_right j h full (balanced j h full))
        (Q.pos_mul (right_positive j h full) (part_positive s c (suc j) h (omega (arith, right-degree j h full)))))

pub middle_nodes_are_formulas : MiddleNodesAreFormulas
middle_nodes_are_formulas s a nodes N j h e = formula s a nodes N j h (ap (λ o. nat_abs (o +ℤ pos 1)) e)
