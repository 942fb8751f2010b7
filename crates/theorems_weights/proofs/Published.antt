-- The weights are the published construction's: step by step the figure's H is the build's table, and its L = H K, whose
-- column k is proportional to the jumps, so that both mix the same rows by the same factors.
use mathlib.Core.Path.{◌≡◌, refl, sym, ◌∙◌, ap, ap₂}
use mathlib.Core.Logic.{◌≢◌, ◌⊎◌, inl, inr}
use mathlib.Core.List.{[], ◌∷◌}
use Prim.Native.Nat.{ℕ, suc, ◌-◌, ◌<◌, ◌≤◌}
use native.Mathlib.Omega.{arith}
use lib.IntN.{pos}
use lib.ListN.{length}
use lib.Seq.{ext_get_or}
use Rattle.base_exact.specs.Rational.{ℚ, ◌+ᵠ◌, ◌*ᵠ◌, -ᵠ◌, ◌-ᵠ◌, int}
use Rattle.base_exact.specs.Order.{Nn}
use Rattle.base_exact.specs.Sum.{sum}
use Rattle.base_exact.specs.Tabulate.{tab}
use Rattle.base_exact.proofs.Decide.{le_or_lt}
use Rattle.base_exact.proofs.Ring.{ring, reads}
use Rattle.base_exact.proofs.Rational.{ℚ-ring, mul-zero, zero-mul, zero-add}
use Rattle.base_exact.proofs.Sum.{sum_ext, sum-add, sum_mul}
use Rattle.base_exact.proofs.Tabulate.{tab_length, tab_get_d}
use Rattle.base_outcome.specs.Outcome.{answer}
use Rattle.spec_spline.specs.Space.{Space, segments, column_count, condition_count}
use Rattle.spec_spline.specs.Conditions.{conditions}
use Rattle.spec_spline.specs.Table.{Row, Table, entry, row, cell, identity}
use Rattle.spec_spline.specs.Step.{step}
use Rattle.spec_spline.specs.Build.{order_steps, join_steps, weights}
use Rattle.spec_published.specs.Published.{constraint, constraints, nullspace, product, column, Matrices, constrain, for, smooth, extraction}
use Rattle.spec_spline.proofs.Legal.{Legal}
use Rattle.spec_spline.proofs.Table.{entry_past, cell-past}
use Rattle.theorems_weights.specs.PublishedBasis.{WeightsArePublished}
use Rattle.theorems_weights.proofs.NullSpace.{Jumps, mixed, last-factor}
use Rattle.spec_spline.proofs.Shape.{Wide}
use Rattle.spec_spline.proofs.Induction.{joins_hold}
use Rattle.theorems_weights.proofs.Stepped.{values, values-past, Stepped}
use Rattle.theorems_weights.proofs.Basis.{Basis}
use Rattle.theorems_weights.proofs.Identity.{identity_basis}
use Rattle.theorems_weights.proofs.Built.{Done, order_stepped, order-kept, join_done, nothing_done, built}
use Rattle.theorems_weights.proofs.Derivative.{ratio, ratio_nonzero, constraints_are_conditions}
use Rattle.theorems_weights.proofs.Bidiagonal.{nullspace-rows, nullspace_mixes}
use Rattle.theorems_weights.proofs.PublishedBasis.{cell-beside}

-- ---- tables by their cells

table_ext : (columns : ℕ) (t t' : Table) → Wide columns t → Wide columns t' → length t ≡ length t' → ((r c : ℕ) → r < length t → c < columns → cell t r c ≡ cell t' r c) → t ≡ t'
table_ext columns t t' W W' e h = ext_get_or [] t t' e (λ r k. ext_get_or (int (pos 0)) (row t r) (row t' r) (W.each r k ∙ sym (W'.each r (rw e at k))) (λ c l. h r c k (rw (W.each r k) at l)))

module _ (columns : ℕ) (a b : Table) where
  product_length : length (product columns a b) ≡ length a
  unfolding product
  product_length = tab_length (length a) _

  product_wide : Wide columns (product columns a b)
  unfolding product
  product_wide = record { each = λ r h. ap length (tab_get_d (length a) (λ r. tab columns (λ c. sum (length b) (λ i. cell a r i *ᵠ cell b i c))) r [] (rw product_length at h)) ∙ tab_length columns _ }

  product-cell : (r c : ℕ) → r < length a → c < columns → cell (product columns a b) r c ≡ sum (length b) (λ i. cell a r i *ᵠ cell b i c)
  unfolding product
  product-cell r c h k = ap (λ q. entry q c) (tab_get_d (length a) (λ r. tab columns (λ c. sum (length b) (λ i. cell a r i *ᵠ cell b i c))) r [] h)
      ∙ tab_get_d columns (λ c. sum (length b) (λ i. cell a r i *ᵠ cell b i c)) c (int (pos 0)) k

column_length : (a : Table) (k : ℕ) → length (column a k) ≡ length a
column_length a k = tab_length (length a) (λ r. cell a r k)

column-entry : (a : Table) (k i : ℕ) → entry (column a k) i ≡ cell a i k
column-entry a k i = go (le_or_lt (length a) i)
  where
    go : (length a ≤ i) ⊎ (i < length a) → entry (column a k) i ≡ cell a i k
    go (inl h) = entry_past (column a k) _ (rw (column_length a k) h) ∙ sym (cell-past a _ k h)
    go (inr h) = tab_get_d (length a) (λ r. cell a r k) i (int (pos 0)) h

constraints_length : (s : Space) (i : ℕ) → length (constraints s i) ≡ column_count s
unfolding constraints
constraints_length s i = tab_length (column_count s) _

constraints-cell : (s : Space) (i c k : ℕ) → c < column_count s → k < condition_count s i → cell (constraints s i) c k ≡ constraint s i c k
unfolding constraints
constraints-cell s i c k h l =
    ap (λ q. entry q k) (tab_get_d (column_count s) (λ c. tab (condition_count s i) (λ k. constraint s i c k)) c [] h)
    ∙ tab_get_d (condition_count s i) (λ k. constraint s i c k) k (int (pos 0)) l

-- ---- one step

-- Where the orders of a join start: H, and L = H K.
abbrev pub started : Space → ℕ → Table → Matrices
started s j h = record { H = h; L = product (condition_count s j) h (constraints s j) }

module _ (s : Space) (L : Legal s) (j k : ℕ) (h : j < segments s - 1) (l : k < condition_count s j) (t : Table) where
  -- L = H K
  abbrev constrained : Table → Table
  constrained u = product (condition_count s j) u (constraints s j)

  constrained_cell : (u : Table) (r m : ℕ) → r < length u → m < condition_count s j → cell (constrained u) r m ≡ sum (column_count s) (λ c. cell u r c *ᵠ constraint s j c m)
  constrained_cell u r m p q = product-cell (condition_count s j) u (constraints s j) r m p q ∙ ap (λ n. sum n (λ i. cell u r i *ᵠ cell (constraints s j) i m)) (constraints_length s j)
      ∙ sum_ext (column_count s) (λ c o. ap (λ v. cell u r c *ᵠ v) (constraints-cell s j c m o q))

  v : Row
  v = column (constrained t) k

  v_size : length v ≡ length t
  unfolding v
  v_size = column_length (constrained t) k ∙ product_length (condition_count s j) t (constraints s j)

  v_proportional : (i : ℕ) → entry v i ≡ ratio s j k *ᵠ values (conditions s j k) t i
  unfolding v
  v_proportional i = column-entry (constrained t) k i ∙ go (le_or_lt (length t) i)
    where
      go : (length t ≤ i) ⊎ (i < length t) → cell (constrained t) i k ≡ ratio s j k *ᵠ values (conditions s j k) t i
      go (inl p) = cell-past (constrained t) _ k (rw (product_length (condition_count s j) t (constraints s j)) p)
          ∙ sym (ap (λ u. ratio s j k *ᵠ u) (values-past (conditions s j k) t i p) ∙ mul-zero (ratio s j k))
      go (inr p) = constrained_cell t i k p l
          ∙ constraints_are_conditions s j k (cell t i) (omega arith) (let a = L.below-left-degree j h in omega arith)
          (let a = L.below-right-degree j h in omega arith) (L.positive_width j (omega arith)) (L.positive_width (suc j) (omega arith))

  v_nonzero : ratio s j k ≢ int (pos 0)
  v_nonzero = ratio_nonzero s j k (let a = L.below-left-degree j h in omega arith) (L.positive_width j (omega arith)) (L.positive_width (suc j) (omega arith))

  -- the rows of the null_space mix neighbours by the factors of these jumps
  module _ (f e : ℕ) (w : ℕ → ℚ) (G : Jumps (length t) f e (values (conditions s j k) t) w) where
    null_rows : suc (length (nullspace v)) ≡ length t
    null_rows = let b = G.below in omega (arith, nullspace-rows v (length t) f e (values (conditions s j k) t) w (ratio s j k) G v_size v_proportional v_nonzero)

    null_mixes : (x : ℕ → ℚ) (r : ℕ) → r < length (nullspace v) → sum (length t) (λ i. cell (nullspace v) r i *ᵠ x i) ≡ mixed w x r
    null_mixes x r p = nullspace_mixes v (length t) f e (values (conditions s j k) t) w (ratio s j k) G v_size v_proportional v_nonzero x r (omega (arith, null_rows))

    -- so the figure's next H is what a step with these factors leaves
    abbrev next : Table
    next = product (column_count s) (nullspace v) t

    next-cells : Wide (column_count s) t → (i c : ℕ) → cell next i c ≡ mixed w (λ r. cell t r c) i
    unfolding mixed
    next-cells W i c = go (le_or_lt (length (nullspace v)) i) (le_or_lt (column_count s) c)
      where
        zeros : {x y : ℚ} (b : ℚ) → x ≡ int (pos 0) → y ≡ int (pos 0) → x +ᵠ b *ᵠ y ≡ int (pos 0)
        zeros b p q = ap₂ (λ u v. u +ᵠ b *ᵠ v) p q ∙ zero-add (b *ᵠ int (pos 0)) ∙ mul-zero b

        rows : length next ≡ length (nullspace v)
        rows = product_length (column_count s) (nullspace v) t

        go : (length (nullspace v) ≤ i) ⊎ (i < length (nullspace v)) → (column_count s ≤ c) ⊎ (c < column_count s)
            → cell next i c ≡ w i *ᵠ cell t i c +ᵠ (int (pos 1) -ᵠ w (suc i)) *ᵠ cell t (suc i) c
        go (inl p) q = cell-past next i c (rw rows p)
            ∙ sym (zeros (int (pos 1) -ᵠ w (suc i)) (ap (λ u. u *ᵠ cell t i c) (last-factor G i (let b = G.below in omega (arith, null_rows))) ∙ zero-mul (cell t i c))
            (cell-past t (suc i) c (omega (arith, null_rows))))
        go (inr p) (inl q) = cell-beside (column_count s) next (product_wide (column_count s) (nullspace v) t) i c q
            ∙ sym (zeros (int (pos 1) -ᵠ w (suc i)) (ap (λ u. w i *ᵠ u) (cell-beside (column_count s) t W i c q) ∙ mul-zero (w i)) (cell-beside (column_count s) t W (suc i) c q))
        go (inr p) (inr q) = product-cell (column_count s) (nullspace v) t i c p q ∙ null_mixes (λ r. cell t r c) i p

    pub constrain_stepped : Wide (column_count s) t → ((i : ℕ) → Nn (w i)) → ((i : ℕ) → Nn (int (pos 1) -ᵠ w i)) → Stepped (conditions s j k) (column_count s) t (constrain s j k (started s j t)).H
    unfolding constrain v
    constrain_stepped W low high = record {
      f = f;
      l = e;
      w = w;
      null = G;
      not_negative = low;
      at_most_one = high;
      rows = ap suc (product_length (column_count s) (nullspace v) t) ∙ null_rows;
      wide = product_wide (column_count s) (nullspace v) t;
      cells = next-cells W;
    }

  -- after such a step both matrices are those of the next order
  module _ (t' : Table) (S : Stepped (conditions s j k) (column_count s) t t') where
    rows_agree : length (nullspace v) ≡ length t'
    rows_agree = omega (arith, null_rows S.f S.l S.w S.null, S.rows)

    next-H : product (column_count s) (nullspace v) t ≡ t'
    next-H =
        table_ext (column_count s) (product (column_count s) (nullspace v) t) t' (product_wide (column_count s) (nullspace v) t) S.wide
        (product_length (column_count s) (nullspace v) t ∙ rows_agree)
        (λ r c p q. let p' : r < length (nullspace v) = rw (product_length (column_count s) (nullspace v) t) at p in
        product-cell (column_count s) (nullspace v) t r c p' q ∙ null_mixes S.f S.l S.w S.null (λ i. cell t i c) r p' ∙ sym (S.cells r c))

    next-L : product (condition_count s j) (nullspace v) (constrained t) ≡ constrained t'
    unfolding mixed
    next-L =
        table_ext (condition_count s j) (product (condition_count s j) (nullspace v) (constrained t)) (constrained t')
        (product_wide (condition_count s j) (nullspace v) (constrained t)) (product_wide (condition_count s j) t' (constraints s j))
        (product_length (condition_count s j) (nullspace v) (constrained t) ∙ rows_agree ∙ sym (product_length (condition_count s j) t' (constraints s j)))
        (λ r m p q. let p' : r < length (nullspace v) = rw (product_length (condition_count s j) (nullspace v) (constrained t)) at p in at r m p' (rw rows_agree at p') q)
      where
        at : (r m : ℕ) → r < length (nullspace v) → r < length t' → m < condition_count s j → cell (product (condition_count s j) (nullspace v) (constrained t)) r m ≡ cell (constrained t') r m
        at r m p p' q = let n = S.rows in
            product-cell (condition_count s j) (nullspace v) (constrained t) r m p q
            ∙ ap (λ n. sum n (λ i. cell (nullspace v) r i *ᵠ cell (constrained t) i m)) (product_length (condition_count s j) t (constraints s j))
            ∙ null_mixes S.f S.l S.w S.null (λ i. cell (constrained t) i m) r p
            ∙ ap₂ (λ a b. S.w r *ᵠ a +ᵠ (int (pos 1) -ᵠ S.w (suc r)) *ᵠ b) (constrained_cell t r m (omega arith) q) (constrained_cell t (suc r) m (omega arith) q)
            ∙ ap₂ ◌+ᵠ◌ (sym (sum_mul (column_count s) (S.w r) (λ c. cell t r c *ᵠ constraint s j c m)))
            (sym (sum_mul (column_count s) (int (pos 1) -ᵠ S.w (suc r)) (λ c. cell t (suc r) c *ᵠ constraint s j c m)))
            ∙ sym (sum-add (column_count s) (λ c. S.w r *ᵠ (cell t r c *ᵠ constraint s j c m)) (λ c. (int (pos 1) -ᵠ S.w (suc r)) *ᵠ (cell t (suc r) c *ᵠ constraint s j c m)))
            ∙ sum_ext (column_count s) (λ c o. collect (S.w r) (int (pos 1) -ᵠ S.w (suc r)) (cell t r c) (cell t (suc r) c) (constraint s j c m)
            ∙ ap (λ u. u *ᵠ constraint s j c m) (sym (S.cells r c)))
            ∙ sym (constrained_cell t' r m p' q)
          where
            collect : (a b x y z : ℚ) → a *ᵠ (x *ᵠ z) +ᵠ b *ᵠ (y *ᵠ z) ≡ (a *ᵠ x +ᵠ b *ᵠ y) *ᵠ z
            collect a b x y z = ring ℚ-ring (a ∷ b ∷ x ∷ y ∷ z ∷ []) (search reads depth 20) (search reads depth 20) refl

    pub constrain_is : constrain s j k (started s j t) ≡ started s j t'
    unfolding constrain v
    constrain_is = λ i. record { H = next-H i; L = next-L i }

-- ---- the loops

module _ (s : Space) (L : Legal s) where
  -- the construction's table after the first j joins
  abbrev smoothed : ℕ → Table
  smoothed j = for j (smooth s) (identity (column_count s))

  -- after the joins before this one and the first k orders at it, the construction has the build's table
  record Same (j k : ℕ) (t : Table) : Type 0 where
    basis : Basis (Done s j k) (column_count s) t
    same : for k (constrain s j) (started s j (smoothed j)) ≡ started s j t

  step_same : (j k : ℕ) (t t' : Table) → j < segments s - 1 → k < condition_count s j → Same j k t → step j (conditions s j k) t ≡ answer t' → Same j (suc k) t'
  unfolding for
  step_same j k t t' h l P e = let S = order_stepped s L j k h l t t' P.basis e in
      record { basis = order-kept s L j k t t' P.basis S; same = ap (constrain s j k) P.same ∙ constrain_is s L j k h l t t' S }

  next-same : (j : ℕ) (t : Table) → j < segments s - 1 → Same j (condition_count s j) t → Same (suc j) 0 t
  unfolding smooth for
  next-same j t h P = record { basis = join_done s j P.basis; same = ap (λ m. started s (suc j) m.H) P.same }

  extraction_is : (t : Table) → weights s ≡ answer t → extraction s ≡ t
  unfolding weights join_steps order_steps extraction for
  extraction_is t e = ap (λ m. m.H) (joins_hold s (λ j k. step j (conditions s j k)) Same step_same next-same (segments s - 1) (omega arith)
      (record { basis = identity_basis (column_count s) (Done s 0 0) (nothing_done s); same = refl }) e).same

pub weights_are_published : WeightsArePublished
weights_are_published s a = let b = built s a.table a.is in sym (extraction_is s b.legal_space a.table b.weights_are)
