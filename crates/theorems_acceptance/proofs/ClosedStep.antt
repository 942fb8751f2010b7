-- Formulas through one step: a step at a later join keeps the weights that an earlier one left, but for the last weights where
-- the segment between the two joins is cubic and both have order 2; a step at the join itself makes them.
use mathlib.Core.Path.{◌≡◌, refl, sym, ◌∙◌, ap, ap₂, subst}
use mathlib.Core.Logic.{◌≢◌, ◌⊎◌, inl, inr}
use mathlib.Core.Bool.{cond, ◌&&◌}
use mathlib.Core.List.{[], ◌∷◌}
use Prim.Native.Nat.{ℕ, suc, ◌+◌, ◌-◌, ◌<◌, ◌≤◌}
use native.Mathlib.Omega.{arith}
use native.Mathlib.Decide.{ℕ_discrete}
use native.Mathlib.Nat.{eq-or-lt_of_le}
use borrow.Author.Tests.{eq-eqb, ne_eqb}
use lib.Dec.{eqb}
use lib.IntN.{pos}
use Rattle.base_exact.specs.Rational.{ℚ, ◌+ᵠ◌, ◌*ᵠ◌, -ᵠ◌, ◌-ᵠ◌, int}
use Rattle.base_exact.specs.Sum.{sum}
use Rattle.base_exact.proofs.Decide.{cond_true, cond_false, and-false}
use Rattle.base_exact.proofs.Ring.{ring}
use Rattle.base_exact.proofs.Rational.{ℚ-ring, readsℚ, one-mul, mul-one, zero-add}
use Rattle.base_exact.proofs.Sum.{sum-last, sum-zero}
use Rattle.spec_spline.specs.Space.{Space, segments, degree, first_column}
use Rattle.spec_spline.specs.Table.{Table, cell}
use Rattle.theorems_weights.proofs.NullSpace.{mixed}
use Rattle.theorems_acceptance.specs.ClosedForms.{share, upper_factor, lower_factor, cubic}
use Rattle.theorems_stages.specs.Counts.{full_count}
use Rattle.theorems_stages.proofs.Rows.{first_row, lowest, highest, Stage, top_highest, below_top_highest, next-highest}
use Rattle.theorems_stages.proofs.RowMoves.{first_spanned, first-kept, before-join, far_top, right_low, right-high}
use Rattle.theorems_stages.proofs.Stages.{met, met_here, met_after, next_met, Compared, before, same, after, compared, At, room, room', few, spanning}
use Rattle.theorems_stages.proofs.JumpSums.{summed, on_left}
use Rattle.theorems_stages.proofs.Reached.{Reached, Advance}
use Rattle.theorems_acceptance.proofs.LowJumps.{unit}
use Rattle.theorems_acceptance.proofs.StepFactors.{b_is, factor_at_one}
use Rattle.theorems_acceptance.proofs.Closed.{top, over, Closed, past, join-weight, over_none, lower_is, upper_is}

module _ {s : Space} {join k : ℕ} {t t' : Table} (A : At s join k) (R : Reached s join k t) (N : Advance s join k t t')
    (Q : Closed s (met s join k) t) where
  abbrev p : ℕ → ℕ
  p = degree s

  abbrev e : ℕ → ℕ
  e = met s join k

  abbrev e' : ℕ → ℕ
  e' = met s join (suc k)

  abbrev f : ℕ
  f = first_spanned p e join k

  abbrev w : ℕ → ℚ
  w = N.stepped.w

  S : Stage p e join k
  S = (spanning A).stage

  room-left : k < p join
  room-left = room A

  room-right : k < p (suc join)
  room-right = room' A

  few_orders : k ≤ 2
  few_orders = few A

  -- ---- a new entry

  -- rows before f stay
  kept : (r c : ℕ) → suc r ≤ f → cell t' r c ≡ cell t r c
  unfolding mixed
  kept r c b = N.stepped.cells r c ∙ ap₂ (λ x y. x *ᵠ cell t r c +ᵠ (int (pos 1) -ᵠ y) *ᵠ cell t (suc r) c) (N.mixing.full r (omega arith)) (N.mixing.full (suc r) b)
      ∙ ring ℚ-ring (cell t r c ∷ cell t (suc r) c ∷ []) (search readsℚ depth 20) (search readsℚ depth 20) refl

  -- a column's last weight takes its row's factor
  taken_by : (r c : ℕ) → cell t (suc r) c ≡ int (pos 0) → cell t' r c ≡ w r *ᵠ cell t r c
  unfolding mixed
  taken_by r c z = N.stepped.cells r c ∙ ap (λ y. w r *ᵠ cell t r c +ᵠ (int (pos 1) -ᵠ w (suc r)) *ᵠ y) z
      ∙ ring ℚ-ring (w r ∷ w (suc r) ∷ cell t r c ∷ []) (search readsℚ depth 20) (search readsℚ depth 20) refl

  -- so it stays in rows up to f
  kept-last : (r c : ℕ) → r ≤ f → cell t (suc r) c ≡ int (pos 0) → cell t' r c ≡ cell t r c
  kept-last r c b z = taken_by r c z ∙ ap (λ x. x *ᵠ cell t r c) (N.mixing.full r b) ∙ one-mul (cell t r c)

  -- ---- earlier joins

  same_count : (i : ℕ) → i ≢ join → e' i ≡ e i
  same_count i n = (next_met s join k).same i n

  same_top : (i : ℕ) → i ≤ join → top s e' i ≡ top s e i
  same_top i b = ap (λ n. n + p i) (first-kept p (next_met s join k) i b)

  -- where the last row of an earlier join stands, after n conditions there
  near_top : (i : ℕ) → suc i ≡ join → first_row p e join + e i ≡ suc (top s e i)
  near_top i z = (before-join (spanning A) i z).0

  low_top : (i n : ℕ) → i < join → e i ≡ n → n ≤ 2 → top s e i ≤ f
  unfolding first_spanned
  low_top i n b c d = go (eq-or-lt_of_le b)
    where
      go : (suc i ≡ join) ⊎ (suc i < join) → top s e i ≤ f
      go (inl z) = omega (arith, near_top i z, room-left)
      go (inr z) = far_top (spanning A) i z

  below_top : (i : ℕ) → i < join → e i ≡ full_count → (suc (top s e i - 2) ≤ f) × (top s e i - 1 ≤ f)
  unfolding first_spanned
  below_top i b c = go (eq-or-lt_of_le b)
    where
      go : (suc i ≡ join) ⊎ (suc i < join) → (suc (top s e i - 2) ≤ f) × (top s e i - 1 ≤ f)
      go (inl z) = let x = near_top i z in (omega (arith, room-left), omega (arith, room-left))
      go (inr z) = let x = far_top (spanning A) i z in let y = S.left i in (omega arith, omega arith)

  -- what is left of a last weight
  over-same : (i : ℕ) → suc i ≢ join → over s e' i ≡ over s e i
  unfolding over
  over-same i n = ap (λ c. cond (eqb (p (suc i)) cubic && eqb c full_count) (lower_factor s (suc i)) (int (pos 1))) (same_count (suc i) n)

  over_new : (i : ℕ) → suc i ≡ join → p join ≡ cubic → k ≡ 2 → over s e' i ≡ lower_factor s join
  unfolding over
  over_new i z d c = cond_true _ _ (ap₂ ◌&&◌ (eq-eqb (p (suc i)) cubic (ap p z ∙ d)) (eq-eqb (e' (suc i)) full_count (ap e' z ∙ met_here s join (suc k) ∙ ap suc c))) ∙ ap (lower_factor s) z

  over_still : (i : ℕ) → suc i ≡ join → (p join ≢ cubic) ⊎ (k ≢ 2) → over s e' i ≡ int (pos 1)
  unfolding over
  over_still i z (inl d) = cond_false _ _ (ap (λ b. b && eqb (e' (suc i)) full_count) (ne_eqb (p (suc i)) cubic (λ y. d (ap p (sym z) ∙ y))))
  over_still i z (inr c) =
      cond_false _ _ (ap (λ b. eqb (p (suc i)) cubic && b) (ne_eqb (e' (suc i)) full_count (λ y. c (let v = ap e' z in let x = met_here s join (suc k) in omega arith)))
      ∙ and-false (eqb (p (suc i)) cubic))

  -- the last weight on a column that ends in the last row of an earlier join
  last_moves : (i j u : ℕ) (q : ℚ) → i < join → e i ≡ full_count → j < segments s → u ≤ p j → highest p e j u ≡ top s e i
      → cell t (top s e i) (first_column s j + u) ≡ over s e i *ᵠ q → cell t' (top s e i) (first_column s j + u) ≡ over s e' i *ᵠ q
  unfolding first_spanned
  last_moves i j u q b c x y v old = go (eq-or-lt_of_le b)
    where
      still : top s e i ≤ f → over s e i ≡ over s e' i → cell t' (top s e i) (first_column s j + u) ≡ over s e' i *ᵠ q
      still d o = kept-last (top s e i) (first_column s j + u) d (past A R N Q j u (top s e i) x y v) ∙ old ∙ ap (λ z. z *ᵠ q) o

      near : suc i ≡ join → Dec (p join ≡ cubic) → Dec (k ≡ 2) → cell t' (top s e i) (first_column s j + u) ≡ over s e' i *ᵠ q
      near z (yes d) (yes a) = taken_by (top s e i) (first_column s j + u) (past A R N Q j u (top s e i) x y v)
          ∙ ap₂ ◌*ᵠ◌ (ap w (let o = near_top i z in let g : top s e i ≡ suc f = omega arith in g) ∙ lower_is A R N Q a)
          (old ∙ ap (λ o. o *ᵠ q) (over_none A R N Q i z) ∙ one-mul q) ∙ ap (λ o. o *ᵠ q) (sym (over_new i z d a))
      near z (no d) a = still (let o = near_top i z in let r = (before-join (spanning A) i z).1 in omega (arith, few_orders)) (over_none A R N Q i z ∙ sym (over_still i z (inl d)))
      near z (yes d) (no a) = still (let o = near_top i z in let r = (before-join (spanning A) i z).1 in omega (arith, few_orders)) (over_none A R N Q i z ∙ sym (over_still i z (inr a)))

      go : (suc i ≡ join) ⊎ (suc i < join) → cell t' (top s e i) (first_column s j + u) ≡ over s e' i *ᵠ q
      go (inl z) = near z (ℕ_discrete (p join) cubic) (ℕ_discrete k 2)
      go (inr z) = still (far_top (spanning A) i z) (sym (over-same i (λ g. omega arith)))

  -- ---- this join

  own_top : top s e' join ≡ f + k
  unfolding first_spanned
  own_top = same_top join (omega arith) ∙ omega (arith, room-left)

  fresh : over s e' join ≡ int (pos 1)
  unfolding over
  fresh =
      cond_false _ _ (ap (λ b. eqb (p (suc join)) cubic && b) (ne_eqb (e' (suc join)) full_count (λ y. omega (arith, met_after s join (suc k) (suc join) (omega arith))))
      ∙ and-false (eqb (p (suc join)) cubic))

  -- the last ordinate before the join, alone at order 1
  own_unit : k ≡ 1 → cell t (suc f) (first_column s join + p join) ≡ int (pos 1)
  unfolding lowest first_spanned
  own_unit z = (unit A R join (p join) (omega arith) (omega arith) (suc f) (omega (arith, S.here, room-left)) (top_highest p e S.right join ∙ omega (arith, room-left))).one

  own-once : k ≡ 1 → cell t' (f + k) (first_column s join + p join) ≡ share s join
  unfolding first_spanned
  own-once z = ap (λ r. cell t' r (first_column s join + p join)) (let y : f + k ≡ suc f = omega arith in y)
      ∙ taken_by (suc f) _ (past A R N Q join (p join) (suc f) (omega arith) (omega arith) (top_highest p e S.right join ∙ omega (arith, room-left)))
      ∙ ap₂ ◌*ᵠ◌ (factor_at_one A R N z) (own_unit z) ∙ mul-one (share s join)

  -- at order 2: the first row of the join's ordinate
  second-weight : k ≡ 2 → cell t (suc f) (first_column s join + p join) ≡ int (pos 1) -ᵠ share s join
  unfolding on_left summed lowest first_spanned
  second-weight z = sym (zero-add _) ∙ ap (λ q. q +ᵠ cell t (suc f) (first_column s join + p join)) (sym none) ∙ sym (sum-last (suc f) (λ i. cell t i (first_column s join + p join)))
      ∙ ap (λ u. sum (suc (suc f)) (λ i. cell t i (first_column s join + u))) (let y : p join ≡ p join - k + 2 = omega (arith, room-left) in y) ∙ b_is A R N z (join-weight A R N Q z)
    where
      none : sum (suc f) (λ i. cell t i (first_column s join + p join)) ≡ int (pos 0)
      none = sum-zero (suc f) (λ i b. (R.shape.supported join (p join) (omega arith) (omega arith)).below i (omega (arith, S.here, room-left)))

  own_first : k ≡ 2 → cell t' f (first_column s join + p join) ≡ (int (pos 1) -ᵠ lower_factor s join) *ᵠ (int (pos 1) -ᵠ share s join)
  unfolding mixed lowest first_spanned
  own_first z =
      N.stepped.cells f _ ∙ ap₂ (λ x y. w f *ᵠ x +ᵠ (int (pos 1) -ᵠ w (suc f)) *ᵠ y)
      ((R.shape.supported join (p join) (omega arith) (omega arith)).below f (omega (arith, S.here, room-left))) (second-weight z)
      ∙ ap (λ x. w f *ᵠ int (pos 0) +ᵠ (int (pos 1) -ᵠ x) *ᵠ (int (pos 1) -ᵠ share s join)) (lower_is A R N Q z)
      ∙ ring ℚ-ring (w f ∷ lower_factor s join ∷ share s join ∷ []) (search readsℚ depth 30) (search readsℚ depth 30) refl

  own-last : k ≡ 2 → cell t' (f + k) (first_column s join + p join) ≡ upper_factor s join *ᵠ share s join
  unfolding first_spanned
  own-last z = ap (λ r. cell t' r (first_column s join + p join)) (let y : f + k ≡ suc (suc f) = omega arith in y)
      ∙ taken_by (suc (suc f)) _ (past A R N Q join (p join) (suc (suc f)) (omega arith) (omega arith) (top_highest p e S.right join ∙ omega (arith, room-left)))
      ∙ ap₂ ◌*ᵠ◌ (upper_is A R N Q z) (ap (λ u. cell t (suc (suc f)) (first_column s join + u)) (let y : p join ≡ p join - k + 2 = omega (arith, room-left) in y) ∙ join-weight A R N Q z)

  own_near : k ≡ 2 → cell t' (suc f) (first_column s join + (p join - 1)) ≡ lower_factor s join
  unfolding lowest first_spanned
  own_near z = taken_by (suc f) _ (past A R N Q join (p join - 1) (suc f) (omega arith) (omega arith) ends)
      ∙ ap₂ ◌*ᵠ◌ (lower_is A R N Q z) (unit A R join (p join - 1) (omega arith) (omega arith) (suc f) (omega (arith, S.here, room-left)) ends).one ∙ mul-one (lower_factor s join)
    where
      ends : highest p e join (p join - 1) ≡ suc f
      ends = below_top_highest p e S.right join (omega (arith, room-left)) ∙ omega (arith, room-left)

  own-beyond : k ≡ 2 → cell t' (f + k) (first_column s (suc join) + 1) ≡ upper_factor s join
  own-beyond z = ap (λ r. cell t' r (first_column s (suc join) + 1)) (let y : f + k ≡ suc (suc f) = omega arith in y)
      ∙ taken_by (suc (suc f)) _ (past A R N Q (suc join) 1 (suc (suc f)) (omega arith) (omega (arith, room-right)) ends)
      ∙ ap₂ ◌*ᵠ◌ (upper_is A R N Q z)
      (unit A R (suc join) 1 (omega arith) (omega (arith, room-right)) (suc (suc f)) (right_low (spanning A) 1 (omega arith) ∙ omega arith) ends).one
      ∙ mul-one (upper_factor s join)
    where
      ends : highest p e (suc join) 1 ≡ suc (suc f)
      ends = right-high (spanning A) 1 (omega arith) ∙ omega arith

  -- ---- all joins

  gone : (i n : ℕ) → join < i → e' i ≡ n → 0 < n → ⊥
  gone i n b z q = omega (arith, met_after s join (suc k) i b)

  count-here : (i n : ℕ) → i ≡ join → e' i ≡ suc n → k ≡ n
  count-here i n z y = omega (arith, ap e' z, met_here s join (suc k))

  old-count : (i n : ℕ) → i < join → e' i ≡ n → e i ≡ n
  old-count i n b z = sym (same_count i (λ y. omega arith)) ∙ z

  new_once : (i : ℕ) → suc i < segments s → e' i ≡ 2 → cell t' (top s e' i) (first_column s i + p i) ≡ share s i
  new_once i a z = go (compared i join)
    where
      go : Compared i join → cell t' (top s e' i) (first_column s i + p i) ≡ share s i
      go (before b) =
          ap (λ r. cell t' r (first_column s i + p i)) (same_top i (omega arith))
          ∙ kept-last (top s e i) _ (low_top i 2 b (old-count i 2 b z) (omega arith))
          (past A R N Q i (p i) (top s e i) (omega arith) (omega arith) (top_highest p e S.right i)) ∙ Q.once i a (old-count i 2 b z)
      go (same y) = subst (λ j. cell t' (top s e' j) (first_column s j + p j) ≡ share s j) (sym y) (ap (λ r. cell t' r (first_column s join + p join)) own_top ∙ own-once (count-here i 1 y z))
      go (after b) = absurd (gone i 2 b z (omega arith))

  new_first : (i : ℕ) → suc i < segments s → e' i ≡ full_count → cell t' (top s e' i - 2) (first_column s i + p i) ≡ (int (pos 1) -ᵠ lower_factor s i) *ᵠ (int (pos 1) -ᵠ share s i)
  new_first i a z = go (compared i join)
    where
      go : Compared i join → cell t' (top s e' i - 2) (first_column s i + p i) ≡ (int (pos 1) -ᵠ lower_factor s i) *ᵠ (int (pos 1) -ᵠ share s i)
      go (before b) =
          ap (λ r. cell t' (r - 2) (first_column s i + p i)) (same_top i (omega arith)) ∙ kept (top s e i - 2) _ (below_top i b (old-count i full_count b z)).0
          ∙ Q.first i a (old-count i full_count b z)
      go (same y) = subst (λ j. cell t' (top s e' j - 2) (first_column s j + p j) ≡ (int (pos 1) -ᵠ lower_factor s j) *ᵠ (int (pos 1) -ᵠ share s j)) (sym y)
          (ap (λ r. cell t' r (first_column s join + p join)) (let v = count-here i 2 y z in let o = own_top in let g : top s e' join - 2 ≡ f = omega arith in g) ∙ own_first (count-here i 2 y z))
      go (after b) = absurd (gone i full_count b z (omega arith))

  new_last : (i : ℕ) → suc i < segments s → e' i ≡ full_count → cell t' (top s e' i) (first_column s i + p i) ≡ over s e' i *ᵠ (upper_factor s i *ᵠ share s i)
  new_last i a z = go (compared i join)
    where
      go : Compared i join → cell t' (top s e' i) (first_column s i + p i) ≡ over s e' i *ᵠ (upper_factor s i *ᵠ share s i)
      go (before b) =
          ap (λ r. cell t' r (first_column s i + p i)) (same_top i (omega arith))
          ∙ last_moves i i (p i) (upper_factor s i *ᵠ share s i) b (old-count i full_count b z) (omega arith) (omega arith) (top_highest p e S.right i)
          (Q.last i a (old-count i full_count b z))
      go (same y) = subst (λ j. cell t' (top s e' j) (first_column s j + p j) ≡ over s e' j *ᵠ (upper_factor s j *ᵠ share s j)) (sym y)
          (ap (λ r. cell t' r (first_column s join + p join)) own_top ∙ own-last (count-here i 2 y z) ∙ sym (ap (λ o. o *ᵠ (upper_factor s join *ᵠ share s join)) fresh ∙ one-mul _))
      go (after b) = absurd (gone i full_count b z (omega arith))

  new_near : (i : ℕ) → suc i < segments s → e' i ≡ full_count → cell t' (top s e' i - 1) (first_column s i + (p i - 1)) ≡ lower_factor s i
  new_near i a z = go (compared i join)
    where
      go : Compared i join → cell t' (top s e' i - 1) (first_column s i + (p i - 1)) ≡ lower_factor s i
      go (before b) = ap (λ r. cell t' (r - 1) (first_column s i + (p i - 1))) (same_top i (omega arith))
          ∙ kept-last (top s e i - 1) _ (below_top i b (old-count i full_count b z)).1
          (past A R N Q i (p i - 1) (top s e i - 1) (omega arith) (omega arith)
          (below_top_highest p e S.right i (omega (arith, S.left i, old-count i full_count b z)))) ∙ Q.near i a (old-count i full_count b z)
      go (same y) = subst (λ j. cell t' (top s e' j - 1) (first_column s j + (p j - 1)) ≡ lower_factor s j) (sym y)
          (ap (λ r. cell t' r (first_column s join + (p join - 1)))
          (let v = count-here i 2 y z in let o = own_top in let g : top s e' join - 1 ≡ suc f = omega arith in g) ∙ own_near (count-here i 2 y z))
      go (after b) = absurd (gone i full_count b z (omega arith))

  new_beyond : (i : ℕ) → suc i < segments s → e' i ≡ full_count → cell t' (top s e' i) (first_column s (suc i) + 1) ≡ over s e' i *ᵠ upper_factor s i
  new_beyond i a z = go (compared i join)
    where
      go : Compared i join → cell t' (top s e' i) (first_column s (suc i) + 1) ≡ over s e' i *ᵠ upper_factor s i
      go (before b) =
          let c = old-count i full_count b z in
          ap (λ r. cell t' r (first_column s (suc i) + 1)) (same_top i (omega arith))
          ∙ last_moves i (suc i) 1 (upper_factor s i) b c a (omega (arith, S.right i)) (next-highest p e i (S.left i) c) (Q.beyond i a c)
      go (same y) = subst (λ j. cell t' (top s e' j) (first_column s (suc j) + 1) ≡ over s e' j *ᵠ upper_factor s j) (sym y)
          (ap (λ r. cell t' r (first_column s (suc join) + 1)) own_top ∙ own-beyond (count-here i 2 y z) ∙ sym (ap (λ o. o *ᵠ upper_factor s join) fresh ∙ one-mul _))
      go (after b) = absurd (gone i full_count b z (omega arith))

  pub step-closed : Closed s (met s join (suc k)) t'
  step-closed = record { once = new_once; first = new_first; last = new_last; near = new_near; beyond = new_beyond }
