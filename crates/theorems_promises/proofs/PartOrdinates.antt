-- The ordinates of a part whose orders are at most 1 and whose coefficients go in one direction follow one another: inside a segment
-- the last row with weight on an ordinate is not behind the first row with weight on the next one, and the two ordinates at a join
-- are the same.
use mathlib.Core.Path.{◌≡◌, refl, sym, ◌∙◌, ap, ap₂, subst, fun_ext}
use mathlib.Core.Logic.{◌≢◌, ◌⊎◌, inl, inr}
use mathlib.Core.Bool.{true, cond, not}
use Prim.Native.Nat.{ℕ, zero, suc, ◌+◌, ◌-◌, ◌<◌, ◌≤◌, max}
use native.Mathlib.Omega.{arith}
use native.Mathlib.Nat.{eq-or-lt_of_le}
use borrow.Author.Tests.{eqb-true, eqb-false, lt-ltb, le-ltb}
use lib.Dec.{ltb}
use lib.IntN.{ℤ, pos, ◌+ℤ◌}
use lib.ListN.{length}
use Rattle.base_exact.specs.Rational.{int}
use Rattle.base_exact.specs.Order.{is_zero}
use Rattle.base_exact.proofs.Decide.{le_or_lt, true_not_false, cond_true, cond_false}
use Rattle.base_exact.proofs.Integer as Z
use Rattle.base_exact.proofs.Order.{pos_nonzero, zero_test}
use Rattle.spec_spline.specs.Space.{Space, segments, order, starts_part, part_end, degree, condition_count, first_column, column_count, row_count, rows_before}
use Rattle.spec_spline.specs.Table.{Table, cell}
use Rattle.spec_spline.specs.Piecewise.{Accepted}
use Rattle.spec_spline.specs.Reading.{fineness, fine, has_weight, term, term_sum, least, greatest, at_least, at_most, ordinate}
use Rattle.spec_spline.proofs.Parts.{Ends, part-ends}
use Rattle.spec_spline.proofs.Space.{first_column_mono}
use Rattle.spec_spline.proofs.Legal.{Checked}
use Rattle.theorems_beams.specs.Sections.{part_at}
use Rattle.theorems_beams.specs.Parts.{Starts, PartOf}
use Rattle.theorems_beams.proofs.Sections.{orders_fit}
use Rattle.theorems_beams.proofs.Fronts.{part-columns}
use Rattle.theorems_beams.proofs.Parts.{weights_by_parts}
use Rattle.theorems_values.proofs.Segment.{accepted-checked}
use Rattle.theorems_values.proofs.Value.{segment-column}
use Rattle.theorems_values.proofs.Weights.{accepted-column}
use Rattle.theorems_acceptance.specs.WeightCount.{left_conditions, right_conditions}
use Rattle.theorems_stages.proofs.Rows.{first_row, left_count, lowest, highest, lowest_at_most_highest}
use Rattle.theorems_stages.proofs.Support.{Support}
use Rattle.theorems_stages.proofs.Limits.{Limits, limits}
use Rattle.theorems_stages.proofs.Stages.{met}
use Rattle.theorems_acceptance.proofs.WeightCount.{last-reached, left_is, right_is}
use Rattle.theorems_acceptance.proofs.ClosedForms.{join-ordinates-agree}
use Rattle.theorems_promises.specs.FallingCurves.{falling_order, LowOrders}
use Rattle.theorems_promises.proofs.Directions.{Direction}

-- ---- an ordinate needs only its column's weights

module _ (t : Table) (a : ℕ → ℤ) (c d : ℕ) (same : (i : ℕ) → cell t i c ≡ cell t i d) where
  weighs_same : has_weight t c ≡ has_weight t d
  weighs_same = fun_ext (λ i. ap (λ q. not (is_zero q)) (same i))

  terms_same : (n : ℕ) → term_sum t a c n ≡ term_sum t a d n
  unfolding term_sum
  terms_same zero = refl
  terms_same (suc n) = ap₂ (λ z q. z +ℤ cond (not (is_zero q)) (term q (a n)) (pos 0)) (terms_same n) (same n)

  pub ordinate-same : ordinate t a c ≡ ordinate t a d
  unfolding ordinate
  ordinate-same = ap₂ (λ w z. at_most (greatest (length t) w a) (at_least (least (length t) w a) z)) weighs_same (terms_same (length t))

-- ---- rows with weight on neighbouring ordinates of a segment, where no more than two conditions stand at either join

rows-follow : (p e : ℕ → ℕ) (j k l r : ℕ) → k < p j → left_count e j ≡ l → e j ≡ r → l ≤ 2 → r ≤ 2 → l ≤ p j → r ≤ p j → highest p e j k ≤ lowest p e j (suc k)
unfolding highest lowest
rows-follow p e j k l r h x y few-left few-right left right = go (first_row p e j) (p j) (left_count e j) (e j) h x y left right
  where
    go : (f p c d : ℕ) → k < p → c ≡ l → d ≡ r → l ≤ p → r ≤ p → f + max k (c - 1) ≤ f + suc k - (d + suc k - (p + 1))
    go f p c d h x y left right = omega arith

-- ---- a part

module _ (s : Space) (x : Accepted s) (a : ℕ) (A : Starts s a) (low : LowOrders s a) where
  abbrev t : Table
  t = x.table

  c : Checked s
  c = (accepted-checked s x).1

  L : Limits s
  L = limits s c

  ends : Ends s a (part_end s a)
  ends = part-ends s a A.below

  within : part_end s a ≤ segments s
  within = ends.boundary.within

  part : PartOf s t a
  part = weights_by_parts s x a A

  -- a join inside the part, and the joins at its ends
  inner_few : (j : ℕ) → a ≤ j → suc j < part_end s a → condition_count s j ≤ 2
  inner_few j h l = let e = L.count_is_order j (omega (arith, within)) in omega (arith, Z.≤_out (order s j) falling_order (low j h l), Z.bal_+ (order s j) (pos 1), ap Z.up e, ap Z.dn e)

  pub inner_joined : (j : ℕ) → a ≤ j → suc j < part_end s a → 0 < condition_count s j
  unfolding starts_part
  inner_joined j h l = let n = eqb-false (condition_count s j) 0 (ends.between (suc j) (omega arith) l) in positive (condition_count s j) n
    where
      positive : (n : ℕ) → ¬ (n ≡ 0) → 0 < n
      positive zero f = absurd (f refl)
      positive (suc n) f = omega arith

  cut-none : (j : ℕ) → starts_part s (suc j) ≡ true → condition_count s j ≡ 0
  unfolding starts_part
  cut-none j e = eqb-true (condition_count s j) 0 e

  left_few : (j : ℕ) → a ≤ j → j < part_end s a → (left_conditions s j ≤ 2) × (left_conditions s j ≤ degree s j)
  left_few zero h l = omega arith
  left_few (suc j) h l = go (eq-or-lt_of_le h)
    where
      go : (a ≡ suc j) ⊎ (a < suc j) → (condition_count s j ≤ 2) × (condition_count s j ≤ degree s (suc j))
      go (inl z) = omega (arith, cut-none j (subst (λ i. starts_part s i ≡ true) z A.starts))
      go (inr b) = omega (arith, inner_few j (omega arith) l, L.legal.below-right-degree j (omega (arith, within)))

  right_few : (j : ℕ) → a ≤ j → j < part_end s a → (right_conditions s j ≤ 2) × (right_conditions s j ≤ degree s j)
  unfolding right_conditions
  right_few j h l = go (le_or_lt (segments s) (suc j)) (eq-or-lt_of_le l)
    where
      go : (segments s ≤ suc j) ⊎ (suc j < segments s) → (suc j ≡ part_end s a) ⊎ (suc j < part_end s a)
          → (cond (ltb (suc j) (segments s)) (condition_count s j) 0 ≤ 2) × (cond (ltb (suc j) (segments s)) (condition_count s j) 0 ≤ degree s j)
      go (inl m) z = let e = cond_false (condition_count s j) 0 (le-ltb (suc j) (segments s) m) in omega arith
      go (inr m) (inl z) = let e = cond_true (condition_count s j) 0 (lt-ltb (suc j) (segments s) m) in
          omega (arith, cut-none j (subst (λ i. starts_part s i ≡ true) (sym z) (ends.boundary.starts (omega arith))))
      go (inr m) (inr z) = let e = cond_true (condition_count s j) 0 (lt-ltb (suc j) (segments s) m) in omega (arith, inner_few j h z, L.legal.below-left-degree j (omega arith))

  -- ---- an ordinate's rows

  abbrev first_of : ℕ → ℕ → ℕ
  first_of j u = lowest (degree s) (met s (segments s - 1) 0) j u

  abbrev last_of : ℕ → ℕ → ℕ
  last_of j u = highest (degree s) (met s (segments s - 1) 0) j u

  supported : (j u : ℕ) → j < part_end s a → u ≤ degree s j → Support (λ i. cell t i (first_column s j + u)) (first_of j u) (last_of j u)
  supported j u h l = (last-reached s x).shape.supported j u (omega (arith, within)) l

  rows_meet : (j k : ℕ) → a ≤ j → j < part_end s a → k < degree s j → last_of j k ≤ first_of j (suc k)
  rows_meet j k h l m = let q = left_few j h l in let r = right_few j h l in
      rows-follow (degree s) (met s (segments s - 1) 0) j k (left_conditions s j) (right_conditions s j) m (left_is s j (omega (arith, within)))
      (right_is s j (omega (arith, within))) q.0 r.0 q.1 r.1

  -- a row with weight on a column of the part is one of the part's rows
  own_row : (j u i : ℕ) → a ≤ j → j < part_end s a → u ≤ degree s j → cell t i (first_column s j + u) ≢ int (pos 0) → (rows_before s a ≤ i) × (i < rows_before s a + row_count (part_at s a))
  unfolding first_column
  own_row j u i h l m n = (go (le_or_lt (rows_before s a) i), to (le_or_lt (rows_before s a + row_count (part_at s a)) i))
    where
      k : ℕ
      k = first_column s j + u - first_column s a

      column : first_column s a + k ≡ first_column s j + u
      column = omega (arith, first_column_mono s a j h)

      below : k < column_count (part_at s a)
      below = omega (arith, first_column_mono s (suc j) (part_end s a) l, part-columns s (orders_fit s c) a A, first_column_mono s a j h)

      outside : (i < rows_before s a) ⊎ (rows_before s a + row_count (part_at s a) ≤ i) → ⊥
      outside o = n (ap (cell t i) (sym column) ∙ part.zero-above_and_below i k below o)

      go : (rows_before s a ≤ i) ⊎ (i < rows_before s a) → rows_before s a ≤ i
      go (inl z) = z
      go (inr z) = absurd (outside (inl z))

      to : (rows_before s a + row_count (part_at s a) ≤ i) ⊎ (i < rows_before s a + row_count (part_at s a)) → i < rows_before s a + row_count (part_at s a)
      to (inl z) = absurd (outside (inr z))
      to (inr z) = z

  -- ---- coefficients in one direction over the part's rows

  module _ {before : ℤ → ℤ → Type 0} (D : Direction before) (f : ℕ → ℤ) (follow : (i : ℕ) → suc i < row_count (part_at s a) → before (f (rows_before s a + i)) (f (rows_before s a + suc i))) where
    rows-ordered : (i n : ℕ) → i + n < row_count (part_at s a) → before (f (rows_before s a + i)) (f (rows_before s a + (i + n)))
    rows-ordered i zero h = subst (λ k. before (f (rows_before s a + i)) (f (rows_before s a + k))) (let z : i ≡ i + 0 = omega arith in z) (D.same _)
    rows-ordered i (suc n) h = D.chain _ _ _ (rows-ordered i n (omega arith))
        (subst (λ k. before (f (rows_before s a + (i + n))) (f (rows_before s a + k))) (let z : suc (i + n) ≡ i + suc n = omega arith in z) (follow (i + n) (omega arith)))

    ordered : (i k : ℕ) → rows_before s a ≤ i → i ≤ k → k < rows_before s a + row_count (part_at s a) → before (f i) (f k)
    ordered i k h l m =
        subst (λ n. before (f n) (f k)) (let z : rows_before s a + (i - rows_before s a) ≡ i = omega arith in z)
        (subst (λ n. before (f (rows_before s a + (i - rows_before s a))) (f n)) (let z : rows_before s a + (i - rows_before s a + (k - i)) ≡ k = omega arith in z)
        (rows-ordered (i - rows_before s a) (k - i) (omega arith)))

    abbrev pub ord : ℕ → ℕ → ℤ
    ord j u = ordinate t f (first_column s j + u)

    module _ (j u : ℕ) (h : a ≤ j) (l : j < part_end s a) (m : u ≤ degree s j) where
      S : Support (λ i. cell t i (first_column s j + u)) (first_of j u) (last_of j u)
      S = supported j u l m

      o : first_of j u ≤ last_of j u
      o = lowest_at_most_highest (degree s) (met s (segments s - 1) 0) j u

      first-own : (rows_before s a ≤ first_of j u) × (first_of j u < rows_before s a + row_count (part_at s a))
      first-own = own_row j u (first_of j u) h l m (pos_nonzero (S.positive (first_of j u) (omega arith) o))

      last-own : (rows_before s a ≤ last_of j u) × (last_of j u < rows_before s a + row_count (part_at s a))
      last-own = own_row j u (last_of j u) h l m (pos_nonzero (S.positive (last_of j u) o (omega arith)))

      between : (i : ℕ) → has_weight t (first_column s j + u) i ≡ true → (first_of j u ≤ i) × (i ≤ last_of j u)
      between i w = (go (le_or_lt (first_of j u) i), to (le_or_lt i (last_of j u)))
        where
          zero_row : cell t i (first_column s j + u) ≡ int (pos 0) → ⊥
          zero_row z = true_not_false w (ap not (zero_test z))

          go : (first_of j u ≤ i) ⊎ (i < first_of j u) → first_of j u ≤ i
          go (inl z) = z
          go (inr z) = absurd (zero_row (S.below i z))

          to : (i ≤ last_of j u) ⊎ (last_of j u < i) → i ≤ last_of j u
          to (inl z) = z
          to (inr z) = absurd (zero_row (S.above i z))

      -- the ordinate lies between 256 times the coefficients of its first and its last row
      limited : before (fine (f (first_of j u))) (ord j u) × before (ord j u) (fine (f (last_of j u)))
      limited = D.limits t f (first_column s j + u) (accepted-column s x (first_column s j + u) (segment-column s j u (omega (arith, within)) m)) (f (first_of j u)) (f (last_of j u))
          (λ i k w. ordered (first_of j u) i first-own.0 (between i w).0 (omega (arith, (between i w).1, last-own.1)))
          (λ i k w. ordered i (last_of j u) (omega (arith, (between i w).0, first-own.0)) (between i w).1 last-own.1)

    -- inside a segment
    pub ordinates-follow : (j k : ℕ) → a ≤ j → j < part_end s a → k < degree s j → before (ord j k) (ord j (suc k))
    ordinates-follow j k h l m = D.chain _ _ _ (limited j k h l (omega arith)).1
        (D.chain _ _ _
        (D.scales (pos fineness) _ _ (Z.≤_in (pos 0) (pos fineness) (omega arith))
        (ordered (last_of j k) (first_of j (suc k)) (last-own j k h l (omega arith)).0 (rows_meet j k h l m) (first-own j (suc k) h l m).1))
        (limited j (suc k) h l m).0)

    -- over a whole segment
    pub segment-follows : (j n : ℕ) → a ≤ j → j < part_end s a → n ≤ degree s j → before (ord j 0) (ord j n)
    segment-follows j zero h l m = D.same _
    segment-follows j (suc n) h l m = D.chain _ _ _ (segment-follows j n h l (omega arith)) (ordinates-follow j n h l m)

    -- at a join inside the part
    join-same : (j : ℕ) → a ≤ j → suc j < part_end s a → ord j (degree s j) ≡ ord (suc j) 0
    join-same j h l =
        ordinate-same t f _ _ (λ i. join-ordinates-agree s x j (omega (arith, within)) (inner_joined j h l) i
        ∙ ap (cell t i) (let z : first_column s (suc j) ≡ first_column s (suc j) + 0 = omega arith in z))

    -- from the end of a segment to the start of a later one
    pub segments-follow : (j n : ℕ) → a ≤ j → j + suc n < part_end s a → before (ord j (degree s j)) (ord (j + suc n) 0)
    segments-follow j zero h l =
        subst (λ i. before (ord j (degree s j)) (ord i 0)) (let z : suc j ≡ j + 1 = omega arith in z)
        (subst (before (ord j (degree s j))) (join-same j h (omega arith)) (D.same _))
    segments-follow j (suc n) h l = D.chain _ _ _ (segments-follow j n h (omega arith))
        (D.chain _ _ _ (segment-follows (j + suc n) (degree s (j + suc n)) (omega arith) (omega arith) (omega arith))
        (subst (λ i. before (ord (j + suc n) (degree s (j + suc n))) (ord i 0)) (let z : suc (j + suc n) ≡ j + suc (suc n) = omega arith in z)
        (subst (before (ord (j + suc n) (degree s (j + suc n)))) (join-same (j + suc n) (omega arith) (omega arith)) (D.same _))))
