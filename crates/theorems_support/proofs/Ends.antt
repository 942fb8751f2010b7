-- Values at the ends, proved: the ordinate there has weight from one row alone, and at the end of a segment the triangle leaves its last or its
-- first ordinate.
use mathlib.Core.Path.{◌≡◌, refl, sym, ◌∙◌, ap, subst}
use mathlib.Core.Logic.{◌⊎◌, inl, inr}
use mathlib.Core.Bool.{true, cond, not}
use mathlib.Core.List.{[], ◌∷◌}
use Prim.Native.Nat.{ℕ, zero, suc, ◌+◌, ◌-◌, ◌<◌, ◌≤◌, max}
use native.Mathlib.Omega.{arith}
use borrow.Author.Tests.{eqb-true, lt-ltb, le-ltb}
use lib.Dec.{ltb}
use lib.IntN.{ℤ, pos, ◌+ℤ◌, ◌-ℤ◌, ◌*ℤ◌}
use lib.ListN.{get_or}
use lib.Signed.{◌≤ℤ◌}
use Rattle.base_exact.specs.Rational.{int}
use Rattle.base_exact.specs.Floor.{nearest}
use Rattle.base_exact.proofs.Decide.{le_or_lt, true_not_false, cond_true, cond_false}
use Rattle.base_exact.proofs.Floor.{nearest-exact}
use Rattle.base_exact.proofs.Integer as Z
use Rattle.base_exact.proofs.Integer.{ℤ-ring, readsℤ}
use Rattle.base_exact.proofs.Order.{zero_test}
use Rattle.base_exact.proofs.Ring.{ring}
use Rattle.base_exact.proofs.Tabulate.{tab_get_d}
use Rattle.spec_spline.specs.Space.{Space, segments, break, degree, starts_part, part_end, condition_count, first_column, column_count, conditions_before, row_count, rows_before}
use Rattle.spec_spline.specs.Table.{Table, cell}
use Rattle.spec_spline.specs.Piecewise.{Accepted}
use Rattle.spec_spline.specs.Reading.{fine, rounded, segment_at, has_weight, coefficient, ordinate, ordinates, fine_width, blend, triangle, blended, value_at}
use Rattle.spec_spline.proofs.Parts.{Ends, part-ends}
use Rattle.spec_spline.proofs.Legal.{Checked, legal}
use Rattle.spec_spline.proofs.Reading.{after-start, on_discontinuity}
use Rattle.theorems_beams.specs.Sections.{section, part_at}
use Rattle.theorems_beams.specs.Parts.{Starts}
use Rattle.theorems_beams.proofs.Sections.{section-segments, front-columns, front-conditions_before, orders_fit, conditions_fewer, conditions-between}
use Rattle.theorems_beams.proofs.Fronts.{front-rows_more}
use Rattle.theorems_values.proofs.Fine.{fine_mono_<}
use Rattle.theorems_values.proofs.Ordinate.{ordinate-between}
use Rattle.theorems_values.proofs.Positions.{segment_is, first-breakpoint_belongs_first}
use Rattle.theorems_values.proofs.Segment.{accepted-checked, breaks_rise, fine_width_is}
use Rattle.theorems_values.proofs.Value.{segment-column}
use Rattle.theorems_values.proofs.Weights.{Column, accepted-column}
use Rattle.theorems_acceptance.specs.WeightCount.{left_conditions, right_conditions}
use Rattle.theorems_stages.proofs.Support as supports
use Rattle.theorems_support.specs.Ends.{FirstValueIsTheFirstCoefficient, LastValueIsTheLastCoefficient}
use Rattle.theorems_support.proofs.Support.{supported, left-fits, right-fits}

-- ---- the ends of a triangle

triangle-start : (d : ℕ) → 0 < d → (g : ℕ → ℤ) (n k : ℕ) → triangle d (pos 0) g n k ≡ g k
unfolding triangle blend rounded
triangle-start d h g zero k = refl
triangle-start d h g (suc n) k =
    ap (λ z. nearest z d) (alg (pos d) (triangle d (pos 0) g n k) (triangle d (pos 0) g n (suc k))) ∙ nearest-exact (triangle d (pos 0) g n k) d h ∙ triangle-start d h g n k
  where
    alg : (d x y : ℤ) → (d -ℤ pos 0) *ℤ x +ℤ pos 0 *ℤ y ≡ x *ℤ d
    alg d x y = ring ℤ-ring (d ∷ x ∷ y ∷ []) (search readsℤ depth 20) (search readsℤ depth 20) refl

triangle_end : (d : ℕ) → 0 < d → (g : ℕ → ℤ) (n k : ℕ) → triangle d (pos d) g n k ≡ g (k + n)
unfolding triangle blend rounded
triangle_end d h g zero k = ap g (let z : k ≡ k + 0 = omega arith in z)
triangle_end d h g (suc n) k =
    ap (λ z. nearest z d) (alg (pos d) (triangle d (pos d) g n k) (triangle d (pos d) g n (suc k))) ∙ nearest-exact (triangle d (pos d) g n (suc k)) d h
    ∙ triangle_end d h g n (suc k) ∙ ap g (let z : suc k + n ≡ k + suc n = omega arith in z)
  where
    alg : (d x y : ℤ) → (d -ℤ d) *ℤ x +ℤ d *ℤ y ≡ y *ℤ d
    alg d x y = ring ℤ-ring (d ∷ x ∷ y ∷ []) (search readsℤ depth 20) (search readsℤ depth 20) refl

-- ---- an ordinate with weight from one row alone

single : (t : Table) (f : ℕ → ℤ) (c r : ℕ) → Column t c → supports.Support (λ i. cell t i c) r r → ordinate t f c ≡ fine (f r)
single t f c r C S = let b = ordinate-between t f c C (f r) (f r) (λ i h w. subst (λ k. f r ≤ℤ f k) (here i w) (Z.≤-refl (f r))) (λ i h w. subst (λ k. f k ≤ℤ f r) (here i w) (Z.≤-refl (f r))) in
    Z.≤_antisym _ _ b.at-most b.at-least
  where
    here : (i : ℕ) → has_weight t c i ≡ true → r ≡ i
    here i w = go (le_or_lt r i) (le_or_lt i r)
      where
        zero_row : cell t i c ≡ int (pos 0) → ⊥
        zero_row z = true_not_false w (ap not (zero_test z))

        go : (r ≤ i) ⊎ (i < r) → (i ≤ r) ⊎ (r < i) → r ≡ i
        go (inl h) (inl k) = omega arith
        go (inr h) k = absurd (zero_row (S.below i h))
        go (inl h) (inr k) = absurd (zero_row (S.above i k))

module _ (s : Space) (x : Accepted s) (f : ℕ → ℤ) (j : ℕ) (h : j < segments s) where
  c : Checked s
  c = (accepted-checked s x).1

  abbrev given : ℕ → ℤ
  given k = get_or (ordinates s x.table f) (first_column s j + k) (pos 0)

  given_is : (k : ℕ) → k ≤ degree s j → given k ≡ ordinate x.table f (first_column s j + k)
  unfolding ordinates
  given_is k l = tab_get_d (column_count s) (ordinate x.table f) (first_column s j + k) (pos 0) (segment-column s j k h l)

  positive : 0 < fine_width s j
  positive = omega (arith, (legal s c).positive_width j h)

  column : (k : ℕ) → k ≤ degree s j → Column x.table (first_column s j + k)
  column k l = accepted-column s x (first_column s j + k) (segment-column s j k h l)

  -- without conditions on the left the first ordinate is the first row's
  first-ordinate : left_conditions s j ≡ 0 → given 0 ≡ fine (f (rows_before s j))
  first-ordinate z = given_is 0 (omega arith) ∙ single x.table f (first_column s j + 0) (rows_before s j) (column 0 (omega arith))
      (subst (λ n. supports.Support (λ i. cell x.table i (first_column s j + 0)) (rows_before s j) n) (let e : rows_before s j + max 0 (left_conditions s j - 1) ≡ rows_before s j = omega arith in e)
      (subst (λ n. supports.Support (λ i. cell x.table i (first_column s j + 0)) n (rows_before s j + max 0 (left_conditions s j - 1)))
      (let e : rows_before s j + 0 - (right_conditions s j + 0 - (degree s j + 1)) ≡ rows_before s j = omega (arith, right-fits s x j h) in e) (supported s x j 0 h (omega arith))))

  -- without conditions on the right the last ordinate is the last row's
  last-ordinate : right_conditions s j ≡ 0 → given (degree s j) ≡ fine (f (rows_before s j + degree s j))
  last-ordinate z = given_is (degree s j) (omega arith) ∙ single x.table f (first_column s j + degree s j) (rows_before s j + degree s j) (column (degree s j) (omega arith))
      (subst (λ n. supports.Support (λ i. cell x.table i (first_column s j + degree s j)) (rows_before s j + degree s j) n)
      (let e : rows_before s j + max (degree s j) (left_conditions s j - 1) ≡ rows_before s j + degree s j = omega (arith, left-fits s x j h) in e)
      (subst (λ n. supports.Support (λ i. cell x.table i (first_column s j + degree s j)) n (rows_before s j + max (degree s j) (left_conditions s j - 1)))
      (let e : rows_before s j + degree s j - (right_conditions s j + degree s j - (degree s j + 1)) ≡ rows_before s j + degree s j = omega arith in e) (supported s x j (degree s j) h (omega arith))))

  -- the value at the start, and at the end, of the segment
  at_start : left_conditions s j ≡ 0 → blended s (ordinates s x.table f) j (fine (break s j)) ≡ fine (f (rows_before s j))
  unfolding blended
  at_start z = ap (λ u. triangle (fine_width s j) u given (degree s j) 0) (Z.+-neg (fine (break s j))) ∙ triangle-start (fine_width s j) positive given (degree s j) 0 ∙ first-ordinate z

  at_end : right_conditions s j ≡ 0 → blended s (ordinates s x.table f) j (fine (break s (suc j))) ≡ fine (f (rows_before s j + degree s j))
  unfolding blended
  at_end z = ap (λ u. triangle (fine_width s j) u given (degree s j) 0) (sym (fine_width_is s c j h)) ∙ triangle_end (fine_width s j) positive given (degree s j) 0
      ∙ ap given (let e : 0 + degree s j ≡ degree s j = omega arith in e) ∙ last-ordinate z

-- ---- the first breakpoint

pub first-value_is_the_first-coefficient : FirstValueIsTheFirstCoefficient
unfolding value_at first_column conditions_before
first-value_is_the_first-coefficient s a wood coefs = let p = accepted-checked s a in
    ap (λ j. blended s (ordinates s a.table (coefficient wood coefs)) j (fine (break s 0))) (first-breakpoint_belongs_first s p.0)
    ∙ at_start s a (coefficient wood coefs) 0 (legal s p.1).lengths.some_segment refl

-- ---- the last breakpoint of a part

module _ (s : Space) (x : Accepted s) (a : ℕ) (A : Starts s a) where
  k : Checked s
  k = (accepted-checked s x).1

  E : Ends s a (part_end s a)
  E = part-ends s a A.below

  -- its last segment
  abbrev l : ℕ
  l = part_end s a - 1

  last_is : suc l ≡ part_end s a
  last_is = omega (arith, E.above)

  last-below : l < segments s
  last-below = omega (arith, E.above, E.boundary.within)

  no_conditions : suc l < segments s → condition_count s l ≡ 0
  unfolding starts_part
  no_conditions h = eqb-true (condition_count s l) 0 (subst (λ i. starts_part s i ≡ true) (sym last_is) (E.boundary.starts (omega (arith, last_is))))

  last_free : right_conditions s l ≡ 0
  unfolding right_conditions
  last_free = go (le_or_lt (segments s) (suc l))
    where
      go : (segments s ≤ suc l) ⊎ (suc l < segments s) → cond (ltb (suc l) (segments s)) (condition_count s l) 0 ≡ 0
      go (inl h) = cond_false (condition_count s l) 0 (le-ltb (suc l) (segments s) h)
      go (inr h) = cond_true (condition_count s l) 0 (lt-ltb (suc l) (segments s) h) ∙ no_conditions h

  last-segment : segment_at s (fine (break s (suc l))) ≡ l
  unfolding starts_part
  last-segment = segment_is s k l (fine (break s (suc l))) last-below (after-start s (fine (break s (suc l))) l (fine_mono_< _ _ (breaks_rise s k l last-below)))
      (λ h. on_discontinuity s l (subst (λ i. starts_part s i ≡ true) (sym last_is) (E.boundary.starts (omega (arith, last_is))))) (Z.≤-refl _)

  -- its last row
  last_row : rows_before s l + degree s l ≡ rows_before s a + (row_count (part_at s a) - 1)
  unfolding first_column
  last_row =
      omega (
        arith,
        front-rows_more s (orders_fit s k) a A,
        front-columns s (part_end s a) E.boundary.within,
        ap (λ m. conditions_before (section s 0 (part_end s a)) (m - 1)) (section-segments s 0 (part_end s a) (omega (arith, E.boundary.within))),
        front-conditions_before s (part_end s a) l (omega (arith, last_is)),
        ap (first_column s) last_is,
        conditions_fewer s (orders_fit s k) l last-below,
        conditions_fewer s (orders_fit s k) a A.below,
        conditions-between s (orders_fit s k) a (l - a) (omega (arith, E.above, last-below)),
        ap (first_column s) (let z : a + (l - a) ≡ l = omega (arith, E.above) in z),
        ap (conditions_before s) (let z : a + (l - a) ≡ l = omega (arith, E.above) in z),
      )

pub last-value_is_the_last-coefficient : LastValueIsTheLastCoefficient
unfolding value_at
last-value_is_the_last-coefficient s x a A wood coefs =
    ap (λ i. blended s (ordinates s x.table (coefficient wood coefs)) (segment_at s (fine (break s i))) (fine (break s i))) (sym (last_is s x a A))
    ∙ ap (λ j. blended s (ordinates s x.table (coefficient wood coefs)) j (fine (break s (suc (l s x a A))))) (last-segment s x a A)
    ∙ at_end s x (coefficient wood coefs) (l s x a A) (last-below s x a A) (last_free s x a A)
    ∙ ap (λ i. fine (coefficient wood coefs i)) (last_row s x a A)
