-- Bounds of lengths, degrees, columns and conditions of lists that are legal, each from the lists that it needs.
use mathlib.Core.Path.{◌≡◌, refl, ap}
use mathlib.Core.Logic.{◌⊎◌, inl, inr}
use Prim.Native.Nat.{ℕ, zero, suc, ◌+◌, ◌*◌, ◌-◌, ◌<◌, ◌≤◌}
use native.Mathlib.Omega.{arith}
use native.Mathlib.Nat.{eq-or-lt_of_le}
use lib.IntN.{ℤ, pos, neg_ℤ, nat_abs, ◌+ℤ◌, ◌-ℤ◌}
use lib.ListN.{length}
use lib.Signed.{◌≤ℤ◌, ◌<ℤ◌}
use Rattle.base_exact.proofs.Integer.{≤_in, ≤_out, <_out, ≤-refl, ≤_trans, <-≤, <_suc, rises, abs-parts, abs_le, abs_mono, abs_sub, bal_+, bal_neg}
use Rattle.base_exact.proofs.Word.{is_pos}
use Rattle.spec_spline.specs.Space.{Space, segments, break, degree_entry, order, degree, width, condition_count, first_column, column_count, conditions_before, row_count}
use Rattle.build_space.specs.Legal.{BreaksLegal, DegreesLegal, OrdersLegal, JoinsLegal}

-- ---- breakpoints

-- two breakpoints in their range are at most 20,000 apart, whatever their order
pub breaks_apart : (x y : ℤ) → nat_abs x ≤ 10000 → nat_abs y ≤ 10000 → nat_abs (x -ℤ y) ≤ 20000
breaks_apart x y h k = omega (arith, abs_sub x y)

module _ (s : Space) (h : BreaksLegal s.breaks) where
  -- they rise
  pub breaks_rise : (i j : ℕ) → i < j → j < length s.breaks → break s i <ℤ break s j
  breaks_rise i j k l = rises (break s) (length s.breaks - 1) (λ i l. h.rise i (omega arith)) i j k (omega arith)

  pub breaks_mono : (i j : ℕ) → i ≤ j → j < length s.breaks → break s i ≤ℤ break s j
  breaks_mono i j k l = go (eq-or-lt_of_le k)
    where
      go : (i ≡ j) ⊎ (i < j) → break s i ≤ℤ break s j
      go (inl e) = rw e (≤-refl (break s j))
      go (inr t) = <-≤ _ _ (breaks_rise i j t l)

  -- a segment's length, as the difference of two breakpoints
  pub width-difference : (i : ℕ) → suc i < length s.breaks → break s (suc i) -ℤ break s i ≡ pos (width s i)
  width-difference i l = is_pos (break s (suc i) -ℤ break s i) (≤_in _ _ (omega (arith, <_out _ _ (h.rise i l), bal_+ (break s (suc i)) (neg_ℤ (break s i)), bal_neg (break s i))))

  pub width_positive : (i : ℕ) → suc i < length s.breaks → 1 ≤ width s i
  width_positive i l = omega (arith, <_out _ _ (h.rise i l), bal_+ (break s (suc i)) (neg_ℤ (break s i)), bal_neg (break s i), abs-parts (break s (suc i) -ℤ break s i))

  -- within the span from breakpoint a to breakpoint e
  pub width-within : (a e i : ℕ) → a ≤ i → suc i ≤ e → e < length s.breaks → (break s e -ℤ break s a) ≤ℤ pos 2000 → width s i ≤ 2000
  width-within a e i j k l span =
      let p = ≤_out _ _ (breaks_mono a i j (omega arith)) in
      let q = ≤_out _ _ (breaks_mono (suc i) e k l) in
      let r = bal_+ (break s e) (neg_ℤ (break s a)) in
      let f = bal_neg (break s a) in
      let g = ≤_out _ _ span in
      let u = <_out _ _ (h.rise i (omega arith)) in
      let v = bal_+ (break s (suc i)) (neg_ℤ (break s i)) in
      let w = bal_neg (break s i) in
      abs_le (break s (suc i) -ℤ break s i) 2000 (omega arith) (omega arith)

-- ---- degrees and columns

module _ (s : Space) (h : DegreesLegal s.degrees) where
  pub degree_low : (i : ℕ) → i < segments s → 1 ≤ degree s i
  degree_low i l = abs_mono (pos 1) (degree_entry s i) (≤_in _ _ (omega arith)) (h.low i l)

  pub degree-high : (i : ℕ) → i < segments s → degree s i ≤ 5
  degree-high i l = abs_mono (degree_entry s i) (pos 5) (≤_trans _ (pos 1) _ (≤_in _ _ (omega arith)) (h.low i l)) (h.high i l)

  -- at most six columns a segment
  pub first-column-high : (i : ℕ) → i ≤ segments s → first_column s i ≤ 6 * i
  unfolding first_column
  first-column-high zero l = omega arith
  first-column-high (suc i) l = omega (arith, first-column-high i (omega arith), degree-high i (omega arith))

pub first-column-zero : (s : Space) → first_column s 0 ≡ 0
unfolding first_column
first-column-zero s = refl

-- the next segment's first column
pub first-column-next : (s : Space) (i : ℕ) → first_column s i + degree s i + 1 ≡ first_column s (suc i)
unfolding first_column
first-column-next s i = omega arith

-- ---- orders and conditions

module _ (s : Space) (h : OrdersLegal s.orders) where
  order_more : (i : ℕ) → i < length s.orders → pos 0 ≤ℤ (order s i +ℤ pos 1)
  order_more i l = ≤_in _ _ (omega (arith, ≤_out _ _ (h.low i l), bal_+ (order s i) (pos 1)))

  pub condition_count_is : (i : ℕ) → i < length s.orders → order s i +ℤ pos 1 ≡ pos (condition_count s i)
  condition_count_is i l = is_pos (order s i +ℤ pos 1) (order_more i l)

  pub condition_count-high : (i : ℕ) → i < length s.orders → condition_count s i ≤ 3
  condition_count-high i l = abs_mono (order s i +ℤ pos 1) (pos 3) (order_more i l) (≤_in _ _ (omega (arith, ≤_out _ _ (h.high i l), bal_+ (order s i) (pos 1))))

  -- an order below a degree has no more conditions than that degree
  pub condition_count-below : (i : ℕ) → i < length s.orders → (d : ℤ) → order s i <ℤ d → condition_count s i ≤ nat_abs d
  condition_count-below i l d k = abs_mono (order s i +ℤ pos 1) d (order_more i l) (<_suc (order s i) d k)

  -- at most three conditions a join
  pub conditions-before-high : (i : ℕ) → i ≤ length s.orders → conditions_before s i ≤ 3 * i
  unfolding conditions_before
  conditions-before-high zero l = omega arith
  conditions-before-high (suc i) l = omega (arith, conditions-before-high i (omega arith), condition_count-high i (omega arith))

pub conditions-before-zero : (s : Space) → conditions_before s 0 ≡ 0
unfolding conditions_before
conditions-before-zero s = refl

-- one join more
pub conditions-before-next : (s : Space) (i : ℕ) → conditions_before s i + condition_count s i ≡ conditions_before s (suc i)
unfolding conditions_before
conditions-before-next s i = refl

-- ---- conditions against columns

module _ (s : Space) (h : JoinsLegal s.degrees s.orders) where
  pub condition_count-left : (i : ℕ) → i < length s.orders → condition_count s i ≤ degree s i
  condition_count-left i l = condition_count-below s h.orders_legal i l (degree_entry s i) (h.left i l)

  pub condition_count-right : (i : ℕ) → i < length s.orders → condition_count s i ≤ degree s (suc i)
  condition_count-right i l = condition_count-below s h.orders_legal i l (degree_entry s (suc i)) (h.right i l)

  -- fewer conditions than columns: at least one column a segment is left
  pub conditions-before-columns : (i : ℕ) → i < segments s → conditions_before s i + i ≤ first_column s i
  unfolding conditions_before first_column
  conditions-before-columns zero l = omega arith
  conditions-before-columns (suc i) l = omega (arith, conditions-before-columns i (omega arith), condition_count-left i (omega (arith, h.count)))

  -- with the segment after the last join there are at least two more
  pub conditions-columns : (i : ℕ) → i < segments s → conditions_before s i + i + 2 ≤ first_column s (suc i)
  conditions-columns i l = omega (arith, conditions-before-columns i l, first-column-next s i, degree_low s h.degrees_legal i l)

  -- no underflow in the number of rows
  pub row-count-sum : row_count s + conditions_before s (segments s - 1) ≡ column_count s
  row-count-sum = omega (arith, conditions-columns (segments s - 1) (omega (arith, h.count)), ap (first_column s) (let z : suc (segments s - 1) ≡ segments s = omega (arith, h.count) in z))
