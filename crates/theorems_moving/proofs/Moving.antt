-- Moved and scaled breakpoints, proved: the widths are multiplied, so the conditions stay, and with them every step of the build; a position
-- lies in the same segment, and its offset is multiplied as the width is.
use mathlib.Core.Path.{◌≡◌, refl, sym, ◌∙◌, ap, ap₂}
use mathlib.Core.Bool.{Bool, true, cond, ◌&&◌}
use mathlib.Core.List.{List, [], ◌∷◌, ◌++◌, map, map-append}
use mathlib.Core.Option
use mathlib.Core.Option.{Option, some, none}
use Prim.Native.Nat.{ℕ, zero, suc, ◌+◌, ◌*◌, ◌-◌, ◌^◌, ◌<◌, ◌≤◌}
use native.Mathlib.Omega.{arith}
use native.Mathlib.Nat.{one-le-pow}
use lib.Dec.{eqb, leb, ltb}
use lib.IntN.{ℤ, pos, neg_ℤ, nat_abs, ◌+ℤ◌, ◌-ℤ◌, ◌*ℤ◌}
use lib.ListN.{length, get_or, length-map}
use lib.Signed.{le_z, lt_z}
use Rattle.base_exact.specs.Tabulate.{tab}
use Rattle.base_exact.proofs.Integer as Z
use Rattle.base_exact.proofs.Integer.{ℤ-ring, readsℤ}
use Rattle.base_exact.proofs.Ring.{ring}
use Rattle.base_exact.proofs.Tabulate.{tab_ext, map_tab}
use Rattle.base_outcome.specs.Outcome.{Outcome, answer, refusal, refuse, ◌then◌, repeat}
use Rattle.base_outcome.specs.Tests.{refuse_first}
use Rattle.base_outcome.proofs.Search.{first-none, first_ext}
use Rattle.base_outcome.specs.Search.{first, last}
use Rattle.spec_spline.specs.Space.{Space, segment_limit, part_segment_limit, bad_break, span_too_long, too_many_segments, bad_degree, bad_order, starts_part, part_end, part_end_at, checked_entries}
use Rattle.spec_spline.specs.Space.{segments, break, degree, width, lengths_fit, condition_count, first_column, column_count, checked}
use Rattle.spec_spline.specs.Conditions.{Entry, falling, binomial, alternating, scale, left_entry, right_entry, undivided, common_divisor, divided, conditions}
use Rattle.spec_spline.specs.Table.{Table, identity}
use Rattle.spec_spline.specs.Step.{step}
use Rattle.spec_spline.specs.Build.{order_steps, join_steps, weights}
use Rattle.spec_spline.specs.Reading.{fineness, fine, starts_at_discontinuity, starts_by, segment_at, Wood, coefficient, ordinate, ordinates, fine_width, offset, triangle, blended, value_at}
use Rattle.base_outcome.proofs.Outcome.{answer_unique, answer_not_refusal}
use Rattle.spec_spline.proofs.Legal.{Checked, checked_inverts, first_code, Lengths, lengths_fit_inverts}
use Rattle.theorems_weights.proofs.Built.{built}
use Rattle.theorems_values.proofs.Segment.{accepted-checked, located}
use Rattle.theorems_values.proofs.Cells.{cell-holds-value, position-inside}
use Rattle.theorems_moving.specs.Moving.{moved_break, moved_position, moved_space, WeightsStay, OnlyThreeComes, ValuesStay, CellsStay}
use Rattle.theorems_moving.proofs.Scaled.{scaled_entry, common_scaled, all_divided-scaled, power-scaled, triangle-scaled, lt_z_scaled, le_z_scaled}

-- an element of a list whose elements are changed
get_d_changed : (f : ℤ → ℤ) (l : List ℤ) (i : ℕ) → i < length l → get_or (map f l) i (pos 0) ≡ f (get_or l i (pos 0))
get_d_changed f [] i h = absurd (omega arith)
get_d_changed f (x ∷ xs) zero h = refl
get_d_changed f (x ∷ xs) (suc i) h = get_d_changed f xs i (omega arith)

-- steps that agree
then_same : {A B : Type 0} (o : Outcome A) (f g : A → Outcome B) → ((a : A) → f a ≡ g a) → (o then f) ≡ (o then g)
then_same (answer a) f g e = e a
then_same (refusal code place) f g e = refl

repeat-same : {A : Type 0} (m : ℕ) (f g : ℕ → A → Outcome A) (a : A) → ((i : ℕ) (b : A) → i < m → f i b ≡ g i b) → repeat m f a ≡ repeat m g a
unfolding repeat
repeat-same zero f g a e = refl
repeat-same (suc m) f g a e = ap (λ o. o then f m) (repeat-same m f g a (λ i b l. e i b (omega arith))) ∙ then_same (repeat m g a) (f m) (g m) (λ b. e m b (omega arith))

-- searches that agree
last-same : (m : ℕ) (f g : ℕ → Bool) → ((i : ℕ) → i < m → f i ≡ g i) → last m f ≡ last m g
unfolding last
last-same zero f g e = refl
last-same (suc m) f g e = ap₂ (λ b o. cond b (some m) o) (e m (omega arith)) (last-same m f g (λ i l. e i (omega arith)))

module _ (n : ℕ) (h : 0 < n) (z : ℤ) (s : Space) (L : Lengths s) where
  abbrev s' : Space
  s' = moved_space n z s

  moved-break : (i : ℕ) → i ≤ segments s → break s' i ≡ moved_break n z (break s i)
  moved-break i l = get_d_changed (moved_break n z) s.breaks i (omega (arith, L.break-count))

  moved-width : (i : ℕ) → i < segments s → width s' i ≡ n * width s i
  moved-width i l = ap₂ (λ x y. nat_abs (x -ℤ y)) (moved-break (suc i) l) (moved-break i (omega arith)) ∙ ap nat_abs (alg (pos n) z (break s (suc i)) (break s i))
      ∙ Z.abs_mul (pos n) (break s (suc i) -ℤ break s i)
    where
      alg : (n z x y : ℤ) → n *ℤ x +ℤ z -ℤ (n *ℤ y +ℤ z) ≡ n *ℤ (x -ℤ y)
      alg n z x y = ring ℤ-ring (n ∷ z ∷ x ∷ y ∷ []) (search readsℤ depth 20) (search readsℤ depth 20) refl

  -- what does not name the breakpoints is the same
  same-columns : (i : ℕ) → first_column s' i ≡ first_column s i
  unfolding first_column
  same-columns zero = refl
  same-columns (suc i) = ap (λ c. c + (degree s i + 1)) (same-columns i)

  -- ---- the conditions of a join

  module _ (j k : ℕ) (inside : suc j < segments s) where
    entry_is : {c d : ℕ} {x y : ℤ} → c ≡ d → x ≡ y → ◌≡◌ {A = Entry} (record { column = c; condition = x }) (record { column = d; condition = y })
    entry_is p q = cc

    -- the size of an entry
    sized : (p w b : ℕ) (a : ℤ) → pos (scale p k (n * w) * b) *ℤ a ≡ pos (n ^ k) *ℤ (pos (scale p k w * b) *ℤ a)
    sized p w b a = ap (λ m. pos m *ℤ a) (ap (λ m. falling p k * m * b) (power-scaled n w k) ∙ regroup (falling p k) (n ^ k) (w ^ k) b) ∙ Z.*_assoc (pos (n ^ k)) (pos (scale p k w * b)) a
      where
        regroup : (f x y b : ℕ) → f * (x * y) * b ≡ x * (f * y * b)
        regroup f x y b = omega arith

    left-scaled : (t : ℕ) → left_entry s' j k t ≡ scaled_entry (n ^ k) (left_entry s j k t)
    left-scaled t = entry_is (ap (λ c. c + (degree s j - k + t)) (same-columns j))
        (ap (λ w. pos (scale (degree s j) k w * binomial k t) *ℤ alternating (k - t)) (moved-width (suc j) inside) ∙ sized (degree s j) (width s (suc j)) (binomial k t) (alternating (k - t)))

    right-scaled : (t : ℕ) → right_entry s' j k t ≡ scaled_entry (n ^ k) (right_entry s j k t)
    right-scaled t = entry_is (ap (λ c. c + t) (same-columns (suc j)))
        (ap (λ w. neg_ℤ (pos (scale (degree s (suc j)) k w * binomial k t) *ℤ alternating (k - t))) (moved-width j (omega arith))
        ∙ ap neg_ℤ (sized (degree s (suc j)) (width s j) (binomial k t) (alternating (k - t)))
        ∙ sym (Z.*_neg (pos (n ^ k)) (pos (scale (degree s (suc j)) k (width s j) * binomial k t) *ℤ alternating (k - t))))

    undivided-scaled : undivided s' j k ≡ map (scaled_entry (n ^ k)) (undivided s j k)
    unfolding undivided
    undivided-scaled =
        ap₂ ◌++◌ (tab_ext (suc k) (λ t l. left-scaled t) ∙ sym (map_tab (scaled_entry (n ^ k)) (suc k) (left_entry s j k)))
        (tab_ext (suc k) (λ t l. right-scaled t) ∙ sym (map_tab (scaled_entry (n ^ k)) (suc k) (right_entry s j k)))
        ∙ sym (map-append (scaled_entry (n ^ k)) (tab (suc k) (left_entry s j k)) (tab (suc k) (right_entry s j k)))

    same-conditions : conditions s' j k ≡ conditions s j k
    unfolding conditions
    same-conditions =
        ap (λ es. map (divided (common_divisor es)) es) undivided-scaled
        ∙ ap (λ g. map (divided g) (map (scaled_entry (n ^ k)) (undivided s j k))) (common_scaled (n ^ k) (undivided s j k))
        ∙ all_divided-scaled (n ^ k) (one-le-pow k n h) (common_divisor (undivided s j k)) (undivided s j k)

  -- ---- the build

  same-weights : weights s' ≡ weights s
  unfolding weights join_steps order_steps
  same-weights =
      ap (λ c. repeat (segments s - 1) (λ j t. repeat (condition_count s j) (λ k. step j (conditions s' j k)) t) (identity c)) (same-columns (segments s))
      ∙ repeat-same (segments s - 1) (λ j t. repeat (condition_count s j) (λ k. step j (conditions s' j k)) t) (λ j t. repeat (condition_count s j) (λ k. step j
      (conditions s j k)) t) (identity (column_count s))
      (λ j t l. repeat-same (condition_count s j) (λ k. step j (conditions s' j k)) (λ k. step j (conditions s j k)) t (λ k u m. ap (λ κ. step j κ u) (same-conditions j k (omega arith))))

  -- ---- a position

  module _ (x : ℤ) where
    abbrev x' : ℤ
    x' = moved_position n z x

    moved-fine : (i : ℕ) → i ≤ segments s → fine (break s' i) ≡ pos n *ℤ fine (break s i) +ℤ fine z
    moved-fine i l = ap fine (moved-break i l) ∙ alg (pos fineness) (pos n) (break s i) z
      where
        alg : (f n b z : ℤ) → f *ℤ (n *ℤ b +ℤ z) ≡ n *ℤ (f *ℤ b) +ℤ f *ℤ z
        alg f n b z = ring ℤ-ring (f ∷ n ∷ b ∷ z ∷ []) (search readsℤ depth 20) (search readsℤ depth 20) refl

    same_discontinuity : (i : ℕ) → starts_at_discontinuity s' i ≡ starts_at_discontinuity s i
    unfolding starts_at_discontinuity
    same_discontinuity zero = refl
    same_discontinuity (suc i) = refl

    same_start : (i : ℕ) → i < segments s → starts_by s' x' i ≡ starts_by s x i
    unfolding starts_by
    same_start i l =
        ap₂ (λ d b. cond d (lt_z b x') (le_z b x')) (same_discontinuity i) (moved-fine i (omega arith))
        ∙ ap₂ (λ p q. cond (starts_at_discontinuity s i) p q) (lt_z_scaled n h (fine z) (fine (break s i)) x) (le_z_scaled n h (fine z) (fine (break s i)) x)

    same-segment : segment_at s' x' ≡ segment_at s x
    unfolding segment_at
    same-segment = ap (λ o. Option.get_or o 0) (last-same (segments s) (starts_by s' x') (starts_by s x) same_start)

    moved-offset : (j : ℕ) → j < segments s → offset s' j x' ≡ pos n *ℤ offset s j x
    moved-offset j l = ap (λ b. x' -ℤ b) (moved-fine j (omega arith)) ∙ alg (pos n) x (fine (break s j)) (fine z)
      where
        alg : (n x b z : ℤ) → n *ℤ x +ℤ z -ℤ (n *ℤ b +ℤ z) ≡ n *ℤ (x -ℤ b)
        alg n x b z = ring ℤ-ring (n ∷ x ∷ b ∷ z ∷ []) (search readsℤ depth 20) (search readsℤ depth 20) refl

    moved-fine_width : (j : ℕ) → j < segments s → fine_width s' j ≡ n * fine_width s j
    moved-fine_width j l = ap (λ w. fineness * w) (moved-width j l) ∙ regroup fineness n (width s j)
      where
        regroup : (f n w : ℕ) → f * (n * w) ≡ n * (f * w)
        regroup f n w = omega arith

    -- the value on a segment
    same-blended : (os : List ℤ) (j : ℕ) → j < segments s → 0 < fine_width s j → blended s' os j x' ≡ blended s os j x
    unfolding blended
    same-blended os j l p =
        ap₂ (λ d u. triangle d u (λ i. get_or os (first_column s' j + i) (pos 0)) (degree s j) 0) (moved-fine_width j l) (moved-offset j l)
        ∙ ap (λ c. triangle (n * fine_width s j) (pos n *ℤ offset s j x) (λ i. get_or os (c + i) (pos 0)) (degree s j) 0) (same-columns j)
        ∙ triangle-scaled n (fine_width s j) h p (offset s j x) (λ i. get_or os (first_column s j + i) (pos 0)) (degree s j) 0

    same-ordinates : (t : Table) (f : ℕ → ℤ) → ordinates s' t f ≡ ordinates s t f
    unfolding ordinates
    same-ordinates t f = ap (λ c. tab c (ordinate t f)) (same-columns (segments s))

    same-value : (t : Table) (wood : Wood) (coefs : List ℤ) → segment_at s x < segments s → 0 < fine_width s (segment_at s x) → value_at s' t wood coefs x' ≡ value_at s t wood coefs x
    unfolding value_at
    same-value t wood coefs l p =
        ap₂ (λ os j. blended s' os j x') (same-ordinates t (coefficient wood coefs)) same-segment
        ∙ same-blended (ordinates s t (coefficient wood coefs)) (segment_at s x) l p

-- ---- the tests of the lists

module _ (n : ℕ) (z : ℤ) (s : Space) (c : Checked s) where
  abbrev r : Space
  r = moved_space n z s

  same-lengths : lengths_fit r ≡ true
  unfolding lengths_fit
  same-lengths = ap (λ k. leb 1 (segments s) && leb (segments s) segment_limit && eqb k (segments s + 1) && eqb (length s.orders + 1) (segments s)) (length-map
      s.breaks (moved_break n z)) ∙ c.lengths

  good_degrees : first (segments s) (bad_degree r) ≡ none
  unfolding bad_degree
  good_degrees = first-none (bad_degree r) (segments s) c.degrees

  good_orders : first (segments s - 1) (bad_order r) ≡ none
  unfolding bad_order
  good_orders = first-none (bad_order r) (segments s - 1) c.orders

  same_parts : (i : ℕ) → starts_part r i ≡ starts_part s i
  unfolding starts_part
  same_parts zero = refl
  same_parts (suc i) = refl

  few_segments : first (segments s) (too_many_segments r) ≡ none
  unfolding too_many_segments part_end
  few_segments = first-none (too_many_segments r) (segments s)
      (λ i l. ap₂ (λ b o. b && ltb part_segment_limit (Option.get_or o (segments s) - i)) (same_parts i) (first_ext (segments s) (λ k m. ap (λ b. ltb i k && b) (same_parts k))) ∙ c.few i l)

  -- a test that refuses nothing
  passed : {A : Type 0} (code : ℕ) {o : Option ℕ} {rest : Outcome A} → o ≡ none → refuse_first code o rest ≡ rest
  passed code {o} {rest} e = ap (λ q. refuse_first code q rest) e

  three_alone : (code place : ℕ) → checked r ≡ refusal code place → code ≡ 3
  unfolding checked checked_entries
  three_alone code place e =
      first_code (λ k. k ≡ 3) 3 (first (segments s + 1) (bad_break r)) _ refl
      (first_code (λ k. k ≡ 3) 3 (part_end_at r (first (segments s) (span_too_long r))) _ refl
      (λ q. absurd (answer_not_refusal {o = answer r} refl (sym (passed 4 good_degrees ∙ passed 5 good_orders ∙ passed 15 few_segments) ∙ q))))
      (sym (ap (λ b. cond b (checked_entries r) (refuse 2 0)) same-lengths) ∙ e)

-- ---- the statements

pub only_three_comes : OnlyThreeComes
only_three_comes n h z s e code place q = three_alone n z s (checked_inverts s e).1 code place q

pub weights_stay : WeightsStay
weights_stay n h z s e = same-weights n h z s (lengths_fit_inverts s e)

pub values_stay : ValuesStay
values_stay n h z s a b wood coefs x inside =
    let p = accepted-checked s a in
    let L = lengths_fit_inverts s p.1.lengths in
    let at = located s p.1 x inside in
    ap (λ (t : Table). value_at (moved_space n z s) t wood coefs (moved_position n z x))
    (answer_unique (built (moved_space n z s) b.table b.is).weights_are (same-weights n h z s L ∙ (built s a.table a.is).weights_are))
    ∙ same-value n h z s L x a.table wood coefs at.below at.positive

pub cells_stay : CellsStay
cells_stay n h z s coefs positions num_length den_length values_length l m held before wood k below =
    cell-holds-value m held k (rw (length-map positions (moved_position n z)) below) wood
    ∙ ap (value_at (moved_space n z s) m.accepted.table wood coefs) (get_d_changed (moved_position n z) positions k below)
    ∙ values_stay n h z s l.accepted m.accepted wood coefs (get_or positions k (pos 0)) (position-inside s positions k (l.in_span k below))
    ∙ sym (cell-holds-value l before k below wood)
