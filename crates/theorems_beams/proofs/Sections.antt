-- Sections of a beam: their segments, breakpoints, degrees, orders, columns and conditions are the beam's, counted from the
-- section's first segment and column; a section of a section is a section; and orders that fit the degrees still do.
use mathlib.Core.Path.{◌≡◌, refl, sym, ◌∙◌, ap, ap₂}
use mathlib.Core.List.{List, [], ◌∷◌, ◌++◌, map, map-append, map-map}
use Prim.Native.Nat.{ℕ, zero, suc, ◌+◌, ◌-◌, ◌*◌, ◌<◌, ◌≤◌}
use native.Mathlib.Omega.{arith}
use native.Mathlib.Nat.{add-zero, add-suc, zero-add as nothing-add}
use lib.Dec.{eqb}
use lib.IntN.{ℤ, pos, ◌+ℤ◌, ◌-ℤ◌, ◌*ℤ◌, neg_ℤ, nat_abs}
use lib.ListN.{get_or, take, drop, length-drop}
use lib.Seq.{length-take-le, get_or-take, get_or-drop, take-take, take_all, drop-drop}
use Rattle.base_exact.specs.Gcd.{gcd}
use Rattle.base_exact.specs.Tabulate.{tab}
use Rattle.base_exact.proofs.Tabulate.{tab_ext, map_tab}
use Rattle.spec_spline.specs.Space.{Space, segments, break, degree_entry, order, degree, width, condition_count, starts_part, first_column, column_count, conditions_before}
use Rattle.spec_spline.specs.Conditions.{Entry, binomial, alternating, scale, left_entry, right_entry, undivided, common_divisor, divided, conditions}
use Rattle.spec_spline.proofs.Legal.{Checked, Lengths, legal}
use Rattle.theorems_beams.specs.Sections.{section}

-- ---- lists
module _ {A : Type 0} where
  get_d_middle : (a n : ℕ) (l : List A) (i : ℕ) (d : A) → i < n → get_or (take n (drop a l)) i d ≡ get_or l (a + i) d
  get_d_middle a n l i d h = get_or-take n (drop a l) i d h ∙ get_or-drop a l i d

  drop_take : (b k n : ℕ) (l : List A) → b + k ≤ n → take k (drop b (take n l)) ≡ take k (drop b l)
  drop_take zero k n l h = take-take k n l (omega arith)
  drop_take (suc b) k zero l h = absurd (omega arith)
  drop_take (suc b) k (suc n) [] h = refl
  drop_take (suc b) k (suc n) (x ∷ l) h = drop_take b k n l (omega arith)

  middle_middle : (a n b k : ℕ) (l : List A) → b + k ≤ n → take k (drop b (take n (drop a l))) ≡ take k (drop (a + b) l)
  middle_middle a n b k l h = drop_take b k n (drop a l) h ∙ ap (take k) (drop-drop b a l)

space_is : {x x' y y' z z' : List ℤ} → x ≡ x' → y ≡ y' → z ≡ z' → ◌≡◌ {A = Space} (record { breaks = x; degrees = y; orders = z }) (record { breaks = x'; degrees = y'; orders = z' })
space_is p q r = cc

-- ---- the numbers of a section
module _ (s : Space) (a n : ℕ) where
  pub section-segments : a + n ≤ segments s → segments (section s a n) ≡ n
  section-segments h = length-take-le n (drop a s.degrees) (rw (length-drop a s.degrees) (omega arith))

  pub section-break : (i : ℕ) → i ≤ n → break (section s a n) i ≡ break s (a + i)
  section-break i h = get_d_middle a (suc n) s.breaks i (pos 0) (omega arith)

  pub section-degree_entry : (i : ℕ) → i < n → degree_entry (section s a n) i ≡ degree_entry s (a + i)
  section-degree_entry i h = get_d_middle a n s.degrees i (pos 0) h

  pub section-degree : (i : ℕ) → i < n → degree (section s a n) i ≡ degree s (a + i)
  section-degree i h = ap nat_abs (section-degree_entry i h)

  pub section-order : (i : ℕ) → suc i < n → order (section s a n) i ≡ order s (a + i)
  section-order i h = get_d_middle a (n - 1) s.orders i (pos 0) (omega arith)

  pub section-condition_count : (i : ℕ) → suc i < n → condition_count (section s a n) i ≡ condition_count s (a + i)
  section-condition_count i h = ap (λ z. nat_abs (z +ℤ pos 1)) (section-order i h)

  -- a join of the section is a discontinuity where the beam's is
  pub section-starts : (i : ℕ) → suc i < n → starts_part (section s a n) (suc i) ≡ starts_part s (a + suc i)
  unfolding starts_part
  section-starts i h = ap (λ k. eqb k 0) (section-condition_count i h) ∙ ap (starts_part s) (sym (add-suc a i))

  pub section-width : (i : ℕ) → i < n → width (section s a n) i ≡ width s (a + i)
  section-width i h = ap₂ (λ y x. nat_abs (y -ℤ x)) (section-break (suc i) h ∙ ap (break s) (add-suc a i)) (section-break i (omega arith))

  pub section-first_column : (i : ℕ) → i ≤ n → first_column s (a + i) ≡ first_column s a + first_column (section s a n) i
  unfolding first_column
  section-first_column zero h = ap (first_column s) (add-zero a) ∙ omega arith
  section-first_column (suc i) h = ap (first_column s) (add-suc a i) ∙ omega (arith, section-first_column i (omega arith), section-degree i h)

  pub section-conditions_before : (i : ℕ) → i < n → conditions_before s (a + i) ≡ conditions_before s a + conditions_before (section s a n) i
  unfolding conditions_before
  section-conditions_before zero h = ap (conditions_before s) (add-zero a) ∙ omega arith
  section-conditions_before (suc i) h = ap (conditions_before s) (add-suc a i) ∙ omega (arith, section-conditions_before i (omega arith), section-condition_count i h)

  pub section-column_count : a + n ≤ segments s → first_column s (a + n) ≡ first_column s a + column_count (section s a n)
  section-column_count h = section-first_column n (omega arith) ∙ ap (λ k. first_column s a + first_column (section s a n) k) (sym (section-segments h))

  -- a section of the section
  pub section-section : (b k : ℕ) → b + k ≤ n → section (section s a n) b k ≡ section s (a + b) k
  section-section b k h = space_is (middle_middle a (suc n) b (suc k) s.breaks (omega arith)) (middle_middle a n b k s.degrees h) (orders k h)
    where
      orders : (k : ℕ) → b + k ≤ n → take (k - 1) (drop b (take (n - 1) (drop a s.orders))) ≡ take (k - 1) (drop (a + b) s.orders)
      orders zero h = refl
      orders (suc k) h = middle_middle a (n - 1) b (suc k - 1) s.orders (omega arith)

-- the whole beam
pub section_all : (s : Space) → Lengths s → section s 0 (segments s) ≡ s
section_all s L =
    space_is (take_all (suc (segments s)) s.breaks (omega (arith, L.break-count))) (take_all (segments s) s.degrees (omega arith))
    (take_all (segments s - 1) s.orders (omega (arith, L.order-count)))

-- ---- the front of a beam: its sections from segment 0
module _ (s : Space) (b : ℕ) where
  pub front-columns : b ≤ segments s → column_count (section s 0 b) ≡ first_column s b
  unfolding first_column
  front-columns h = sym (ap (first_column s) (sym (nothing-add b)) ∙ section-column_count s 0 b (omega arith) ∙ omega arith)

  pub front-first_column : (i : ℕ) → i ≤ b → first_column (section s 0 b) i ≡ first_column s i
  unfolding first_column
  front-first_column i h = sym (ap (first_column s) (sym (nothing-add i)) ∙ section-first_column s 0 b i h ∙ omega arith)

  pub front-conditions_before : (i : ℕ) → i < b → conditions_before (section s 0 b) i ≡ conditions_before s i
  unfolding conditions_before
  front-conditions_before i h = sym (ap (conditions_before s) (sym (nothing-add i)) ∙ section-conditions_before s 0 b i h ∙ omega arith)

  pub front-starts : (i : ℕ) → i < b → starts_part (section s 0 b) i ≡ starts_part s i
  unfolding starts_part
  front-starts zero h = refl
  front-starts (suc i) h = section-starts s 0 b i h ∙ ap (starts_part s) (nothing-add (suc i))

  -- a section within the front
  pub front-section : (a n : ℕ) → a + n ≤ b → section (section s 0 b) a n ≡ section s a n
  front-section a n h = section-section s 0 b a n h ∙ ap (λ k. section s k n) (nothing-add a)

-- ---- conditions

-- The entries with their columns moved.
abbrev pub moved_entry : ℕ → Entry → Entry
moved_entry c e = record { column = c + e.column; condition = e.condition }

abbrev pub moved : ℕ → List Entry → List Entry
moved c κ = map (moved_entry c) κ

common_moved : (c : ℕ) (es : List Entry) → common_divisor (moved c es) ≡ common_divisor es
unfolding common_divisor
common_moved c [] = refl
common_moved c (e ∷ es) = ap (gcd (nat_abs e.condition)) (common_moved c es)

module _ (s : Space) (a n i k : ℕ) (inside : suc i < n) where
  abbrev part : Space
  part = section s a n

  entry_is : {c d : ℕ} {x y : ℤ} → c ≡ d → x ≡ y → ◌≡◌ {A = Entry} (record { column = c; condition = x }) (record { column = d; condition = y })
  entry_is p q = cc

  next : degree s (suc (a + i)) ≡ degree part (suc i)
  next = ap (degree s) (sym (add-suc a i)) ∙ sym (section-degree s a n (suc i) inside)

  next-width : width s (suc (a + i)) ≡ width part (suc i)
  next-width = ap (width s) (sym (add-suc a i)) ∙ sym (section-width s a n (suc i) inside)

  left-moved : (t : ℕ) → left_entry s (a + i) k t ≡ moved_entry (first_column s a) (left_entry part i k t)
  left-moved t = entry_is
      (omega (arith, section-first_column s a n i (omega arith), section-degree s a n i (omega arith)))
      (ap₂ (λ p w. pos (scale p k w * binomial k t) *ℤ alternating (k - t)) (sym (section-degree s a n i (omega arith))) next-width)

  right-moved : (t : ℕ) → right_entry s (a + i) k t ≡ moved_entry (first_column s a) (right_entry part i k t)
  right-moved t = entry_is
      (ap (λ m. first_column s m + t) (sym (add-suc a i)) ∙ omega (arith, section-first_column s a n (suc i) (omega arith)))
      (ap₂ (λ p w. neg_ℤ (pos (scale p k w * binomial k t) *ℤ alternating (k - t))) next (sym (section-width s a n i (omega arith))))

  undivided-moved : undivided s (a + i) k ≡ moved (first_column s a) (undivided part i k)
  unfolding undivided
  undivided-moved =
      ap₂ ◌++◌ (tab_ext (suc k) (λ t h. left-moved t) ∙ sym (map_tab (moved_entry (first_column s a)) (suc k) (left_entry part i k)))
      (tab_ext (suc k) (λ t h. right-moved t) ∙ sym (map_tab (moved_entry (first_column s a)) (suc k) (right_entry part i k)))
      ∙ sym (map-append (moved_entry (first_column s a)) (tab (suc k) (left_entry part i k)) (tab (suc k) (right_entry part i k)))

  -- the conditions of the section's join are those of the beam's, in the section's columns
  pub section-conditions : conditions s (a + i) k ≡ moved (first_column s a) (conditions part i k)
  unfolding conditions
  section-conditions =
      ap₂ (λ g es. map (divided g) es) (ap common_divisor undivided-moved ∙ common_moved (first_column s a) (undivided part i k)) undivided-moved
      ∙ map-map (divided (common_divisor (undivided part i k))) (moved_entry (first_column s a)) (undivided part i k)
      ∙ sym (map-map (moved_entry (first_column s a)) (divided (common_divisor (undivided part i k))) (undivided part i k))

-- ---- orders that fit the degrees: all that cutting a beam needs of its lists
pub record OrdersFit (s : Space) : Type 0 where
  pub left : (j : ℕ) → suc j < segments s → condition_count s j ≤ degree s j
  pub right : (j : ℕ) → suc j < segments s → condition_count s j ≤ degree s (suc j)

pub orders_fit : (s : Space) → Checked s → OrdersFit s
orders_fit s c = let L = legal s c in record { left = λ j h. L.below-left-degree j (omega arith); right = λ j h. L.below-right-degree j (omega arith) }

pub section_orders_fit : (s : Space) (a n : ℕ) → a + n ≤ segments s → OrdersFit s → OrdersFit (section s a n)
section_orders_fit s a n h F = record {
  left = λ j l. let k : suc j < n = rw (section-segments s a n h) at l in omega (arith, F.left (a + j) (omega arith), section-condition_count s a n j k, section-degree s a n j (omega arith));
  right =
      λ j l. let k : suc j < n = rw (section-segments s a n h) at l in
      omega (arith, F.right (a + j) (omega arith), section-condition_count s a n j k, section-degree s a n (suc j) k, ap (degree s) (add-suc a j));
}

-- the conditions before a join are fewer than the columns before it
pub conditions_fewer : (s : Space) → OrdersFit s → (i : ℕ) → i < segments s → conditions_before s i ≤ first_column s i
unfolding conditions_before first_column
conditions_fewer s F zero h = omega arith
conditions_fewer s F (suc i) h = omega (arith, conditions_fewer s F i (omega arith), F.left i h)

-- from one join to a later one there come no more conditions than columns
pub conditions-between : (s : Space) → OrdersFit s → (i k : ℕ) → i + k < segments s → first_column s i + conditions_before s (i + k) ≤ first_column s (i + k) + conditions_before s i
unfolding conditions_before first_column
conditions-between s F i zero h = rw (add-zero i) (omega arith)
conditions-between s F i (suc k) h = rw (add-suc i k) (omega (arith, conditions-between s F i k (omega arith), F.left (i + k) (omega arith)))
