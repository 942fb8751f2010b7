-- Minimal support, proved: each row is the last one with weight on some column, and the first one on another. Of a curve's multipliers those before
-- row i vanish one after the other from the first, those behind it from the last.
use mathlib.Core.Path.{◌≡◌, sym, ◌∙◌, ap, subst}
use mathlib.Core.Logic.{◌≢◌, ◌⊎◌, inl, inr}
use mathlib.Core.Bool.{Bool, cond}
use Prim.Native.Nat.{ℕ, zero, suc, ◌+◌, ◌-◌, ◌<◌, ◌≤◌, max}
use native.Mathlib.Omega.{arith}
use native.Mathlib.Nat.{eq-or-lt_of_le}
use borrow.Author.Tests.{lt-ltb, le-ltb}
use lib.Dec.{leb, ltb, leb→le, nleb→lt, le→leb}
use lib.IntN.{pos}
use lib.ListN.{length}
use Rattle.base_exact.specs.Rational.{ℚ, int, ◌*ᵠ◌}
use Rattle.base_exact.specs.Sum.{sum}
use Rattle.base_exact.proofs.Decide.{le_or_lt, true_holds, holds_true, true_not_false, cond_true, cond_false}
use Rattle.base_exact.proofs.Order.{pos_nonzero}
use Rattle.base_exact.proofs.Rational.{mul-zero, zero-mul, mul_zero_or}
use Rattle.base_exact.proofs.Sum.{sum-only}
use Rattle.base_exact.proofs.Tabulate.{tab_get_d}
use Rattle.base_outcome.proofs.Search.{Last, SearchedBack, at, nowhere, search_last}
use Rattle.spec_spline.specs.Space.{Space, segments, degree, condition_count, first_column, column_count, conditions_before, row_count, rows_before}
use Rattle.spec_spline.specs.Table.{Table, Row, entry, cell}
use Rattle.spec_spline.specs.Piecewise.{MeetsAll, Accepted, combination}
use Rattle.spec_spline.proofs.Legal.{Checked, legal}
use Rattle.spec_spline.proofs.Space.{segment-column}
use Rattle.theorems_weights.specs.PublishedBasis.{OneCombination}
use Rattle.theorems_weights.proofs.Built.{built, row_count_lem}
use Rattle.theorems_weights.proofs.PublishedBasis.{conditions_give_one_combination}
use Rattle.theorems_beams.proofs.Sections.{orders_fit, conditions_fewer}
use Rattle.theorems_values.proofs.Segment.{accepted-checked}
use Rattle.theorems_acceptance.specs.WeightCount.{left_conditions, right_conditions}
use Rattle.theorems_stages.proofs.Support as supports
use Rattle.theorems_support.proofs.Support.{supported}
use Rattle.theorems_lines.proofs.Ordinates.{false_not}
use Rattle.theorems_minimal.specs.Minimal.{LivesOn, Multiple, RowsAreMinimal}

-- ---- the first and the last row of a column

-- A column with weight of row h, and of no row on the far side.
record Edge (s : Space) (t : Table) (h : ℕ) (Far : ℕ → Type 0) : Type 0 where
  column : ℕ
  below : column < column_count s
  some : cell t h column ≢ int (pos 0)
  far : (r : ℕ) → Far r → cell t r column ≡ int (pos 0)

module _ (s : Space) (a : Accepted s) where
  c : Checked s
  c = (accepted-checked s a).1

  edge : (h j u : ℕ) (Far : ℕ → Type 0) → j < segments s → u ≤ degree s j → (low high : ℕ) → supports.Support (λ r. cell a.table r (first_column s j + u)) low high → low ≤ h → h ≤ high
      → ((r : ℕ) → Far r → (r < low) ⊎ (high < r)) → Edge s a.table h Far
  edge h j u Far p l low high S x y past = record {
    column = first_column s j + u;
    below = segment-column s j u p l;
    some = pos_nonzero (S.positive h x y);
    far = λ r f. off r (past r f);
  }
    where
      off : (r : ℕ) → (r < low) ⊎ (high < r) → cell a.table r (first_column s j + u) ≡ int (pos 0)
      off r (inl m) = S.below r m
      off r (inr m) = S.above r m

  module _ (h : ℕ) (below : h < row_count s) where
    -- row h is the last one: in the last segment that has a row of its own at or before it
    abbrev begun : ℕ → Bool
    begun j = leb (rows_before s j + (left_conditions s j - 1)) h

    abbrev started : ℕ → Bool
    started j = leb (rows_before s j) h

    module _ (j : ℕ) (F : Last begun (segments s) j) where
      from : rows_before s j + (left_conditions s j - 1) ≤ h
      from = leb→le (rows_before s j + (left_conditions s j - 1)) h (true_holds F.meets)

      within : h - rows_before s j ≤ degree s j
      unfolding first_column conditions_before
      within = go (le_or_lt (segments s) (suc j))
        where
          go : (segments s ≤ suc j) ⊎ (suc j < segments s) → h - rows_before s j ≤ degree s j
          go (inl l) =
              let e : segments s ≡ suc j = omega (arith, F.below) in
              let y = ap (first_column s) e in
              let w = ap (conditions_before s) (let v : segments s - 1 ≡ j = omega arith in v) in
              omega (arith, from, below, conditions_fewer s (orders_fit s c) j F.below)
          go (inr l) = omega (
            arith,
            from,
            nleb→lt (rows_before s (suc j) + (condition_count s j - 1)) h (false_not (F.after (suc j) (omega arith) l)),
            conditions_fewer s (orders_fit s c) j F.below,
            (legal s c).below-left-degree j (omega arith),
          )

      last-edge : Edge s a.table h (λ r. h < r)
      last-edge = edge h j (h - rows_before s j) (λ r. h < r) F.below within _ _ (supported s a j (h - rows_before s j) F.below within)
          (omega (arith, from)) (omega (arith, from)) (λ r f. inr (omega (arith, from)))

    last_of : Edge s a.table h (λ r. h < r)
    unfolding first_column conditions_before
    last_of = go (search_last begun (segments s))
      where
        go : SearchedBack begun (segments s) → Edge s a.table h (λ r. h < r)
        go (at j F e) = last-edge j F
        go (nowhere none e) = absurd (true_not_false (holds_true (begun 0) (le→leb _ h (omega arith))) (none 0 (legal s c).lengths.some_segment))

    -- row h is the first one: in the last segment that begins at or before it
    module _ (j : ℕ) (F : Last started (segments s) j) where
      since : rows_before s j ≤ h
      since = leb→le (rows_before s j) h (true_holds F.meets)

      before : (h - rows_before s j ≤ degree s j) × (right_conditions s j + (h - rows_before s j) ≤ degree s j + 1)
      unfolding first_column conditions_before right_conditions
      before = go (le_or_lt (segments s) (suc j))
        where
          go : (segments s ≤ suc j) ⊎ (suc j < segments s) → (h - rows_before s j ≤ degree s j) × (cond (ltb (suc j) (segments s)) (condition_count s j) 0 + (h - rows_before s j) ≤ degree s j + 1)
          go (inl l) =
              let z = cond_false (condition_count s j) 0 (le-ltb (suc j) (segments s) l) in
              let e : segments s ≡ suc j = omega (arith, F.below) in
              let y = ap (first_column s) e in
              let w = ap (conditions_before s) (let v : segments s - 1 ≡ j = omega arith in v) in
              omega (arith, since, below, conditions_fewer s (orders_fit s c) j F.below)
          go (inr l) =
              let z = cond_true (condition_count s j) 0 (lt-ltb (suc j) (segments s) l) in
              omega (
                arith,
                since,
                nleb→lt (rows_before s (suc j)) h (false_not (F.after (suc j) (omega arith) l)),
                conditions_fewer s (orders_fit s c) j F.below,
                (legal s c).below-left-degree j (omega arith),
              )

      first_edge : Edge s a.table h (λ r. r < h)
      first_edge = edge h j (h - rows_before s j) (λ r. r < h) F.below before.0 _ _ (supported s a j (h - rows_before s j) F.below before.0)
          (omega (arith, since)) (omega (arith, since)) (λ r f. inl (omega (arith, since, before.1)))

    first_of : Edge s a.table h (λ r. r < h)
    unfolding first_column conditions_before
    first_of = go (search_last started (segments s))
      where
        go : SearchedBack started (segments s) → Edge s a.table h (λ r. r < h)
        go (at j F e) = first_edge j F
        go (nowhere none e) = absurd (true_not_false (holds_true (started 0) (le→leb _ h (omega arith))) (none 0 (legal s c).lengths.some_segment))

  -- ---- multipliers that vanish

  module _ (i : ℕ) (inside : i < row_count s) (o : Row) (M : MeetsAll s o) (lives : LivesOn s a.table i o) where
    C : OneCombination s a.table o
    C = conditions_give_one_combination s a o M

    abbrev m : ℕ → ℚ
    m r = entry C.multipliers r

    rows_of : length a.table ≡ row_count s
    rows_of = row_count_lem s a.table (built s a.table a.is)

    -- an ordinate of the curve where one row alone counts
    only_one : (h d : ℕ) → h < row_count s → d < column_count s → ((r : ℕ) → r < row_count s → r ≢ h → m r *ᵠ cell a.table r d ≡ int (pos 0)) → entry o d ≡ m h *ᵠ cell a.table h d
    unfolding combination
    only_one h d x y off = ap (λ z. entry z d) (sym C.gives)
        ∙ tab_get_d (column_count s) (λ e. sum (length a.table) (λ r. m r *ᵠ cell a.table r e)) d (int (pos 0)) y
        ∙ sum-only (length a.table) h {f = λ r. m r *ᵠ cell a.table r d} (omega (arith, rows_of)) (λ r k n. off r (omega (arith, rows_of)) n)

    vanishes : (h : ℕ) (Far : ℕ → Type 0) → h < row_count s → (E : Edge s a.table h Far) → Far i → ((r : ℕ) → r < row_count s → r ≢ h → Far r ⊎ (m r ≡ int (pos 0))) → m h ≡ int (pos 0)
    vanishes h Far x E f known = go (mul_zero_or (m h) (cell a.table h E.column)
        (sym (only_one h E.column x E.below (λ r k n. off r (known r k n))) ∙ lives E.column E.below (E.far i f)))
      where
        off : (r : ℕ) → Far r ⊎ (m r ≡ int (pos 0)) → m r *ᵠ cell a.table r E.column ≡ int (pos 0)
        off r (inl g) = ap (λ q. m r *ᵠ q) (E.far r g) ∙ mul-zero (m r)
        off r (inr g) = ap (λ q. q *ᵠ cell a.table r E.column) g ∙ zero-mul (cell a.table r E.column)

        go : (m h ≡ int (pos 0)) ⊎ (cell a.table h E.column ≡ int (pos 0)) → m h ≡ int (pos 0)
        go (inl z) = z
        go (inr z) = absurd (E.some z)

    apart : (r n : ℕ) → r ≢ n → (r ≤ n) ⊎ (n < r) → (r < n) ⊎ (n < r)
    apart r n x (inr y) = inr y
    apart r n x (inl y) = inl (strictly (eq-or-lt_of_le y))
      where
        strictly : (r ≡ n) ⊎ (r < n) → r < n
        strictly (inl z) = absurd (x z)
        strictly (inr z) = z

    before-row : (n : ℕ) → n ≤ i → (h : ℕ) → h < n → m h ≡ int (pos 0)
    before-row zero l h k = absurd (omega arith)
    before-row (suc n) l h k = go (eq-or-lt_of_le k) (before-row n (omega arith))
      where
        side : ((r : ℕ) → r < n → m r ≡ int (pos 0)) → (r : ℕ) → (r < n) ⊎ (n < r) → (n < r) ⊎ (m r ≡ int (pos 0))
        side known r (inl y) = inr (known r y)
        side known r (inr y) = inl y

        go : (suc h ≡ suc n) ⊎ (suc h < suc n) → ((r : ℕ) → r < n → m r ≡ int (pos 0)) → m h ≡ int (pos 0)
        go (inr x) known = known h (omega arith)
        go (inl x) known = subst (λ r. m r ≡ int (pos 0)) (let z : n ≡ h = omega arith in z)
            (vanishes n (λ r. n < r) (omega arith) (last_of n (omega arith)) l (λ r k y. side known r (apart r n y (le_or_lt r n))))

    after-row : (n h : ℕ) → i < h → h < row_count s → row_count s ≤ h + n → m h ≡ int (pos 0)
    after-row zero h x y l = absurd (omega arith)
    after-row (suc n) h x y l = vanishes h (λ r. r < h) y (first_of h y) x (λ r k z. side (λ w. after-row n r (omega arith) k (omega arith)) (apart r h z (le_or_lt r h)))
      where
        side : {r : ℕ} → (h < r → m r ≡ int (pos 0)) → (r < h) ⊎ (h < r) → (r < h) ⊎ (m r ≡ int (pos 0))
        side known (inl w) = inl w
        side known (inr w) = inr (known w)

    others_vanish : (r : ℕ) → r < row_count s → r ≢ i → m r ≡ int (pos 0)
    others_vanish r k n = go (apart r i n (le_or_lt r i))
      where
        go : (r < i) ⊎ (i < r) → m r ≡ int (pos 0)
        go (inl x) = before-row i (omega arith) r x
        go (inr x) = after-row (row_count s) r x k (omega arith)

    multiple : Multiple s a.table i o
    multiple = record {
      factor = m i;
      is = λ d y. only_one i d inside y (λ r k n. ap (λ q. q *ᵠ cell a.table r d) (others_vanish r k n) ∙ zero-mul (cell a.table r d));
    }

pub rows_are_minimal : RowsAreMinimal
rows_are_minimal s a i h o M lives = multiple s a i h o M lives
