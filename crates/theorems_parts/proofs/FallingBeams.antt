-- A list that falls over a beam gives values that fall over the beam, proved: inside a part as theorems_promises has it; from one part
-- to a later one by the limits of a value, since all rows with weight on the earlier segment come before those of the later one.
use mathlib.Core.Path.{◌≡◌, sym, ◌∙◌, ap, subst}
use mathlib.Core.Logic.{◌⊎◌, inl, inr}
use mathlib.Core.Bool.{true, not}
use mathlib.Core.List.{List}
use Prim.Native.Nat.{ℕ, zero, suc, ◌+◌, ◌-◌, ◌<◌, ◌≤◌}
use native.Mathlib.Omega.{arith}
use lib.IntN.{ℤ}
use lib.ListN.{length}
use lib.Signed.{◌≤ℤ◌}
use Rattle.base_exact.proofs.Decide.{le_or_lt, true_not_false}
use Rattle.base_exact.proofs.Integer as Z
use Rattle.base_exact.proofs.Order.{zero_test}
use Rattle.base_outcome.specs.Search.{found}
use Rattle.base_outcome.proofs.Search.{Searched, at, nowhere, search_first}
use Rattle.spec_spline.specs.Space.{Space, segments, break, part_end, degree, first_column, column_count, conditions_before, row_count, rows_before}
use Rattle.spec_spline.specs.Table.{Table, cell}
use Rattle.spec_spline.specs.Piecewise.{Accepted}
use Rattle.spec_spline.specs.Reading.{fine, segment_at, Wood, coefficient, has_weight, value_at}
use Rattle.spec_spline.specs.ExactCurve.{weighs_on, least_on, greatest_on}
use Rattle.spec_spline.proofs.Parts.{Ends, part-ends, InPart, segment_in_part}
use Rattle.spec_spline.proofs.Space.{first_column_mono}
use Rattle.spec_spline.proofs.Legal.{Checked, lengths_fit_inverts}
use Rattle.theorems_weights.proofs.Built.{built, row_count_lem}
use Rattle.theorems_beams.specs.Sections.{part_at}
use Rattle.theorems_beams.specs.Parts.{Starts}
use Rattle.theorems_beams.proofs.Sections.{orders_fit, conditions_fewer, conditions-between}
use Rattle.theorems_beams.proofs.Ends.{boundary_starts}
use Rattle.theorems_beams.proofs.Fronts.{part-columns, part-rows, front-rows_more, front-rows-within}
use Rattle.theorems_beams.proofs.Parts.{weights_by_parts}
use Rattle.theorems_values.specs.ValueLimits.{InSpan}
use Rattle.theorems_values.proofs.Fine.{fine_mono}
use Rattle.theorems_values.proofs.OnSegment.{least_on_is, greatest_on_is}
use Rattle.theorems_values.proofs.Segment.{accepted-checked, located}
use Rattle.theorems_values.proofs.SegmentWeights.{every_segment_has_weight}
use Rattle.theorems_values.proofs.Positions.{breaks_ordered}
use Rattle.theorems_values.proofs.ValueLimits.{value_at_least-least, value_at_most_greatest}
use Rattle.theorems_values.proofs.Cells.{cell-holds-value, position-inside}
use Rattle.theorems_promises.specs.FallingCurves as promised
use Rattle.theorems_promises.proofs.FallingCurves.{falling_lists_fall, climbing_lists_climb}
use Rattle.theorems_parts.specs.FallingBeams.{LowBeam, FallsAlong, ClimbsAlong, FallingBeamsFall, ClimbingBeamsClimb, FallingBeamCells, ClimbingBeamCells}
use Rattle.theorems_parts.proofs.PartValues.{not_past, not_before}

-- ---- rows with weight on a segment

-- a row with weight on a segment has weight in one of its columns
pub record Weighing (s : Space) (t : Table) (j i : ℕ) : Type 0 where
  pub ordinate : ℕ
  pub within : ordinate ≤ degree s j
  pub weighs : has_weight t (first_column s j + ordinate) i ≡ true

pub weighing : (s : Space) (t : Table) (j i : ℕ) → weighs_on s t j i ≡ true → Weighing s t j i
unfolding weighs_on
weighing s t j i e = go (search_first (λ u. has_weight t (first_column s j + u) i) (suc (degree s j)))
  where
    go : Searched (λ u. has_weight t (first_column s j + u) i) (suc (degree s j)) → Weighing s t j i
    go (at u F p) = record { ordinate = u; within = omega (arith, F.below); weighs = F.meets }
    go (nowhere f p) = absurd (true_not_false e (ap found p))

module _ (s : Space) (x : Accepted s) where
  c : Checked s
  c = (accepted-checked s x).1

  -- the rows with weight on a segment of a part are the part's
  pub own-rows : (a j i : ℕ) → Starts s a → a ≤ j → j < part_end s a → weighs_on s x.table j i ≡ true → (rows_before s a ≤ i) × (i < rows_before s a + row_count (part_at s a))
  unfolding first_column
  own-rows a j i A from to e = (go (le_or_lt (rows_before s a) i), end (le_or_lt (rows_before s a + row_count (part_at s a)) i))
    where
      w : Weighing s x.table j i
      w = weighing s x.table j i e

      k : ℕ
      k = first_column s j + w.ordinate - first_column s a

      column : first_column s a + k ≡ first_column s j + w.ordinate
      column = omega (arith, first_column_mono s a j from)

      below : k < column_count (part_at s a)
      below = omega (arith, w.within, first_column_mono s (suc j) (part_end s a) to, part-columns s (orders_fit s c) a A, first_column_mono s a j from)

      outside : (i < rows_before s a) ⊎ (rows_before s a + row_count (part_at s a) ≤ i) → ⊥
      outside o = true_not_false w.weighs (ap not (zero_test (ap (cell x.table i) (sym column) ∙ (weights_by_parts s x a A).zero-above_and_below i k below o)))

      go : (rows_before s a ≤ i) ⊎ (i < rows_before s a) → rows_before s a ≤ i
      go (inl z) = z
      go (inr z) = absurd (outside (inl z))

      end : (rows_before s a + row_count (part_at s a) ≤ i) ⊎ (i < rows_before s a + row_count (part_at s a)) → i < rows_before s a + row_count (part_at s a)
      end (inl z) = absurd (outside (inr z))
      end (inr z) = z

  -- a later part's rows come behind an earlier one's
  rows-rise : (a b : ℕ) → a ≤ b → b < segments s → rows_before s a ≤ rows_before s b
  rows-rise a b h l = let F = orders_fit s c in
      omega (
        arith,
        conditions-between s F a (b - a) (omega arith),
        conditions_fewer s F a (omega arith),
        conditions_fewer s F b l,
        ap (conditions_before s) (let z : a + (b - a) ≡ b = omega arith in z),
        ap (first_column s) (let z : a + (b - a) ≡ b = omega arith in z),
      )

  rows_behind : (a b : ℕ) → Starts s a → Starts s b → part_end s a ≤ b → rows_before s a + row_count (part_at s a) ≤ rows_before s b
  rows_behind a b A B h = let E = part-ends s a A.below in
      omega (arith, part-rows s (orders_fit s c) a A (boundary_starts E.boundary (omega (arith, B.below))), rows-rise (part_end s a) b h B.below)

  -- two segments lie in one part, or all rows with weight on the earlier come before those of the later one
  rows_apart : (j l : ℕ) → l < segments s → (a : ℕ) → Starts s a → a ≤ j → j < part_end s a → part_end s a ≤ l
      → (i k : ℕ) → weighs_on s x.table j i ≡ true → weighs_on s x.table l k ≡ true → i < k
  rows_apart j l below a A from to past i k p q =
      omega (arith, (own-rows a j i A from to p).1, (own-rows b l k B P.from P.to q).0, rows_behind a b A B (behind (le_or_lt (part_end s a) b)))
    where
      P : InPart s l
      P = segment_in_part s l below

      b : ℕ
      b = P.start

      B : Starts s b
      B = record { below = omega (arith, P.from); starts = P.starts }

      E : Ends s a (part_end s a)
      E = part-ends s a A.below

      behind : (part_end s a ≤ b) ⊎ (b < part_end s a) → part_end s a ≤ b
      behind (inl h) = h
      behind (inr h) = absurd (inner (le_or_lt b a))
        where
          inner : (b ≤ a) ⊎ (a < b) → ⊥
          inner (inl m) = true_not_false (E.boundary.starts (omega arith)) ((part-ends s b B.below).between (part_end s a) (omega arith) (omega (arith, P.to)))
          inner (inr m) = true_not_false P.starts (E.between b m h)

  -- ---- a later position has no earlier segment

  segments-rise : (y z : ℤ) → InSpan s y → InSpan s z → y ≤ℤ z → segment_at s y ≤ segment_at s z
  segments-rise y z p q h = go (le_or_lt (segment_at s y) (segment_at s z))
    where
      go : (segment_at s y ≤ segment_at s z) ⊎ (segment_at s z < segment_at s y) → segment_at s y ≤ segment_at s z
      go (inl l) = l
      go (inr l) =
          let back : z ≤ℤ y =
          Z.≤_trans z _ y (not_past s c z q)
          (Z.≤_trans _ (fine (break s (segment_at s y))) y (breaks_ordered s c (suc (segment_at s z)) (segment_at s y) l (omega (arith, (located s c y p).below)))
          (not_before s c y p)) in
          omega (arith, ap (segment_at s) (Z.≤_antisym y z h back))

  -- ---- coefficients along the rows

  rows : length x.table ≡ row_count s
  rows = row_count_lem s x.table (built s x.table x.is)

  part-within : (a : ℕ) → Starts s a → rows_before s a + row_count (part_at s a) ≤ row_count s
  part-within a A =
      omega (
        arith,
        front-rows_more s (orders_fit s c) a A,
        front-rows-within s (lengths_fit_inverts s c.lengths) (orders_fit s c) (part_end s a) (part-ends s a A.below).boundary,
      )

  module _ (f : ℕ → ℤ) where
    falling_from : ((i : ℕ) → suc i < row_count s → f (suc i) ≤ℤ f i) → (i n : ℕ) → i + n < row_count s → f (i + n) ≤ℤ f i
    falling_from h i zero l = subst (λ k. f k ≤ℤ f i) (let z : i ≡ i + 0 = omega arith in z) (Z.≤-refl (f i))
    falling_from h i (suc n) l = subst (λ k. f k ≤ℤ f i) (let z : suc (i + n) ≡ i + suc n = omega arith in z)
        (Z.≤_trans _ (f (i + n)) _ (h (i + n) (omega arith)) (falling_from h i n (omega arith)))

    climbing_from : ((i : ℕ) → suc i < row_count s → f i ≤ℤ f (suc i)) → (i n : ℕ) → i + n < row_count s → f i ≤ℤ f (i + n)
    climbing_from h i zero l = subst (λ k. f i ≤ℤ f k) (let z : i ≡ i + 0 = omega arith in z) (Z.≤-refl (f i))
    climbing_from h i (suc n) l = subst (λ k. f i ≤ℤ f k) (let z : suc (i + n) ≡ i + suc n = omega arith in z)
        (Z.≤_trans _ (f (i + n)) _ (climbing_from h i n (omega arith)) (h (i + n) (omega arith)))

  -- ---- two positions

  module _ (low : LowBeam s) (wood : Wood) (coefs : List ℤ) (y z : ℤ) (p : InSpan s y) (q : InSpan s z) (h : y ≤ℤ z) where
    abbrev value : ℤ → ℤ
    value w = value_at s x.table wood coefs w

    abbrev f : ℕ → ℤ
    f = coefficient wood coefs

    j_below : segment_at s y < segments s
    j_below = (located s c y p).below

    l_below : segment_at s z < segments s
    l_below = (located s c z q).below

    P : InPart s (segment_at s y)
    P = segment_in_part s (segment_at s y) j_below

    a : ℕ
    a = P.start

    A : Starts s a
    unfolding a
    A = record { below = omega (arith, P.from, j_below); starts = P.starts }

    in_y : promised.InPart s a y
    unfolding a
    in_y = record { inside = p; from = P.from; to = P.to }

    in_z : segment_at s z < part_end s a → promised.InPart s a z
    unfolding a
    in_z l = record { inside = q; from = omega (arith, P.from, segments-rise y z p q h); to = l }

    low_part : promised.LowOrders s a
    low_part k m l = low k (omega (arith, (part-ends s a A.below).boundary.within))

    apart : part_end s a ≤ segment_at s z → (i k : ℕ) → weighs_on s x.table (segment_at s y) i ≡ true → weighs_on s x.table (segment_at s z) k ≡ true → i < k
    unfolding a
    apart l = rows_apart (segment_at s y) (segment_at s z) l_below a A P.from P.to l

    values_fall : FallsAlong s wood coefs → value z ≤ℤ value y
    values_fall falls = go (le_or_lt (part_end s a) (segment_at s z))
      where
        go : (part_end s a ≤ segment_at s z) ⊎ (segment_at s z < part_end s a) → value z ≤ℤ value y
        go (inr l) = falling_lists_fall s x a A low_part wood coefs
            (λ i m. subst (λ k. f k ≤ℤ f (rows_before s a + i)) (let e : suc (rows_before s a + i) ≡ rows_before s a + suc i = omega arith in e) (falls
            (rows_before s a + i) (omega (arith, part-within a A))))
            y z in_y (in_z l) h
        go (inl l) =
            let v = every_segment_has_weight s x (segment_at s y) j_below in
            let w = every_segment_has_weight s x (segment_at s z) l_below in
            let least = least_on_is s x.table (segment_at s y) wood coefs v.row v.below v.weighs in
            let greatest = greatest_on_is s x.table (segment_at s z) wood coefs w.row w.below w.weighs in
            let i = least.index in
            let k = greatest.index in
            let before = apart l i k least.passing greatest.passing in
            let lower : f k ≤ℤ f i = subst (λ m. f m ≤ℤ f i) (let e : i + (k - i) ≡ k = omega arith in e) (falling_from f falls i (k - i) (omega (arith, greatest.below, rows))) in
            Z.≤_trans _ _ _ (value_at_most_greatest s x wood coefs z q)
            (Z.≤_trans _ _ _ (fine_mono (greatest_on s x.table wood coefs (segment_at s z)) (least_on s x.table wood coefs (segment_at s y))
            (subst (λ m. m ≤ℤ least_on s x.table wood coefs (segment_at s y)) greatest.is (subst (λ m. f k ≤ℤ m) least.is lower)))
            (value_at_least-least s x wood coefs y p))

    values_climb : ClimbsAlong s wood coefs → value y ≤ℤ value z
    values_climb climbs = go (le_or_lt (part_end s a) (segment_at s z))
      where
        go : (part_end s a ≤ segment_at s z) ⊎ (segment_at s z < part_end s a) → value y ≤ℤ value z
        go (inr l) = climbing_lists_climb s x a A low_part wood coefs
            (λ i m. subst (λ k. f (rows_before s a + i) ≤ℤ f k) (let e : suc (rows_before s a + i) ≡ rows_before s a + suc i = omega arith in e) (climbs
            (rows_before s a + i) (omega (arith, part-within a A))))
            y z in_y (in_z l) h
        go (inl l) =
            let v = every_segment_has_weight s x (segment_at s y) j_below in
            let w = every_segment_has_weight s x (segment_at s z) l_below in
            let greatest = greatest_on_is s x.table (segment_at s y) wood coefs v.row v.below v.weighs in
            let least = least_on_is s x.table (segment_at s z) wood coefs w.row w.below w.weighs in
            let i = greatest.index in
            let k = least.index in
            let before = apart l i k greatest.passing least.passing in
            let higher : f i ≤ℤ f k = subst (λ m. f i ≤ℤ f m) (let e : i + (k - i) ≡ k = omega arith in e) (climbing_from f climbs i (k - i) (omega (arith, least.below, rows))) in
            Z.≤_trans _ _ _ (value_at_most_greatest s x wood coefs y p)
            (Z.≤_trans _ _ _ (fine_mono (greatest_on s x.table wood coefs (segment_at s y)) (least_on s x.table wood coefs (segment_at s z))
            (subst (λ m. m ≤ℤ least_on s x.table wood coefs (segment_at s z)) greatest.is (subst (λ m. f i ≤ℤ m) least.is higher)))
            (value_at_least-least s x wood coefs z q))

pub falling_beams_fall : FallingBeamsFall
falling_beams_fall s x low wood coefs falls y z p q h = values_fall s x low wood coefs y z p q h falls

pub climbing_beams_climb : ClimbingBeamsClimb
climbing_beams_climb s x low wood coefs climbs y z p q h = values_climb s x low wood coefs y z p q h climbs

pub falling-beam-cells : FallingBeamCells
falling-beam-cells s coefs positions num_length den_length values_length l held wood low falls k m h n o =
    rw (cell-holds-value l held k h wood, cell-holds-value l held m n wood)
    (falling_beams_fall s l.accepted low wood coefs falls _ _ (position-inside s positions k (l.in_span k h)) (position-inside s positions m (l.in_span m n)) o)

pub climbing_beam-cells : ClimbingBeamCells
climbing_beam-cells s coefs positions num_length den_length values_length l held wood low climbs k m h n o =
    rw (cell-holds-value l held k h wood, cell-holds-value l held m n wood)
    (climbing_beams_climb s l.accepted low wood coefs climbs _ _ (position-inside s positions k (l.in_span k h)) (position-inside s positions m (l.in_span m n)) o)
