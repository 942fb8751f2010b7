-- A falling list gives a falling curve, and a climbing one a climbing curve, proved: in a segment by the triangle of ordinates that
-- follow one another, and from segment to segment over the ordinates between.
use mathlib.Core.Path.{◌≡◌, sym, ◌∙◌, ap, subst}
use mathlib.Core.Logic.{◌⊎◌, inl, inr}
use mathlib.Core.List.{List}
use Prim.Native.Nat.{ℕ, suc, ◌+◌, ◌-◌, ◌<◌, ◌≤◌}
use native.Mathlib.Omega.{arith}
use native.Mathlib.Nat.{eq-or-lt_of_le}
use lib.IntN.{ℤ, pos, neg_ℤ}
use lib.ListN.{get_or}
use lib.Signed.{◌≤ℤ◌}
use Rattle.base_exact.proofs.Decide.{le_or_lt}
use Rattle.base_exact.proofs.Integer as Z
use Rattle.base_exact.proofs.Tabulate.{tab_get_d}
use Rattle.spec_spline.specs.Space.{Space, segments, break, part_end, degree, first_column, column_count, row_count, rows_before}
use Rattle.spec_spline.specs.Piecewise.{Accepted}
use Rattle.spec_spline.specs.Reading.{fine, segment_at, Wood, coefficient, ordinate, ordinates, fine_width, offset, triangle, blended, value_at}
use Rattle.spec_spline.proofs.Parts.{part-ends}
use Rattle.spec_spline.proofs.Legal.{Checked}
use Rattle.theorems_beams.specs.Sections.{part_at}
use Rattle.theorems_beams.specs.Parts.{Starts}
use Rattle.theorems_values.specs.ValueLimits.{InSpan}
use Rattle.theorems_values.proofs.Segment.{Located, accepted-checked, located, fine_width_is}
use Rattle.theorems_values.proofs.Positions.{breaks_ordered}
use Rattle.theorems_values.proofs.Value.{segment-column}
use Rattle.theorems_values.proofs.Cells.{cell-holds-value}
use Rattle.theorems_promises.specs.FallingCurves.{LowOrders, InPart, FallingListsFall, ClimbingListsClimb, FallingCells, ClimbingCells}
use Rattle.theorems_promises.proofs.Directions.{Direction, climbing, falling, after_first, before_last, triangle_moves}
use Rattle.theorems_promises.proofs.PartOrdinates.{ordinates-follow, segments-follow}

-- ---- a later position has no earlier segment

module _ (s : Space) (c : Checked s) (y z : ℤ) (p : InSpan s y) (q : InSpan s z) (h : y ≤ℤ z) where
  -- a position is not past its segment's end
  not_past : (x : ℤ) → InSpan s x → x ≤ℤ fine (break s (suc (segment_at s x)))
  not_past x i = let at = located s c x i in
      Z.≤_in x (fine (break s (suc (segment_at s x)))) (omega (
        arith,
        Z.≤_out _ _ at.to,
        ap Z.up (fine_width_is s c (segment_at s x) at.below),
        ap Z.dn (fine_width_is s c (segment_at s x) at.below),
        Z.bal_+ x (neg_ℤ (fine (break s (segment_at s x)))),
        Z.bal_+ (fine (break s (suc (segment_at s x)))) (neg_ℤ (fine (break s (segment_at s x)))),
        Z.bal_neg (fine (break s (segment_at s x))),
      ))

  not_before : (x : ℤ) → InSpan s x → fine (break s (segment_at s x)) ≤ℤ x
  not_before x i = let at = located s c x i in
      Z.≤_in (fine (break s (segment_at s x))) x (omega (arith, Z.≤_out _ _ at.from, Z.bal_+ x (neg_ℤ (fine (break s (segment_at s x)))), Z.bal_neg (fine (break s (segment_at s x)))))

  segments-rise : segment_at s y ≤ segment_at s z
  segments-rise = go (le_or_lt (segment_at s y) (segment_at s z))
    where
      go : (segment_at s y ≤ segment_at s z) ⊎ (segment_at s z < segment_at s y) → segment_at s y ≤ segment_at s z
      go (inl l) = l
      go (inr l) =
          let back : z ≤ℤ y =
          Z.≤_trans z _ y (not_past z q)
          (Z.≤_trans _ (fine (break s (segment_at s y))) y (breaks_ordered s c (suc (segment_at s z)) (segment_at s y) l (omega (arith, (located s c y p).below)))
          (not_before y p)) in
          omega (arith, ap (segment_at s) (Z.≤_antisym y z h back))

-- ---- values in one direction

module _ (s : Space) (x : Accepted s) (a : ℕ) (A : Starts s a) (low : LowOrders s a) {before : ℤ → ℤ → Type 0} (D : Direction before) (wood : Wood) (coefs : List ℤ)
    (follow : (i : ℕ) → suc i < row_count (part_at s a) → before (coefficient wood coefs (rows_before s a + i)) (coefficient wood coefs (rows_before s a + suc i))) where
  c : Checked s
  c = (accepted-checked s x).1

  abbrev f : ℕ → ℤ
  f = coefficient wood coefs

  -- the ordinates as the triangle takes them
  abbrev given : ℕ → ℕ → ℤ
  given j k = get_or (ordinates s x.table f) (first_column s j + k) (pos 0)

  abbrev ord : ℕ → ℕ → ℤ
  ord j k = ordinate x.table f (first_column s j + k)

  given_is : (j k : ℕ) → j < segments s → k ≤ degree s j → given j k ≡ ord j k
  unfolding ordinates
  given_is j k h l = tab_get_d (column_count s) (ordinate x.table f) (first_column s j + k) (pos 0) (segment-column s j k h l)

  given-follows : (j : ℕ) → a ≤ j → j < part_end s a → (k : ℕ) → k < degree s j → before (given j k) (given j (suc k))
  given-follows j h l k m = let b : j < segments s = omega (arith, (part-ends s a A.below).boundary.within) in
      subst (λ z. before z (given j (suc k))) (sym (given_is j k b (omega arith))) (subst (before (ord j k)) (sym (given_is j (suc k) b m)) (ordinates-follow s x a A low D f follow j k h l m))

  module _ (y : ℤ) (Y : InPart s a y) where
    abbrev j : ℕ
    j = segment_at s y

    at : Located s y j
    at = located s c y Y.inside

    after-start : before (ord j 0) (value_at s x.table wood coefs y)
    unfolding value_at blended
    after-start = subst (λ z. before z (triangle (fine_width s j) (offset s j y) (given j) (degree s j) 0)) (given_is j 0 at.below (omega arith))
        (after_first D (fine_width s j) at.positive (given j) (degree s j) (given-follows j Y.from Y.to) (offset s j y) at.from at.to (degree s j) 0 (omega arith))

    before_end : before (value_at s x.table wood coefs y) (ord j (degree s j))
    unfolding value_at blended
    before_end =
        subst (before (triangle (fine_width s j) (offset s j y) (given j) (degree s j) 0))
        (ap (given j) (let z : 0 + degree s j ≡ degree s j = omega arith in z) ∙ given_is j (degree s j) at.below (omega arith))
        (before_last D (fine_width s j) at.positive (given j) (degree s j) (given-follows j Y.from Y.to) (offset s j y) at.from at.to (degree s j) 0 (omega arith))

  pub values-follow : (y z : ℤ) → InPart s a y → InPart s a z → y ≤ℤ z → before (value_at s x.table wood coefs y) (value_at s x.table wood coefs z)
  unfolding value_at blended
  values-follow y z Y W h = go (eq-or-lt_of_le (segments-rise s c y z Y.inside W.inside h))
    where
      read : ℕ → ℤ → ℤ
      read i w = triangle (fine_width s i) (offset s i w) (given i) (degree s i) 0

      -- both in one segment
      moved : offset s (segment_at s y) z ≤ℤ pos (fine_width s (segment_at s y)) → before (read (segment_at s y) y) (read (segment_at s y) z)
      moved t = triangle_moves D (fine_width s (segment_at s y)) (at y Y).positive (given (segment_at s y)) (degree s (segment_at s y)) (given-follows (segment_at s y) Y.from Y.to)
          (offset s (segment_at s y) y) (offset s (segment_at s y) z) (at y Y).from
          (Z.+_mono y z (neg_ℤ (fine (break s (segment_at s y)))) (neg_ℤ (fine (break s (segment_at s y)))) h (Z.≤-refl _)) t (degree s (segment_at s y)) 0 (omega arith)

      go : (segment_at s y ≡ segment_at s z) ⊎ (segment_at s y < segment_at s z) → before (value_at s x.table wood coefs y) (value_at s x.table wood coefs z)
      go (inl e) = subst (λ k. offset s k z ≤ℤ pos (fine_width s k) → before (read (segment_at s y) y) (read k z)) e moved (at z W).to
      go (inr l) =
          D.chain _ _ _ (before_end y Y)
          (D.chain _ _ _ (subst (λ n. before (ord (segment_at s y) (degree s (segment_at s y))) (ord n 0))
          (let w : segment_at s y + suc (segment_at s z - segment_at s y - 1) ≡ segment_at s z = omega arith in w)
          (segments-follow s x a A low D f follow (segment_at s y) (segment_at s z - segment_at s y - 1) Y.from (omega (arith, W.to)))) (after-start z W))

-- ---- the two statements, and of the cells

pub falling_lists_fall : FallingListsFall
falling_lists_fall s x a A low wood coefs falls y z Y W h = values-follow s x a A low falling wood coefs falls y z Y W h

pub climbing_lists_climb : ClimbingListsClimb
climbing_lists_climb s x a A low wood coefs climbs y z Y W h = values-follow s x a A low climbing wood coefs climbs y z Y W h

pub falling-cells : FallingCells
falling-cells s coefs positions num_length den_length values_length l held wood a A low falls k m O =
    rw (
      cell-holds-value l held k
          O.earlier_listed wood,
      cell-holds-value l held m O.later-listed wood,
    )
    (falling_lists_fall s l.accepted a A low wood coefs falls _ _ O.earlier O.later O.ordered)

pub climbing_cells : ClimbingCells
climbing_cells s coefs positions num_length den_length values_length l held wood a A low climbs k m O =
    rw (
      cell-holds-value l held k
          O.earlier_listed wood,
      cell-holds-value l held m O.later-listed wood,
    )
    (climbing_lists_climb s l.accepted a A low wood coefs climbs _ _ O.earlier O.later O.ordered)
