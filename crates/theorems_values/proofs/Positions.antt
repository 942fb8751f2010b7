-- The segment of a position between two breakpoints, on a join, and on the first and the last breakpoint: the segment starts
-- by the position, the next one does not, and those after it start later.
use mathlib.Core.Path.{◌≡◌, sym, ◌∙◌, ap, subst}
use mathlib.Core.Logic.{◌⊎◌, inl, inr}
use mathlib.Core.Bool.{true, false}
use mathlib.Core.Option.{get_or}
use Prim.Native.Nat.{ℕ, suc, ◌-◌, ◌<◌, ◌≤◌}
use native.Mathlib.Omega.{arith}
use native.Mathlib.Nat.{eq-or-lt_of_le}
use lib.IntN.{ℤ}
use lib.Signed.{◌≤ℤ◌, ◌<ℤ◌}
use Rattle.base_exact.proofs.Integer as Z
use Rattle.base_exact.proofs.Word.{le_test}
use Rattle.spec_spline.specs.Space.{Space, segments, break}
use Rattle.spec_spline.specs.Reading.{fine, starts_by, segment_at}
use Rattle.spec_spline.proofs.Space.{is-discontinuity, is_no_discontinuity}
use Rattle.base_outcome.proofs.Search.{last_at}
use Rattle.spec_spline.proofs.Legal.{Checked, checked_inverts, legal}
use Rattle.spec_spline.proofs.Reading.{after-start, before-start, starts_by_first, on_discontinuity, on_join}
use Rattle.theorems_values.specs.ValueLimits.{InSpan}
use Rattle.theorems_values.specs.Positions.{PositionsBetweenBelongBetween, DiscontinuitiesBelongBefore, OtherJoinsBelongAfter, FirstBreakpointBelongsFirst, LastBreakpointBelongsLast}
use Rattle.theorems_values.proofs.Fine.{fine_mono_<}
use Rattle.theorems_values.proofs.Segment.{breaks_rise}

module _ (s : Space) (c : Checked s) where
  fine_rises : (i : ℕ) → i < segments s → fine (break s i) <ℤ fine (break s (suc i))
  fine_rises i h = fine_mono_< _ _ (breaks_rise s c i h)

  -- the last segment that starts by x, where x is not past its end
  pub segment_is : (i : ℕ) (x : ℤ) → i < segments s → starts_by s x i ≡ true → (suc i < segments s → starts_by s x (suc i) ≡ false) → x ≤ℤ fine (break s (suc i)) → segment_at s x ≡ i
  unfolding segment_at
  segment_is i x h m n u = ap (λ o. get_or o 0) (last_at (starts_by s x) (segments s) i h m (λ k a l. later k l (eq-or-lt_of_le a)))
    where
      later : (k : ℕ) → k < segments s → (suc i ≡ k) ⊎ (suc i < k) → starts_by s x k ≡ false
      later k l (inl e) = subst (λ j. starts_by s x j ≡ false) e (n (omega arith))
      later k l (inr z) = before-start s x k (Z.≤-<_trans x (fine (break s (suc i))) (fine (break s k)) u (Z.rises (λ j. fine (break s j)) (segments s) fine_rises (suc i) k z (omega arith)))

pub positions_between_belong_between : PositionsBetweenBelongBetween
positions_between_belong_between s e i h x a b = segment_is s (checked_inverts s e).1 i x h (after-start s x i a) (λ l. before-start s x (suc i) b) (Z.<-≤ _ _ b)

pub discontinuities_belong_before : DiscontinuitiesBelongBefore
discontinuities_belong_before s e i h o =
    let c = (checked_inverts s e).1 in
    let x = fine (break s (suc i)) in
    segment_is s c i x (omega arith) (after-start s x i (fine_rises s c i (omega arith))) (λ l. on_discontinuity s i (is-discontinuity s i o)) (Z.≤-refl x)

pub other_joins_belong_after : OtherJoinsBelongAfter
other_joins_belong_after s e i h o =
    let c = (checked_inverts s e).1 in
    let x = fine (break s (suc i)) in
    segment_is s c (suc i) x h (on_join s i (is_no_discontinuity s i o)) (λ l. before-start s x (suc (suc i)) (fine_rises s c (suc i) h)) (Z.<-≤ _ _ (fine_rises s c (suc i) h))

pub first-breakpoint_belongs_first : FirstBreakpointBelongsFirst
first-breakpoint_belongs_first s e =
    let c = (checked_inverts s e).1 in
    let x = fine (break s 0) in
    let rise = fine_rises s c 0 (legal s c).lengths.some_segment in
    segment_is s c 0 x (legal s c).lengths.some_segment (starts_by_first s x ∙ le_test (Z.≤-refl x)) (λ l. before-start s x 1 rise) (Z.<-≤ _ _ rise)

pub last-breakpoint_belongs_last : LastBreakpointBelongsLast
last-breakpoint_belongs_last s e =
    ap suc (segment_is s c i x (omega (arith, some))
    (after-start s x i (subst (λ k. fine (break s i) <ℤ fine (break s k)) last (fine_rises s c i (omega (arith, some))))) (λ l. absurd (omega (arith, some)))
    (subst (λ k. x ≤ℤ fine (break s k)) (sym last) (Z.≤-refl x))) ∙ last
  where
    c : Checked s
    c = (checked_inverts s e).1

    i : ℕ
    i = segments s - 1

    x : ℤ
    x = fine (break s (segments s))

    some : 0 < segments s
    some = (legal s c).lengths.some_segment

    last : suc i ≡ segments s
    last = omega (arith, some)

-- ---- a breakpoint lies in the span

-- a later breakpoint is not before an earlier one
pub breaks_ordered : (s : Space) → Checked s → (i j : ℕ) → i ≤ j → j ≤ segments s → fine (break s i) ≤ℤ fine (break s j)
breaks_ordered s c i j k l = go (eq-or-lt_of_le k)
  where
    go : (i ≡ j) ⊎ (i < j) → fine (break s i) ≤ℤ fine (break s j)
    go (inl e) = subst (λ n. fine (break s i) ≤ℤ fine (break s n)) e (Z.≤-refl (fine (break s i)))
    go (inr t) = Z.<-≤ _ _ (Z.rises (λ n. fine (break s n)) (segments s) (fine_rises s c) i j t l)

pub breakpoint_in_span : (s : Space) → Checked s → (i : ℕ) → i ≤ segments s → InSpan s (fine (break s i))
breakpoint_in_span s c i h =
    rw (le_test (breaks_ordered s c 0 i (omega arith) h), le_test (breaks_ordered s c i (segments s) h (omega arith))) tt
