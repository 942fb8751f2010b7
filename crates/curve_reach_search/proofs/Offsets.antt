-- The offsets that belong to a segment: those from its first offset on up to the next segment's are its positions by the
-- definition, and behind them the next segment's begin.
use mathlib.Core.Path.{◌≡◌, ap, subst}
use mathlib.Core.Bool.{Bool, true, false, cond, ◌||◌}
use Prim.Native.Nat.{ℕ, suc, ◌+◌, ◌<◌, ◌≤◌}
use native.Mathlib.Omega.{arith}
use borrow.Author.Tests.{eq-eqb, ne_eqb}
use lib.Dec.{eqb}
use lib.IntN.{ℤ, pos, neg_ℤ, ◌+ℤ◌}
use lib.Signed.{◌<ℤ◌, ◌≤ℤ◌, lt_z, le_z}
use Rattle.base_exact.proofs.Integer as Z
use Rattle.base_exact.proofs.Word.{lt_test, le_test, not_lt_test, not_le_test}
use Rattle.spec_spline.specs.Space.{Space, segments, break, is_discontinuity}
use Rattle.spec_spline.specs.Reading.{fine, starts_at_discontinuity, starts_by, segment_at, fine_width, offset}
use Rattle.spec_spline.proofs.Legal.{Checked}
use Rattle.theorems_values.proofs.Segment.{fine_width_is}
use Rattle.theorems_values.proofs.Positions.{segment_is}
use Rattle.curve_reach_search.specs.Machine.{start_offset, end_offset}

module _ (s : Space) where
  -- ---- the first offset

  pub start_at_end : (i : ℕ) → i ≡ segments s → start_offset s i ≡ 1
  unfolding start_offset
  start_at_end i e = ap (λ b. cond (b || starts_at_discontinuity s i) 1 0) (eq-eqb i (segments s) e)

  pub start_of_segment : (i : ℕ) → i < segments s → start_offset s i ≡ cond (starts_at_discontinuity s i) 1 0
  unfolding start_offset
  start_of_segment i h = ap (λ b. cond (b || starts_at_discontinuity s i) 1 0) (ne_eqb i (segments s) (λ e. omega arith))

  pub start_of_first : 0 < segments s → start_offset s 0 ≡ 0
  unfolding starts_at_discontinuity
  start_of_first h = start_of_segment 0 h

  pub start_of_later : (i : ℕ) → suc i < segments s → start_offset s (suc i) ≡ cond (is_discontinuity s i) 1 0
  unfolding starts_at_discontinuity
  start_of_later i h = start_of_segment (suc i) h

  pub start_at_most_one : (i : ℕ) → start_offset s i ≤ 1
  unfolding start_offset
  start_at_most_one i = go (eqb i (segments s) || starts_at_discontinuity s i)
    where
      go : (b : Bool) → cond b 1 0 ≤ 1
      go true = omega arith
      go false = omega arith

  -- ---- the segment of an offset

  -- The position at offset u of segment i.
  abbrev pub at : ℕ → ℕ → ℤ
  at i u = fine (break s i) +ℤ pos u

  -- from its first offset on it starts by the position
  starts : (i u : ℕ) → i < segments s → start_offset s i ≤ u → starts_by s (at i u) i ≡ true
  unfolding starts_by
  starts i u h k = go (starts_at_discontinuity s i) (rw (start_of_segment i h) at k)
    where
      go : (b : Bool) → cond b 1 0 ≤ u → cond b (lt_z (fine (break s i)) (at i u)) (le_z (fine (break s i)) (at i u)) ≡ true
      go true l = lt_test (Z.<_in (fine (break s i)) (at i u) (omega (arith, Z.bal_+ (fine (break s i)) (pos u))))
      go false l = le_test (Z.≤_in (fine (break s i)) (at i u) (omega (arith, Z.bal_+ (fine (break s i)) (pos u))))

  module _ (c : Checked s) (i : ℕ) (below : i < segments s) where
    -- the next breakpoint lies D further
    next-break : at i (fine_width s i) ≡ fine (break s (suc i))
    next-break =
        Z.ext _ _ (omega (
          arith,
          Z.bal_+ (fine (break s i)) (pos (fine_width s i)),
          Z.bal_+ (fine (break s (suc i))) (neg_ℤ (fine (break s i))),
          Z.bal_neg (fine (break s i)),
          ap Z.up (fine_width_is s c i below),
          ap Z.dn (fine_width_is s c i below),
        ))

    -- behind the segment's offsets those of the next begin
    pub next_start : at i (end_offset s i) ≡ at (suc i) (start_offset s (suc i))
    next_start =
        Z.ext _ _ (omega (
          arith,
          Z.bal_+ (fine (break s i)) (pos (end_offset s i)),
          Z.bal_+ (fine (break s (suc i))) (pos (start_offset s (suc i))),
          Z.bal_+ (fine (break s i)) (pos (fine_width s i)),
          ap Z.up next-break,
          ap Z.dn next-break,
        ))

    module _ (u : ℕ) (before : u < end_offset s i) where
      pub not_past : at i u ≤ℤ fine (break s (suc i))
      not_past =
          subst (λ z. at i u ≤ℤ z) next-break (Z.≤_in _ _
          (omega (
            arith,
            start_at_most_one (suc i),
            Z.bal_+ (fine (break s i)) (pos u),
            Z.bal_+ (fine (break s i)) (pos (fine_width s i)),
          )))

      -- before its last offset the next does not
      not_next : suc i < segments s → starts_by s (at i u) (suc i) ≡ false
      unfolding starts_by
      not_next h = go (starts_at_discontinuity s (suc i)) (rw (start_of_segment (suc i) h) at before)
        where
          go : (b : Bool) → u < fine_width s i + cond b 1 0
              → cond b (lt_z (fine (break s (suc i))) (at i u)) (le_z (fine (break s (suc i))) (at i u)) ≡ false
          go true l = not_lt_test not_past
          go false l =
              not_le_test (subst (λ z. at i u <ℤ z) next-break
              (Z.<_in _ _ (omega (arith, Z.bal_+ (fine (break s i)) (pos u), Z.bal_+ (fine (break s i)) (pos (fine_width s i))))))

      pub segment_of_offset : start_offset s i ≤ u → segment_at s (at i u) ≡ i
      segment_of_offset h = segment_is s c i (at i u) below (starts i u below h) not_next not_past

    -- the offset of the position
    pub offset_is : (u : ℕ) → offset s i (at i u) ≡ pos u
    offset_is u =
        Z.ext _ _ (omega (
          arith,
          Z.bal_+ (at i u) (neg_ℤ (fine (break s i))),
          Z.bal_neg (fine (break s i)),
          Z.bal_+ (fine (break s i)) (pos u),
        ))
