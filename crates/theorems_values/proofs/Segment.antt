-- The segment of a position in the span of a space whose checks pass: the position lies between the segment's ends, so the
-- offset u is from 0 to D, and D is positive. These are what a blend needs of its factors.
use mathlib.Core.Path.{◌≡◌, sym, ◌∙◌, ap, subst}
use mathlib.Core.Logic.{◌⊎◌, inl, inr}
use mathlib.Core.Bool.{true}
use mathlib.Core.Option.{get_or}
use Prim.Native.Nat.{ℕ, suc, ◌<◌}
use native.Mathlib.Omega.{arith}
use native.Mathlib.Nat.{eq-or-lt_of_le, mul-pos}
use lib.IntN.{ℤ, pos, ◌-ℤ◌, ◌*ℤ◌, neg_ℤ}
use lib.Signed.{le_z, ◌≤ℤ◌, ◌<ℤ◌, pos-nat_abs}
use Rattle.base_exact.proofs.Decide.{and-true, holds_true, true_not_false}
use Rattle.base_exact.proofs.Integer as Z
use Rattle.base_exact.proofs.Word.{le_z_true}
use Rattle.base_outcome.specs.Outcome.{answer}
use Rattle.base_outcome.specs.Search.{last}
use Rattle.spec_spline.specs.Space.{Space, segments, break, checked}
use Rattle.spec_spline.specs.Piecewise.{Accepted}
use Rattle.spec_spline.specs.Reading.{fineness, fine, starts_by, segment_at, fine_width, offset}
use Rattle.base_outcome.proofs.Search.{SearchedBack, at, nowhere, search_last}
use Rattle.spec_spline.proofs.Legal.{Checked, legal, good-break_rises, accepted-passed}
use Rattle.spec_spline.proofs.Reading.{starts_by_le, not_starts_by_le, starts_by_first}
use Rattle.theorems_values.specs.ValueLimits.{InSpan}
use Rattle.theorems_values.proofs.Fine.{fine_sub}

-- ---- the checks of an accepted space

pub accepted-checked : (s : Space) → Accepted s → (checked s ≡ answer s) × Checked s
accepted-checked s a = let p = accepted-passed s a.is in (p.passes, p.checks)

-- breakpoints rise
pub breaks_rise : (s : Space) → Checked s → (i : ℕ) → i < segments s → break s i <ℤ break s (suc i)
breaks_rise s c i h = good-break_rises s i (c.breaks (suc i) (omega arith))

-- D is the distance of the fine breakpoints
pub fine_width_is : (s : Space) → Checked s → (i : ℕ) → i < segments s → pos (fine_width s i) ≡ fine (break s (suc i)) -ℤ fine (break s i)
fine_width_is s c i h =
    ap (λ z. pos fineness *ℤ z) (pos-nat_abs (break s (suc i) -ℤ break s i) (Z.le_sub (break s i) (break s (suc i)) (Z.<-≤ _ _ (breaks_rise s c i h))))
    ∙ fine_sub (break s (suc i)) (break s i)

-- ---- the position's segment

-- Segment j holds the position x.
pub record Located (s : Space) (x : ℤ) (j : ℕ) : Type 0 where
  pub below : j < segments s
  pub positive : 0 < fine_width s j
  pub from : pos 0 ≤ℤ offset s j x
  pub to : offset s j x ≤ℤ pos (fine_width s j)

-- between the ends of a segment
located_between : (s : Space) (c : Checked s) (x : ℤ) (j : ℕ) → j < segments s → fine (break s j) ≤ℤ x → x ≤ℤ fine (break s (suc j)) → Located s x j
located_between s c x j h p q = record {
  below = h;
  positive = mul-pos {m = fineness} (omega arith) ((legal s c).positive_width j h);
  from = Z.non_neg_le (offset s j x) (Z.le_sub (fine (break s j)) x p);
  to = subst (λ d. offset s j x ≤ℤ d) (sym (fine_width_is s c j h)) (Z.+_mono x (fine (break s (suc j))) (neg_ℤ (fine (break s j))) (neg_ℤ (fine (break s j))) q (Z.≤-refl _));
}

pub located : (s : Space) → Checked s → (x : ℤ) → InSpan s x → Located s x (segment_at s x)
unfolding segment_at
located s c x inside = go (search_last (starts_by s x) (segments s))
  where
    ends : (le_z (fine (break s 0)) x ≡ true) × (le_z x (fine (break s (segments s))) ≡ true)
    ends = and-true (le_z (fine (break s 0)) x) (le_z x (fine (break s (segments s)))) (holds_true _ inside)

    go : SearchedBack (starts_by s x) (segments s) → Located s x (get_or (last (segments s) (starts_by s x)) 0)
    go (nowhere none-starts e) = absurd (true_not_false (starts_by_first s x ∙ ends.0) (none-starts 0 (legal s c).lengths.some_segment))
    go (at i L e) = subst (Located s x) (sym (ap (λ o. get_or o 0) e)) (located_between s c x i L.below (starts_by_le s x i L.meets) (end (eq-or-lt_of_le L.below)))
      where
        end : (suc i ≡ segments s) ⊎ (suc i < segments s) → x ≤ℤ fine (break s (suc i))
        end (inl z) = subst (λ k. x ≤ℤ fine (break s k)) (sym z) (le_z_true x (fine (break s (segments s))) ends.1)
        end (inr l) = not_starts_by_le s x (suc i) (L.after (suc i) (omega arith) l)
