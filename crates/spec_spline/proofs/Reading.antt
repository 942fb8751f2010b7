-- Where a segment starts, against a position. The best of some numbers, the least or the greatest, with one number more:
-- the same where it does not pass, else the better of the two.
use mathlib.Core.Path.{◌≡◌, refl, ◌∙◌}
use mathlib.Core.Bool.{Bool, true, false, cond}
use mathlib.Core.Option.{some}
use Prim.Native.Nat.{ℕ, suc}
use lib.IntN.{ℤ}
use lib.Signed.{lt_z, le_z, ◌<ℤ◌, ◌≤ℤ◌}
use Rattle.base_exact.proofs.Decide.{cond_true, cond_false}
use Rattle.base_exact.proofs.Integer as Z
use Rattle.base_exact.proofs.Word.{lt_z_true, lt_z_false, le_z_true, le_z_false, lt_test, not_lt_test, le_test, not_le_test}
use Rattle.spec_spline.specs.Space.{Space, break, is_discontinuity}
use Rattle.spec_spline.specs.Reading.{fine, starts_at_discontinuity, starts_by, best, preferred}

-- ---- the start of a segment and a position

module _ (s : Space) (x : ℤ) where
  abbrev starts : ℕ → Bool → Bool
  starts i b = cond b (lt_z (fine (break s i)) x) (le_z (fine (break s i)) x)

  -- a segment that starts by the position starts at or before it, and any other at or after it
  pub starts_by_le : (i : ℕ) → starts_by s x i ≡ true → fine (break s i) ≤ℤ x
  unfolding starts_by
  starts_by_le i e = go (starts_at_discontinuity s i) e
    where
      go : (b : Bool) → starts i b ≡ true → fine (break s i) ≤ℤ x
      go true e = Z.<-≤ (fine (break s i)) x (lt_z_true (fine (break s i)) x e)
      go false e = le_z_true (fine (break s i)) x e

  pub not_starts_by_le : (i : ℕ) → starts_by s x i ≡ false → x ≤ℤ fine (break s i)
  unfolding starts_by
  not_starts_by_le i e = go (starts_at_discontinuity s i) e
    where
      go : (b : Bool) → starts i b ≡ false → x ≤ℤ fine (break s i)
      go true e = lt_z_false (fine (break s i)) x e
      go false e = Z.<-≤ x (fine (break s i)) (le_z_false (fine (break s i)) x e)

  -- before and after the start there is no exception
  pub after-start : (i : ℕ) → fine (break s i) <ℤ x → starts_by s x i ≡ true
  unfolding starts_by
  after-start i h = go (starts_at_discontinuity s i)
    where
      go : (b : Bool) → starts i b ≡ true
      go true = lt_test h
      go false = le_test (Z.<-≤ (fine (break s i)) x h)

  pub before-start : (i : ℕ) → x <ℤ fine (break s i) → starts_by s x i ≡ false
  unfolding starts_by
  before-start i h = go (starts_at_discontinuity s i)
    where
      go : (b : Bool) → starts i b ≡ false
      go true = not_lt_test (Z.<-≤ x (fine (break s i)) h)
      go false = not_le_test h

  -- the first breakpoint is no join
  pub starts_by_first : starts_by s x 0 ≡ le_z (fine (break s 0)) x
  unfolding starts_by starts_at_discontinuity
  starts_by_first = refl

-- on a join
module _ (s : Space) (i : ℕ) where
  pub on_discontinuity : is_discontinuity s i ≡ true → starts_by s (fine (break s (suc i))) (suc i) ≡ false
  unfolding starts_by starts_at_discontinuity
  on_discontinuity e = cond_true _ _ e ∙ not_lt_test (Z.≤-refl (fine (break s (suc i))))

  pub on_join : is_discontinuity s i ≡ false → starts_by s (fine (break s (suc i))) (suc i) ≡ true
  unfolding starts_by starts_at_discontinuity
  on_join e = cond_false _ _ e ∙ le_test (Z.≤-refl (fine (break s (suc i))))

-- ---- the best of some numbers

module _ (prefers : ℤ → ℤ → Bool) (passes : ℕ → Bool) (a : ℕ → ℤ) (n : ℕ) where
  pub best-skips : passes n ≡ false → best prefers (suc n) passes a ≡ best prefers n passes a
  unfolding best
  best-skips e = cond_false _ _ e

  pub best_takes : passes n ≡ true → best prefers (suc n) passes a ≡ some (preferred prefers (best prefers n passes a) (a n))
  unfolding best
  best_takes e = cond_true _ _ e
