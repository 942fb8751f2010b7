-- The first positions of the segments. A segment starts by a position if its first position is at or before it; first positions
-- rise; and so two of them show that a position lies in a segment.
use mathlib.Core.Path.{◌≡◌, refl, sym, ◌∙◌, ap, ap₂, subst}
use mathlib.Core.Bool.{Bool, true, false, cond}
use mathlib.Core.Logic.{◌⊎◌, inl, inr}
use mathlib.Core.List.{List, [], ◌++◌}
use mathlib.Core.Option
use mathlib.Core.Option.{some}
use Prim.Native.Nat.{ℕ, zero, suc, ◌<◌, ◌≤◌}
use native.Mathlib.Omega.{arith}
use native.Mathlib.Nat.{eq-or-lt_of_le}
use borrow.Author.Tests.{lt-ltb, le-ltb}
use lib.IntN.{ℤ, pos, ◌+ℤ◌}
use lib.ListN.{length, get_or, drop, replicate}
use lib.Signed.{le_z, lt_z, ◌≤ℤ◌, ◌<ℤ◌}
use Rattle.base_exact.specs.Tabulate.{tab}
use Rattle.base_exact.proofs.Decide.{cond_true, cond_false}
use Rattle.base_exact.proofs.Integer.{≤_in, ≤_out, <_in, <_out, ≤-refl, ≤_trans, <-≤_trans, ≤_or_>, bal_+, bal_*}
use Rattle.base_exact.proofs.Tabulate.{tab_length, tab_get_d, tab-rest}
use Rattle.base_exact.proofs.Word.{lt_test, not_lt_test, le_test, not_le_test}
use Rattle.base_outcome.specs.Search.{last}
use Rattle.spec_spline.specs.Space.{Space, break}
use Rattle.spec_spline.specs.Reading.{fine, starts_at_discontinuity, starts_by, segment_at}
use Rattle.base_outcome.proofs.Search.{last_at}
use Rattle.build_space.specs.Machine.{space}
use Rattle.build_space.specs.Legal.{ListsLegal}
use Rattle.build_space.proofs.Partial.{starts_at_discontinuity_partial}
use Rattle.curve_segments.specs.Segments.{first_position, first_positions_of}

-- ---- a segment starts by a position

le_more : (a x : ℤ) → le_z (a +ℤ pos 1) x ≡ lt_z a x
le_more a x = go (≤_or_> (a +ℤ pos 1) x)
  where
    go : ((a +ℤ pos 1) ≤ℤ x) ⊎ (x <ℤ (a +ℤ pos 1)) → le_z (a +ℤ pos 1) x ≡ lt_z a x
    go (inl h) = le_test h ∙ sym (lt_test (<_in a x (omega (arith, ≤_out _ _ h, bal_+ a (pos 1)))))
    go (inr h) = not_le_test h ∙ sym (not_lt_test (≤_in x a (omega (arith, <_out _ _ h, bal_+ a (pos 1)))))

pub starts_first : (s : Space) (x : ℤ) (i : ℕ) → le_z (first_position s i) x ≡ starts_by s x i
unfolding first_position starts_by
starts_first s x i = go (starts_at_discontinuity s i)
  where
    go : (b : Bool) → le_z (cond b (fine (break s i) +ℤ pos 1) (fine (break s i))) x
        ≡ cond b (lt_z (fine (break s i)) x) (le_z (fine (break s i)) x)
    go true = le_more (fine (break s i)) x
    go false = refl

-- ---- first positions rise

module _ (s : Space) (i : ℕ) where
  first_low : fine (break s i) ≤ℤ first_position s i
  unfolding first_position
  first_low = go (starts_at_discontinuity s i)
    where
      go : (b : Bool) → fine (break s i) ≤ℤ cond b (fine (break s i) +ℤ pos 1) (fine (break s i))
      go true = ≤_in _ _ (omega (arith, bal_+ (fine (break s i)) (pos 1)))
      go false = ≤-refl _

  first-high : first_position s i ≤ℤ (fine (break s i) +ℤ pos 1)
  unfolding first_position
  first-high = go (starts_at_discontinuity s i)
    where
      go : (b : Bool) → cond b (fine (break s i) +ℤ pos 1) (fine (break s i)) ≤ℤ (fine (break s i) +ℤ pos 1)
      go true = ≤-refl _
      go false = ≤_in _ _ (omega (arith, bal_+ (fine (break s i)) (pos 1)))

fine-rise : (a b : ℤ) → a <ℤ b → (fine a +ℤ pos 1) ≤ℤ fine b
fine-rise a b h = ≤_in _ _ (omega (arith, <_out a b h, bal_+ (fine a) (pos 1), bal_* (pos 256) a, bal_* (pos 256) b))

module _ (b d o : List ℤ) (h : ListsLegal b d o) where
  abbrev s : Space
  s = space b d o

  first-rise : (i : ℕ) → suc i < length d → first_position s i ≤ℤ first_position s (suc i)
  first-rise i l =
      ≤_trans _ _ _ (first-high s i) (≤_trans _ _ _
      (fine-rise (break s i) (break s (suc i)) (h.breaks_legal.rise i (omega (arith, h.break-count)))) (first_low s (suc i)))

  first_mono : (i j : ℕ) → i ≤ j → j < length d → first_position s i ≤ℤ first_position s j
  first_mono i zero a l = subst (λ k. first_position s k ≤ℤ first_position s 0) (let e : 0 ≡ i = omega arith in e) (≤-refl _)
  first_mono i (suc j) a l = go (first_mono i j) (eq-or-lt_of_le a)
    where
      go : (i ≤ j → j < length d → first_position s i ≤ℤ first_position s j) → (i ≡ suc j) ⊎ (i < suc j)
          → first_position s i ≤ℤ first_position s (suc j)
      go ih (inl e) = subst (λ k. first_position s k ≤ℤ first_position s (suc j)) (sym e) (≤-refl _)
      go ih (inr k) = ≤_trans _ _ _ (ih (omega arith) (omega arith)) (first-rise j l)

  -- a position from a segment's first one up to the next segment's
  pub near_is : (x : ℤ) (i : ℕ) → i < length d → le_z (first_position s i) x ≡ true → ((suc i ≡ length d) ⊎ (x <ℤ first_position s (suc i)))
      → segment_at s x ≡ i
  unfolding segment_at
  near_is x i l starts ends =
      ap (λ t. Option.get_or t 0) (last_at (starts_by s x) (length d) i l (sym (starts_first s x i) ∙ starts) (λ k a m. after k a m ends))
    where
      after : (k : ℕ) → i < k → k < length d → ((suc i ≡ length d) ⊎ (x <ℤ first_position s (suc i))) → starts_by s x k ≡ false
      after k a m (inl e) = absurd (omega arith)
      after k a m (inr e) =
          sym (starts_first s x k) ∙ not_le_test (<-≤_trans x (first_position s (suc i)) (first_position s k) e (first_mono (suc i) k a m))

-- ---- in an array of 48

pub first_partial : (b d o : List ℤ) (i : ℕ) → first_position (space b [] o) i ≡ first_position (space b d o) i
unfolding first_position
first_partial b d o i =
    ap (λ (t : Bool). cond t (fine (break (space b d o) i) +ℤ pos 1) (fine (break (space b d o) i)))
    (sym (starts_at_discontinuity_partial b [] o i) ∙ starts_at_discontinuity_partial b d o i)

pub firsts-filled : (b d o : List ℤ) → length d ≤ 48
    → tab (length d) (first_position (space b d o)) ++ drop (length d) (replicate 48 (pos 0)) ≡ first_positions_of (space b d o)
unfolding first_positions_of
firsts-filled b d o h =
    tab-rest 48 (length d) h (λ i l. sym (cond_true (first_position (space b d o) i) (pos 0) (lt-ltb i (length d) l)))
    (λ i l. cond_false (first_position (space b d o) i) (pos 0) (le-ltb i (length d) l))

pub firsts_long : (s : Space) → length (first_positions_of s) ≡ 48
unfolding first_positions_of
firsts_long s = tab_length 48 _

module _ (b d o : List ℤ) (h : ListsLegal b d o) where
  pub first_at : (i : ℕ) → i < length d → get_or (first_positions_of (space b d o)) i (pos 0) ≡ first_position (space b d o) i
  unfolding first_positions_of
  first_at i l = tab_get_d 48 _ i (pos 0) (omega (arith, h.few)) ∙ cond_true (first_position (space b d o) i) (pos 0) (lt-ltb _ _ l)

  last_ext : (n : ℕ) (f g : ℕ → Bool) → ((k : ℕ) → k < n → f k ≡ g k) → last n f ≡ last n g
  unfolding last
  last_ext zero f g e = refl
  last_ext (suc n) f g e = ap₂ (λ t r. cond t (some n) r) (e n (omega arith)) (last_ext n f g (λ k l. e k (omega arith)))

  -- the last whose first position is at or before x
  pub segment-found : (x : ℤ) (firsts : List ℤ) (m : ℕ) → firsts ≡ first_positions_of (space b d o) → length d ≡ m
      → Option.get_or (last m (λ k. le_z (get_or firsts k (pos 0)) x)) 0 ≡ segment_at (space b d o) x
  unfolding segment_at
  segment-found x firsts m is count =
      ap (λ n. Option.get_or (last n (λ k. le_z (get_or firsts k (pos 0)) x)) 0) (sym count)
      ∙ ap (λ t. Option.get_or t 0)
      (last_ext (length d) _ _ (λ k l. ap (λ fs. le_z (get_or fs k (pos 0)) x) is ∙ ap (λ z. le_z z x) (first_at k l)
      ∙ starts_first (space b d o) x k))
