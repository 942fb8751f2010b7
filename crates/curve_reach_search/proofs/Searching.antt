-- The search segment by segment: before each segment no position reaches the target; a segment in which none does leads to the
-- next one, and the first offset that does is the position found.
use mathlib.Core.Path.{◌≡◌, refl, sym, ◌∙◌, ap, ap₂, subst}
use mathlib.Core.Logic.{◌⊎◌, inl, inr}
use mathlib.Core.Bool.{true, cond, ◌||◌}
use mathlib.Core.List.{List, []}
use Prim.Native.Nat.{ℕ, suc, ◌+◌, ◌<◌, ◌≤◌}
use native.Mathlib.Omega.{arith}
use lib.Dec.{eqb}
use lib.IntN.{ℤ, pos, nat_abs, ◌-ℤ◌}
use lib.ListN.{length, get_or}
use lib.Signed.{le_z, ◌<ℤ◌, ◌≤ℤ◌}
use Rattle.base_exact.proofs.Decide.{and-true, holds_true}
use Rattle.base_exact.proofs.Integer as Z
use Rattle.base_exact.proofs.Word.{le_z_true, le_test, not_le_test}
use Rattle.base_outcome.specs.Search.{first}
use Rattle.spec_spline.specs.Space.{Space, segments, break, degree, first_column}
use Rattle.spec_spline.specs.Reading.{fine, fine_width, triangle, blended}
use Rattle.base_outcome.proofs.Search.{first_at, first-none}
use Rattle.spec_spline.proofs.Legal.{Checked, legal}
use Rattle.theorems_values.proofs.Positions.{breakpoint_in_span}
use Rattle.build_space.specs.Machine.{space}
use Rattle.build_space.proofs.Partial.{starts_at_discontinuity_partial}
use Rattle.spec_calls.specs.Positions.{position_count, position}
use Rattle.curve_reach_search.specs.Machine.{start_offset, end_offset, held_value, reaches_held, found}
use Rattle.curve_reach_steps.specs.Machine.{value_on, LeastFrom}
use Rattle.std.specs.Prelude.{Some, None}
use Rattle.curve_reach_steps.proofs.Distances.{past}
use Rattle.curve_reach_search.proofs.Positions.{position-before_end, index_of, position_of_index, index_in_span, position_rises}
use Rattle.curve_reach_search.proofs.Offsets.{at, start_at_end, start_of_first, next_start, not_past, segment_of_offset, offset_is}

module _ (s : Space) (os : List ℤ) (target : ℤ) where
  -- No position of the span before x reaches the target.
  abbrev pub NoneBefore : ℤ → Type 0
  NoneBefore x = (k : ℕ) → position s k <ℤ x → held_value s os (position s k) <ℤ target

  -- The values of segment i.
  abbrev pub values_of : ℕ → ℕ → ℤ
  values_of i = value_on os (first_column s i) (degree s i) (fine_width s i)

  module _ (c : Checked s) where
    -- a breakpoint lies between the first and the last
    break-within : (i : ℕ) → i ≤ segments s → (fine (break s 0) ≤ℤ fine (break s i)) × (fine (break s i) ≤ℤ fine (break s (segments s)))
    break-within i h =
        let e = and-true (le_z (fine (break s 0)) (fine (break s i))) _ (holds_true _ (breakpoint_in_span s c i h)) in
        (le_z_true _ _ e.0, le_z_true _ _ e.1)

    pub none_at_first : NoneBefore (at s 0 (start_offset s 0))
    none_at_first k h =
        absurd (omega (
          arith,
          Z.<_out _ _ h,
          Z.bal_+ (fine (break s 0)) (pos k),
          Z.bal_+ (fine (break s 0)) (pos (start_offset s 0)),
          start_of_first s (legal s c).lengths.some_segment,
        ))

    module _ (i : ℕ) (below : i < segments s) where
      -- the value at an offset of segment i
      held_on : (u : ℕ) → start_offset s i ≤ u → u < end_offset s i → held_value s os (at s i u) ≡ values_of i u
      unfolding held_value value_on blended
      held_on u h k = ap (λ j. blended s os j (at s i u)) (segment_of_offset s c i below u k h)
          ∙ ap (λ z. triangle (fine_width s i) z (λ n. get_or os (first_column s i + n) (pos 0)) (degree s i) 0) (offset_is s c i below u)

      module _ (before : NoneBefore (at s i (start_offset s i))) (r : ℕ)
          (least : LeastFrom (values_of i) target (start_offset s i) (end_offset s i) r) where
        -- no position of the segment, nor before it
        passed_over : (e : ℕ) → e ≤ r → e ≤ end_offset s i → NoneBefore (at s i e)
        passed_over e h l k q = go (Z.≤_or_> (at s i (start_offset s i)) (position s k))
          where
            go : (at s i (start_offset s i) ≤ℤ position s k) ⊎ (position s k <ℤ at s i (start_offset s i))
                → held_value s os (position s k) <ℤ target
            go (inr m) = before k m
            go (inl m) =
                subst (λ x. held_value s os x <ℤ target) whole
                (subst (λ v. v <ℤ target) (sym (held_on u high (omega (arith, low))))
                (least.none_before u high (omega (arith, low)) (omega (arith, low))))
              where
                u : ℕ
                u = nat_abs (position s k -ℤ fine (break s i))

                whole : at s i u ≡ position s k
                whole =
                    past (fine (break s i)) (position s k)
                    (Z.≤_trans _ _ _ (Z.≤_in (fine (break s i)) (at s i (start_offset s i))
                    (omega (arith, Z.bal_+ (fine (break s i)) (pos (start_offset s i))))) m)

                high : start_offset s i ≤ u
                high =
                    omega (
                      arith,
                      Z.≤_out _ _ (subst (λ x. at s i (start_offset s i) ≤ℤ x) (sym whole) m),
                      Z.bal_+ (fine (break s i)) (pos (start_offset s i)),
                      Z.bal_+ (fine (break s i)) (pos u),
                    )

                low : u < e
                low =
                    omega (
                      arith,
                      Z.<_out _ _ (subst (λ x. x <ℤ at s i e) (sym whole) q),
                      Z.bal_+ (fine (break s i)) (pos e),
                      Z.bal_+ (fine (break s i)) (pos u),
                    )

        pub none_at_next : end_offset s i ≤ r → NoneBefore (at s (suc i) (start_offset s (suc i)))
        none_at_next h = subst NoneBefore (next_start s c i below) (passed_over (end_offset s i) h (omega arith))

        pub found_at : r < end_offset s i → found s (first (position_count s) (reaches_held s os target)) ≡ Some (at s i r)
        unfolding found
        found_at h =
            ap (found s) (first_at (reaches_held s os target) (position_count s) (index_of s (at s i r))
            (index_in_span s c (at s i r) low high) there
            (λ k l. not_le_test (passed_over r (omega arith) (omega arith) k
            (subst (λ x. position s k <ℤ x) same (position_rises s k _ l)))))
            ∙ ap Some same
          where
            low : fine (break s 0) ≤ℤ at s i r
            low =
                Z.≤_trans _ (fine (break s i)) _ (break-within i (omega arith)).0
                (Z.≤_in _ _ (omega (arith, Z.bal_+ (fine (break s i)) (pos r))))

            high : at s i r ≤ℤ fine (break s (segments s))
            high = Z.≤_trans _ (fine (break s (suc i))) _ (not_past s c i below r h) (break-within (suc i) below).1

            same : position s (index_of s (at s i r)) ≡ at s i r
            same = position_of_index s (at s i r) low

            there : reaches_held s os target (index_of s (at s i r)) ≡ true
            there =
                ap (λ x. le_z target (held_value s os x)) same
                ∙ le_test (subst (λ v. target ≤ℤ v) (sym (held_on r least.after h)) (least.there h))

    pub found_nowhere : (i : ℕ) → i ≡ segments s → NoneBefore (at s i (start_offset s i))
        → found s (first (position_count s) (reaches_held s os target)) ≡ None
    unfolding found
    found_nowhere i e before =
        ap (found s) (first-none (reaches_held s os target) (position_count s)
        (λ k l. not_le_test (before k (Z.≤-<_trans _ _ _ (position-before_end s c k l) past_end))))
      where
        past_end : fine (break s (segments s)) <ℤ at s i (start_offset s i)
        past_end =
            subst (λ j. fine (break s j) <ℤ at s i (start_offset s i)) e
            (Z.<_in _ _ (omega (arith, start_at_end s i e, Z.bal_+ (fine (break s i)) (pos (start_offset s i)))))

-- ---- the loop over the segments

-- Before segment i, with its first column and first offset.
pub record Before (s : Space) (os : List ℤ) (target : ℤ) (column start i : ℕ) : Type 0 where
  pub within : i ≤ segments s
  pub column_is : column ≡ first_column s i
  pub start_is : start ≡ start_offset s i
  pub none_before : NoneBefore s os target (at s i (start_offset s i))

module _ (s : Space) (os : List ℤ) (target : ℤ) (c : Checked s) where
  pub before-first : Before s os target 0 0 0
  unfolding first_column
  before-first =
      record {
        within = omega arith;
        column_is = refl;
        start_is = sym (start_of_first s (legal s c).lengths.some_segment);
        none_before = none_at_first s os target c;
      }

  module _ {column start i p d next u : ℕ} (B : Before s os target column start i) (below : i < segments s) (p-is : p ≡ degree s i)
      (d_is : d ≡ fine_width s i) (next_is : next ≡ start_offset s (suc i))
      (least : LeastFrom (value_on os column p d) target start (d + next) u) where
    least_of_segment : LeastFrom (values_of s os target i) target (start_offset s i) (end_offset s i) u
    least_of_segment = rw (B.column_is, p-is, d_is, B.start_is, next_is) at least

    pub before-next : d + next ≤ u → Before s os target (column + (p + 1)) next (i + 1)
    unfolding first_column
    before-next h = subst (Before s os target (column + (p + 1)) next) (let z : suc i ≡ i + 1 = omega arith in z) (record {
      within = below;
      column_is = ap₂ (λ (m n : ℕ). m + (n + 1)) B.column_is p-is;
      start_is = next_is;
      none_before = none_at_next s os target c i below B.none_before u least_of_segment (omega arith);
    })

    pub found_in : u < d + next → Some (at s i u) ≡ found s (first (position_count s) (reaches_held s os target))
    found_in h = sym (found_at s os target c i below B.none_before u least_of_segment (omega arith))

  pub found-past : {column start i : ℕ} → Before s os target column start i → segments s ≤ i
      → None ≡ found s (first (position_count s) (reaches_held s os target))
  found-past {column} {start} {i} B h = sym (found_nowhere s os target c i (omega (arith, B.within)) B.none_before)

-- the first offset reads no breakpoint
pub start_partial : (b d o : List ℤ) (i : ℕ) → start_offset (space [] d o) i ≡ start_offset (space b d o) i
unfolding start_offset
start_partial b d o i =
    ap (λ t. cond (eqb i (length d) || t) 1 0) (sym (starts_at_discontinuity_partial [] d o i) ∙ starts_at_discontinuity_partial b d o i)
