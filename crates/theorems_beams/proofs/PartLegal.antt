-- The parts of a beam whose lists are legal are spaces whose lists are legal, of one part each.
use mathlib.Core.Path.{◌≡◌, refl, sym, ◌∙◌, ap, ap₂}
use mathlib.Core.Bool.{false, not, ◌&&◌, ◌||◌}
use mathlib.Core.List.{[], ◌∷◌, map}
use mathlib.Core.Option.{get_or}
use Prim.Native.Nat.{ℕ, zero, suc, ◌+◌, ◌-◌, ◌<◌, ◌≤◌}
use native.Mathlib.Omega.{arith}
use native.Mathlib.Nat.{add-zero, add-suc}
use borrow.Author.Tests.{ltb-false}
use lib.Dec.{ltb}
use lib.IntN.{pos, ◌-ℤ◌, neg_ℤ}
use lib.ListN.{drop, length-drop}
use lib.Seq.{length-take-le}
use lib.Signed.{le_z, lt_z}
use Rattle.base_exact.proofs.Decide.{or-false}
use Rattle.base_outcome.specs.Search.{last}
use Rattle.spec_spline.specs.Space.{Space, segments, break, degree_entry, order, part_segment_limit, break_limit, span_limit, degree_limit, bad_break, bad_degree}
use Rattle.spec_spline.specs.Space.{bad_order, span_too_long, too_many_segments, starts_part, part_end, last_part_start, first_column, conditions_before}
use Rattle.base_outcome.specs.Tests.{between}
use Rattle.spec_spline.specs.Table.{Table}
use Rattle.spec_spline.specs.Build.{last_part}
use Rattle.spec_spline.proofs.Parts.{first-starts, Ends, part-ends, ends_unique}
use Rattle.base_outcome.proofs.Search.{last_at}
use Rattle.spec_spline.proofs.Legal.{Checked, checked_inverts, checked-passes, Lengths, lengths_fit_inverts, lengths-fit}
use Rattle.theorems_beams.specs.Sections.{section, part_at}
use Rattle.theorems_beams.specs.Parts.{Starts, PartsAreLegal}
use Rattle.theorems_beams.proofs.Sections.{section-segments, section-break, section-degree_entry, section-order, section-starts}

-- ---- a section's lengths
pub section-lengths : (s : Space) → Lengths s → (a n : ℕ) → 0 < n → a + n ≤ segments s → Lengths (section s a n)
section-lengths s L a n inner h = record {
  some_segment = omega (arith, size);
  few_segments = omega (arith, size, L.few_segments);
  break-count = length-take-le (suc n) (drop a s.breaks) (rw (length-drop a s.breaks) (omega (arith, L.break-count))) ∙ omega (arith, size);
  order-count = omega (arith, length-take-le (n - 1) (drop a s.orders) (rw (length-drop a s.orders) (omega (arith, L.order-count))), size);
}
  where
    size : segments (section s a n) ≡ n
    size = section-segments s a n h

-- ---- a part has one part

module _ (s : Space) (a : ℕ) (A : Starts s a) where
  abbrev n : ℕ
  n = part_end s a - a

  abbrev part : Space
  part = part_at s a

  ends : Ends s a (part_end s a)
  ends = part-ends s a A.below

  behind : a + n ≡ part_end s a
  behind = omega (arith, ends.above)

  pub part-segments : segments part ≡ n
  part-segments = section-segments s a n (omega (arith, behind, ends.boundary.within))

  starts-once : (i : ℕ) → suc i < n → starts_part part (suc i) ≡ false
  starts-once i h = section-starts s a n i h ∙ ends.between (a + suc i) (omega arith) (omega (arith, behind))

  starts_at_first : (k : ℕ) → 0 < k → k < n → starts_part part k ≡ false
  starts_at_first zero l m = absurd (omega arith)
  starts_at_first (suc k) l m = starts-once k m

  pub part_end_lem : part_end part 0 ≡ n
  part_end_lem = ends_unique part 0 n (record {
    above = omega (arith, ends.above);
    boundary = record { within = omega (arith, part-segments); starts = λ h. absurd (omega (arith, part-segments)) };
    between = starts_at_first;
  })

  pub part-last_part_start : last_part_start part ≡ 0
  unfolding last_part_start
  part-last_part_start =
      ap (λ m. get_or (last m (starts_part part)) 0) part-segments
      ∙ ap (λ o. get_or o 0) (last_at (starts_part part) n 0 (omega (arith, ends.above)) (first-starts part) starts_at_first)

  -- so its last part is all of it
  pub part-last_part : (u : Table) → last_part part u ≡ u
  unfolding last_part first_column conditions_before
  part-last_part u = ap (λ c. map (drop (first_column part c)) (drop (first_column part c - conditions_before part c) u)) part-last_part_start ∙ rows u
    where
      rows : (u : Table) → map (drop 0) u ≡ u
      rows [] = refl
      rows (r ∷ u) = ap (λ t. r ∷ t) (rows u)

  -- ---- the tests of a part are the beam's
  pub part-checked : Checked s → Checked part
  unfolding bad_break bad_degree bad_order span_too_long too_many_segments
  part-checked c = record {
    lengths = lengths-fit part (section-lengths s (lengths_fit_inverts s c.lengths) a n (omega (arith, ends.above)) (omega (arith, behind, ends.boundary.within)));
    breaks = λ i h. good-break i (omega (arith, part-segments));
    spans = λ i h. no_span i (omega (arith, part-segments));
    degrees =
        λ i h. ap (λ d. not (between (pos 1) (pos degree_limit) d)) (section-degree_entry s a n i (omega (arith, part-segments)))
        ∙ c.degrees (a + i) (omega (arith, part-segments, behind, ends.boundary.within));
    orders = λ i h. good-order i (omega (arith, part-segments));
    few = λ i h. few i (omega (arith, part-segments));
  }
    where
      in_range : (i : ℕ) → bad_break s i ≡ false → not (between (neg_ℤ (pos break_limit)) (pos break_limit) (break s i)) ≡ false
      in_range zero e = e
      in_range (suc i) e = (or-false (not (between (neg_ℤ (pos break_limit)) (pos break_limit) (break s (suc i)))) (le_z (break s (suc i)) (break s i)) e).0

      good-break : (i : ℕ) → i ≤ n → bad_break part i ≡ false
      good-break zero h = ap (λ z. not (between (neg_ℤ (pos break_limit)) (pos break_limit) z)) (section-break s a n 0 h ∙ ap (break s) (add-zero a)) ∙ in_range a (c.breaks a (omega (arith, A.below)))
      good-break (suc i) h =
          ap₂ (λ y x. not (between (neg_ℤ (pos break_limit)) (pos break_limit) y) || le_z y x) (section-break s a n (suc i) h ∙ ap (break s) (add-suc a i)) (section-break s a n i (omega arith))
          ∙ c.breaks (suc (a + i)) (omega (arith, behind, ends.boundary.within))

      span_is : break part (part_end part 0) -ℤ break part 0 ≡ break s (part_end s a) -ℤ break s a
      span_is = ap₂ ◌-ℤ◌ (ap (break part) part_end_lem ∙ section-break s a n n (omega arith) ∙ ap (break s) behind) (section-break s a n 0 (omega arith) ∙ ap (break s) (add-zero a))

      no_span : (i : ℕ) → i < n → span_too_long part i ≡ false
      no_span zero h = ap₂ (λ b z. b && lt_z (pos span_limit) z) (first-starts part ∙ sym A.starts) span_is ∙ c.spans a A.below
      no_span (suc i) h = ap (λ b. b && lt_z (pos span_limit) (break part (part_end part (suc i)) -ℤ break part (suc i))) (starts-once i h)

      good-order : (i : ℕ) → suc i < n → bad_order part i ≡ false
      good-order i h =
          ap₂ (λ o d. not (between (neg_ℤ (pos 1)) (pos 2) o) || le_z d o || le_z (degree_entry part (suc i)) o) (section-order s a n i h) (section-degree_entry s a n i (omega arith))
          ∙ ap (λ d. not (between (neg_ℤ (pos 1)) (pos 2) (order s (a + i))) || le_z (degree_entry s (a + i)) (order s (a + i)) || le_z d (order s (a + i)))
          (section-degree_entry s a n (suc i) h ∙ ap (degree_entry s) (add-suc a i))
          ∙ c.orders (a + i) (omega (arith, behind, ends.boundary.within))

      few : (i : ℕ) → i < n → too_many_segments part i ≡ false
      few zero h = ap₂ (λ b k. b && ltb part_segment_limit k) (first-starts part ∙ sym A.starts) (let e : part_end part 0 - 0 ≡ n = omega (arith, part_end_lem) in e) ∙ c.few a A.below
      few (suc i) h = ap (λ b. b && ltb part_segment_limit (part_end part (suc i) - suc i)) (starts-once i h)

  -- a part has the limits of a space that is not cut: 12 segments and a span of 2,000
  pub part_few : Checked s → segments part ≤ part_segment_limit
  unfolding too_many_segments
  part_few c = rw part-segments (ltb-false part_segment_limit n (sym (ap (λ b. b && ltb part_segment_limit n) A.starts) ∙ c.few a A.below))

  pub part-short : Checked s → lt_z (pos span_limit) (break part (segments part) -ℤ break part 0) ≡ false
  unfolding span_too_long
  part-short c =
      ap (λ z. lt_z (pos span_limit) z)
      (ap₂ ◌-ℤ◌ (ap (break part) part-segments ∙ section-break s a n n (omega arith) ∙ ap (break s) behind)
      (section-break s a n 0 (omega arith) ∙ ap (break s) (add-zero a)))
      ∙ sym (ap (λ b. b && lt_z (pos span_limit) (break s (part_end s a) -ℤ break s a)) A.starts) ∙ c.spans a A.below

pub parts_are_legal : PartsAreLegal
parts_are_legal s e a A = checked-passes (part_at s a) (part-checked s a A (checked_inverts s e).1)
