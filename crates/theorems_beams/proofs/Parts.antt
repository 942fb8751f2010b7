-- The statements of specs/Parts: the weights of a cut beam, of an accepted beam part by part, and its first refused part.
use mathlib.Core.Path.{◌≡◌, refl, sym, ◌∙◌, ap, subst}
use mathlib.Core.Logic.{◌⊎◌, inl, inr}
use mathlib.Core.List.{[]}
use Prim.Native.Nat.{ℕ, ◌+◌, ◌-◌, ◌<◌, ◌≤◌}
use native.Mathlib.Omega.{arith}
use native.Mathlib.Nat.{eq-or-lt_of_le}
use lib.IntN.{pos}
use lib.ListN.{length}
use Rattle.base_exact.specs.Rational.{int}
use Rattle.base_exact.proofs.Decide.{le_or_lt, true_not_false}
use Rattle.base_outcome.specs.Outcome.{Outcome, answer, refusal, capped}
use Rattle.spec_spline.specs.Space.{Space, segments, part_end, first_column, column_count, row_count, rows_before}
use Rattle.spec_spline.specs.Table.{Table, cell}
use Rattle.spec_spline.specs.Build.{weights, space_weights}
use Rattle.spec_spline.specs.Piecewise.{Accepted}
use Rattle.spec_spline.proofs.Parts.{Boundary, whole_boundary, Ends, part-ends}
use Rattle.base_outcome.proofs.Outcome.{answer_not_refusal, then_answers}
use Rattle.spec_spline.proofs.Legal.{Checked, checked_inverts, checked-passes, lengths_fit_inverts, accepted-passed}
use Rattle.spec_spline.proofs.Table.{cell-past}
use Rattle.spec_spline.proofs.Shape.{Wide, weights_shaped}
use Rattle.theorems_beams.specs.Sections.{section, part_at, beside}
use Rattle.theorems_beams.specs.Parts.{Starts, CutWeights, PartOf, WeightsByParts, FirstRefused, RefusedWithAPart, RefusedByAPart}
use Rattle.theorems_beams.proofs.Carried.{joined_inverts}
use Rattle.theorems_beams.proofs.Sections.{section_all, front-columns, orders_fit}
use Rattle.theorems_beams.proofs.Sides.{cut-weights}
use Rattle.theorems_beams.proofs.Ends.{starts_boundary, by_parts}
use Rattle.theorems_beams.proofs.PartLegal.{part-checked}
use Rattle.theorems_beams.proofs.Fronts.{no_front, front-answers, front_inverts, front-refuses, part-columns, front-rows, refused_front}
use Rattle.theorems_beams.proofs.Beside.{wide_past, beside_length, cell-upper, cell-lower, cell-lower-left, cell-upper-right}

pub cut-weights-holds : CutWeights
cut-weights-holds s e a n A whole = cut-weights s (orders_fit s (checked_inverts s e).1) a n (sym whole) A.starts (omega (arith, A.below))

-- ---- what is accepted has weights

pub accepted-checked : (s : Space) (x : Accepted s) → Checked s × (weights s ≡ answer x.table)
accepted-checked s x = let p = accepted-passed s x.is in (p.checks, p.weights_are)

pub checked-weights : (s : Space) → Checked s → space_weights s ≡ weights s
unfolding space_weights
checked-weights s c = then_answers weights (checked-passes s c)

abbrev pub checked-accepted : (s : Space) → Checked s → (t : Table) → weights s ≡ answer t → Accepted s
checked-accepted s c t e = record { table = t; is = checked-weights s c ∙ e }

-- ---- the table of an accepted beam, and that of a front of it

record Front (s : Space) (whole : Table) (b : ℕ) : Type 0 where
  table : Table
  is : weights (section s 0 b) ≡ answer table
  same : (i c : ℕ) → i < length table → cell whole i c ≡ cell table i c
  rest : (i c : ℕ) → length table ≤ i → c < first_column s b → cell whole i c ≡ int (pos 0)

fronts : (s : Space) → Checked s → (whole : Table) → weights s ≡ answer whole → (b : ℕ) → Boundary s b → Front s whole b
fronts s c whole e b B = go (le_or_lt (segments s) b)
  where
    cut : b < segments s → Front s whole b
    cut h =
        let d = joined_inverts b (beside (column_count (section s 0 b)) (column_count (section s b (segments s - b)))) (weights (section s 0 b)) (weights (section s b (segments s - b)))
        (sym (cut-weights s (orders_fit s c) b (segments s - b) (omega arith) (B.starts h) (omega arith)) ∙ e) in
        two d.one d.other d.answers d.together
      where
        two : (t u : Table) → weights (section s 0 b) ≡ answer t → beside (column_count (section s 0 b)) (column_count (section s b (segments s - b))) t u ≡ whole → Front s whole b
        two t u p q = record {
          table = t;
          is = p;
          same = λ i k l. ap (λ T. cell T i k) (sym q) ∙ cell-upper (column_count (section s 0 b)) (column_count (section s b (segments s - b))) t u i k l;
          rest = λ i k l m. ap (λ T. cell T i k) (sym q)
              ∙ ap (λ j. cell (beside (column_count (section s 0 b)) (column_count (section s b (segments s - b))) t u) j k) (let z : i ≡ length t + (i - length t) = omega arith in z)
              ∙ cell-lower-left (column_count (section s 0 b)) (column_count (section s b (segments s - b))) t u (i - length t) k (rw (front-columns s b B.within) m);
        }

    go : (segments s ≤ b) ⊎ (b < segments s) → Front s whole b
    go (inl h) = record {
      table = whole;
      is = ap (λ m. weights (section s 0 m)) (let z : b ≡ segments s = omega (arith, B.within) in z) ∙ ap weights (section_all s (lengths_fit_inverts s c.lengths)) ∙ e;
      same = λ i k l. refl;
      rest = λ i k l m. cell-past whole i k l;
    }
    go (inr h) = cut h

pub weights_by_parts : WeightsByParts
weights_by_parts s x a A = finish (fronts s c x.table (accepted-checked s x).1 b E.boundary)
  where
    c : Checked s
    c = (accepted-checked s x).0

    b : ℕ
    b = part_end s a

    E : Ends s a b
    E = part-ends s a A.below

    L : ℕ
    L = first_column s a

    R : ℕ
    R = column_count (part_at s a)

    columns : first_column s b ≡ L + R
    columns = part-columns s (orders_fit s c) a A

    two : (f : Front s x.table b) (t u : Table) → weights (section s 0 a) ≡ answer t → weights (part_at s a) ≡ answer u → beside L R t u ≡ f.table → PartOf s x.table a
    two f t u p q r = record {
      accepted = checked-accepted (part_at s a) (part-checked s a A c) u q;
      same = λ i k h l. inside i (L + k) h ∙ cell-lower L R t u i k;
      zero-beside = λ i k h l. inside i k h ∙ outside i k l;
      zero-above_and_below = λ i k h l. away i k h l;
    }
      where
        above : length t ≡ rows_before s a
        above = (weights_shaped (section s 0 a) p).rows ∙ front-rows s a A

        rows : length u ≡ row_count (part_at s a)
        rows = (weights_shaped (part_at s a) q).rows

        height : length f.table ≡ length t + length u
        height = ap length (sym r) ∙ beside_length L R t u

        wide : Wide L t
        wide = rw (front-columns s a (omega (arith, A.below))) at (weights_shaped (section s 0 a) p).wide

        inside : (i k : ℕ) → i < row_count (part_at s a) → cell x.table (rows_before s a + i) k ≡ cell (beside L R t u) (length t + i) k
        inside i k h = f.same (rows_before s a + i) k (omega (arith, height, above, rows)) ∙ ap (λ T. cell T (rows_before s a + i) k) (sym r) ∙ ap (λ n. cell (beside L R t u) (n + i) k) (sym above)

        outside : (i k : ℕ) → (k < L) ⊎ (first_column s b ≤ k) → cell (beside L R t u) (length t + i) k ≡ int (pos 0)
        outside i k (inl l) = cell-lower-left L R t u i k l
        outside i k (inr l) =
            ap (cell (beside L R t u) (length t + i)) (let z : k ≡ L + (k - L) = omega (arith, columns) in z)
            ∙ cell-lower L R t u i (k - L)
            ∙ wide_past R u (weights_shaped (part_at s a) q).wide i (k - L) (omega (arith, columns))

        away : (i k : ℕ) → k < R → (i < rows_before s a) ⊎ (rows_before s a + row_count (part_at s a) ≤ i) → cell x.table i (L + k) ≡ int (pos 0)
        away i k h (inl l) = f.same i (L + k) (omega (arith, height, above)) ∙ ap (λ T. cell T i (L + k)) (sym r) ∙ cell-upper-right L R t u wide i (L + k) (omega (arith, above)) (omega arith)
        away i k h (inr l) = f.rest i (L + k) (omega (arith, height, above, rows)) (omega (arith, columns))

    finish : Front s x.table b → PartOf s x.table a
    finish f = let d = front_inverts s (orders_fit s c) a A f.is in two f d.one d.other d.answers d.other_answers d.together

-- ---- the first refused part

-- Up to b no part is refused, or the beam is refused where and as a part is.
data SoFar (s : Space) (b : ℕ) : Type 0 where
  accepted : (t : Table) → weights (section s 0 b) ≡ answer t → ((a : ℕ) → a < b → Starts s a → Accepted (part_at s a)) → SoFar s b
  refused : ((code place : ℕ) → weights s ≡ refusal code place → FirstRefused s code place) → SoFar s b

module _ (s : Space) (c : Checked s) where
  one_part : (a : ℕ) → Starts s a → SoFar s a → SoFar s (part_end s a)
  one_part a A (refused f) = refused f
  one_part a A (accepted t e earlier) = go (weights (part_at s a)) refl
    where
      E : Ends s a (part_end s a)
      E = part-ends s a A.below

      go : (o : Outcome Table) → weights (part_at s a) ≡ o → SoFar s (part_end s a)
      go (answer u) h = accepted _ (front-answers s (orders_fit s c) a A e h) (λ k l K. known k l K (le_or_lt k a))
        where
          known : (k : ℕ) → k < part_end s a → Starts s k → (k ≤ a) ⊎ (a < k) → Accepted (part_at s k)
          known k l K (inr m) = absurd (true_not_false K.starts (E.between k m l))
          known k l K (inl m) = place (eq-or-lt_of_le m)
            where
              place : (k ≡ a) ⊎ (k < a) → Accepted (part_at s k)
              place (inl z) = subst (λ i. Accepted (part_at s i)) (sym z) (checked-accepted (part_at s a) (part-checked s a A c) u h)
              place (inr z) = earlier k z K
      go (refusal code own) h =
          refused (λ code' place e'. found code' place
          (let z : refusal code' place ≡ refusal code (capped (a + own)) = sym e'
          ∙ refused_front s c (part_end s a) E.boundary (front-refuses s (orders_fit s c) a A e h) in z))
        where
          found : (code' place : ℕ) → ◌≡◌ {A = Outcome Table} (refusal code' place) (refusal code (capped (a + own))) → FirstRefused s code' place
          found code' place z = record {
            start = a;
            starts = A;
            earlier = earlier;
            own = own;
            refuses = h ∙ ap (λ n. refusal n own) (let y : code ≡ code' = cc in y);
            place_is = cc;
          }

  all_parts : SoFar s (segments s)
  all_parts = by_parts s (SoFar s) (accepted [] (no_front s) (λ a h A. absurd (omega arith))) one_part (segments s) (whole_boundary s)

pub refused_with_a_part : RefusedWithAPart
refused_with_a_part s e code place r = go (all_parts s c)
  where
    c : Checked s
    c = (checked_inverts s e).1

    go : SoFar s (segments s) → FirstRefused s code place
    go (refused f) = f code place r
    go (accepted t h earlier) = absurd (answer_not_refusal (ap weights (sym (section_all s (lengths_fit_inverts s c.lengths))) ∙ h) r)

pub refused_by_a_part : RefusedByAPart
refused_by_a_part s e code place x =
    refused_front s c (part_end s a) (part-ends s a A.below).boundary (front-refuses s (orders_fit s c) a A before.1 x.refuses)
    ∙ ap (refusal code) (sym x.place_is)
  where
    c : Checked s
    c = (checked_inverts s e).1

    a : ℕ
    a = x.start

    A : Starts s a
    A = x.starts

    Answers : ℕ → Type 0
    Answers b = b ≤ a → (t : Table) × (weights (section s 0 b) ≡ answer t)

    more : (k : ℕ) → Starts s k → Answers k → Answers (part_end s k)
    more k K ih h =
        let E = part-ends s k K.below in
        let l : k < a = omega (arith, E.above) in
        let t = ih (omega arith) in
        let u = x.earlier k l K in
        (_, front-answers s (orders_fit s c) k K t.1 (accepted-checked (part_at s k) u).1)

    before : (t : Table) × (weights (section s 0 a) ≡ answer t)
    before = by_parts s Answers (λ h. ([], no_front s)) more a (starts_boundary A) (omega arith)
