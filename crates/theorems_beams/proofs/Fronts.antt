-- The fronts of a beam, from its first segment to the end of a part, as a loop over the parts builds them: the weights, rows and
-- last part of a front from those of the front before it and of the part; and a front that is refused refuses the beam.
use mathlib.Core.Path.{◌≡◌, refl, sym, ◌∙◌, ap, ap₂}
use mathlib.Core.Logic.{◌⊎◌, inl, inr}
use mathlib.Core.List.{[], ◌∷◌, ◌++◌, map}
use Prim.Native.Nat.{ℕ, zero, suc, ◌+◌, ◌-◌, ◌<◌, ◌≤◌}
use native.Mathlib.Omega.{arith}
use borrow.Author.Tests.{eqb-true}
use lib.IntN.{pos}
use lib.ListN.{length, drop, length-map}
use lib.Seq.{drop_at}
use Rattle.base_exact.specs.Rational.{int}
use Rattle.base_exact.specs.Tabulate.{tab}
use Rattle.base_exact.proofs.Decide.{le_or_lt}
use Rattle.base_exact.proofs.Tabulate.{drop-tab}
use Rattle.base_outcome.specs.Outcome.{answer, refusal, capped, repeat}
use Rattle.spec_spline.specs.Space.{Space, segments, starts_part, part_end, first_column, column_count, condition_count, conditions_before, row_count, rows_before}
use Rattle.spec_spline.specs.Table.{Table, identity}
use Rattle.spec_spline.specs.Build.{order_steps, join_steps, weights, last_part}
use Rattle.spec_spline.proofs.Parts.{Boundary, Ends, part-ends}
use Rattle.spec_spline.proofs.Space.{first_column_mono}
use Rattle.spec_spline.proofs.Legal.{Checked, Lengths}
use Rattle.spec_spline.proofs.Shape.{weights_shaped}
use Rattle.theorems_beams.specs.Sections.{section, part_at, zeros, beside}
use Rattle.theorems_beams.specs.Parts.{Starts}
use Rattle.theorems_beams.proofs.Carried.{joined, joined-answers, joined-refuses, Joined, joined_inverts}
use Rattle.theorems_beams.proofs.Sections.{section-segments, section-conditions_before, section-column_count, section_all, front-columns}
use Rattle.theorems_beams.proofs.Sections.{front-first_column, front-conditions_before, OrdersFit, section_orders_fit, conditions_fewer}
use Rattle.theorems_beams.proofs.Sections.{conditions-between}
use Rattle.theorems_beams.proofs.Cut.{front-run, refused_run}
use Rattle.theorems_beams.proofs.Sides.{tables}
use Rattle.theorems_beams.proofs.Ends.{boundary_starts, front-last_part_start}

-- the front with no segment
pub no_front : (s : Space) → weights (section s 0 0) ≡ answer []
unfolding weights join_steps repeat identity tab first_column
no_front s = refl

-- ---- the front up to the end of a part
module _ (s : Space) (F : OrdersFit s) (a : ℕ) (A : Starts s a) where
  abbrev b : ℕ
  b = part_end s a

  abbrev part : Space
  part = part_at s a

  ends : Ends s a b
  ends = part-ends s a A.below

  within : b ≤ segments s
  within = ends.boundary.within

  whole : a + (b - a) ≡ b
  whole = omega (arith, ends.above)

  pub front-weights : weights (section s 0 b) ≡ joined a (beside (first_column s a) (column_count part)) (weights (section s 0 a)) (weights part)
  unfolding weights join_steps order_steps
  front-weights = front-run (tables (first_column s b)) s F a A (omega arith)

  pub front-answers : {t u : Table} → weights (section s 0 a) ≡ answer t → weights part ≡ answer u → weights (section s 0 b) ≡ answer (beside (first_column s a) (column_count part) t u)
  front-answers e h = front-weights ∙ joined-answers a (beside (first_column s a) (column_count part)) e h

  pub front-refuses : {t : Table} {code place : ℕ} → weights (section s 0 a) ≡ answer t → weights part ≡ refusal code place → weights (section s 0 b) ≡ refusal code (capped (a + place))
  front-refuses e h = front-weights ∙ joined-refuses a (beside (first_column s a) (column_count part)) e h

  -- a front that answers: the front before it and the part do
  pub front_inverts : {w : Table} → weights (section s 0 b) ≡ answer w → Joined a (beside (first_column s a) (column_count part)) (weights (section s 0 a)) (weights part) w
  front_inverts e = joined_inverts a (beside (first_column s a) (column_count part)) (weights (section s 0 a)) (weights part) (sym front-weights ∙ e)

  -- ---- rows
  pub part-columns : first_column s b ≡ first_column s a + column_count part
  part-columns = ap (first_column s) (sym whole) ∙ section-column_count s a (b - a) (omega (arith, within, whole))

  pub front-rows_more : row_count (section s 0 b) ≡ rows_before s a + row_count part
  front-rows_more =
      ap₂ ◌-◌ (front-columns s b within ∙ part-columns)
      (ap (λ m. conditions_before (section s 0 b) (m - 1)) (section-segments s 0 b (omega (arith, within)))
      ∙ front-conditions_before s b (b - 1) (omega (arith, ends.above)) ∙ counted)
      ∙ omega (arith, conditions_fewer s F a A.below, fewer)
    where
      size : segments part ≡ b - a
      size = section-segments s a (b - a) (omega (arith, within, whole))

      counted : conditions_before s (b - 1) ≡ conditions_before s a + conditions_before part (segments part - 1)
      counted =
          ap (conditions_before s) (let e : b - 1 ≡ a + (b - a - 1) = omega (arith, ends.above) in e)
          ∙ section-conditions_before s a (b - a) (b - a - 1) (omega (arith, ends.above))
          ∙ ap (λ m. conditions_before s a + conditions_before part (m - 1)) (sym size)

      fewer : conditions_before part (segments part - 1) ≤ column_count part
      fewer =
          omega (
            arith,
            conditions_fewer part (section_orders_fit s a (b - a) (omega (arith, within, whole)) F) (segments part - 1)
                (omega (arith, size, ends.above)),
            first_column_mono part (segments part - 1) (segments part) (omega arith),
          )

-- the rows of a front that ends where a part starts
pub front-rows : (s : Space) (a : ℕ) → Starts s a → row_count (section s 0 a) ≡ rows_before s a
unfolding first_column conditions_before starts_part
front-rows s zero A = refl
front-rows s (suc a) A =
    ap₂ ◌-◌ (front-columns s (suc a) (omega (arith, A.below)))
    (ap (λ m. conditions_before (section s 0 (suc a)) (m - 1)) (section-segments s 0 (suc a) (omega (arith, A.below)))
    ∙ ap (conditions_before (section s 0 (suc a))) (let e : suc a - 1 ≡ a = omega arith in e) ∙ front-conditions_before s (suc a) a (omega arith) ∙ counted)
  where
    counted : conditions_before s a ≡ conditions_before s a + condition_count s a
    counted = omega (arith, eqb-true (condition_count s a) 0 A.starts)

-- a part's rows end where the next part's begin, or at the beam's end
pub part-rows : (s : Space) (F : OrdersFit s) (a : ℕ) → Starts s a → Starts s (part_end s a) → rows_before s (part_end s a) ≡ rows_before s a + row_count (part_at s a)
part-rows s F a A B = sym (front-rows s (part_end s a) B) ∙ front-rows_more s F a A

-- a front has no more rows than the beam
pub front-rows-within : (s : Space) → Lengths s → OrdersFit s → (b : ℕ) → Boundary s b → row_count (section s 0 b) ≤ row_count s
front-rows-within s L F b B = go (le_or_lt (segments s) b)
  where
    go : (segments s ≤ b) ⊎ (b < segments s) → row_count (section s 0 b) ≤ row_count s
    go (inl h) =
        let e : row_count (section s 0 b) ≡ row_count s = ap (λ n. row_count (section s 0 n)) (let z : b ≡ segments s = omega (arith, B.within) in z)
        ∙ ap row_count (section_all s L) in omega arith
    go (inr h) =
        let e : b + (segments s - 1 - b) ≡ segments s - 1 = omega arith in
        omega (arith, front-rows s b (boundary_starts B h), rw e at (conditions-between s F b (segments s - 1 - b) (omega arith)), first_column_mono s (segments s - 1) (segments s) (omega arith))

-- ---- the last part of a front

-- a table's rows from the second of two tables on, without the columns of the first
pub lower-right : (left right : ℕ) (t u : Table) → map (drop left) (drop (length t) (beside left right t u)) ≡ u
unfolding beside
lower-right left right t u = ap (map (drop left)) (drop_at (map (λ r. r ++ zeros right) t) (map (λ r. zeros left ++ r) u) (length t) (length-map t (λ r. r ++ zeros right))) ∙ rows u
  where
    rows : (u : Table) → map (drop left) (map (λ r. zeros left ++ r) u) ≡ u
    rows [] = refl
    rows (r ∷ u) = ap₂ ◌∷◌ (drop-tab left (λ _. int (pos 0)) r) (rows u)

pub front-last_part : (s : Space) (a : ℕ) → Starts s a → (t u : Table) → weights (section s 0 a) ≡ answer t
    → last_part (section s 0 (part_end s a)) (beside (first_column s a) (column_count (part_at s a)) t u) ≡ u
unfolding last_part
front-last_part s a A t u e =
    ap (λ c. map (drop (first_column (section s 0 b) c)) (drop (rows_before (section s 0 b) c) T)) (front-last_part_start s a b A.starts E)
    ∙ ap₂ (λ c r. map (drop c) (drop r T)) (front-first_column s b a (omega (arith, E.above)))
    (ap₂ ◌-◌ (front-first_column s b a (omega (arith, E.above))) (front-conditions_before s b a E.above) ∙ sym (front-rows s a A)
    ∙ sym (weights_shaped (section s 0 a) e).rows)
    ∙ lower-right (first_column s a) (column_count (part_at s a)) t u
  where
    b : ℕ
    b = part_end s a

    T : Table
    T = beside (first_column s a) (column_count (part_at s a)) t u

    E : Ends s a b
    E = part-ends s a A.below

-- ---- the front that is the whole beam, and a front that is refused

pub whole-front : (s : Space) → Lengths s → (a : ℕ) → part_end s a ≡ segments s → section s 0 (part_end s a) ≡ s
whole-front s L a e = ap (section s 0) e ∙ section_all s L

pub refused_front : (s : Space) → Checked s → (b : ℕ) → Boundary s b → {code place : ℕ} → weights (section s 0 b) ≡ refusal code place → weights s ≡ refusal code place
unfolding weights join_steps order_steps
refused_front s c b B e = refused_run (tables (column_count s)) s c (omega arith) b B e
