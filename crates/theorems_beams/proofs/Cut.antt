-- A beam cut at a discontinuity, for every kind of state that the steps of a build change (a table alone, or a table with a number
-- for each row): the steps of the joins before the cut act on the left state alone, those behind it on the right one, and the cut
-- has no condition. So what all joins make of a beam is what they make of its two sections.
use mathlib.Core.Path.{◌≡◌, refl, sym, ◌∙◌, ap, ap₂}
use mathlib.Core.Logic.{◌⊎◌, inl, inr}
use mathlib.Core.Bool.{true}
use mathlib.Core.List.{List}
use Prim.Native.Nat.{ℕ, zero, suc, ◌+◌, ◌-◌, ◌<◌, ◌≤◌}
use native.Mathlib.Omega.{arith}
use native.Mathlib.Nat.{zero-add as nothing-add}
use borrow.Author.Tests.{eqb-true}
use Rattle.base_exact.proofs.Decide.{le_or_lt}
use Rattle.base_outcome.specs.Outcome.{Outcome, answer, refusal, capped, ◌then◌, repeat}
use Rattle.base_outcome.proofs.Outcome.{then_refuses, repeat-keeps}
use Rattle.spec_spline.specs.Space.{Space, segments, starts_part, part_end, condition_count, first_column, column_count}
use Rattle.spec_spline.specs.Conditions.{Entry, conditions}
use Rattle.spec_spline.proofs.Conditions.{Inside, conditions-inside}
use Rattle.spec_spline.proofs.Parts.{Boundary, Ends, part-ends}
use Rattle.spec_spline.proofs.Legal.{Checked, lengths_fit_inverts}
use Rattle.theorems_beams.specs.Sections.{section, part_at}
use Rattle.theorems_beams.specs.Parts.{Starts}
use Rattle.theorems_beams.proofs.Carried.{carried, carried_later, carried-repeat, joined, repeat_ext, repeat-add}
use Rattle.theorems_beams.proofs.Sections.{section-segments, section-condition_count, section-column_count, section_all, front-columns, front-starts}
use Rattle.theorems_beams.proofs.Sections.{front-section, moved, section-conditions, OrdersFit, orders_fit, section_orders_fit}

-- A kind of state, with what a cut asks of it: a step by a condition on the columns of one of two states that stand side by side
-- acts on that state alone, and the state at the start is two such states.
pub record Kind (State : Type 0) : Type 1 where
  -- one step, at a join by a condition
  pub act : ℕ → List Entry → State → Outcome State
  -- what a state with this many columns satisfies
  pub Fits : ℕ → State → Type 0
  -- two states with this many columns side by side
  pub beside : ℕ → ℕ → State → State → State
  pub keeps : (width j : ℕ) (κ : List Entry) (x y : State) → Fits width x → act j κ x ≡ answer y → Fits width y
  pub on-left : (left right j : ℕ) (κ : List Entry) (x y : State) → Fits left x → Inside left κ
      → act j (moved 0 κ) (beside left right x y) ≡ carried (λ p. p) (λ z. beside left right z y) (act j κ x)
  -- d joins later
  pub on-right : (left right d j : ℕ) (κ : List Entry) (x y : State) → Fits left x → Fits right y → Inside right κ
      → act (d + j) (moved left κ) (beside left right x y) ≡ carried (λ p. capped (d + p)) (beside left right x) (act j κ y)
  -- the state at the start for the n columns from column c on; there are so many columns in all
  pub columns : ℕ
  pub start : ℕ → ℕ → State
  pub start_fits : (c n : ℕ) → c + n ≤ columns → Fits n (start c n)
  pub start-beside : (c m n : ℕ) → start c (m + n) ≡ beside m n (start c m) (start (c + m) n)

-- joins in a row, one step at each: those before a cut, where there is nothing to do, and those behind it
joins-cut : {State : Type 0} (s : Space) (n : ℕ) (stepped : ℕ → State → Outcome State) → ((c : ℕ) (x : State) → condition_count s c ≡ 0 → stepped c x ≡ answer x)
    → (a : ℕ) → starts_part s a ≡ true → 0 < n → (x : State) → repeat (a + n - 1) stepped x ≡ (repeat (a - 1) stepped x then λ y. repeat (n - 1) (λ i. stepped (a + i)) y)
unfolding repeat starts_part
joins-cut s n stepped quiet zero starts some x =
    ap (λ m. repeat m stepped x) (let e : 0 + n - 1 ≡ n - 1 = omega arith in e)
    ∙ repeat_ext (n - 1) stepped (λ i. stepped (0 + i)) x (λ i b h. ap (λ m. stepped m b) (sym (nothing-add i)))
joins-cut {State} s n stepped quiet (suc c) starts some x =
    ap (λ m. repeat m stepped x) (let e : suc c + n - 1 ≡ suc c + (n - 1) = omega arith in e)
    ∙ repeat-add (suc c) (n - 1) stepped x
    ∙ ap (λ o. o then behind) (at_cut (repeat c stepped x) ∙ ap (λ m. repeat m stepped x) (let e : c ≡ suc c - 1 = omega arith in e))
  where
    behind : State → Outcome State
    behind y = repeat (n - 1) (λ i. stepped (suc c + i)) y

    at_cut : (o : Outcome State) → (o then stepped c) ≡ o
    at_cut (answer y) = quiet c y (eqb-true (condition_count s c) 0 starts)
    at_cut (refusal code place) = refl

module _ {State : Type 0} (K : Kind State) where
  -- the orders of join j, all joins, and all joins from the start, with the columns from column c on
  abbrev pub orders : Space → ℕ → State → Outcome State
  orders s j x = repeat (condition_count s j) (λ k. K.act j (conditions s j k)) x

  abbrev pub joins : Space → State → Outcome State
  joins s x = repeat (segments s - 1) (orders s) x

  abbrev pub run : Space → ℕ → Outcome State
  run s c = joins s (K.start c (column_count s))

  orders_keep : (s : Space) (width j : ℕ) (x y : State) → K.Fits width x → orders s j x ≡ answer y → K.Fits width y
  orders_keep s width j x y F e = repeat-keeps (λ _ z. K.Fits width z) (condition_count s j) (λ k. K.act j (conditions s j k)) x F (λ k a b h. K.keeps width j (conditions s j k) a b) y e

  joins-keep : (s : Space) (width : ℕ) (x y : State) → K.Fits width x → joins s x ≡ answer y → K.Fits width y
  joins-keep s width x y F e = repeat-keeps (λ _ z. K.Fits width z) (segments s - 1) (orders s) x F (λ j a b h. orders_keep s width j a b) y e

  -- ---- the joins of a section, as joins of the beam: `within` puts a state of the section among the others
  module _ (s : Space) (F : OrdersFit s) (d m : ℕ) (fits : d + m ≤ segments s) where
    abbrev part : Space
    part = section s d m

    abbrev width : ℕ
    width = column_count part

    inside : (i k : ℕ) → suc i < m → k < condition_count part i → Inside width (conditions part i k)
    inside i k h l = let G = section_orders_fit s d m fits F in let n : suc i < segments part = rw (section-segments s d m fits) h in
        conditions-inside part i k n (omega (arith, G.left i n)) (omega (arith, G.right i n))

    module _ (ρ : ℕ → ℕ) (within : State → State)
        (same : (i : ℕ) (κ : List Entry) (x : State) → K.Fits width x → Inside width κ → K.act (d + i) (moved (first_column s d) κ) (within x) ≡ carried ρ within (K.act i κ x)) where
      orders_within : (i : ℕ) (x : State) → suc i < m → K.Fits width x → orders s (d + i) (within x) ≡ carried ρ within (orders part i x)
      orders_within i x h f =
          ap (λ c. repeat c (λ k. K.act (d + i) (conditions s (d + i) k)) (within x)) (sym (section-condition_count s d m i h))
          ∙ carried-repeat ρ (K.Fits width) within (condition_count part i) (λ k. K.act i (conditions part i k)) (λ k. K.act (d + i) (conditions s (d + i) k)) x f
          (λ k y z l. K.keeps width i (conditions part i k) y z)
          (λ k y l g. ap (λ κ. K.act (d + i) κ (within y)) (section-conditions s d m i k h) ∙ same i (conditions part i k) y g (inside i k h l))

      joins-within : (x : State) → K.Fits width x → repeat (m - 1) (λ i. orders s (d + i)) (within x) ≡ carried ρ within (joins part x)
      joins-within x f =
          carried-repeat ρ (K.Fits width) within (m - 1) (orders part) (λ i. orders s (d + i)) x f (λ j y z h. orders_keep part width j y z) (λ j y h. orders_within j y (omega arith))
          ∙ ap (λ n. carried ρ within (repeat (n - 1) (orders part) x)) (sym (section-segments s d m fits))

  -- ---- a beam cut before segment a, which starts a part
  module _ (s : Space) (F : OrdersFit s) (a n : ℕ) (whole : a + n ≡ segments s) where
    abbrev before : Space
    before = section s 0 a

    abbrev behind : Space
    behind = section s a n

    abbrev L : ℕ
    L = column_count before

    abbrev R : ℕ
    R = column_count behind

    before-columns : L ≡ first_column s a
    before-columns = front-columns s a (omega arith)

    pub both-columns : column_count s ≡ L + R
    both-columns = ap (first_column s) (sym whole) ∙ section-column_count s a n (omega arith) ∙ omega (arith, before-columns)

    joins-before : (x y : State) → K.Fits L x → repeat (a - 1) (orders s) (K.beside L R x y) ≡ carried (λ p. p) (λ z. K.beside L R z y) (joins before x)
    unfolding first_column
    joins-before x y f =
        repeat_ext (a - 1) (orders s) (λ i. orders s (0 + i)) (K.beside L R x y) (λ i z h. ap (λ m. orders s m z) (sym (nothing-add i)))
        ∙ joins-within s F 0 a (omega arith) (λ p. p) (λ z. K.beside L R z y)
        (λ i κ z g inside. ap (λ m. K.act m (moved 0 κ) (K.beside L R z y)) (nothing-add i) ∙ K.on-left L R i κ z y g inside) x f

    joins-behind : (x y : State) → K.Fits L x → K.Fits R y → repeat (n - 1) (λ i. orders s (a + i)) (K.beside L R x y) ≡ carried (λ p. capped (a + p)) (K.beside L R x) (joins behind y)
    joins-behind x y f g = joins-within s F a n (omega arith) (λ p. capped (a + p)) (K.beside L R x)
        (λ i κ z h inside. ap (λ c. K.act (a + i) (moved c κ) (K.beside L R x z)) (sym before-columns) ∙ K.on-right L R a i κ x z f h inside) y g

    module _ (starts : starts_part s a ≡ true) (some : 0 < n) where
      cut-joins : (x y : State) → K.Fits L x → K.Fits R y → joins s (K.beside L R x y) ≡ joined a (K.beside L R) (joins before x) (joins behind y)
      unfolding repeat
      cut-joins x y f g =
          ap (λ m. repeat (m - 1) (orders s) (K.beside L R x y)) (sym whole)
          ∙ joins-cut s n (orders s) (λ c z e. ap (λ m. repeat m (λ k. K.act c (conditions s c k)) z) e) a starts some (K.beside L R x y)
          ∙ ap (λ o. o then rest) (joins-before x y f)
          ∙ go (joins before x) refl
        where
          rest : State → Outcome State
          rest z = repeat (n - 1) (λ i. orders s (a + i)) z

          go : (o : Outcome State) → joins before x ≡ o → (carried (λ p. p) (λ z. K.beside L R z y) o then rest) ≡ joined a (K.beside L R) o (joins behind y)
          go (answer z) e = joins-behind z y (joins-keep before L x z f e) g ∙ carried_later a (K.beside L R z) (joins behind y)
          go (refusal code place) e = refl

      pub cut-run : (c : ℕ) → c + column_count s ≤ K.columns → run s c ≡ joined a (K.beside L R) (run before c) (run behind (c + L))
      cut-run c h =
          ap (λ m. joins s (K.start c m)) both-columns ∙ ap (joins s) (K.start-beside c L R)
          ∙ cut-joins (K.start c L) (K.start (c + L) R) (K.start_fits c L (omega (arith, both-columns))) (K.start_fits (c + L) R (omega (arith, both-columns)))

  -- ---- the front of a beam up to the end of a part: the front before the part, and the part
  module _ (s : Space) (F : OrdersFit s) (a : ℕ) (A : Starts s a) (enough : first_column s (part_end s a) ≤ K.columns) where
    abbrev b : ℕ
    b = part_end s a

    ends : Ends s a b
    ends = part-ends s a A.below

    in_beam : b ≤ segments s
    in_beam = ends.boundary.within

    whole-front : a + (b - a) ≡ segments (section s 0 b)
    whole-front = omega (arith, ends.above, section-segments s 0 b (omega (arith, in_beam)))

    columns-before : column_count (section s 0 a) ≡ first_column s a
    columns-before = front-columns s a (omega (arith, A.below))

    pub front-run : run (section s 0 b) 0 ≡ joined a (K.beside (first_column s a) (column_count (part_at s a))) (run (section s 0 a) 0) (run (part_at s a) (first_column s a))
    front-run =
        cut-run (section s 0 b) (section_orders_fit s 0 b (omega (arith, in_beam)) F) a (b - a) whole-front (front-starts s b a ends.above ∙ A.starts) (omega (arith, ends.above))
        0 (omega (arith, enough, front-columns s b in_beam))
        ∙ ap₂ (λ x y. joined a (K.beside (column_count x) (column_count y)) (run x 0) (run y (0 + column_count x))) (front-section s b 0 a (omega (arith, ends.above)))
        (front-section s b a (b - a) (omega (arith, ends.above)))
        ∙ ap₂ (λ m c. joined a (K.beside m (column_count (part_at s a))) (run (section s 0 a) 0) (run (part_at s a) c)) columns-before (nothing-add (column_count (section s 0 a)) ∙ columns-before)

  -- a front that is refused refuses the beam
  pub refused_run : (s : Space) → Checked s → column_count s ≤ K.columns → (b : ℕ) → Boundary s b → {code place : ℕ} → run (section s 0 b) 0 ≡ refusal code place → run s 0 ≡ refusal code place
  refused_run s c enough b B {code} {place} e = go (le_or_lt (segments s) b)
    where
      go : (segments s ≤ b) ⊎ (b < segments s) → run s 0 ≡ refusal code place
      go (inl h) = ap (λ x. run x 0) (sym (section_all s (lengths_fit_inverts s c.lengths))) ∙ ap (λ m. run (section s 0 m) 0) (let z : segments s ≡ b = omega (arith, B.within) in z) ∙ e
      go (inr h) = cut-run s (orders_fit s c) b (segments s - b) (omega arith) (B.starts h) (omega arith) 0 (omega (arith, enough)) ∙ then_refuses _ e
