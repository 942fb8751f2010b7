-- A step that is undone on a table in a larger one, with coefficients for the rows above and below it: these keep their coefficients, and
-- the others become what they become by themselves.
use mathlib.Core.Path.{◌≡◌, refl, sym, ◌∙◌, ap, ap₂}
use mathlib.Core.Bool.{Bool, true, false, cond}
use mathlib.Core.List.{List, ◌++◌}
use Prim.Native.Nat.{ℕ, zero, suc, ◌+◌, ◌-◌, ◌<◌, ◌≤◌}
use native.Mathlib.Omega.{arith}
use native.Mathlib.Nat.{add-zero as nothing-more, add-suc}
use lib.IntN.{pos}
use lib.ListN.{length, length-append, get_or-append}
use lib.Seq.{get_or-append-add}
use Rattle.base_exact.specs.Rational.{ℚ, int, ◌+ᵠ◌, ◌*ᵠ◌, ◌-ᵠ◌, ◌/ᵠ◌}
use Rattle.base_exact.specs.Order.{is_zero}
use Rattle.base_fraction.specs.Size.{fits}
use Rattle.base_outcome.specs.Outcome.{Outcome, answer, refusal, refuse, capped, ◌then◌}
use Rattle.spec_spline.specs.Conditions.{Entry}
use Rattle.spec_spline.specs.Table.{entry}
use Rattle.spec_spline.specs.Step.{Span, jumps, jumps_at, span, factors, rows_renewed}
use Rattle.spec_spline.proofs.Planned.{then_planned}
use Rattle.spec_spline.proofs.Shape.{Wide}
use Rattle.spec_spline.proofs.Splice.{spliced-within}
use Rattle.spec_spline.proofs.Answers.{jumps_length, span_inverts}
use Rattle.theorems_beams.proofs.Carried.{carried, carried_then}
use Rattle.theorems_beams.proofs.Embedded.{padded, padded_at, padded_length, jumps-before, jumps-inside, jumps-behind, moved_span, span-carried, factors-carried}
use Rattle.theorems_beams.proofs.Embedded.{Around, embedded, jumps-carried, renewed_carried}
use Rattle.spec_calls.specs.Recovery.{Combination, fitted, jump_sum, balanced, undone_coefficient, undone_row, undone_rows, undone, undoing, recover_step}
use Rattle.theorems_recovery.proofs.Answers.{added}

-- ---- a list in a longer one

coefficient-inside : (xs cs ys : List ℚ) (i : ℕ) → i < length cs → entry (xs ++ cs ++ ys) (length xs + i) ≡ entry cs i
coefficient-inside xs cs ys i h = get_or-append (xs ++ cs) ys (int (pos 0)) (length xs + i) (omega (arith, length-append xs cs)) ∙ get_or-append-add xs cs i (int (pos 0))

-- ---- the parts of a step at joins j and j', whose places correspond
module _ (ρ : ℕ → ℕ) (j j' : ℕ) (place : ρ (capped j) ≡ capped j') where
  sized-carried : (x : ℚ) → fitted j' x ≡ carried ρ (λ y. y) (fitted j x)
  unfolding fitted
  sized-carried x = go (fits x)
    where
      go : (b : Bool) → cond b (answer x) (refuse 20 j') ≡ carried ρ (λ y. y) (cond b (answer x) (refuse 20 j))
      go true = refl
      go false = ap (refusal 20) (sym place)

  module _ (xs cs ys js : List ℚ) (q : ℕ) (size : length js ≡ length cs) where
    abbrev all : List ℚ
    all = xs ++ cs ++ ys

    abbrev jumped : List ℚ
    jumped = padded (length xs) q js

    added-nothing : (n : ℕ) (o : Outcome ℚ) → jumps_at jumped n ≡ false → (o then added j' jumped all n) ≡ o
    added-nothing n (answer s) e = ap (λ b. cond b (fitted j' (entry all n *ᵠ entry jumped n) then λ p. fitted j' (s +ᵠ p)) (answer s)) e
    added-nothing n (refusal code place) e = refl

    added-carried : (n : ℕ) → n < length cs → (s : ℚ) → added j' jumped all (length xs + n) s ≡ carried ρ (λ y. y) (added j js cs n s)
    added-carried n h s = ap (λ b. cond b (fitted j' (entry all (length xs + n) *ᵠ entry jumped (length xs + n)) then λ p. fitted j' (s +ᵠ p)) (answer s)) (jumps-inside (length xs) q js n)
        ∙ go (jumps_at js n)
      where
        go : (b : Bool) → cond b (fitted j' (entry all (length xs + n) *ᵠ entry jumped (length xs + n)) then λ p. fitted j' (s +ᵠ p)) (answer s)
            ≡ carried ρ (λ y. y) (cond b (fitted j (entry cs n *ᵠ entry js n) then λ p. fitted j (s +ᵠ p)) (answer s))
        go true = carried_then ρ (λ y. y) (λ y. y) (fitted j (entry cs n *ᵠ entry js n)) (λ p. fitted j (s +ᵠ p)) (λ p. fitted j' (s +ᵠ p))
            (ap (fitted j') (ap₂ ◌*ᵠ◌ (coefficient-inside xs cs ys n h) (padded_at (length xs) q js n)) ∙ sized-carried (entry cs n *ᵠ entry js n)) (λ p e. sized-carried (s +ᵠ p))
        go false = refl

    sum-before : (n : ℕ) → n ≤ length xs → jump_sum j' jumped all n ≡ answer (int (pos 0))
    unfolding jump_sum
    sum-before zero h = refl
    sum-before (suc n) h = added-nothing n (jump_sum j' jumped all n) (jumps-before (length xs) q js n h) ∙ sum-before n (omega arith)

    sum_inside : (n : ℕ) → n ≤ length cs → jump_sum j' jumped all (length xs + n) ≡ carried ρ (λ y. y) (jump_sum j js cs n)
    unfolding jump_sum
    sum_inside zero h = ap (jump_sum j' jumped all) (nothing-more (length xs)) ∙ sum-before (length xs) (omega arith)
    sum_inside (suc n) h = ap (jump_sum j' jumped all) (add-suc (length xs) n)
        ∙ carried_then ρ (λ y. y) (λ y. y) (jump_sum j js cs n) (added j js cs n) (added j' jumped all (length xs + n)) (sum_inside n (omega arith)) (λ s e. added-carried n h s)

    sum-behind : (n : ℕ) → jump_sum j' jumped all (length xs + length cs + n) ≡ jump_sum j' jumped all (length xs + length cs)
    unfolding jump_sum
    sum-behind zero = ap (jump_sum j' jumped all) (nothing-more (length xs + length cs))
    sum-behind (suc n) = ap (jump_sum j' jumped all) (add-suc (length xs + length cs) n)
        ∙ added-nothing (length xs + length cs + n) (jump_sum j' jumped all (length xs + length cs + n))
        (ap (jumps_at jumped) (let e : length xs + length cs + n ≡ length xs + (length cs + n) = omega arith in e) ∙ jumps-behind (length xs) q js (length cs + n) (omega (arith, size)))
        ∙ sum-behind n

    balanced-carried : balanced j' jumped all ≡ carried ρ (λ u. u) (balanced j js cs)
    unfolding balanced
    balanced-carried = carried_then ρ (λ y. y) (λ u. u) (jump_sum j js cs (length js)) _ _
        (ap (jump_sum j' jumped all) (padded_length (length xs) q js ∙ ap (λ m. length xs + m + q) size) ∙ sum-behind q ∙ sum_inside (length cs) (omega arith)
        ∙ ap (λ m. carried ρ (λ y. y) (jump_sum j js cs m)) (sym size))
        (λ s e. tested (is_zero s))
      where
        tested : (b : Bool) → ◌≡◌ {A = Outcome (Unit {0})} (cond b (answer tt) (refuse 19 j')) (carried ρ (λ u. u) (cond b (answer tt) (refuse 19 j)))
        tested true = refl
        tested false = ap (refusal 19) (sym place)

  module _ (xs cs ys ws : List ℚ) where
    coefficient-carried : (w c before : ℚ) → undone_coefficient j' w c before ≡ carried ρ (λ y. y) (undone_coefficient j w c before)
    unfolding undone_coefficient
    coefficient-carried w c before =
        carried_then ρ (λ y. y) (λ y. y) (fitted j ((int (pos 1) -ᵠ w) *ᵠ before)) _ _ (sized-carried ((int (pos 1) -ᵠ w) *ᵠ before))
        (λ share e. carried_then ρ (λ y. y) (λ y. y) (fitted j (c -ᵠ share)) _ _ (sized-carried (c -ᵠ share)) (λ d h. sized-carried (d /ᵠ w)))

    row_carried : (f n : ℕ) → f + n < length cs → (ds : List ℚ) → undone_row j' ws (xs ++ cs ++ ys) (length xs + f) n ds ≡ carried ρ (λ y. y) (undone_row j ws cs f n ds)
    row_carried f zero h ds = ap answer (coefficient-inside xs cs ys f (omega arith))
    row_carried f (suc n) h ds =
        ap (λ c. undone_coefficient j' (entry ws (suc n)) c (entry ds n))
        (ap (entry (xs ++ cs ++ ys)) (let e : length xs + f + suc n ≡ length xs + (f + suc n) = omega arith in e) ∙ coefficient-inside xs cs ys (f + suc n) h)
        ∙ coefficient-carried (entry ws (suc n)) (entry cs (f + suc n)) (entry ds n)

    rows-carried : (f n : ℕ) → f + n ≤ length cs → undone_rows j' ws (xs ++ cs ++ ys) (length xs + f) n ≡ carried ρ (λ ds. ds) (undone_rows j ws cs f n)
    unfolding undone_rows
    rows-carried f zero h = refl
    rows-carried f (suc n) h =
        carried_then ρ (λ ds. ds) (λ ds. ds) (undone_rows j ws cs f n) _ _ (rows-carried f n (omega arith))
        (λ ds e. carried_then ρ (λ y. y) (λ ds. ds) (undone_row j ws cs f n ds) _ _ (row_carried f n (omega arith) ds) (λ d k. refl))

    undone-carried : (g : Span) → g.f ≤ g.l → g.l < length cs → undone j' (moved_span (length xs) g) ws (xs ++ cs ++ ys) ≡ carried ρ (λ ds. xs ++ ds ++ ys) (undone j g ws cs)
    unfolding undone
    undone-carried g o h =
        carried_then ρ (λ ds. ds) (λ ds. xs ++ ds ++ ys) (undone_rows j ws cs g.f (g.l - g.f)) _ _
        (ap (undone_rows j' ws (xs ++ cs ++ ys) (length xs + g.f)) (let e : length xs + g.l - (length xs + g.f) ≡ g.l - g.f = omega arith in e) ∙ rows-carried g.f (g.l - g.f) (omega arith))
        (λ ds e. ap answer (spliced-within xs cs ys ds g.f g.l (omega arith) h))

-- a step as its parts in order
recover_in_order : (j : ℕ) (κ : List Entry) (r : Combination) → recover_step j κ r ≡ (
    jumps j κ r.table then λ js. span j js then λ g. factors j js g then λ ws. rows_renewed j g ws r.table then λ t.
    (balanced j js r.coefficients then λ _. undone j g ws r.coefficients) then λ ds. answer (record { table = t; coefficients = ds }))
unfolding recover_step
recover_in_order j κ r = then_planned j κ r.table
    (λ p. rows_renewed j p.span p.factors r.table then λ t. undoing j p r.coefficients then λ ds. answer (record { table = t; coefficients = ds }))

-- ---- the step: a table in a larger one, with the coefficients xs for the rows above it and ys for the rows below it
module _ {ρ : ℕ → ℕ} {j j' : ℕ} {κ κ' : List Entry} (E : Around ρ j j' κ κ') (xs ys : List ℚ) (count : length xs ≡ length E.above) where
  abbrev p : ℕ
  p = length E.above

  abbrev q : ℕ
  q = length E.below

  abbrev among : List ℚ → List ℚ
  among ds = xs ++ ds ++ ys

  abbrev pub within : Combination → Combination
  within r = record { table = embedded E r.table; coefficients = among r.coefficients }

  pub recover_embedded : (r : Combination) → length r.coefficients ≡ length r.table → (n : ℕ) → Wide n r.table → recover_step j' κ' (within r) ≡ carried ρ within (recover_step j κ r)
  recover_embedded r own n wide =
      recover_in_order j' κ' (within r)
      ∙ carried_then ρ (padded p q) within (jumps j κ r.table) _ _ (jumps-carried E r.table)
      (λ js i. let size = jumps_length j κ r.table i in carried_then ρ (moved_span p) within (span j js) _ _ (span-carried ρ j j' E.place p q js)
      (λ g h. let s = span_inverts j js h in carried_then ρ (λ ws. ws) within (factors j js g) _ _ (factors-carried ρ j j' E.place p q js g)
      (λ ws m. carried_then ρ (embedded E) within (rows_renewed j g ws r.table) _ _ (renewed_carried E r.table n wide g ws s.ordered (omega (arith, s.below, size)))
      (λ t e. carried_then ρ among within (balanced j js r.coefficients then λ _. undone j g ws r.coefficients) _ _
      (carried_then ρ (λ u. u) among (balanced j js r.coefficients) _ _ (balance js size) (λ u k. undoing-carried g ws s.ordered (omega (arith, s.below, size, own))))
      (λ ds l. refl)))))
      ∙ ap (carried ρ within) (sym (recover_in_order j κ r))
    where
      undoing-carried : (g : Span) (ws : List ℚ) → g.f ≤ g.l → g.l < length r.coefficients
          → undone j' (moved_span p g) ws (among r.coefficients) ≡ carried ρ among (undone j g ws r.coefficients)
      undoing-carried g ws o h = ap (λ m. undone j' (moved_span m g) ws (among r.coefficients)) (sym count) ∙ undone-carried ρ j j' E.place xs r.coefficients ys ws g o h

      balance : (js : List ℚ) → length js ≡ length r.table → balanced j' (padded p q js) (among r.coefficients) ≡ carried ρ (λ u. u) (balanced j js r.coefficients)
      balance js size = ap (λ m. balanced j' (padded m q js) (among r.coefficients)) (sym count) ∙ balanced-carried ρ j j' E.place xs r.coefficients ys js q (size ∙ sym own)
