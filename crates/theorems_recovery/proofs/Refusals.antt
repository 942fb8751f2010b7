-- The refusals of a step with its undoing: the build's own 8 and 9 come first and as in the build, and what comes after them is 19 or
-- 20, at the join.
use mathlib.Core.Path.{◌≡◌, refl, sym, ◌∙◌, ap}
use mathlib.Core.Logic.{◌⊎◌, inl, inr}
use mathlib.Core.Bool.{true}
use mathlib.Core.List.{List, map}
use Prim.Native.Nat.{ℕ, ◌-◌}
use lib.IntN.{ℤ}
use Rattle.base_exact.specs.Rational.{ℚ, int}
use Rattle.base_exact.proofs.Decide.{clash}
use Rattle.base_outcome.specs.Outcome.{Outcome, answer, refusal, capped, ◌then◌, repeat}
use Rattle.spec_spline.specs.Space.{Space, segments, column_count, condition_count}
use Rattle.spec_spline.specs.Conditions.{Entry, conditions}
use Rattle.spec_spline.specs.Table.{Table, identity}
use Rattle.spec_spline.specs.Step.{Span, step}
use Rattle.spec_spline.specs.Build.{order_steps, join_steps, weights, clears}
use Rattle.base_outcome.proofs.Outcome.{RefusedAs, answer_refused, then_refused, repeat_refused, repeat_more, repeat_stops, repeat-keeps}
use Rattle.base_outcome.proofs.Outcome.{Halted, repeat-refuses}
use Rattle.spec_spline.proofs.Refusals.{EightOrNine, step-refuses}
use Rattle.spec_calls.specs.Recovery.{Combination, balanced, undone, recover_step, recover_orders, recover_joins, recovered}
use Rattle.spec_calls.specs.RecoveryCall.{clears_all}
use Rattle.theorems_recovery.specs.Reproduction.{EightAndNineAreTheBuilds}
use Rattle.theorems_recovery.proofs.Steps.{undoing, RefusedIn, in_step, in_undoing, refused_in, parts_of}
use Rattle.theorems_recovery.proofs.Answers.{balanced_refused_as, undone_refused_as}

-- ---- what comes after the build's own work

-- Code 19 or 20, with the join as its place.
abbrev pub Here : ℕ → ℕ → ℕ → Type 0
Here j code place = ((code ≡ 19) ⊎ (code ≡ 20)) × (place ≡ capped j)

pub balanced-here : (j : ℕ) (js cs : List ℚ) → RefusedAs (Here j) (balanced j js cs)
balanced-here j js cs = balanced_refused_as (Here j) j (inr refl, refl) js cs (inl refl, refl)

pub undone-here : (j : ℕ) (g : Span) (ws cs : List ℚ) → RefusedAs (Here j) (undone j g ws cs)
undone-here j g ws cs = undone_refused_as (Here j) j (inr refl, refl) g ws cs

-- what is left of a step once the build has done its own
undoing-here : (j : ℕ) (κ : List Entry) (r : Combination) (t : Table) (js : List ℚ) (g : Span) (ws : List ℚ) → RefusedAs (Here j) (undoing j κ r t js g ws)
undoing-here j κ r t js g ws =
    then_refused (Here j) (balanced j js r.coefficients) (λ _. undone j g ws r.coefficients then with_coefficients) (balanced-here j js r.coefficients)
    (λ _ _. then_refused (Here j) (undone j g ws r.coefficients) with_coefficients (undone-here j g ws r.coefficients)
    (λ ds _. answer_refused (Here j) (record { table = t; coefficients = ds })))
  where
    with_coefficients : List ℚ → Outcome Combination
    with_coefficients ds = answer (record { table = t; coefficients = ds })

-- ---- all refusals of a step

-- A number after which all is cleared, with the join as its place.
abbrev pub Stops : ℕ → ℕ → ℕ → Type 0
Stops j code place = (clears_all code ≡ true) × (place ≡ capped j)

pub recover_stops : (j : ℕ) (κ : List Entry) (r : Combination) → RefusedAs (Stops j) (recover_step j κ r)
recover_stops j κ r code place e = go (refused_in j κ r e)
  where
    build's : EightOrNine j code place → Stops j code place
    build's (inl z, p) = (ap clears_all z, p)
    build's (inr z, p) = (ap clears_all z, p)

    undoing's : Here j code place → Stops j code place
    undoing's (inl z, p) = (ap clears_all z, p)
    undoing's (inr z, p) = (ap clears_all z, p)

    go : RefusedIn j κ r code place → Stops j code place
    go (in_step q) = build's (step-refuses j κ r.table code place q)
    go (in_undoing {t} p q) = undoing's (undoing-here j κ r t p.js p.g p.ws code place q)

pub orders_stop : (s : Space) (j n : ℕ) (r : Combination) → RefusedAs (Stops j) (recover_orders s j n r)
unfolding recover_orders
orders_stop s j n r = repeat_refused (Stops j) n (λ k. recover_step j (conditions s j k)) r (λ k u h e. recover_stops j (conditions s j k) u)

-- after every refusal of the steps all is cleared
pub recovered-clears : (s : Space) (ordinates : List ℤ) → RefusedAs (λ code place. clears_all code ≡ true) (recovered s ordinates)
unfolding recovered recover_joins
recovered-clears s ordinates =
    repeat_refused (λ code place. clears_all code ≡ true) (segments s - 1) (λ j. recover_orders s j (condition_count s j))
    (record { table = identity (column_count s); coefficients = map int ordinates })
    (λ j r h e code place f. (orders_stop s j (condition_count s j) r code place f).0)

-- ---- the build's own codes

-- neither 19 nor 20
cleared_not : {code : ℕ} → clears code ≡ true → (code ≡ 19) ⊎ (code ≡ 20) → ⊥
cleared_not told (inl z) = let w : clears 19 ≡ true = ap clears (sym z) ∙ told in clash cc
cleared_not told (inr z) = let w : clears 20 ≡ true = ap clears (sym z) ∙ told in clash cc

step-first : (j : ℕ) (κ : List Entry) (r : Combination) {code place : ℕ} → clears code ≡ true → recover_step j κ r ≡ refusal code place
    → step j κ r.table ≡ refusal code place
step-first j κ r {code} {place} told e = go (refused_in j κ r e)
  where
    go : RefusedIn j κ r code place → step j κ r.table ≡ refusal code place
    go (in_step q) = q
    go (in_undoing {t} p q) = absurd (cleared_not told (undoing-here j κ r t p.js p.g p.ws code place q).0)

-- ---- the steps one after the other

-- the tables are those of the build
orders_table : (s : Space) (j n : ℕ) (r : Combination) {r' : Combination} → recover_orders s j n r ≡ answer r' → order_steps s j n r.table ≡ answer r'.table
unfolding recover_orders order_steps repeat
orders_table s j n r {r'} e =
    repeat-keeps (λ k b. repeat k (λ k. step j (conditions s j k)) r.table ≡ answer b.table) n (λ k. recover_step j (conditions s j k)) r refl
    (λ k b c m Q q. repeat_more k (λ k. step j (conditions s j k)) r.table Q ∙ (parts_of j (conditions s j k) b c q).has_step) r' e

pub joins-table : (s : Space) (ordinates : List ℤ) (n : ℕ) {r : Combination} → recover_joins s ordinates n ≡ answer r → join_steps s n ≡ answer r.table
unfolding recover_joins join_steps repeat
joins-table s ordinates n {r} e =
    repeat-keeps (λ j b. repeat j (λ j. order_steps s j (condition_count s j)) (identity (column_count s)) ≡ answer b.table) n
    (λ j. recover_orders s j (condition_count s j)) (record { table = identity (column_count s); coefficients = map int ordinates }) refl
    (λ j b c m Q q. repeat_more j (λ j. order_steps s j (condition_count s j)) (identity (column_count s)) Q ∙ orders_table s j (condition_count s j) b q) r e

-- and so are its refusals
orders_first : (s : Space) (j n : ℕ) (r : Combination) {code place : ℕ} → clears code ≡ true → recover_orders s j n r ≡ refusal code place
    → order_steps s j n r.table ≡ refusal code place
unfolding recover_orders order_steps
orders_first s j n r {code} {place} told e = go (repeat-refuses n (λ k. recover_step j (conditions s j k)) r e)
  where
    go : Halted n (λ k. recover_step j (conditions s j k)) r code place → repeat n (λ k. step j (conditions s j k)) r.table ≡ refusal code place
    go H =
        repeat_stops n H.index (λ k. step j (conditions s j k)) r.table H.below (orders_table s j H.index r H.before)
        (step-first j (conditions s j H.index) H.reached told H.refuses)

pub eight_and_nine_are_the_builds : EightAndNineAreTheBuilds
unfolding recovered recover_joins weights join_steps
eight_and_nine_are_the_builds s ordinates code place told e =
    go (repeat-refuses (segments s - 1) (λ j. recover_orders s j (condition_count s j))
    (record { table = identity (column_count s); coefficients = map int ordinates }) e)
  where
    go : Halted (segments s - 1) (λ j. recover_orders s j (condition_count s j))
        (record { table = identity (column_count s); coefficients = map int ordinates }) code place
        → weights s ≡ refusal code place
    go H =
        repeat_stops (segments s - 1) H.index (λ j. order_steps s j (condition_count s j)) (identity (column_count s)) H.below
        (joins-table s ordinates H.index H.before) (orders_first s H.index (condition_count s H.index) H.reached told H.refuses)
