-- Code 9 never comes: at every stage the jumps have the shape that it asks for.
use mathlib.Core.Path.{◌≡◌, refl, ◌∙◌, ap}
use mathlib.Core.Bool.{Bool, true, false, cond}
use mathlib.Core.List.{List, [], ◌∷◌}
use Prim.Native.Nat.{ℕ}
use native.Mathlib.Omega.{arith}
use lib.Dec.{T, ltb}
use Rattle.base_exact.specs.Rational.{ℚ, int, ◌+ᵠ◌, ◌*ᵠ◌}
use Rattle.base_exact.proofs.Decide.{true_not_false}
use Rattle.base_outcome.specs.Outcome.{refusal, refuse}
use Rattle.spec_spline.specs.Space.{Space, checked, degree}
use Rattle.spec_spline.specs.Conditions.{Entry, conditions}
use Rattle.spec_spline.specs.Table.{Row, Table, entry, table_cells}
use Rattle.spec_spline.specs.Step.{step}
use Rattle.spec_spline.specs.Build.{weights, space_weights, built}
use Rattle.base_outcome.proofs.Outcome.{then_breaks, Broken, first-refuses, second-refuses}
use Rattle.spec_spline.proofs.Legal.{Checked, checked_inverts, checked_codes}
use Rattle.theorems_weights.specs.Counted.{jump_tests, entry_tests}
use Rattle.theorems_acceptance.specs.Acceptance.{NineNeverComes, BuildingNeverGivesNine}
use Rattle.theorems_stages.proofs.Limits.{limits}
use Rattle.theorems_stages.proofs.Tests.{Good, Every, nothing, more, step-good}
use Rattle.theorems_stages.proofs.Refusals.{refused_code, no_nine}
use Rattle.theorems_stages.proofs.Reached.{Reached, alternate, weights_refused}
use Rattle.theorems_stages.proofs.Stages.{met, At}
use Rattle.theorems_stages.proofs.Signs.{span-spread}

-- nothing is asked of the counted fractions
abbrev Any : ℚ → Type 0
Any q = T true

jumps_any : (join : ℕ) (r : Row) (s : ℚ) (κ : List Entry) → Every (Good Any) (jump_tests join r s κ)
unfolding jump_tests
jumps_any join r s [] = nothing
jumps_any join r s (e ∷ es) = more tt (more tt (jumps_any join r (s +ᵠ entry r e.column *ᵠ int e.condition) es))

entries_any : (join : ℕ) (w v x y : ℚ) → Every (Good Any) (entry_tests join w v x y)
unfolding entry_tests
entries_any join w v x y = more tt (more tt (more tt nothing))

-- a step at a table that the build reaches
pub step_not_nine : {s : Space} {join k : ℕ} {t : Table} → At s join k → Reached s join k t → {place : ℕ} → step join (conditions s join k) t ≡ refusal 9 place → ⊥
step_not_nine {s} {join} {k} {t} A R e = no_nine Any join (conditions s join k) t
    (step-good (conditions s join k) t _ _ (alternate A R) (span-spread (degree s) (met s join k) join k) Any join (λ i l. jumps_any join _ _ _) (λ i a b. (tt, tt))
    (λ d c l. entries_any join _ _ _ _)) e

pub weights_not_nine : (s : Space) → Checked s → {place : ℕ} → weights s ≡ refusal 9 place → ⊥
weights_not_nine s c e = let R = weights_refused s c e in step_not_nine (record { limits = limits s c; join-below = R.join-below; order_below = R.order_below }) R.reached R.refuses

pub nine_never_comes : NineNeverComes
unfolding space_weights
nine_never_comes s place e = go (then_breaks (checked s) weights e)
  where
    go : Broken (checked s) weights 9 place → ⊥
    go (first-refuses p) = true_not_false refl (checked_codes s p)
    go (second-refuses s' p q) = let c = checked_inverts s p in weights_not_nine s c.1 (ap weights c.0 ∙ q)

pub building_never_gives_nine : BuildingNeverGivesNine
unfolding built
building_never_gives_nine s place num_length den_length e = go (ltb num_length table_cells) (ltb den_length table_cells) e
  where
    go : (a b : Bool) → cond a (refuse 1 0) (cond b (refuse 1 1) (space_weights s)) ≡ refusal 9 place → ⊥
    go true b z = omega (arith, refused_code 1 0 z)
    go false true z = omega (arith, refused_code 1 1 z)
    go false false z = nine_never_comes s place z
