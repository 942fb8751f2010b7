-- Code 9 never comes from recovering coefficients either, whatever the call is given. Building and curve calls are in crate
-- theorems_acceptance, specs/Acceptance; indices, reach and pieces beside their own statements.
use Rattle.std.specs.Prelude.{◌≡◌, List, ℕ, ℤ}
use Rattle.base_outcome.specs.Codes as codes
use Rattle.base_outcome.specs.Outcome.{refusal}
use Rattle.spec_spline.specs.Space.{Space}
use Rattle.spec_calls.specs.RecoveryCall.{recovery_end}

abbrev pub RecoveryNeverGivesNine : Type 0
RecoveryNeverGivesNine = (s : Space) (ordinates num den coef_num coef_den : List ℤ) (place : ℕ)
    → (recovery_end s ordinates num den coef_num coef_den).answers ≡ refusal codes.jumps place → ⊥
