-- A reach call's outcome as the struct that C and Rust receive.
use Rattle.std.specs.Prelude.{ℤ, pos}
use Rattle.base_outcome.specs.Outcome.{Outcome, answer, refusal}
use Rattle.walzhik_structs.specs.declared.Reach.{Reach}

-- The position with code 0 and place 0, or position 0 with the code and place of a refusal.
unfoldable pub reached : Outcome ℤ → Reach
reached (answer x) = record { position = x; number = 0; place = 0 }
reached (refusal code place) = record { position = pos 0; number = code; place = place }
