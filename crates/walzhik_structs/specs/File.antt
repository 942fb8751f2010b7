-- What the call for laboratories' files ends with, as the struct that C and Rust receive.
use Rattle.base_outcome.specs.Outcome.{Outcome, answer, refusal}
use Rattle.spec_tucson.specs.CleanCall.{Counts}
use Rattle.walzhik_structs.specs.declared.Cleaned.{Cleaned}

-- The three counts with code 0 and place 0, or three zeros with the code and place of a refusal.
unfoldable pub cleaned : Outcome Counts → Cleaned
cleaned (answer c) = record { bytes = c.bytes; lines = c.lines; notes = c.notes; number = 0; place = 0 }
cleaned (refusal code place) = record { bytes = 0; lines = 0; notes = 0; number = code; place = place }
