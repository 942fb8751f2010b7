-- An outcome as the struct that C and Rust receive.
use Rattle.std.specs.Prelude.{ℕ}
use Rattle.base_outcome.specs.Outcome.{Outcome, answer, refusal}
use Rattle.walzhik_reply.specs.declared.Reply.{Reply}

-- The count with code 0 and place 0, or count 0 with the code and place of a refusal.
unfoldable pub replied : Outcome ℕ → Reply
replied (answer n) = record { count = n; number = 0; place = 0 }
replied (refusal code place) = record { count = 0; number = code; place = place }
