-- The machine's form of the zero test that the definitions of crate theorems_recovery give.
use Rattle.std.specs.Prelude.{Result, Ok, Err, ℕ}
use Rattle.base_outcome.specs.Outcome.{Outcome, answer, refusal}

-- Zero, or the refusal's code.
unfoldable pub balance_of : Outcome (Unit {0}) → Result (Unit {0}) ℕ
balance_of (answer u) = Ok tt
balance_of (refusal code place) = Err code
