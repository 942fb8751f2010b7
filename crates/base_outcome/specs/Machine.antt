-- The machine's form of an outcome and of what a search finds.
use Rattle.std.proofs.Math.Option as math
use Rattle.std.specs.Prelude.{ℕ, Option, Some, None, Result, Ok, Err}
use Rattle.base_outcome.specs.Outcome.{Outcome, answer, refusal}
use Rattle.base_outcome.specs.declared.Refusal.{Refusal}

-- The refusal with this code at this place.
abbrev pub refused : ℕ → ℕ → Refusal
refused code place = record { code = code; place = place }

-- The specification's words for the cases of what a call answers.
abbrev pub reply : {A : Type 0} → Result A Refusal → Outcome A
reply (Ok a) = answer a
reply (Err r) = refusal r.code r.place

-- What a check tells of an outcome: that it answers, but not what; or its refusal.
unfoldable pub passed : {A : Type 0} → Outcome A → Outcome (Unit {0})
passed (answer a) = answer tt
passed (refusal code place) = refusal code place

-- What a search found.
unfoldable pub found : math.Option ℕ → Option ℕ
found math.none = None
found (math.some i) = Some i
