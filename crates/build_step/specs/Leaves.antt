-- What a step, and all steps at a join, leave in the two lent buffers.
use Rattle.std.specs.Prelude.{Result, Ok, Err, List, ℤ}
use Rattle.base_outcome.specs.Outcome.{Outcome, answer, refusal}
use Rattle.spec_spline.specs.Table.{Table}
use Rattle.build_factors.specs.Machine.{refusal_of}
use Rattle.build_factors.specs.declared.StepRefusal.{StepRefusal}
use Rattle.build_cells.specs.Left.{Left}

-- Done, or the name of the refusal's code.
abbrev pub told_step : Outcome Table → Result (Unit {0}) StepRefusal
told_step (answer t) = Ok tt
told_step (refusal code place) = Err (refusal_of code)

-- What a step leaves, and what all steps at a join leave.
abbrev pub Leaves : Outcome Table → Result (Unit {0}) StepRefusal → List ℤ → List ℤ → List ℤ → List ℤ → Type 0
Leaves o r num den num' den' = Left (λ t. t) told_step o r num den num' den'
