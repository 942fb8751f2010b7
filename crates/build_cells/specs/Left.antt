-- What a computation in place leaves in the two lent buffers, for every answer of the machine: of the rows of a step, of a step, of
-- all steps at a join and of all joins, with and without a number for each row.
use Rattle.std.specs.Prelude.{Option, Some, None, List, ◌≡◌, ℤ}
use Rattle.base_outcome.specs.Outcome.{Outcome, answer, refusal}
use Rattle.spec_spline.specs.Table.{Table, numerators, denominators}
use Rattle.build_cells.specs.Held.{Kept}

-- The machine answers as `told` says of the outcome; the table of what is answered is in the buffers, or the computation is refused
-- and they hold whatever they hold.
abbrev pub Left : {A R : Type 0} → (A → Table) → (Outcome A → R) → Outcome A → R → List ℤ → List ℤ → List ℤ → List ℤ → Type 0
Left table told (answer a) r num den num' den' =
    (r ≡ told (answer a)) × (num' ≡ numerators (table a) num) × (den' ≡ denominators (table a) den)
Left table told (refusal code place) r num den num' den' = (r ≡ told (refusal code place)) × Kept num num' × Kept den den'

-- Whether it was done.
abbrev pub told_done : Outcome Table → Option (Unit {0})
told_done (answer t) = Some tt
told_done (refusal code place) = None

-- A computation in place that only code 8 can refuse, where r tells whether it was done.
abbrev pub LeavesIf : Outcome Table → Option (Unit {0}) → List ℤ → List ℤ → List ℤ → List ℤ → Type 0
LeavesIf o r num den num' den' = Left (λ t. t) told_done o r num den num' den'
