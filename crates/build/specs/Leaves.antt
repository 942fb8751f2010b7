-- What the build of a beam answers and leaves in the two lent buffers.
use Rattle.base_outcome.specs.declared.Refusal.{Refusal}
use Rattle.std.specs.Prelude.{List, ◌≡◌, ℕ, ℤ, Result}
use Rattle.base_outcome.specs.Outcome.{Outcome, with_answer}
use Rattle.base_outcome.specs.Machine.{reply}
use Rattle.spec_spline.specs.Space.{Space, row_count}
use Rattle.spec_spline.specs.Table.{Table}
use Rattle.spec_spline.specs.Build.{last_part, numerators_after, denominators_after}

-- What a call answers and leaves, by the outcome of the whole beam, of which the buffers hold the last part.
pub record BeamEnds (s : Space) (o : Outcome Table) (r : Result ℕ Refusal) (num den num' den' : List ℤ) : Type 0 where
  pub answers : reply r ≡ with_answer (λ _. row_count s) o
  pub numerators_are : num' ≡ numerators_after (with_answer (last_part s) o) num
  pub denominators_are : den' ≡ denominators_after (with_answer (last_part s) o) den
