-- The machine's form of the jumps that the definitions of crate spec_spline give.
use Rattle.std.specs.Prelude.{List, Option, Some, None}
use Rattle.base_exact.specs.Rational.{ℚ}
use Rattle.base_fraction.specs.Fractions.{fractions}
use Rattle.base_outcome.specs.Outcome.{Outcome, answer, refusal}
use Rattle.base_fraction.specs.declared.arrays.Fractions.{Fractions}

-- The jumps of a step.
unfoldable pub row_jumps : Outcome (List ℚ) → Option Fractions
row_jumps (answer qs) = Some (fractions qs)
row_jumps (refusal code place) = None
