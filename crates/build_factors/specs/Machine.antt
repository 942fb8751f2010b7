-- The machine's form of the factors and refusals that the definitions of crate spec_spline give.
use Rattle.std.specs.Prelude.{cond, ◌≡◌, ℕ, eqb, Result, Ok, Err}
use Rattle.base_exact.specs.Rational.{ℚ}
use Rattle.base_fraction.specs.Machine.{fraction}
use Rattle.base_outcome.specs.Codes as codes
use Rattle.base_outcome.specs.Outcome.{Outcome, answer, refusal}
use Rattle.spec_spline.specs.Step.{Planned}
use Rattle.base_fraction.specs.Fractions.{fractions}
use Rattle.build_factors.specs.declared.StepRefusal.{StepRefusal}
use Rattle.build_factors.specs.declared.StepRefusal.TheVariants as refusals
use Rattle.build_factors.specs.declared.NextFactor.{NextFactor}
use Rattle.build_factors.specs.declared.RowFactors.{RowFactors}

-- Code 8 or 9.
unfoldable pub refusal_of : ℕ → StepRefusal
refusal_of code = cond (eqb code codes.tooLarge) refusals.TooLarge refusals.Shape

-- The number that a step's refusal stands for.
abbrev pub code_of : StepRefusal → ℕ
code_of refusals.TooLarge = codes.tooLarge
code_of refusals.Shape = codes.jumps

-- The next factor with the partial sum that it comes from, or the name of the refusal.
unfoldable pub next_factor : ℚ → Outcome ℚ → Result NextFactor StepRefusal
next_factor s (answer w) = Ok (record { sum = fraction s; w = fraction w })
next_factor s (refusal code place) = Err (refusal_of code)

-- The machine's form of the rows and factors, or the name of the refusal.
abbrev pub Plans : Outcome Planned → Result RowFactors StepRefusal → Type 0
Plans (answer p) r = r ≡ Ok (record { f = p.span.f; l = p.span.l; of = fractions p.factors })
Plans (refusal code place) r = r ≡ Err (refusal_of code)
