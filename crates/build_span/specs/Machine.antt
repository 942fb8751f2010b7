-- The machine's form of the span that the definitions of crate spec_spline give.
use Rattle.std.specs.Prelude.{Option, Some, None}
use Rattle.base_outcome.specs.Outcome.{Outcome, answer, refusal}
use Rattle.spec_spline.specs.Step.{Span}
use Rattle.build_span.specs.declared.JumpSpan.{JumpSpan}

-- The rows that the jumps span.
unfoldable pub jump_span : Outcome Span → Option JumpSpan
jump_span (answer g) = Some (record { f = g.f; l = g.l })
jump_span (refusal code place) = None
