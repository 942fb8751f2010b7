-- What the machine's answer tells of the definitions, for the step that asked: the span.
use mathlib.Core.Path.{◌≡◌, refl, ap}
use Prim.Native.Nat.{ℕ}
use native.Mathlib.Omega.{arith}
use Rattle.base_outcome.specs.Outcome.{Outcome, answer, refusal}
use Rattle.spec_spline.specs.Step.{Span}
use Rattle.build_span.specs.Machine.{jump_span}
use Rattle.build_span.specs.declared.JumpSpan.{JumpSpan}
use Rattle.std.specs.Prelude.{Some, None}
use Rattle.build_counted.proofs.Counted.{Refused}

pub span-rows : (o : Outcome Span) (g : JumpSpan) → jump_span o ≡ Some g → o ≡ answer (record { f = g.f; l = g.l })
unfolding jump_span
span-rows (answer s) g e = ap answer (λ i. record { f = first i; l = last i })
  where
    both : ◌≡◌ {A = JumpSpan} (record { f = s.f; l = s.l }) g
    both = cc

    first : s.f ≡ g.f
    first = ap (λ x. x.f) both

    last : s.l ≡ g.l
    last = ap (λ x. x.l) both
span-rows (refusal code place) g e = absurd (let z : ◌≡◌ {A = ℕ} 0 1 = cc in omega arith)

pub span_refused : (o : Outcome Span) → jump_span o ≡ None → Refused o
unfolding jump_span
span_refused (answer g) e = absurd (let z : ◌≡◌ {A = ℕ} 0 1 = cc in omega arith)
span_refused (refusal code place) e = record { code = code; place = place; refuses = refl }
