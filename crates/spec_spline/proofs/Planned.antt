-- The two halves of a step: what is done after the first half is done after jumps, span and factors one after the other.
use mathlib.Core.Path.{◌≡◌, refl}
use mathlib.Core.List.{List, ◌++◌}
use Prim.Native.Nat.{ℕ, suc}
use lib.ListN.{take, drop}
use Rattle.base_exact.specs.Rational.{ℚ}
use Rattle.base_outcome.specs.Outcome.{Outcome, answer, refusal, ◌then◌}
use Rattle.spec_spline.specs.Conditions.{Entry}
use Rattle.spec_spline.specs.Table.{Table}
use Rattle.spec_spline.specs.Step.{Span, jumps, span, factors, new_rows, Planned, plan_over, plan_from, planned, rows_renewed, step}

-- the rest of a step whose jumps span g
abbrev pub mixed : ℕ → Table → List ℚ → Span → Outcome Table
mixed j t js g = factors j js g then λ ws. new_rows j g ws t then λ rs. answer (take g.f t ++ (rs ++ drop (suc g.l) t))

module _ (j : ℕ) (κ : List Entry) (t : Table) where
  -- what is done after the first half, for any rest
  pub then_planned : {B : Type 0} (rest : Planned → Outcome B)
      → (planned j κ t then rest) ≡ (jumps j κ t then λ js. span j js then λ g. factors j js g then λ ws. rest (record { jumps = js; span = g; factors = ws }))
  unfolding planned plan_from plan_over
  then_planned {B} rest = with_jumps (jumps j κ t)
    where
      with_factors : (js : List ℚ) (g : Span) (o : Outcome (List ℚ)) → ((o then λ ws. answer (record { jumps = js; span = g; factors = ws })) then rest) ≡
          (o then λ ws. rest (record { jumps = js; span = g; factors = ws }))
      with_factors js g (answer ws) = refl
      with_factors js g (refusal code place) = refl

      with_span : (js : List ℚ) (o : Outcome Span)
          → ((o then λ g. factors j js g then λ ws. answer (record { jumps = js; span = g; factors = ws })) then rest) ≡
          (o then λ g. factors j js g then λ ws. rest (record { jumps = js; span = g; factors = ws }))
      with_span js (answer g) = with_factors js g (factors j js g)
      with_span js (refusal code place) = refl

      with_jumps : (o : Outcome (List ℚ))
          → ((o then λ js. span j js then λ g. factors j js g then λ ws. answer (record { jumps = js; span = g; factors = ws })) then rest)
          ≡ (o then λ js. span j js then λ g. factors j js g then λ ws. rest (record { jumps = js; span = g; factors = ws }))
      with_jumps (answer js) = with_span js (span j js)
      with_jumps (refusal code place) = refl

  -- a step as its four parts in order
  pub step_in_order : step j κ t ≡ (jumps j κ t then λ js. span j js then λ g. mixed j t js g)
  unfolding step rows_renewed
  step_in_order = then_planned (λ p. rows_renewed j p.span p.factors t)
