-- The two halves of a step: together they are the step, and what the first half tells of the jumps, their span and the factors.
use mathlib.Core.Path.{◌≡◌, refl, sym, ap, subst}
use mathlib.Core.List.{List}
use Prim.Native.Nat.{ℕ}
use native.Mathlib.Omega.{arith}
use lib.ListN.{length}
use Rattle.std.specs.Prelude.{Result, Ok, Err}
use Rattle.base_exact.specs.Rational.{ℚ}
use Rattle.base_fraction.specs.Fractions.{fractions}
use Rattle.base_outcome.specs.Outcome.{Outcome, answer, refusal, ◌then◌}
use Rattle.base_outcome.proofs.Outcome.{answer_unique, then_answers, then_refuses, then_inverts}
use Rattle.spec_spline.specs.Conditions.{Entry}
use Rattle.spec_spline.specs.Table.{Table}
use Rattle.spec_spline.specs.Step.{Span, jumps, span, factors, step, Planned, plan_over, plan_from, planned, rows_renewed}
use Rattle.spec_spline.proofs.Answers.{jumps_length, jumps_fit, Spans, span_inverts}
use Rattle.spec_spline.proofs.Refusals.{jumps-refuse_8, span-refuses_9}
use Rattle.build_counted.proofs.Counted.{Refused}
use Rattle.build_factors.specs.Jumps.{AllFit}
use Rattle.build_factors.specs.Machine.{Plans}
use Rattle.build_factors.specs.declared.RowFactors.{RowFactors}
use Rattle.build_factors.specs.declared.StepRefusal.{StepRefusal}
use Rattle.build_factors.specs.declared.StepRefusal.TheVariants as refusals
use Rattle.build_factors.proofs.Quotients.{Ended}
use Rattle.build_factors.proofs.Answers.{eight_named, nine_named}
use Rattle.build_rows.specs.Rows.{UnitFactors}
use Rattle.build_rows.proofs.Mixing.{unit_factors}

module _ (j : ℕ) (κ : List Entry) (t : Table) where
  -- a step is its two halves
  pub step-planned : step j κ t ≡ (planned j κ t then λ p. rows_renewed j p.span p.factors t)
  unfolding step
  step-planned = refl

  -- ---- what the first half tells
  pub record Works (p : Planned) : Type 0 where
    pub has_jumps : jumps j κ t ≡ answer p.jumps
    pub has_span : span j p.jumps ≡ answer p.span
    pub has_factors : factors j p.jumps p.span ≡ answer p.factors
    pub spans : Spans p.jumps p.span.f p.span.l
    pub count : length p.jumps ≡ length t
    pub fit : AllFit p.jumps
    pub unit : UnitFactors (fractions p.factors)

  pub plan_works : {p : Planned} → planned j κ t ≡ answer p → Works p
  unfolding planned plan_from plan_over
  plan_works {p} e =
      let a = then_inverts (jumps j κ t) (λ js. span j js then λ g. factors j js g then λ ws. answer (record { jumps = js; span = g; factors = ws })) e in
      let b = then_inverts (span j a.middle) (λ g. factors j a.middle g then λ ws. answer (record { jumps = a.middle; span = g; factors = ws })) a.after in
      let d = then_inverts (factors j a.middle b.middle) (λ ws. answer (record { jumps = a.middle; span = b.middle; factors = ws })) b.after in
      go a.middle b.middle d.middle a.before b.before d.before (answer_unique refl d.after)
    where
      go : (js : List ℚ) (g : Span) (ws : List ℚ) → jumps j κ t ≡ answer js → span j js ≡ answer g → factors j js g ≡ answer ws → record { jumps = js; span = g; factors = ws } ≡ p → Works p
      go js g ws a b d z = subst Works z (record {
        has_jumps = a;
        has_span = b;
        has_factors = d;
        spans = span_inverts j js b;
        count = jumps_length j κ t a;
        fit = jumps_fit j κ t a;
        unit = unit_factors j js g ws d refl;
      })

  -- ---- the machine's plan

  -- jumps that are too large
  pub unplanned : Refused (jumps j κ t) → Ended (planned j κ t) refusals.TooLarge
  unfolding planned
  unplanned e = record {
    code = e.code;
    place = e.place;
    refuses = then_refuses (plan_from j) e.refuses;
    named = eight_named (jumps-refuse_8 j κ t e.code e.place e.refuses).0;
  }

  -- the rows and factors
  pub record Ready (r : RowFactors) : Type 0 where
    pub of : Planned
    pub answers : planned j κ t ≡ answer of
    pub span_is : record { f = r.f; l = r.l } ≡ of.span
    pub factors_are : r.of ≡ fractions of.factors
    pub works : Works of

  module _ {js : List ℚ} (has_jumps : jumps j κ t ≡ answer js) where
    from_jumps : planned j κ t ≡ plan_from j js
    unfolding planned
    from_jumps = then_answers (plan_from j) has_jumps

    pub plan_ready : (r : RowFactors) → Plans (plan_from j js) (Ok r) → Ready r
    plan_ready r plans = go (plan_from j js) from_jumps plans
      where
        go : (o : Outcome Planned) → planned j κ t ≡ o → Plans o (Ok r) → Ready r
        go (answer p) e z =
            let h : ◌≡◌ {A = RowFactors} r (record { f = p.span.f; l = p.span.l; of = fractions p.factors }) = cc in
            record {
              of = p;
              answers = e;
              span_is = ap (λ (x : RowFactors). record { f = x.f; l = x.l }) h;
              factors_are = ap (λ (x : RowFactors). x.of) h;
              works = plan_works e;
            }
        go (refusal code place) e z = absurd (let x : ◌≡◌ {A = ℕ} 0 1 = cc in omega arith)

    -- a refusal
    pub plan_ended : (reason : StepRefusal) → Plans (plan_from j js) (Err reason) → Ended (planned j κ t) reason
    plan_ended reason plans = go (plan_from j js) from_jumps plans
      where
        go : (o : Outcome Planned) → planned j κ t ≡ o → Plans o (Err reason) → Ended (planned j κ t) reason
        go (answer p) e z = absurd (let x : ◌≡◌ {A = ℕ} 0 1 = cc in omega arith)
        go (refusal code place) e z = record { code = code; place = place; refuses = e; named = cc }

-- from the span of the jumps: none, or rows with their factors
module _ (j : ℕ) (js : List ℚ) where
  pub plans_shapeless : Refused (span j js) → Plans (plan_from j js) (Err refusals.Shape)
  unfolding plan_from
  plans_shapeless e =
      subst (λ (o : Outcome Planned). Plans o (Err refusals.Shape)) (sym (then_refuses (plan_over j js) e.refuses))
      (ap Err (sym (nine_named (span-refuses_9 j js e.code e.place e.refuses).0)))

  pub plans_over : {g : Span} (r : Result RowFactors StepRefusal) → span j js ≡ answer g → Plans (plan_over j js g) r
      → Plans (plan_from j js) r
  unfolding plan_from
  plans_over r e h = subst (λ (o : Outcome Planned). Plans o r) (sym (then_answers (plan_over j js) e)) h
