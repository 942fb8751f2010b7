-- The machine's next factor and the factor of the definitions: how a refusal and an answer look, and what the machine's answer tells.
use mathlib.Core.Path.{◌≡◌, refl, sym, ◌∙◌, ap, subst}
use mathlib.Core.List.{List, [], ◌∷◌, ◌++◌}
use Prim.Native.Nat.{ℕ, ◌+◌, ◌-◌}
use native.Mathlib.Omega.{arith}
use lib.IntN.{pos}
use Rattle.std.specs.Prelude.{Ok, Err}
use Rattle.base_exact.specs.Rational.{ℚ, int}
use Rattle.base_fraction.specs.Machine.{fraction}
use Rattle.base_fraction.specs.declared.Fraction.{Fraction}
use Rattle.base_outcome.specs.Outcome.{Outcome, answer, refusal, ◌then◌, collect}
use Rattle.spec_spline.specs.Step.{factor, factors, Planned, plan_over}
use Rattle.base_fraction.specs.Fractions.{fractions}
use Rattle.base_fraction.specs.declared.arrays.Fractions.{Fractions}
use Rattle.base_fraction.proofs.Fractions.{fractions-zero}
use Rattle.build_factors.specs.Machine.{next_factor, refusal_of, Plans}
use Rattle.build_factors.specs.declared.StepRefusal.{StepRefusal}
use Rattle.build_factors.specs.declared.NextFactor.{NextFactor}

-- ---- to the machine's answer

pub next_refused : (s : ℚ) (o : Outcome ℚ) {code place : ℕ} (reason : StepRefusal) → o ≡ refusal code place → refusal_of code ≡ reason
    → Err reason ≡ next_factor s o
unfolding next_factor
next_refused s o reason e named = ap Err (sym named) ∙ sym (ap (next_factor s) e)

pub next_answered : (s w : ℚ) (o : Outcome ℚ) (f g : Fraction) → o ≡ answer w → f ≡ fraction s → g ≡ fraction w
    → Ok (record { sum = f; w = g }) ≡ next_factor s o
unfolding next_factor
next_answered s w o f g e p q = ap Ok whole ∙ sym (ap (next_factor s) e)
  where
    whole : ◌≡◌ {A = NextFactor} (record { sum = f; w = g }) (record { sum = fraction s; w = fraction w })
    whole = λ i. record { sum = p i; w = q i }

-- ---- from the machine's answer

-- The factor is answered, and the record has it and its partial sum.
pub record Next (s : ℚ) (o : Outcome ℚ) (r : NextFactor) : Type 0 where
  pub factor : ℚ
  pub answers : o ≡ answer factor
  pub sum_is : r.sum ≡ fraction s
  pub w_is : r.w ≡ fraction factor

pub next_is : (s : ℚ) (o : Outcome ℚ) (r : NextFactor) → Ok r ≡ next_factor s o → Next s o r
unfolding next_factor
next_is s (answer w) r e =
    let h : ◌≡◌ {A = NextFactor} r (record { sum = fraction s; w = fraction w }) = cc in
    record { factor = w; answers = refl; sum_is = ap (λ x. x.sum) h; w_is = ap (λ x. x.w) h }
next_is s (refusal code place) r e = absurd (let z : ◌≡◌ {A = ℕ} 0 1 = cc in omega arith)

-- A refusal: the outcome is refused, with a number of that name.
pub record Ended {A : Type 0} (o : Outcome A) (reason : StepRefusal) : Type 0 where
  pub code : ℕ
  pub place : ℕ
  pub refuses : o ≡ refusal code place
  pub named : refusal_of code ≡ reason

pub next-ended : (s : ℚ) (o : Outcome ℚ) (reason : StepRefusal) → Err reason ≡ next_factor s o → Ended o reason
unfolding next_factor
next-ended s (answer w) reason e = absurd (let z : ◌≡◌ {A = ℕ} 0 1 = cc in omega arith)
next-ended s (refusal code place) reason e = record { code = code; place = place; refuses = refl; named = cc }

-- ---- the factors of a span, from those of the rows between its ends
module _ (j : ℕ) (qs : List ℚ) (f l : ℕ) where
  abbrev between-factors : Outcome (List ℚ)
  between-factors = collect (l - f - 1) (λ d. factor j qs f (f + 1 + d))

  abbrev with-ends : List ℚ → List ℚ
  with-ends us = int (pos 1) ∷ (us ++ (int (pos 0) ∷ []))

  -- the plan, from the factors between
  abbrev plan_of : Outcome (List ℚ) → Outcome Planned
  plan_of o = (o then λ us. answer (with-ends us)) then λ ws. answer (record { jumps = qs; span = record { f = f; l = l }; factors = ws })

  pub factors_refused : {code place : ℕ} {reason : StepRefusal} → between-factors ≡ refusal code place → refusal_of code ≡ reason
      → Plans (plan_over j qs (record { f = f; l = l })) (Err reason)
  unfolding factors plan_over
  factors_refused {reason = reason} e named = subst (λ (o : Outcome (List ℚ)). Plans (plan_of o) (Err reason)) (sym e) (ap Err (sym named))

  pub factors_answered : {done : List ℚ} {ws : Fractions} → between-factors ≡ answer done → ws ≡ fractions (int (pos 1) ∷ done)
      → Plans (plan_over j qs (record { f = f; l = l })) (Ok (record { f = f; l = l; of = ws }))
  unfolding factors plan_over
  factors_answered {done} {ws} e is =
      subst (λ (o : Outcome (List ℚ)). Plans (plan_of o) (Ok (record { f = f; l = l; of = ws }))) (sym e)
      (ap (λ (of : Fractions). Ok (record { f = f; l = l; of = of })) (is ∙ fractions-zero (int (pos 1) ∷ done)))
