-- A step that answers, taken apart: its jumps, span, factors and new rows, and where each row of its table comes from. The table has
-- one row less than before.
use mathlib.Core.Path.{◌≡◌, refl, sym, ◌∙◌, ap, ap₂}
use mathlib.Core.Logic.{◌⊎◌, inl, inr}
use mathlib.Core.List.{List, [], ◌++◌}
use Prim.Native.Nat.{ℕ, suc, ◌+◌, ◌-◌, ◌<◌, ◌≤◌}
use native.Mathlib.Omega.{arith}
use lib.ListN.{length, take, drop}
use Rattle.base_exact.specs.Rational.{ℚ}
use Rattle.base_exact.proofs.Decide.{le_or_lt}
use Rattle.base_outcome.specs.Outcome.{Outcome, answer, ◌then◌}
use Rattle.base_outcome.proofs.Outcome.{then_answers, answer_unique, then_inverts, Collected, collect_inverts}
use Rattle.spec_spline.specs.Conditions.{Entry}
use Rattle.spec_spline.specs.Table.{Row, Table, entry, row}
use Rattle.spec_spline.specs.Step.{jumps, Span, span, factors, new_row, new_rows, Planned, plan_over, plan_from, planned, rows_renewed, step}
use Rattle.spec_spline.proofs.Splice.{spliced_length, spliced-before, spliced-inside, spliced-after}
use Rattle.spec_spline.proofs.Planned.{mixed, step_in_order}
use Rattle.spec_spline.proofs.Answers.{jumps_length, Spans, span_inverts, Factors, factors_inverts}

-- The intermediate results of a step from t to t'.
pub record StepParts (j : ℕ) (κ : List Entry) (t t' : Table) : Type 0 where
  pub js : List ℚ
  pub g : Span
  pub ws : List ℚ
  pub rs : Table
  pub has_jumps : jumps j κ t ≡ answer js
  pub has_span : span j js ≡ answer g
  pub has_factors : factors j js g ≡ answer ws
  pub has_rows : new_rows j g ws t ≡ answer rs
  pub whole : take g.f t ++ (rs ++ drop (suc g.l) t) ≡ t'

pub step-parts : (j : ℕ) (κ : List Entry) (t : Table) {t' : Table} → step j κ t ≡ answer t' → StepParts j κ t t'
step-parts j κ t {t'} e =
    let a = then_inverts (jumps j κ t) (λ js. span j js then λ g. mixed j t js g) (sym (step_in_order j κ t) ∙ e) in
    let b = then_inverts (span j a.middle) (mixed j t a.middle) a.after in
    let c = then_inverts (factors j a.middle b.middle) (λ ws. new_rows j b.middle ws t then spliced b.middle) b.after in
    let d = then_inverts (new_rows j b.middle c.middle t) (spliced b.middle) c.after in
    record {
      js = a.middle;
      g = b.middle;
      ws = c.middle;
      rs = d.middle;
      has_jumps = a.before;
      has_span = b.before;
      has_factors = c.before;
      has_rows = d.before;
      whole = same b.middle d.middle d.after;
    }
  where
    spliced : Span → Table → Outcome Table
    spliced g rs = answer (take g.f t ++ (rs ++ drop (suc g.l) t))

    same : (g : Span) (rs : Table) → spliced g rs ≡ answer t' → take g.f t ++ (rs ++ drop (suc g.l) t) ≡ t'
    same g rs q = answer_unique refl q

module _ {j : ℕ} {κ : List Entry} {t t' : Table} (p : StepParts j κ t t') where
  abbrev f : ℕ
  f = p.g.f

  abbrev l : ℕ
  l = p.g.l

  -- the two halves of the step
  pub plan_answers : planned j κ t ≡ answer (record { jumps = p.js; span = p.g; factors = p.ws })
  unfolding planned plan_from plan_over
  plan_answers = then_answers (plan_from j) p.has_jumps ∙ then_answers (plan_over j p.js) p.has_span ∙ then_answers _ p.has_factors

  pub renewal_answers : rows_renewed j p.g p.ws t ≡ answer t'
  unfolding rows_renewed
  renewal_answers = then_answers _ p.has_rows ∙ ap answer p.whole

  pub step_spans : Spans p.js p.g.f p.g.l
  step_spans = span_inverts j p.js p.has_span

  pub step-factors : Factors p.js p.g.f p.g.l p.ws
  step-factors = factors_inverts j p.js p.g p.has_factors

  pub span_below : p.g.l < length t
  span_below = omega (arith, step_spans.below, jumps_length j κ t p.has_jumps)

  within : f ≤ length t
  within = omega (arith, step_spans.ordered, span_below)

  -- new row f + d
  abbrev pub new_at : ℕ → Outcome Row
  new_at d = new_row j (entry p.ws d) (entry p.ws (suc d)) (row t (p.g.f + d)) (row t (p.g.f + suc d))

  pub new-rows : Collected (p.g.l - p.g.f) new_at p.rs
  unfolding new_rows
  new-rows = collect_inverts (l - f) new_at p.has_rows

  pub one_less : suc (length t') ≡ length t
  one_less = ap (λ u. suc (length u)) (sym p.whole) ∙ ap suc (spliced_length t p.rs f (suc l) within) ∙ omega (arith, new-rows.size, step_spans.ordered, span_below)

  -- where a row of the new table comes from
  pub data Source (i : ℕ) : Type 0 where
    kept : i < p.g.f → row t' i ≡ row t i → Source i
    new : p.g.f ≤ i → i < p.g.l → new_row j (entry p.ws (i - p.g.f)) (entry p.ws (suc (i - p.g.f))) (row t i) (row t (suc i)) ≡ answer (row t' i) → Source i
    later : p.g.l ≤ i → row t' i ≡ row t (suc i) → Source i

  pub source : (i : ℕ) → Source i
  source i = go (le_or_lt f i) (le_or_lt l i)
    where
      at : (r : Row) → row (take f t ++ (p.rs ++ drop (suc l) t)) i ≡ r → row t' i ≡ r
      at r e = ap (λ u. row u i) (sym p.whole) ∙ e

      go : (f ≤ i) ⊎ (i < f) → (l ≤ i) ⊎ (i < l) → Source i
      go (inr h) k = kept h (at (row t i) (spliced-before t p.rs f (suc l) within i [] h))
      go (inl h) (inl k) =
          later k (at (row t (suc i)) (spliced-after t p.rs f (suc l) within i (suc i) [] (omega (arith, new-rows.size, step_spans.ordered))
          (omega (arith, new-rows.size, step_spans.ordered))))
      go (inl h) (inr k) = new h k
          (ap₂ (λ m n. new_row j (entry p.ws (i - f)) (entry p.ws (suc (i - f))) (row t m) (row t n)) (let z : i ≡ f + (i - f) = omega arith in z)
          (let z : suc i ≡ f + suc (i - f) = omega arith in z)
          ∙ new-rows.at (i - f) (omega arith) []
          ∙ ap answer (sym (at (row p.rs (i - f)) (spliced-inside t p.rs f (suc l) within i [] h (omega (arith, new-rows.size, step_spans.ordered))))))
