-- What the start of a curve call leaves, from what the tests and the parts of the beam do.
use mathlib.Core.Path.{◌≡◌, refl, sym, ◌∙◌, ap}
use mathlib.Core.Bool.{false}
use mathlib.Core.List.{[]}
use Prim.Native.Nat.{ℕ, ◌/◌, ◌≤◌}
use lib.ListN.{length}
use Rattle.std.specs.Prelude.{Err, Ok, Result}
use Rattle.base_outcome.specs.declared.Refusal.{Refusal}
use Rattle.base_exact.proofs.Decide.{cond_false}
use Rattle.base_outcome.specs.Outcome.{Outcome, answer, refusal, with_answer}
use Rattle.base_outcome.specs.Machine.{passed, refused}
use Rattle.spec_spline.specs.Space.{row_count}
use Rattle.spec_spline.specs.Table.{Table, numerators, denominators}
use Rattle.spec_spline.specs.Build.{weights, last_part, clears, numerators_after, denominators_after}
use Rattle.spec_spline.specs.Reading.{coefficient}
use Rattle.spec_spline.specs.CurveCall.{CurveResult, held_by, curve_numerators, curve_denominators}
use Rattle.spec_spline.proofs.Pairs.{half_le}
use Rattle.base_outcome.proofs.Reply.{count_inverts, refused_inverts}
use Rattle.curve_parts.specs.Parts.{Lent, TableRoom, PartsLeave}
use Rattle.curve_start.specs.Machine.{Call, outcome_of, CurvesLeave}
use Rattle.curve_start.proofs.Call.{checked_of, call_stopped, call-answers, lists_legal, coefficients_good, positions_good}

module _ (c : Call) (l : Lent) where
  -- a refusal that leaves the buffers as they were
  pub leaves_unchanged : {code place : ℕ} → outcome_of c l ≡ refusal code place → clears code ≡ false
      → CurvesLeave c (Err (refused code place)) l l
  unfolding numerators_after denominators_after
  leaves_unchanged e h = record {
    told = e;
    numerators_are = sym (ap (λ x. curve_numerators c.lists x l.num) e ∙ cond_false (numerators [] l.num) l.num h);
    denominators_are = sym (ap (λ x. curve_denominators c.lists x l.den) e ∙ cond_false (denominators [] l.den) l.den h);
  }

  -- the buffers after the parts, where the call holds what the build does
  module _ {r : Result ℕ Refusal} {l' : Lent} (p : PartsLeave c.lists (λ wood. coefficient wood c.coefs) r l l') {w : Outcome Table}
      {v : Outcome CurveResult} (e : weights c.lists ≡ w) (o : outcome_of c l ≡ v)
      (same : with_answer (last_part c.lists) w ≡ held_by c.lists v) where
    numerators-left : l'.num ≡ curve_numerators c.lists (outcome_of c l) l.num
    numerators-left =
        p.numerators_are
        ∙ ap (λ x. numerators_after (with_answer (last_part c.lists) x) l.num) e
        ∙ ap (λ x. numerators_after x l.num) same
        ∙ sym (ap (λ x. curve_numerators c.lists x l.num) o)

    denominators-left : l'.den ≡ curve_denominators c.lists (outcome_of c l) l.den
    denominators-left =
        p.denominators_are
        ∙ ap (λ x. denominators_after (with_answer (last_part c.lists) x) l.den) e
        ∙ ap (λ x. denominators_after x l.den) same
        ∙ sym (ap (λ x. curve_denominators c.lists x l.den) o)

  -- the parts
  pub leaves_built : (long : TableRoom l) (h : length c.positions ≤ c.room / 2) (passes : answer (tt {0}) ≡ passed (checked_of c))
      (r : Result ℕ Refusal) {l' : Lent} → PartsLeave c.lists (λ wood. coefficient wood c.coefs) r l l' → CurvesLeave c r l l'
  leaves_built long h passes (Ok n) p =
      let t = count_inverts (λ _. row_count c.lists) (weights c.lists) p.answers in
      let e = call-answers c l long h passes t.is in
      record {
        told = record {
          table = t.result;
          is = e;
          legal = lists_legal c passes;
          count = t.count;
          coefficients = coefficients_good c passes;
          within = positions_good c passes;
          room_enough = half_le (length c.positions) c.room h;
          early_is = p.early_is t.result t.is;
          late_is = p.late_is t.result t.is;
        };
        numerators_are = numerators-left p t.is e refl;
        denominators_are = denominators-left p t.is e refl;
      }
  leaves_built long h passes (Err r) p =
      let t = refused_inverts (λ _. row_count c.lists) (weights c.lists) p.answers in
      let e = call_stopped c l long h passes t in
      record { told = e; numerators_are = numerators-left p t e refl; denominators_are = denominators-left p t e refl }
