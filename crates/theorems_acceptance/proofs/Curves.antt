-- Curve calls: code 9 never comes from one, and one within the specification's limits on a space of orders at most 1 answers.
use mathlib.Core.Path.{◌≡◌, refl, ◌∙◌, ap}
use mathlib.Core.Bool.{Bool, true, false, cond}
use Prim.Native.Nat.{◌/◌}
use native.Mathlib.Omega.{arith}
use lib.Dec.{ltb}
use lib.ListN.{length}
use Rattle.base_exact.proofs.Decide.{true_not_false}
use Rattle.base_outcome.specs.Outcome.{Outcome, answer, refusal, refuse, ◌then◌, with_answer}
use Rattle.spec_spline.specs.Table.{Table, table_cells}
use Rattle.spec_spline.specs.Build.{weights}
use Rattle.spec_spline.specs.CurveCall.{CurveResult, curve_checked, curve_read, curve_outcome}
use Rattle.base_outcome.proofs.Outcome.{answer_not_refusal, then_breaks, Broken, first-refuses, second-refuses}
use Rattle.spec_spline.proofs.Legal.{checked_inverts}
use Rattle.theorems_values.proofs.LegalCall.{checks-passed, curve_checks, legal_calls_return_count}
use Rattle.theorems_acceptance.specs.Acceptance.{CurvesNeverGiveNine}
use Rattle.theorems_acceptance.specs.Curves.{LowOrderCallsAnswer}
use Rattle.theorems_stages.proofs.Refusals.{refused_code}
use Rattle.theorems_acceptance.proofs.NineNever.{weights_not_nine}
use Rattle.theorems_acceptance.proofs.LowOrders.{low_orders_are_accepted}

pub curves_never_give_nine : CurvesNeverGiveNine
unfolding curve_outcome curve_read
curves_never_give_nine s coefs positions place num_length den_length values_length e = long (ltb num_length table_cells) (ltb den_length table_cells) (ltb (values_length / 2) (length positions)) e
  where
    read : (o : Outcome Table) (g : Table → CurveResult) → with_answer g o ≡ refusal 9 place → o ≡ refusal 9 place
    read (answer t) g r = absurd (answer_not_refusal refl r)
    read (refusal code p) g r = cc

    rest : Broken (curve_checked s coefs positions) (curve_read coefs positions) 9 place → ⊥
    rest (first-refuses p) = true_not_false refl (curve_checks s coefs positions p)
    rest (second-refuses s' p q) = let c = checks-passed s coefs positions p in weights_not_nine s (checked_inverts s c.0.space).1 (ap weights c.1 ∙ read (weights s') _ q)

    long : (a b c : Bool) → cond a (refuse 1 0) (cond b (refuse 1 1) (cond c (refuse 1 2) (curve_checked s coefs positions then curve_read coefs positions))) ≡ refusal 9 place → ⊥
    long true b c r = omega (arith, refused_code 1 0 r)
    long false true c r = omega (arith, refused_code 1 1 r)
    long false false true r = omega (arith, refused_code 1 2 r)
    long false false false r = rest (then_breaks (curve_checked s coefs positions) (curve_read coefs positions) r)

pub low_order_calls_answer : LowOrderCallsAnswer
low_order_calls_answer s coefs positions num_length den_length values_length l low = legal_calls_return_count s coefs positions num_length den_length values_length record {
  accepted = low_orders_are_accepted s l.lists low;
  coefficient_count = l.coefficient_count;
  coefficients = l.coefficients;
  position_count = l.position_count;
  in_span = l.in_span;
  numerators = l.numerators;
  denominators = l.denominators;
  values = l.values;
}
