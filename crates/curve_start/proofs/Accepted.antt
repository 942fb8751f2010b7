-- The space of an answered call is accepted, with the weights that the call has worked out.
use mathlib.Core.Path.{◌≡◌, ◌∙◌, ap}
use mathlib.Core.List.{List, []}
use Prim.Native.Nat.{ℕ}
use lib.IntN.{ℤ}
use Rattle.base_outcome.specs.Outcome.{answer}
use Rattle.spec_spline.specs.Space.{Space}
use Rattle.spec_spline.specs.Piecewise.{Accepted}
use Rattle.spec_spline.specs.CurveCall.{CurveResult}
use Rattle.base_outcome.proofs.Outcome.{answer_unique}
use Rattle.theorems_values.proofs.LegalCall.{answered_calls_are_legal, legal_calls_answer}
use Rattle.spec_calls.specs.CurveAlone.{curve_alone}

abbrev pub accepted_by : (s : Space) (coefs : List ℤ) (num_length den_length : ℕ) (r : CurveResult)
    → curve_alone s coefs num_length den_length ≡ answer r → Accepted s
accepted_by s coefs num_length den_length r e =
    let l = answered_calls_are_legal s coefs [] num_length den_length 0 r e in
    record {
      table = r.table;
      is = l.accepted.is ∙ ap (λ q. answer q.table) (answer_unique (legal_calls_answer s coefs [] num_length den_length 0 l) e);
    }
