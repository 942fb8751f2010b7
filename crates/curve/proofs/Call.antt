-- What the curve call answers and leaves in the values' buffer, by its outcome.
use mathlib.Core.Path.{◌≡◌, sym, ◌∙◌, ap}
use mathlib.Core.List.{List, ◌++◌}
use Prim.Native.Nat.{ℕ, ◌*◌}
use lib.IntN.{ℤ}
use lib.ListN.{length, drop}
use Rattle.base_outcome.specs.Outcome.{Outcome, answer, refusal}
use Rattle.spec_spline.specs.Table.{Table}
use Rattle.spec_spline.specs.Reading.{Pair, side_by_side}
use Rattle.spec_spline.specs.CurveCall.{CurveResult, returned, values_after}

module _ {o : Outcome CurveResult} where
  -- a refusal leaves the values as they were
  module _ {code place : ℕ} (e : o ≡ refusal code place) where
    pub refused_answers : (refusal code place) ≡ returned o
    refused_answers = sym (ap returned e)

    pub refused_values : (vs : List ℤ) → vs ≡ values_after o vs
    unfolding values_after
    refused_values vs = sym (ap (λ x. values_after x vs) e)

  -- the pairs of m positions
  module _ {t : Table} {written : List Pair} {m : ℕ} (e : o ≡ answer (record { table = t; values = written }))
      (l : length written ≡ m) where
    pub written-answers : (answer m) ≡ returned o
    written-answers = ap answer (sym l) ∙ sym (ap returned e)

    pub written-values : (vs : List ℤ) {vs' : List ℤ} → vs' ≡ side_by_side written ++ drop (2 * m) vs → vs' ≡ values_after o vs
    unfolding values_after
    written-values vs w = w ∙ ap (λ n. side_by_side written ++ drop (2 * n) vs) (sym l) ∙ sym (ap (λ x. values_after x vs) e)
