-- The least position whose value reaches a width (§ 10), by the values that the curve call gives.
use Rattle.std.specs.Prelude.{Bool, List, ℕ, ℤ, length}
use Rattle.std.proofs.Math.Option.{Option, some, none}
use Rattle.std.specs.Int.Signed.{le_z}
use Rattle.base_outcome.specs.Codes as codes
use Rattle.base_outcome.specs.Outcome.{Outcome, answer, refuse, ◌then◌}
use Rattle.base_outcome.specs.Search.{first}
use Rattle.spec_spline.specs.Space.{Space}
use Rattle.spec_spline.specs.Table.{Table}
use Rattle.spec_spline.specs.Reading.{Wood, fine, value_at}
use Rattle.spec_spline.specs.CurveCall.{curve_numerators, curve_denominators}
use Rattle.spec_calls.specs.CurveAlone.{curve_alone}
use Rattle.spec_calls.specs.Positions.{position_count, position}

-- A position "whose value (§ 6) is 256·width or more" (§ 10).
abbrev pub reaches : Space → Table → Wood → List ℤ → ℤ → ℕ → Bool
reaches s t wood coefs width i = le_z (fine width) (value_at s t wood coefs (position s i))

-- "the least position", and "16 where there is none" (§ 10), place 0.
abbrev pub reached_at : Space → Option ℕ → Outcome ℤ
reached_at s (some i) = answer (position s i)
reached_at s none = refuse codes.never_reached 0

-- What the call ends with, given the lengths of the two buffers: 16 comes after all numbers of the curve (§ 3).
unfoldable pub reach_outcome : Space → Wood → List ℤ → ℤ → ℕ → ℕ → Outcome ℤ
reach_outcome s wood coefs width num_length den_length =
    curve_alone s coefs num_length den_length then λ r. reached_at s (first (position_count s) (reaches s r.table wood coefs width))

-- What the call ends with: the answer and both weight buffers.
pub record ReachEnd : Type 0 where
  pub answers : Outcome ℤ
  pub numerators : List ℤ
  pub denominators : List ℤ

-- The end of the call with these lists and these two buffers lent. "After 14, 16 and 17 the weight buffers are as after an answer"
-- (§ 3).
abbrev pub reach_end : Space → Wood → List ℤ → ℤ → List ℤ → List ℤ → ReachEnd
reach_end s wood coefs width num den =
    let o = curve_alone s coefs (length num) (length den) in
    record {
      answers = reach_outcome s wood coefs width (length num) (length den);
      numerators = curve_numerators s o num;
      denominators = curve_denominators s o den;
    }
