-- What the call ends with, case by case, by what is found with the ordinates of all columns.
use mathlib.Core.Path.{◌≡◌, refl, sym, ◌∙◌, ap}
use mathlib.Core.List.{List}
use mathlib.Core.Option.{Option, some, none}
use Prim.Native.Nat.{ℕ}
use native.Mathlib.Omega.{arith}
use lib.IntN.{ℤ}
use lib.Signed.{le_z}
use Rattle.base_outcome.specs.Outcome.{Outcome, answer, refusal}
use Rattle.std.specs.Option.{ok_or}
use Rattle.base_outcome.specs.Machine.{reply, refused}
use Rattle.base_outcome.specs.Search.{first}
use Rattle.spec_spline.specs.Space.{Space}
use Rattle.spec_spline.specs.Table.{Table}
use Rattle.spec_spline.specs.Reading.{Wood, coefficient, fine, segment_at, value_at}
use Rattle.spec_spline.specs.CurveCall.{CurveResult}
use Rattle.base_outcome.proofs.Outcome.{then_answers, then_refuses, capped_small}
use Rattle.base_outcome.proofs.Search.{first_ext}
use Rattle.spec_calls.specs.CurveAlone.{curve_alone}
use Rattle.curve_start.proofs.Fronted.{fronted, blended_fronted}
use Rattle.spec_calls.specs.Positions.{position_count, position}
use Rattle.spec_calls.specs.Reach.{reaches, reached_at, reach_outcome}
use Rattle.curve_reach_search.specs.Machine.{held_value, reaches_held, found}

-- ---- what is found

-- the answer with a position, or the refusal 16 where there is none
pub found-reached : (s : Space) (o : Option ℕ) → reply (ok_or (found s o) (refused 16 0)) ≡ reached_at s o
unfolding found
found-reached s none = ap (refusal 16) (sym (capped_small 0 (omega arith)))
found-reached s (some i) = refl

-- by the ordinates at the front of a list, as by the table
reached_fronted : (s : Space) (t : Table) (n : ℕ) (wood : Wood) (coefs : List ℤ) (width : ℤ)
    → first (position_count s) (reaches_held s (fronted s t n (coefficient wood coefs)) (fine width))
    ≡ first (position_count s) (reaches s t wood coefs width)
unfolding held_value value_at
reached_fronted s t n wood coefs width =
    first_ext (position_count s) (λ i h. ap (le_z (fine width))
    (blended_fronted s t n (coefficient wood coefs) (segment_at s (position s i)) (position s i)))

-- ---- the call's outcome

module _ (s : Space) (wood : Wood) (coefs : List ℤ) (width : ℤ) (num_length den_length : ℕ) where
  pub reach_refused : {code place : ℕ} → curve_alone s coefs num_length den_length ≡ refusal code place
      → refusal code place ≡ reach_outcome s wood coefs width num_length den_length
  unfolding reach_outcome
  reach_refused e = sym (then_refuses (λ r. reached_at s (first (position_count s) (reaches s r.table wood coefs width))) e)

  -- the position, or 16
  pub reach_searched : {x : Outcome ℤ} {os : List ℤ} (n : ℕ) (c : CurveResult) → curve_alone s coefs num_length den_length ≡ answer c
      → os ≡ fronted s c.table n (coefficient wood coefs)
      → x ≡ reached_at s (first (position_count s) (reaches_held s os (fine width))) → x ≡ reach_outcome s wood coefs width num_length den_length
  unfolding reach_outcome
  reach_searched n c e o r = r
      ∙ ap (λ os. reached_at s (first (position_count s) (reaches_held s os (fine width)))) o
      ∙ ap (reached_at s) (reached_fronted s c.table n wood coefs width)
      ∙ sym (then_answers (λ r. reached_at s (first (position_count s) (reaches s r.table wood coefs width))) e)
