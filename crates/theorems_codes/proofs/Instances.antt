-- The numbers of calls with numbers: W7's length of 2,001 gives 3 at breakpoint 1 and W8's order 5 at join 0; W10's three coefficients
-- give 6 and its position 769 gives 7 at 0; the latewood of W2, below zero, gives 14 at ring 0; ordinates that differ at a join give
-- 19 there.
use mathlib.Core.Path.{◌≡◌, refl, ◌∙◌, ap₂}
use mathlib.Core.List.{List, [], ◌∷◌}
use Prim.Native.Nat.{ℕ, ◌<◌}
use lib.IntN.{ℤ, pos}
use lib.ListN.{length}
use Rattle.base_outcome.specs.Outcome.{refusal, ◌then◌, with_answer}
use Rattle.spec_spline.specs.Space.{row_count}
use Rattle.spec_spline.specs.Build.{built, build_end}
use Rattle.spec_spline.specs.Reading.{latewood}
use Rattle.spec_spline.specs.CurveCall.{curve_outcome, returned, curve_end}
use Rattle.spec_spline.specs.Cases.{line_space, space1, space8}
use Rattle.spec_spline.proofs.Computing.{building, reading, calling}
use Rattle.theorems_weights.proofs.Instances.{lent, lent_length}
use Rattle.theorems_values.proofs.Instances.{coefs1}
use Rattle.spec_calls.specs.Recovery.{recover_orders, recover_joins, recovered}
use Rattle.spec_calls.specs.RecoveryCall.{bad_ordinate, recovery_outcome, recovery_end}
use Rattle.spec_calls.proofs.Computing.{recovering}
use Rattle.spec_calls.specs.Indices.{ring_positions, is_refused, bad_ring, rings_read, rings_indexed, indices_returned, RingsCall, indices_end}
use Rattle.theorems_codes.specs.Codes.{BuildRefusal, CurveRefusal, IndicesRefusal, RecoveryRefusal}
use Rattle.theorems_codes.proofs.Codes.{build_numbers, curve_numbers, indices_numbers, recovery_numbers}

-- buffers of 6,000 cells each
with_lent : {A : Type 0} (f : ℕ → ℕ → A) → f (length lent) (length lent) ≡ f 6000 6000
with_lent f = ap₂ f lent_length lent_length

-- ---- building

too_long : (build_end (line_space 2001) lent lent).answers ≡ refusal 3 1
unfolding building built
too_long = with_lent (λ n d. with_answer (λ _. row_count (line_space 2001)) (built (line_space 2001) n d)) ∙ refl

too_long_is : BuildRefusal (line_space 2001) 3 1 × (0 < 3)
too_long_is = build_numbers (line_space 2001) lent lent 3 1 too_long

too_smooth : (build_end (space8 1) lent lent).answers ≡ refusal 5 0
unfolding building built
too_smooth = with_lent (λ n d. with_answer (λ _. row_count (space8 1)) (built (space8 1) n d)) ∙ refl

too_smooth_is : BuildRefusal (space8 1) 5 0 × (0 < 5)
too_smooth_is = build_numbers (space8 1) lent lent 5 0 too_smooth

-- ---- the curve call

abbrev cells : List ℤ
cells = pos 0 ∷ pos 0 ∷ pos 0 ∷ pos 0 ∷ []

three_coefficients : (curve_end space1 (pos 0 ∷ pos 0 ∷ pos 100 ∷ pos 100 ∷ pos 0 ∷ pos 0 ∷ []) (pos 256 ∷ []) lent lent cells).answers ≡ refusal 6 4294967295
unfolding calling
three_coefficients = with_lent (λ n d. returned (curve_outcome space1 (pos 0 ∷ pos 0 ∷ pos 100 ∷ pos 100 ∷ pos 0 ∷ pos 0 ∷ []) (pos 256 ∷ []) n d 4)) ∙ refl

three_coefficients_is : CurveRefusal space1 (pos 0 ∷ pos 0 ∷ pos 100 ∷ pos 100 ∷ pos 0 ∷ pos 0 ∷ []) (pos 256 ∷ []) 6 4294967295 × (0 < 6)
three_coefficients_is = curve_numbers space1 (pos 0 ∷ pos 0 ∷ pos 100 ∷ pos 100 ∷ pos 0 ∷ pos 0 ∷ []) (pos 256 ∷ []) lent lent cells 6 4294967295 three_coefficients

past_the_end : (curve_end space1 coefs1 (pos 769 ∷ []) lent lent cells).answers ≡ refusal 7 0
unfolding calling
past_the_end = with_lent (λ n d. returned (curve_outcome space1 coefs1 (pos 769 ∷ []) n d 4)) ∙ refl

past_the_end_is : CurveRefusal space1 coefs1 (pos 769 ∷ []) 7 0 × (0 < 7)
past_the_end_is = curve_numbers space1 coefs1 (pos 769 ∷ []) lent lent cells 7 0 past_the_end

-- ---- an index call

abbrev rings : RingsCall
rings = record {
  wood = latewood;
  space = space1;
  coefs = coefs1;
  first_ring = pos 1;
  widths = pos 50 ∷ pos 0 ∷ [];
  num = lent;
  den = lent;
  values = cells;
  indices = pos 0 ∷ pos 0 ∷ [];
}

below-zero : (indices_end rings).answers ≡ refusal 14 0
unfolding calling reading building ring_positions is_refused bad_ring rings_read rings_indexed
below-zero = with_lent (λ n d. indices_returned (rings_read space1 coefs1 (pos 1) (pos 50 ∷ pos 0 ∷ []) n d 4 2 then rings_indexed latewood (pos 50 ∷ pos 0 ∷ []))) ∙ refl

below-zero_is : IndicesRefusal space1 coefs1 (pos 1) (pos 50 ∷ pos 0 ∷ []) 14 0 × (0 < 14)
below-zero_is = indices_numbers rings 14 0 below-zero

-- ---- coefficients

abbrev ordinates : List ℤ
ordinates = pos 0 ∷ pos 300 ∷ pos 200 ∷ pos 201 ∷ pos 0 ∷ pos 0 ∷ []

apart : (recovery_end space1 ordinates lent lent ordinates ordinates).answers ≡ refusal 19 0
unfolding building recovering recovery_outcome bad_ordinate recovered recover_joins recover_orders
apart = with_lent (λ n d. with_answer (λ _. row_count space1) (recovery_outcome space1 ordinates n d 6 6)) ∙ refl

apart_is : RecoveryRefusal space1 ordinates 19 0 × (0 < 19)
apart_is = recovery_numbers space1 ordinates lent lent ordinates ordinates 19 0 apart
