-- Moved and scaled breakpoints with numbers: W1's breakpoints 0, 1, 3 as the years 1900, 1902, 1906, times 2 and moved by 1900. The value at 512, 4267, is
-- that at 2·512 + 256·1900 = 487424. The space 0, 67, 70 with degrees 3, 5 and order 2 is refused with 8 at join 0, and so it is from 1900 on. Moved
-- by 20,000 W1's breakpoints leave their range, which is number 3.
use mathlib.Core.Path.{◌≡◌, refl, ◌∙◌}
use mathlib.Core.Bool.{not}
use mathlib.Core.List.{List, [], ◌∷◌, map}
use Prim.Native.Nat.{ℕ, zero, suc, ◌<◌}
use native.Mathlib.Omega.{arith}
use lib.Dec.{T}
use lib.IntN.{ℤ, pos}
use lib.ListN.{get_or}
use Rattle.base_outcome.specs.Outcome.{refusal}
use Rattle.spec_spline.specs.Space.{Space, checked, first_column, conditions_before}
use Rattle.spec_spline.specs.Build.{weights}
use Rattle.spec_spline.specs.Piecewise.{Accepted}
use Rattle.spec_spline.specs.Reading.{earlywood, value_at}
use Rattle.spec_spline.specs.CurveCall.{bad_position, curve_outcome, values_after}
use Rattle.spec_spline.specs.ExactCurve.{Legal}
use Rattle.spec_spline.specs.Cases.{space, space1}
use Rattle.spec_spline.proofs.Computing.{building, checking, reading}
use Rattle.theorems_weights.proofs.Instances.{checked1}
use Rattle.theorems_values.proofs.Instances.{table1, accepted1, coefs1, coefficients1, positions1, inside1}
use Rattle.theorems_moving.specs.Moving.{moved_position, moved_space}
use Rattle.theorems_moving.proofs.Moving.{weights_stay, only_three_comes, values_stay, cells_stay}

abbrev years : Space
years = moved_space 2 (pos 1900) space1

accepted_years : Accepted years
unfolding building
accepted_years = record { table = table1; is = refl }

value : value_at space1 table1 earlywood coefs1 (pos 512) ≡ pos 4267
unfolding reading
value = refl

same-value : value_at years table1 earlywood coefs1 (pos 487424) ≡ pos 4267
unfolding accepted_years accepted1
same-value = values_stay 2 (omega arith) (pos 1900) space1 accepted1 accepted_years earlywood coefs1 (pos 512) tt ∙ value

-- ---- the cells after two calls

legal : Legal space1 coefs1 positions1 5184 5184 4
unfolding first_column conditions_before
legal = record {
  accepted = accepted1;
  coefficient_count = refl;
  coefficients = coefficients1;
  position_count = omega arith;
  in_span = inside1;
  numerators = omega arith;
  denominators = omega arith;
  values = omega arith;
}

legal_years : Legal years coefs1 (map (moved_position 2 (pos 1900)) positions1) 5184 5184 4
unfolding first_column conditions_before bad_position
legal_years = record {
  accepted = accepted_years;
  coefficient_count = refl;
  coefficients = coefficients1;
  position_count = omega arith;
  in_span = inside;
  numerators = omega arith;
  denominators = omega arith;
  values = omega arith;
}
  where
    inside : (i : ℕ) → i < 2 → T (not (bad_position years (map (moved_position 2 (pos 1900)) positions1) i))
    inside zero h = tt
    inside (suc zero) h = tt
    inside (suc (suc i)) h = absurd (omega arith)

abbrev held : List ℤ
held = pos 0 ∷ pos 0 ∷ pos 0 ∷ pos 0 ∷ []

same-cell : get_or (values_after (curve_outcome years coefs1 (pos 486912 ∷ pos 487424 ∷ []) 5184 5184 4) held) 2 (pos 0)
    ≡ get_or (values_after (curve_outcome space1 coefs1 positions1 5184 5184 4) held) 2 (pos 0)
same-cell = cells_stay 2 (omega arith) (pos 1900) space1 coefs1 positions1 5184 5184 4 legal legal_years held held earlywood 1 (omega arith)

-- ---- the same 8

abbrev refused : Space
refused = space (0 ∷ 67 ∷ 70 ∷ []) (3 ∷ 5 ∷ []) (pos 2 ∷ [])

eight : weights refused ≡ refusal 8 0
unfolding building
eight = refl

eight_too : weights (moved_space 1 (pos 1900) refused) ≡ refusal 8 0
unfolding checking
eight_too = weights_stay 1 (omega arith) (pos 1900) refused refl ∙ eight

-- ---- number 3

out_of_range : checked (moved_space 1 (pos 20000) space1) ≡ refusal 3 0
unfolding checking
out_of_range = refl

three : ◌≡◌ {A = ℕ} 3 3
three = only_three_comes 1 (omega arith) (pos 20000) space1 checked1 3 0 out_of_range
