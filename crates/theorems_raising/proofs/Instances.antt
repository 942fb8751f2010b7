-- Raised and moved coefficients at numbers: W1's space with the earlywood 8, 2, 7, 3 and the latewood 9, 3, 8, 4, each higher by one. At 256,
-- where s = 2, the values are 938 and 1195: higher by 257 = 256 + s - 1, so that the bound can't be less.
use mathlib.Core.Path.{◌≡◌, refl, subst}
use mathlib.Core.Bool.{not}
use mathlib.Core.List.{List, [], ◌∷◌}
use Prim.Native.Nat.{ℕ, zero, suc, ◌<◌, ◌≤◌}
use native.Mathlib.Omega.{arith}
use lib.Dec.{T}
use lib.IntN.{ℤ, pos, nat_abs, ◌-ℤ◌}
use lib.ListN.{length, get_or}
use lib.Signed.{◌≤ℤ◌}
use Rattle.base_exact.specs.Gcd.{gcd, gcd_f}
use Rattle.base_exact.specs.Rational.{mk, int, ◌//◌}
use Rattle.base_exact.specs.Order.{is_zero}
use Rattle.base_exact.proofs.Integer.{≤_in}
use Rattle.base_outcome.specs.Search.{last, how_many}
use Rattle.spec_spline.specs.Space.{first_column, conditions_before}
use Rattle.spec_spline.specs.Reading.{starts_at_discontinuity, starts_by, segment_at, earlywood, latewood, side_by_side, coefficient, value_at}
use Rattle.spec_spline.specs.CurveCall.{bad_coefficient, curve_outcome, values_after}
use Rattle.spec_spline.specs.Cases.{pair, space1}
use Rattle.spec_spline.specs.ExactCurve.{largest, most_weights, Legal}
use Rattle.spec_spline.proofs.Computing.{reading}
use Rattle.theorems_values.proofs.Instances.{table1, accepted1, positions1, inside1}
use Rattle.theorems_raising.specs.Moving.{most_moved}
use Rattle.theorems_raising.proofs.Raising.{raised_coefficients_lower_no_value, raised-cells}
use Rattle.theorems_raising.proofs.Moving.{close_coefficients_close_values, close_cells}

abbrev coefs : List ℤ
coefs = side_by_side (pair (pos 8) (pos 9) ∷ pair (pos 2) (pos 3) ∷ pair (pos 7) (pos 8) ∷ pair (pos 3) (pos 4) ∷ [])

-- ---- values

higher : (i : ℕ) → i < 4 → coefficient earlywood coefs i ≤ℤ coefficient latewood coefs i
unfolding side_by_side
higher zero h = ≤_in (pos 8) (pos 9) (omega arith)
higher (suc zero) h = ≤_in (pos 2) (pos 3) (omega arith)
higher (suc (suc zero)) h = ≤_in (pos 7) (pos 8) (omega arith)
higher (suc (suc (suc zero))) h = ≤_in (pos 3) (pos 4) (omega arith)
higher (suc (suc (suc (suc i)))) h = absurd (omega arith)

by_one : (i : ℕ) → i < 4 → nat_abs (coefficient latewood coefs i -ℤ coefficient earlywood coefs i) ≤ 1
unfolding side_by_side
by_one zero h = omega arith
by_one (suc zero) h = omega arith
by_one (suc (suc zero)) h = omega arith
by_one (suc (suc (suc zero))) h = omega arith
by_one (suc (suc (suc (suc i)))) h = absurd (omega arith)

two_values : (value_at space1 table1 earlywood coefs (pos 256) ≡ pos 938) × (value_at space1 table1 latewood coefs (pos 256) ≡ pos 1195)
unfolding reading
two_values = (refl, refl)

value-raised : pos 938 ≤ℤ pos 1195
unfolding accepted1
value-raised = subst (λ v. v ≤ℤ pos 1195) two_values.0 (subst (λ v. value_at space1 table1 earlywood coefs (pos 256) ≤ℤ v) two_values.1
    (raised_coefficients_lower_no_value space1 accepted1 earlywood latewood coefs coefs (pos 256) tt (λ i h w. higher i h)))

-- s = 2 there
most-moved : most_moved space1 table1 (segment_at space1 (pos 256)) 1 ≡ 257
unfolding gcd gcd_f mk int ◌//◌ is_zero first_column last starts_at_discontinuity starts_by segment_at how_many largest most_weights
most-moved = refl

value-moved : nat_abs (pos 1195 -ℤ pos 938) ≤ 257
unfolding accepted1
value-moved = subst (λ n. nat_abs (pos 1195 -ℤ pos 938) ≤ n) most-moved
    (subst (λ v. nat_abs (pos 1195 -ℤ v) ≤ most_moved space1 table1 (segment_at space1 (pos 256)) 1) two_values.0
    (subst (λ v. nat_abs (v -ℤ value_at space1 table1 earlywood coefs (pos 256)) ≤ most_moved space1 table1 (segment_at space1 (pos 256)) 1) two_values.1
    (close_coefficients_close_values space1 accepted1 earlywood latewood coefs coefs 1 (pos 256) tt (λ i h w. by_one i h))))

-- it is reached
moved_by_most : nat_abs (pos 1195 -ℤ pos 938) ≡ 257
moved_by_most = refl

-- ---- the cells after a call with the positions 256 and 512

legal : Legal space1 coefs positions1 5184 5184 4
unfolding first_column conditions_before side_by_side bad_coefficient
legal = record {
  accepted = accepted1;
  coefficient_count = refl;
  coefficients = within;
  position_count = omega arith;
  in_span = inside1;
  numerators = omega arith;
  denominators = omega arith;
  values = omega arith;
}
  where
    within : (i : ℕ) → i < length coefs → T (not (bad_coefficient coefs i))
    within zero h = tt
    within (suc zero) h = tt
    within (suc (suc zero)) h = tt
    within (suc (suc (suc zero))) h = tt
    within (suc (suc (suc (suc zero)))) h = tt
    within (suc (suc (suc (suc (suc zero))))) h = tt
    within (suc (suc (suc (suc (suc (suc zero)))))) h = tt
    within (suc (suc (suc (suc (suc (suc (suc zero))))))) h = tt
    within (suc (suc (suc (suc (suc (suc (suc (suc i)))))))) h = absurd (omega arith)

abbrev cells : List ℤ
cells = values_after (curve_outcome space1 coefs positions1 5184 5184 4) (pos 0 ∷ pos 0 ∷ pos 0 ∷ pos 0 ∷ [])

cells-raised : get_or cells 2 (pos 0) ≤ℤ get_or cells 3 (pos 0)
unfolding first_column conditions_before
cells-raised = raised-cells space1 coefs coefs positions1 5184 5184 4 legal legal _ _ earlywood latewood higher 1 (omega arith)

cells-moved : nat_abs (get_or cells 3 (pos 0) -ℤ get_or cells 2 (pos 0)) ≤ 258
unfolding first_column conditions_before
cells-moved = close_cells space1 coefs coefs positions1 5184 5184 4 legal legal _ _ earlywood latewood 1 by_one 1 (omega arith)
