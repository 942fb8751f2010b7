-- A beam at numbers: breaks 0,1,2,4, degrees 1,2,3, orders -1,1, with an earlywood that climbs over all seven rows, 0, 1, 2, 3, 3, 4, 9, and a
-- latewood that falls, 9, 7, 7, 5, 3, 1, 0. From 256, on the discontinuity, to 300, behind it, the latewood falls from 1792 to 1625 and the
-- earlywood climbs from 256 to 592; and 1625 is the value of the second part by itself, with its own coefficients 7, 5, 3, 1, 0.
use mathlib.Core.Path.{◌≡◌, refl, sym, subst}
use mathlib.Core.Bool.{not}
use mathlib.Core.List.{List, [], ◌∷◌}
use Prim.Native.Nat.{ℕ, zero, suc, ◌<◌}
use native.Mathlib.Omega.{arith}
use lib.Dec.{T}
use lib.IntN.{ℤ, pos, negsuc}
use lib.ListN.{get_or}
use lib.Signed.{◌≤ℤ◌}
use Rattle.base_exact.specs.Rational.{◌//◌}
use Rattle.base_exact.proofs.Integer.{≤_in}
use Rattle.base_outcome.specs.Search.{first, last}
use Rattle.spec_spline.specs.Space.{starts_part, part_end, first_column, conditions_before}
use Rattle.spec_spline.specs.Table.{Table}
use Rattle.spec_spline.specs.Piecewise.{Accepted}
use Rattle.spec_spline.specs.Reading.{starts_at_discontinuity, starts_by, segment_at, earlywood, latewood, side_by_side, value_at}
use Rattle.spec_spline.specs.CurveCall.{bad_coefficient, bad_position, curve_outcome, values_after}
use Rattle.spec_spline.specs.ExactCurve.{Legal}
use Rattle.spec_spline.specs.Cases.{pair}
use Rattle.spec_spline.proofs.Computing.{building, reading}
use Rattle.theorems_weights.proofs.Instances.{q0, q1, beam, beam_table, accepted_beam}
use Rattle.theorems_beams.specs.Sections.{part_at}
use Rattle.theorems_beams.specs.Parts.{Starts}
use Rattle.theorems_promises.specs.FallingCurves.{InPart}
use Rattle.theorems_parts.specs.PartValues.{part_coefficients, OwnValue}
use Rattle.theorems_parts.specs.FallingBeams.{LowBeam, FallsAlong, ClimbsAlong}
use Rattle.theorems_parts.proofs.PartValues.{beam-values_are_the_parts}
use Rattle.theorems_parts.proofs.FallingBeams.{falling_beams_fall, climbing_beams_climb, falling-beam-cells, climbing_beam-cells}

abbrev coefs : List ℤ
coefs = side_by_side (pair (pos 0) (pos 9) ∷ pair (pos 1) (pos 7) ∷ pair (pos 2) (pos 7) ∷ pair (pos 3) (pos 5) ∷ pair (pos 3) (pos 3) ∷ pair (pos 4) (pos 1) ∷ pair (pos 9) (pos 0) ∷ [])

low : LowBeam beam
low zero h = ≤_in (negsuc 0) (pos 1) (omega arith)
low (suc zero) h = ≤_in (pos 1) (pos 1) (omega arith)
low (suc (suc j)) h = absurd (omega arith)

late_falls : FallsAlong beam latewood coefs
unfolding first_column conditions_before side_by_side
late_falls zero h = ≤_in (pos 7) (pos 9) (omega arith)
late_falls (suc zero) h = ≤_in (pos 7) (pos 7) (omega arith)
late_falls (suc (suc zero)) h = ≤_in (pos 5) (pos 7) (omega arith)
late_falls (suc (suc (suc zero))) h = ≤_in (pos 3) (pos 5) (omega arith)
late_falls (suc (suc (suc (suc zero)))) h = ≤_in (pos 1) (pos 3) (omega arith)
late_falls (suc (suc (suc (suc (suc zero))))) h = ≤_in (pos 0) (pos 1) (omega arith)
late_falls (suc (suc (suc (suc (suc (suc i)))))) h = absurd (omega arith)

early_climbs : ClimbsAlong beam earlywood coefs
unfolding first_column conditions_before side_by_side
early_climbs zero h = ≤_in (pos 0) (pos 1) (omega arith)
early_climbs (suc zero) h = ≤_in (pos 1) (pos 2) (omega arith)
early_climbs (suc (suc zero)) h = ≤_in (pos 2) (pos 3) (omega arith)
early_climbs (suc (suc (suc zero))) h = ≤_in (pos 3) (pos 3) (omega arith)
early_climbs (suc (suc (suc (suc zero)))) h = ≤_in (pos 3) (pos 4) (omega arith)
early_climbs (suc (suc (suc (suc (suc zero))))) h = ≤_in (pos 4) (pos 9) (omega arith)
early_climbs (suc (suc (suc (suc (suc (suc i)))))) h = absurd (omega arith)

-- ---- values on both sides of the discontinuity

late_values : (value_at beam beam_table latewood coefs (pos 256) ≡ pos 1792) × (value_at beam beam_table latewood coefs (pos 300) ≡ pos 1625)
unfolding reading
late_values = (refl, refl)

early_values : (value_at beam beam_table earlywood coefs (pos 256) ≡ pos 256) × (value_at beam beam_table earlywood coefs (pos 300) ≡ pos 592)
unfolding reading
early_values = (refl, refl)

beam_falls : pos 1625 ≤ℤ pos 1792
unfolding accepted_beam
beam_falls = subst (λ v. v ≤ℤ pos 1792) late_values.1 (subst (λ v. value_at beam beam_table latewood coefs (pos 300) ≤ℤ v) late_values.0
    (falling_beams_fall beam accepted_beam low latewood coefs late_falls (pos 256) (pos 300) tt tt (≤_in (pos 256) (pos 300) (omega arith))))

beam_climbs : pos 256 ≤ℤ pos 592
unfolding accepted_beam
beam_climbs = subst (λ v. v ≤ℤ pos 592) early_values.0 (subst (λ v. value_at beam beam_table earlywood coefs (pos 256) ≤ℤ v) early_values.1
    (climbing_beams_climb beam accepted_beam low earlywood coefs early_climbs (pos 256) (pos 300) tt tt (≤_in (pos 256) (pos 300) (omega arith))))

-- ---- the cells after a call with these positions

abbrev positions : List ℤ
positions = pos 256 ∷ pos 300 ∷ []

legal : Legal beam coefs positions 5184 5184 4
unfolding first_column conditions_before side_by_side bad_coefficient bad_position
legal = record {
  accepted = accepted_beam;
  coefficient_count = refl;
  coefficients = within;
  position_count = omega arith;
  in_span = inside;
  numerators = omega arith;
  denominators = omega arith;
  values = omega arith;
}
  where
    inside : (i : ℕ) → i < 2 → T (not (bad_position beam positions i))
    inside zero h = tt
    inside (suc zero) h = tt
    inside (suc (suc i)) h = absurd (omega arith)

    within : (i : ℕ) → i < 14 → T (not (bad_coefficient coefs i))
    within zero h = tt
    within (suc zero) h = tt
    within (suc (suc zero)) h = tt
    within (suc (suc (suc zero))) h = tt
    within (suc (suc (suc (suc zero)))) h = tt
    within (suc (suc (suc (suc (suc zero))))) h = tt
    within (suc (suc (suc (suc (suc (suc zero)))))) h = tt
    within (suc (suc (suc (suc (suc (suc (suc zero))))))) h = tt
    within (suc (suc (suc (suc (suc (suc (suc (suc zero)))))))) h = tt
    within (suc (suc (suc (suc (suc (suc (suc (suc (suc zero))))))))) h = tt
    within (suc (suc (suc (suc (suc (suc (suc (suc (suc (suc zero)))))))))) h = tt
    within (suc (suc (suc (suc (suc (suc (suc (suc (suc (suc (suc zero))))))))))) h = tt
    within (suc (suc (suc (suc (suc (suc (suc (suc (suc (suc (suc (suc zero)))))))))))) h = tt
    within (suc (suc (suc (suc (suc (suc (suc (suc (suc (suc (suc (suc (suc zero))))))))))))) h = tt
    within (suc (suc (suc (suc (suc (suc (suc (suc (suc (suc (suc (suc (suc (suc i)))))))))))))) h = absurd (omega arith)

abbrev cells : List ℤ
cells = values_after (curve_outcome beam coefs positions 5184 5184 4) (pos 0 ∷ pos 0 ∷ pos 0 ∷ pos 0 ∷ [])

cells_fall : get_or cells 3 (pos 0) ≤ℤ get_or cells 1 (pos 0)
cells_fall = falling-beam-cells beam coefs positions 5184 5184 4 legal _ latewood low late_falls 0 1 (omega arith) (omega arith) (≤_in (pos 256) (pos 300) (omega arith))

cells_climb : get_or cells 0 (pos 0) ≤ℤ get_or cells 2 (pos 0)
cells_climb = climbing_beam-cells beam coefs positions 5184 5184 4 legal _ earlywood low early_climbs 0 1 (omega arith) (omega arith) (≤_in (pos 256) (pos 300) (omega arith))

-- ---- the second part by itself

abbrev part_table : Table
part_table =
    (q1 ∷ q0 ∷ q0 ∷ q0 ∷ q0 ∷ q0 ∷ q0 ∷ []) ∷
    (q0 ∷ q1 ∷ pos 4 // 6 ∷ pos 4 // 6 ∷ q0 ∷ q0 ∷ q0 ∷ []) ∷
    (q0 ∷ q0 ∷ pos 3 // 6 ∷ pos 3 // 6 ∷ q1 ∷ q0 ∷ q0 ∷ []) ∷
    (q0 ∷ q0 ∷ q0 ∷ q0 ∷ q0 ∷ q1 ∷ q0 ∷ []) ∷
    (q0 ∷ q0 ∷ q0 ∷ q0 ∷ q0 ∷ q0 ∷ q1 ∷ []) ∷ []

accepted-part : Accepted (part_at beam 1)
unfolding building
accepted-part = record { table = part_table; is = refl }

second-starts : Starts beam 1
unfolding starts_part
second-starts = record { below = omega arith; starts = refl }

in_second : InPart beam 1 (pos 300)
unfolding starts_part part_end first last starts_at_discontinuity starts_by segment_at
in_second = record { inside = tt; from = omega arith; to = omega arith }

own : OwnValue beam accepted_beam 1 accepted-part latewood coefs (pos 300)
own = beam-values_are_the_parts beam accepted_beam 1 second-starts accepted-part latewood coefs (pos 300) in_second

own_coefficients : part_coefficients beam 1 coefs ≡ side_by_side (pair (pos 2) (pos 7) ∷ pair (pos 3) (pos 5) ∷ pair (pos 3) (pos 3) ∷ pair (pos 4) (pos 1) ∷ pair (pos 9) (pos 0) ∷ [])
unfolding starts_part part_end first first_column conditions_before side_by_side
own_coefficients = refl

own_value : value_at (part_at beam 1) part_table latewood (part_coefficients beam 1 coefs) (pos 300) ≡ pos 1625
unfolding accepted_beam accepted-part
own_value = subst (λ v. value_at (part_at beam 1) part_table latewood (part_coefficients beam 1 coefs) (pos 300) ≡ v) late_values.1 (sym own.same)
