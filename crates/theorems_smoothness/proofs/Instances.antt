-- The theorems at three spaces of the specification's cases, W4, W5 and W9, with numbers: ordinates that join smoothly, ordinates
-- that do not, the derivatives from both sides, and the exact curve at a join.
use mathlib.Core.Path.{◌≡◌, refl, sym, ◌∙◌, ap}
use mathlib.Core.List.{List, [], ◌∷◌}
use Prim.Native.Nat.{ℕ, zero, suc, ◌<◌, ◌-◌}
use native.Mathlib.Omega.{arith}
use lib.IntN.{ℤ, pos, negsuc, nat_abs}
use lib.ListN.{length}
use Rattle.base_exact.specs.Gcd.{gcd, gcd_f}
use Rattle.base_exact.specs.Rational.{ℚ, mk, int, ◌+ᵠ◌, ◌*ᵠ◌, ◌/ᵠ◌}
use Rattle.base_exact.specs.Tabulate.{tab}
use Rattle.base_exact.proofs.Integer.{up}
use Rattle.base_exact.proofs.Rational.{int_inj}
use Rattle.base_outcome.specs.Search.{last}
use Rattle.spec_spline.specs.Space.{segments, condition_count, first_column, conditions_before}
use Rattle.spec_spline.specs.Conditions.{binomial, conditions}
use Rattle.spec_spline.specs.Table.{Row}
use Rattle.spec_spline.specs.Piecewise.{Meets, pairing, combination}
use Rattle.spec_spline.specs.Reading.{fineness, starts_at_discontinuity, starts_by, segment_at, earlywood, latewood, side_by_side, offset}
use Rattle.spec_spline.specs.ExactCurve.{exact_curve}
use Rattle.spec_spline.specs.Cases.{pair, space4, space5, space9}
use Rattle.spec_spline.proofs.Computing.{conditioning, fractions}
use Rattle.theorems_weights.proofs.Instances.{q0, q1, multipliers4, ordinates4, checked4, table5, ordinates5, accepted5, given5, checked5}
use Rattle.theorems_values.proofs.Instances.{table9, coefs9, accepted9, exact9}
use Rattle.theorems_smoothness.specs.Polynomial.{value, ◌+ᵖ◌, ◌·ᵖ◌, ◌*ᵖ◌, power, total, derivative, iterated}
use Rattle.theorems_smoothness.specs.Bernstein.{bernstein_polynomial, bernstein_form}
use Rattle.theorems_smoothness.specs.Smoothness.{piece, left_derivative, right_derivative, Smooth, curve_ordinates}
use Rattle.theorems_smoothness.proofs.Smoothness.{conditions_are_smoothness, combinations_are_smooth, smooth_curves_are_combinations}
use Rattle.theorems_smoothness.proofs.Curve.{exact_curve_is_polynomial, exact_curve_at_discontinuity, exact_curve_at_other_join}

-- what the polynomials of a segment are computed with
polynomials : Unit {0}
unfolding fractions first_column binomial value ◌+ᵖ◌ ◌·ᵖ◌ ◌*ᵖ◌ power total derivative iterated bernstein_polynomial bernstein_form piece
polynomials = tt

-- ---- polynomials

-- (5 + 3 x + 2 x^2)' = 3 + 4 x, and its value at 2 is 11
derivative_example : derivative (int (pos 5) ∷ int (pos 3) ∷ int (pos 2) ∷ []) ≡ int (pos 3) ∷ int (pos 4) ∷ []
unfolding gcd gcd_f mk int ◌*ᵠ◌ tab derivative
derivative_example = refl

value_example : value (int (pos 3) ∷ int (pos 4) ∷ []) (int (pos 2)) ≡ int (pos 11)
unfolding gcd gcd_f mk int ◌+ᵠ◌ ◌*ᵠ◌ value
value_example = refl

-- ---- W5: breaks 0,1,2, degrees 3,3, order 2

-- 12 x - 15 x^2 + 7 x^3
piece5 : piece space5 ordinates5 0 ≡ q0 ∷ int (pos 12) ∷ int (negsuc 14) ∷ int (pos 7) ∷ []
unfolding polynomials
piece5 = refl

-- at the join the value is 4, the slope 3 and the second derivative 12, from the left
left5 : left_derivative space5 ordinates5 0 0 ∷ left_derivative space5 ordinates5 0 1 ∷ left_derivative space5 ordinates5 0 2 ∷ [] ≡ int (pos 4) ∷ int (pos 3) ∷ int (pos 12) ∷ []
unfolding polynomials
left5 = refl

-- and from the right
right5 : right_derivative space5 ordinates5 0 0 ∷ right_derivative space5 ordinates5 0 1 ∷ right_derivative space5 ordinates5 0 2 ∷ [] ≡ int (pos 4) ∷ int (pos 3) ∷ int (pos 12) ∷ []
unfolding polynomials
right5 = refl

agree5 : (j k : ℕ) → j < segments space5 - 1 → k < condition_count space5 j → left_derivative space5 ordinates5 j k ≡ right_derivative space5 ordinates5 j k
unfolding polynomials
agree5 zero zero h l = refl
agree5 zero (suc zero) h l = refl
agree5 zero (suc (suc zero)) h l = refl
agree5 zero (suc (suc (suc k))) h l = absurd (omega arith)
agree5 (suc j) k h l = absurd (omega arith)

smooth5 : Smooth space5 ordinates5
unfolding first_column
smooth5 = record { columns = refl; agree = agree5 }

-- so the condition of order 2 is met
meets5 : Meets space5 ordinates5 0 2
meets5 = (conditions_are_smoothness space5 checked5 ordinates5 0 2 (omega arith) (omega arith)).1 (agree5 0 2 (omega arith) (omega arith))

-- ---- ordinates of W5 with a second derivative that jumps from 12 to 6

abbrev broken5 : Row
broken5 = q0 ∷ int (pos 4) ∷ int (pos 3) ∷ int (pos 4) ∷ int (pos 4) ∷ int (pos 5) ∷ int (pos 7) ∷ q1 ∷ []

left_broken5 : left_derivative space5 broken5 0 2 ≡ int (pos 12)
unfolding polynomials
left_broken5 = refl

right_broken5 : right_derivative space5 broken5 0 2 ≡ int (pos 6)
unfolding polynomials
right_broken5 = refl

twelve_not_six : int (pos 12) ≡ int (pos 6) → ⊥
twelve_not_six e = let h = ap nat_abs (int_inj (pos 12) (pos 6) e) in omega arith

-- so the condition of order 2 is not met
unmet5 : Meets space5 broken5 0 2 → ⊥
unmet5 m = twelve_not_six (sym left_broken5 ∙ (conditions_are_smoothness space5 checked5 broken5 0 2 (omega arith) (omega arith)).0 m ∙ right_broken5)

-- it comes to 1
condition_broken5 : pairing broken5 (conditions space5 0 2) ≡ int (pos 1)
unfolding conditioning pairing
condition_broken5 = refl

-- ---- the rows of W5

-- any multipliers, also fractions and negative ones, join smoothly
combination5 : Smooth space5 (combination 8 multipliers4 table5)
unfolding accepted5 first_column
combination5 = combinations_are_smooth space5 accepted5 multipliers4

-- the smooth ordinates above come from these multipliers only
only5 : (others : List ℚ) → length others ≡ 5 → combination 8 others table5 ≡ ordinates5 → others ≡ q0 ∷ int (pos 4) ∷ int (pos 2) ∷ int (pos 8) ∷ q1 ∷ []
unfolding accepted5 first_column conditions_before
only5 others h e = let o = smooth_curves_are_combinations space5 accepted5 ordinates5 smooth5 in o.only others h e ∙ sym (o.only (q0 ∷ int (pos 4) ∷ int (pos 2) ∷ int (pos 8) ∷ q1 ∷ []) refl given5)

-- ---- the exact curve of W5 with coefficients 0, 4, 2, 8, 1 of latewood, all of earlywood's being 7

abbrev coefs5 : List ℤ
coefs5 = side_by_side (pair (pos 7) (pos 0) ∷ pair (pos 7) (pos 4) ∷ pair (pos 7) (pos 2) ∷ pair (pos 7) (pos 8) ∷ pair (pos 7) (pos 1) ∷ [])

-- after half a ring the polynomial, times 256, is 256 (12/2 - 15/4 + 7/8) = 800
half5 : value (piece space5 (curve_ordinates space5 table5 latewood coefs5) (segment_at space5 (pos 128)))
    (int (offset space5 (segment_at space5 (pos 128)) (pos 128)) /ᵠ int (pos fineness)) ≡ int (pos 800)
unfolding polynomials side_by_side last combination starts_at_discontinuity starts_by segment_at
half5 = refl

-- and so is the exact curve
exact5 : exact_curve space5 table5 latewood coefs5 (pos 128) ≡ int (pos 800)
unfolding accepted5
exact5 = exact_curve_is_polynomial space5 accepted5 latewood coefs5 (pos 128) tt ∙ half5

-- at the join of order 2 it is where the second polynomial starts
join5 : exact_curve space5 table5 latewood coefs5 (pos 256) ≡ right_derivative space5 (curve_ordinates space5 table5 latewood coefs5) 0 0
unfolding accepted5
join5 = exact_curve_at_other_join space5 accepted5 latewood coefs5 0 (omega arith) (λ e. let z : ◌≡◌ {A = ℕ} 2 0 = ap up e in absurd (omega arith))

-- ---- W9: at the discontinuity the exact curve, 2560, is where the first polynomial ends

end9 : left_derivative space9 (curve_ordinates space9 table9 earlywood coefs9) 0 0 ≡ int (pos 2560)
unfolding accepted9
end9 = sym (exact_curve_at_discontinuity space9 accepted9 earlywood coefs9 0 (omega arith) refl) ∙ exact9

-- ---- W4: breaks 0,1,3, degrees 2,3, order 1

condition4 : Meets space4 ordinates4 0 1
unfolding conditioning pairing
condition4 = refl

-- segments of different lengths and degrees meet with the same slope
slopes4 : left_derivative space4 ordinates4 0 1 ≡ right_derivative space4 ordinates4 0 1
slopes4 = (conditions_are_smoothness space4 checked4 ordinates4 0 1 (omega arith) (omega arith)).0 condition4

-- which is -6
slope4 : right_derivative space4 ordinates4 0 1 ≡ int (negsuc 5)
unfolding polynomials
slope4 = refl
