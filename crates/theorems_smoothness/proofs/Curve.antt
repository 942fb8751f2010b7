-- The specification's exact curve is, on each segment, the polynomial with the ordinates that the rows and the coefficients give; at
-- a join it is the value of the polynomial before it or after it.
use mathlib.Core.Path.{◌≡◌, refl, sym, ◌∙◌, ap, ap₂, fun_ext}
use mathlib.Core.List.{List, [], ◌∷◌}
use Prim.Native.Nat.{ℕ, zero, suc, ◌+◌, ◌*◌, ◌<◌}
use native.Mathlib.Omega.{arith}
use lib.IntN.{ℤ, pos}
use lib.ListN.{length}
use Rattle.base_exact.specs.Rational.{ℚ, int, inv, ◌*ᵠ◌, -ᵠ◌, ◌-ᵠ◌, ◌/ᵠ◌}
use Rattle.base_exact.proofs.Ring.{ring, by_eq}
use Rattle.base_exact.proofs.Integer.{+-neg}
use Rattle.base_exact.proofs.Rational.{ℚ-ring, readsℚ, int_mul, int_sub, int_nonzero, inv_mul, mul_inv, mul_comm, mul_assoc, mul_div}
use Rattle.base_exact.specs.Tabulate.{tab}
use Rattle.base_exact.proofs.Sum.{sum_ext}
use Rattle.base_exact.proofs.Tabulate.{tab_get_d}
use Rattle.spec_spline.specs.Space.{Space, break, degree, width, first_column, column_count}
use Rattle.spec_spline.specs.Table.{entry, cell}
use Rattle.spec_spline.specs.Piecewise.{Accepted}
use Rattle.spec_spline.specs.Reading.{fineness, fine, segment_at, Wood, coefficient, fine_width, offset}
use Rattle.spec_spline.specs.ExactCurve.{exact_on, exact_curve}
use Rattle.theorems_weights.proofs.Built.{built}
use Rattle.theorems_weights.proofs.PublishedBasis.{combination_at}
use Rattle.theorems_values.specs.ValueLimits.{InSpan}
use Rattle.theorems_values.proofs.Segment.{Located, located, accepted-checked, fine_width_is}
use Rattle.theorems_values.proofs.Positions.{discontinuities_belong_before, other_joins_belong_after, breakpoint_in_span}
use Rattle.theorems_values.proofs.Bernstein.{exact_triangle}
use Rattle.theorems_values.proofs.Triangle.{left_factor, right_factor}
use Rattle.theorems_values.proofs.Ordinate.{exact_ordinate}
use Rattle.theorems_values.proofs.ExactSum.{exact_ordinates, exact_on_is_triangle}
use Rattle.theorems_smoothness.specs.Polynomial.{value, iterated}
use Rattle.theorems_smoothness.specs.Smoothness.{piece, curve_ordinates, ExactCurveIsPolynomial, ExactCurveAtDiscontinuity, ExactCurveAtOtherJoin}
use Rattle.theorems_smoothness.proofs.Bernstein.{bernstein_form-value}

-- the multipliers are 256 times a part's coefficients
pub ordinate_is : (s : Space) (a : Accepted s) (wood : Wood) (coefs : List ℤ) (c : ℕ) → entry (curve_ordinates s a.table wood coefs) c ≡ exact_ordinate a.table (coefficient wood coefs) c
unfolding exact_ordinate
ordinate_is s a wood coefs c = combination_at (column_count s) a.table (built s a.table a.is).basis.wide (tab (length a.table) (λ i. int (fine (coefficient wood coefs i)))) c
    ∙ sum_ext (length a.table) (λ i l. ap (λ u. u *ᵠ cell a.table i c) (tab_get_d (length a.table) (λ i. int (fine (coefficient wood coefs i))) i (int (pos 0)) l))

-- u / D, with D = 256 h
right-factor : (h : ℕ) (u : ℤ) → 0 < fineness * h → right_factor (fineness * h) u ≡ int u /ᵠ int (pos fineness) /ᵠ int (pos h)
right-factor zero u l = absurd (omega arith)
right-factor (suc h) u l =
    ap (λ d. int u *ᵠ inv d) (int_mul (pos fineness) (pos (suc h)))
    ∙ ap (λ d. int u *ᵠ d) (inv_mul (int (pos fineness)) (int (pos (suc h))) (int_nonzero 255) (int_nonzero h)) ∙ sym (mul_assoc _ _ _)

left-factor : (d : ℕ) (u : ℤ) → 0 < d → left_factor d u ≡ int (pos 1) -ᵠ right_factor d u
left-factor zero u l = absurd (omega arith)
left-factor (suc d) u l = ap (λ t. t *ᵠ inv (int (pos (suc d)))) (int_sub (pos (suc d)) u)
    ∙ by_eq ℚ-ring (int (pos 1)) (mul_inv (int (pos (suc d))) (int_nonzero d))
    (ring ℚ-ring (int (pos (suc d)) ∷ int u ∷ inv (int (pos (suc d))) ∷ []) (search readsℚ depth 20) (search readsℚ depth 20) refl)

pub exact_curve_is_polynomial : ExactCurveIsPolynomial
unfolding exact_curve piece
exact_curve_is_polynomial s a wood coefs x inside = go (segment_at s x) (located s (accepted-checked s a).1 x inside)
  where
    go : (j : ℕ) → Located s x j → exact_on s a.table wood coefs j x ≡ value (piece s (curve_ordinates s a.table wood coefs) j) (int (offset s j x) /ᵠ int (pos fineness))
    go j L = exact_on_is_triangle s a.table wood coefs j x L.positive
        ∙ ap₂ (λ α β. exact_triangle α β (exact_ordinates s a.table wood coefs j) (degree s j) 0) (left-factor (fine_width s j) (offset s j x) L.positive ∙ ap (λ u. int (pos 1) -ᵠ u) β) β
        ∙ ap (λ o. exact_triangle (int (pos 1) -ᵠ y /ᵠ int (pos (width s j))) (y /ᵠ int (pos (width s j))) o (degree s j) 0) (fun_ext (λ t. sym (ordinate_is s a wood coefs (first_column s j + t))))
        ∙ sym (bernstein_form-value (width s j) (degree s j) (λ t. entry (curve_ordinates s a.table wood coefs) (first_column s j + t)) (int (offset s j x) /ᵠ int (pos fineness)))
      where
        y : ℚ
        y = int (offset s j x) /ᵠ int (pos fineness)

        β : right_factor (fine_width s j) (offset s j x) ≡ y /ᵠ int (pos (width s j))
        β = right-factor (width s j) (offset s j x) L.positive

-- ---- at a join

-- 256 positions are a ring
fine-over-parts : (z : ℤ) → int (fine z) /ᵠ int (pos fineness) ≡ int z
fine-over-parts z = ap (λ q. q /ᵠ int (pos fineness)) (int_mul (pos fineness) z ∙ mul_comm (int (pos fineness)) (int z)) ∙ mul_div (int z) (int (pos fineness)) (int_nonzero 255)

-- z rings after the start of the position's segment
curve_after : (s : Space) (a : Accepted s) (wood : Wood) (coefs : List ℤ) (x z : ℤ) → InSpan s x → (i : ℕ) → segment_at s x ≡ i → offset s i x ≡ fine z
    → exact_curve s a.table wood coefs x ≡ value (piece s (curve_ordinates s a.table wood coefs) i) (int z)
curve_after s a wood coefs x z inside i at o = exact_curve_is_polynomial s a wood coefs x inside
    ∙ ap (λ j. value (piece s (curve_ordinates s a.table wood coefs) j) (int (offset s j x) /ᵠ int (pos fineness))) at
    ∙ ap (value (piece s (curve_ordinates s a.table wood coefs) i)) (ap (λ y. int y /ᵠ int (pos fineness)) o ∙ fine-over-parts z)

pub exact_curve_at_discontinuity : ExactCurveAtDiscontinuity
unfolding iterated
exact_curve_at_discontinuity s a wood coefs j h o =
    let c = accepted-checked s a in
    curve_after s a wood coefs (fine (break s (suc j))) (pos (width s j)) (breakpoint_in_span s c.1 (suc j) (omega arith)) j
    (discontinuities_belong_before s c.0 j h o) (sym (fine_width_is s c.1 j (omega arith)))

pub exact_curve_at_other_join : ExactCurveAtOtherJoin
unfolding iterated
exact_curve_at_other_join s a wood coefs j h o =
    let c = accepted-checked s a in
    curve_after s a wood coefs (fine (break s (suc j))) (pos 0) (breakpoint_in_span s c.1 (suc j) (omega arith)) (suc j) (other_joins_belong_after s c.0 j h o) (+-neg (fine (break s (suc j))))
