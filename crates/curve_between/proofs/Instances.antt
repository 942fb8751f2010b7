-- Pieces between the positions with numbers: at a third of a ring, which is no whole 256th, the first quadratic of W1's space is 119467/9, and the exact
-- curve is within s/2 = 1 of it.
use mathlib.Core.Path.{◌≡◌, refl, subst}
use lib.IntN.{pos}
use Rattle.base_exact.specs.Gcd.{gcd, gcd_f}
use Rattle.base_exact.specs.Rational.{mk, int, inv, ◌+ᵠ◌, ◌*ᵠ◌, -ᵠ◌, ◌//◌}
use Rattle.base_exact.specs.Order.{◌≤ᵠ◌, leᵠ}
use Rattle.base_exact.proofs.Order.{leᵠ_true}
use Rattle.spec_spline.specs.Conditions.{binomial}
use Rattle.spec_spline.specs.Reading.{earlywood}
use Rattle.spec_spline.specs.Cases.{space1}
use Rattle.theorems_smoothness.specs.Polynomial.{value, ◌+ᵖ◌, ◌·ᵖ◌, ◌*ᵖ◌, power, total}
use Rattle.theorems_smoothness.specs.Bernstein.{bernstein_polynomial, bernstein_form}
use Rattle.theorems_smoothness.specs.Smoothness.{piece, curve_ordinates}
use Rattle.curve_pieces.specs.PieceCurve.{half_the_weights}
use Rattle.curve_pieces.proofs.Instances.{coefs1, first1, first_drawn1}
use Rattle.curve_between.specs.Between.{drawn_polynomial, CloseAt}
use Rattle.curve_between.proofs.Between.{pieces_are_close_between}

third_from : int (pos 0) ≤ᵠ pos 1 // 2
unfolding gcd gcd_f mk int inv ◌+ᵠ◌ ◌*ᵠ◌ -ᵠ◌ ◌//◌ leᵠ
third_from = leᵠ_true (int (pos 0)) (pos 1 // 2) refl

third_to : pos 1 // 2 ≤ᵠ int (pos 1)
unfolding gcd gcd_f mk int inv ◌+ᵠ◌ ◌*ᵠ◌ -ᵠ◌ ◌//◌ leᵠ
third_to = leᵠ_true (pos 1 // 2) (int (pos 1)) refl

at_third : CloseAt space1 earlywood coefs1 first1 0 (pos 1 // 2)
at_third = pieces_are_close_between space1 earlywood coefs1 0 5184 5184 first1 first_drawn1 (pos 1 // 2) third_from third_to

drawn_third : value (drawn_polynomial space1 first1 0) (pos 1 // 2) ≡ pos 119467 // 8
unfolding drawn_polynomial bernstein_form bernstein_polynomial total power ◌+ᵖ◌ ◌·ᵖ◌ ◌*ᵖ◌ value binomial gcd gcd_f mk int inv ◌+ᵠ◌ ◌*ᵠ◌ -ᵠ◌ ◌//◌
drawn_third = refl

exact_near_third : value (piece space1 (curve_ordinates space1 at_third.accepted.table earlywood coefs1) 0) (pos 1 // 2) ≤ᵠ pos 119467 // 8 +ᵠ half_the_weights space1 at_third.accepted.table 0
exact_near_third = subst (λ q. value (piece space1 (curve_ordinates space1 at_third.accepted.table earlywood coefs1) 0) (pos 1 // 2) ≤ᵠ q +ᵠ half_the_weights space1 at_third.accepted.table 0)
    drawn_third at_third.exact_at_most
