-- Pieces between the positions, proved: both polynomials are triangles of their ordinates with the same two factors, and the ordinates are within
-- s/2 of each other.
use mathlib.Core.Path.{◌≡◌, refl, sym, ◌∙◌, ap, subst, fun_ext}
use mathlib.Core.List.{List, [], ◌∷◌}
use Prim.Native.Nat.{ℕ, ◌+◌, ◌<◌}
use native.Mathlib.Omega.{arith}
use lib.IntN.{ℤ, pos}
use Rattle.base_exact.specs.Rational.{ℚ, int, inv, ◌+ᵠ◌, ◌*ᵠ◌, ◌-ᵠ◌, ◌/ᵠ◌}
use Rattle.base_exact.specs.Order.{◌≤ᵠ◌, Nn}
use Rattle.base_exact.proofs.Order.{le_nn, nn_mul, nn_inv, nn_int, zero_le_nn, pos_of_nat, pos_nonzero}
use Rattle.base_exact.proofs.Ring.{ring, by_eq}
use Rattle.base_exact.proofs.Rational.{ℚ-ring, readsℚ, mul_inv}
use Rattle.spec_spline.specs.Space.{Space, segments, degree, width, first_column}
use Rattle.spec_spline.specs.Table.{entry}
use Rattle.spec_spline.specs.Piecewise.{Accepted}
use Rattle.spec_spline.specs.Reading.{Wood}
use Rattle.spec_spline.specs.ExactCurve.{most_weights}
use Rattle.spec_spline.proofs.Legal.{legal}
use Rattle.theorems_values.proofs.Within.{halves}
use Rattle.theorems_values.proofs.Mean.{Factors}
use Rattle.theorems_values.proofs.Bernstein.{exact_triangle}
use Rattle.theorems_values.proofs.Segment.{accepted-checked}
use Rattle.theorems_values.proofs.ExactSum.{exact_ordinates}
use Rattle.theorems_smoothness.specs.Polynomial.{value}
use Rattle.theorems_smoothness.specs.Smoothness as smooth
use Rattle.theorems_smoothness.proofs.Bernstein.{bernstein_form-value}
use Rattle.theorems_smoothness.proofs.Curve.{ordinate_is}
use Rattle.curve_pieces.specs.PieceCurve.{half_the_weights}
use Rattle.curve_pieces.proofs.AtEnds.{exact_triangle_within}
use Rattle.curve_pieces.proofs.PieceCurve.{Drawn, drawn, piece, given, given-within}
use Rattle.curve_between.specs.Between.{drawn_polynomial, CloseAt, PiecesAreCloseBetween}

-- 1 - r/h and r/h, for r from 0 to h
factors : (h : ℕ) (r : ℚ) → 0 < h → int (pos 0) ≤ᵠ r → r ≤ᵠ int (pos h) → Factors (int (pos 1) -ᵠ r /ᵠ int (pos h)) (r /ᵠ int (pos h))
factors h r l from to = record {
  left = subst Nn part (nn_mul (le_nn to) (nn_inv (nn_int h)));
  right = nn_mul (zero_le_nn from) (nn_inv (nn_int h));
  whole = ring ℚ-ring (r /ᵠ int (pos h) ∷ []) (search readsℚ depth 20) (search readsℚ depth 20) refl;
}
  where
    part : (int (pos h) -ᵠ r) *ᵠ inv (int (pos h)) ≡ int (pos 1) -ᵠ r /ᵠ int (pos h)
    part = by_eq ℚ-ring (int (pos 1)) (mul_inv (int (pos h)) (pos_nonzero (pos_of_nat h l)))
        (ring ℚ-ring (int (pos h) ∷ r ∷ inv (int (pos h)) ∷ []) (search readsℚ depth 20) (search readsℚ depth 20) refl)

module _ (s : Space) (a : Accepted s) (wood : Wood) (coefs : List ℤ) (k : ℕ) (below : k < segments s) (r : ℚ) (from : int (pos 0) ≤ᵠ r) (to : r ≤ᵠ int (pos (width s k))) where
  abbrev α : ℚ
  α = int (pos 1) -ᵠ r /ᵠ int (pos (width s k))

  abbrev β : ℚ
  β = r /ᵠ int (pos (width s k))

  F : Factors α β
  F = factors (width s k) r ((legal s (accepted-checked s a).1).positive_width k below) from to

  exact_is : value (smooth.piece s (smooth.curve_ordinates s a.table wood coefs) k) r ≡ exact_triangle α β (exact_ordinates s a.table wood coefs k) (degree s k) 0
  unfolding smooth.piece
  exact_is = bernstein_form-value (width s k) (degree s k) (λ t. entry (smooth.curve_ordinates s a.table wood coefs) (first_column s k + t)) r
      ∙ ap (λ o. exact_triangle α β o (degree s k) 0) (fun_ext (λ t. ordinate_is s a wood coefs (first_column s k + t)))

  drawn_is : value (drawn_polynomial s (piece s a wood coefs k) k) r ≡ exact_triangle α β (λ t. int (given s a wood coefs k t)) (degree s k) 0
  unfolding drawn_polynomial
  drawn_is = bernstein_form-value (width s k) (degree s k) (λ t. int (given s a wood coefs k t)) r

  close : CloseAt s wood coefs (piece s a wood coefs k) k r
  close = record {
    accepted = a;
    exact_at_most = along (sym exact_is) (sym drawn_is)
        (exact_triangle_within F (halves (most_weights s a.table k)) (exact_ordinates s a.table wood coefs k) (λ t. int (given s a wood coefs k t))
        (degree s k)
        (λ t l. (given-within s a wood coefs k below t l).not_below) (degree s k) 0 (omega arith));
    at_most_exact = along (sym drawn_is) (sym exact_is)
        (exact_triangle_within F (halves (most_weights s a.table k)) (λ t. int (given s a wood coefs k t)) (exact_ordinates s a.table wood coefs k)
        (degree s k)
        (λ t l. (given-within s a wood coefs k below t l).not_above) (degree s k) 0 (omega arith));
  }
    where
      along : {p q p' q' : ℚ} → p ≡ p' → q ≡ q' → p ≤ᵠ q +ᵠ halves (most_weights s a.table k) → p' ≤ᵠ q' +ᵠ half_the_weights s a.table k
      along {q = q} {p'} e f l = subst (λ y. p' ≤ᵠ y +ᵠ halves (most_weights s a.table k)) f (subst (λ y. y ≤ᵠ q +ᵠ halves (most_weights s a.table k)) e l)

pub pieces_are_close_between : PiecesAreCloseBetween
pieces_are_close_between s wood coefs k num_length den_length p e r from to = go (drawn s wood coefs k num_length den_length p e)
  where
    go : Drawn s wood coefs k p → CloseAt s wood coefs p k r
    go d = subst (λ z. CloseAt s wood coefs z k r) d.is (close s d.accepted wood coefs k d.below r from to)
