-- A piece is close to the exact curve between the positions too, where a screen draws: at every ring count from its segment's start, any
-- fraction from 0 to the segment's length, its polynomial differs by at most s/2 units from the polynomial of the exact curve.
use Rattle.std.specs.Prelude.{◌≡◌, List, ℕ, ℤ, pos, get_or}
use Rattle.base_exact.specs.Rational.{ℚ, int, ◌+ᵠ◌}
use Rattle.base_exact.specs.Order.{◌≤ᵠ◌}
use Rattle.base_outcome.specs.Outcome.{answer}
use Rattle.spec_spline.specs.Space.{Space, degree, width}
use Rattle.spec_spline.specs.Reading.{Wood}
use Rattle.spec_spline.specs.Piecewise.{Accepted}
use Rattle.spec_calls.specs.Pieces.{Piece, piece_outcome}
use Rattle.theorems_smoothness.specs.Polynomial.{Polynomial, value}
use Rattle.theorems_smoothness.specs.Bernstein.{bernstein_form}
use Rattle.theorems_smoothness.specs.Smoothness.{piece, curve_ordinates}
use Rattle.curve_pieces.specs.PieceCurve.{half_the_weights}

-- The polynomial with the piece's ordinates on segment k.
unfoldable pub drawn_polynomial : Space → Piece → ℕ → Polynomial
drawn_polynomial s p k = bernstein_form (width s k) (degree s k) (λ t. int (get_or p.ordinates t (pos 0)))

-- At r rings from the segment's start the difference is at most s/2, on either side; the accepted table is the call's.
pub record CloseAt (s : Space) (wood : Wood) (coefs : List ℤ) (p : Piece) (k : ℕ) (r : ℚ) : Type 0 where
  pub accepted : Accepted s
  pub exact_at_most : value (piece s (curve_ordinates s accepted.table wood coefs) k) r ≤ᵠ value (drawn_polynomial s p k) r +ᵠ
      half_the_weights s accepted.table k
  pub at_most_exact : value (drawn_polynomial s p k) r ≤ᵠ value (piece s (curve_ordinates s accepted.table wood coefs) k) r +ᵠ
      half_the_weights s accepted.table k

abbrev pub PiecesAreCloseBetween : Type 0
PiecesAreCloseBetween = (s : Space) (wood : Wood) (coefs : List ℤ) (k num_length den_length : ℕ) (p : Piece)
    → piece_outcome s wood coefs k num_length den_length ≡ answer p
    → (r : ℚ) → int (pos 0) ≤ᵠ r → r ≤ᵠ int (pos (width s k)) → CloseAt s wood coefs p k r
