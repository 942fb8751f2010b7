-- One piece of a curve for the screen (§ 11): its ordinates are step 1's whole numbers after the limits, in 256ths,
-- and its ends are breakpoints. The machine gives the same numbers as 64-bit floats, exactly.
use Rattle.std.specs.Prelude.{Bool, cond, ◌&&◌, List, ℕ, suc, ◌+◌, leb, ltb, ℤ, length}
use Rattle.base_exact.specs.Tabulate.{tab}
use Rattle.base_outcome.specs.Codes as codes
use Rattle.base_outcome.specs.Outcome.{Outcome, answer, refuse, ◌then◌}
use Rattle.spec_spline.specs.Space.{Space, segments, break, degree, first_column}
use Rattle.spec_spline.specs.Table.{Table}
use Rattle.spec_spline.specs.Reading.{Wood, coefficient, ordinate}
use Rattle.spec_spline.specs.CurveCall.{curve_numerators, curve_denominators}
use Rattle.spec_calls.specs.CurveAlone.{curve_alone}

-- The greatest degree of "a line, a quadratic or a cubic" (§ 11).
abbrev pub drawable_degree : ℕ
drawable_degree = 3

-- The named segment is there and can be drawn: else 17.
unfoldable pub is_drawable : Space → ℕ → Bool
is_drawable s k = ltb k (segments s) && leb (degree s k) drawable_degree

-- "a line, a quadratic or a cubic: the segment's degree + 1 ordinates (§ 6, 1, after the limits) over 256, and the segment's two
-- breakpoints" (§ 11).
pub record Piece : Type 0 where
  pub ordinates : List ℤ
  pub start : ℤ
  pub end : ℤ

-- The piece of segment k.
unfoldable pub piece_of : Space → Table → Wood → List ℤ → ℕ → Piece
piece_of s t wood coefs k = record {
  ordinates = tab (suc (degree s k)) (λ i. ordinate t (coefficient wood coefs) (first_column s k + i));
  start = break s k;
  end = break s (suc k);
}

-- What the call ends with, given the lengths of the two buffers: "Numbers as in § 10, and after all others 17." (§ 11) Its place is
-- "the number named" (§ 3).
unfoldable pub piece_outcome : Space → Wood → List ℤ → ℕ → ℕ → ℕ → Outcome Piece
piece_outcome s wood coefs k num_length den_length =
    curve_alone s coefs num_length den_length then λ r.
    cond (is_drawable s k) (answer (piece_of s r.table wood coefs k)) (refuse codes.not_drawn k)

-- What the call ends with: the answer and both weight buffers.
pub record PieceEnd : Type 0 where
  pub answers : Outcome Piece
  pub numerators : List ℤ
  pub denominators : List ℤ

-- The end of the call with these lists and these two buffers lent. "After 14, 16 and 17 the weight buffers are as after an answer"
-- (§ 3).
abbrev pub piece_end : Space → Wood → List ℤ → ℕ → List ℤ → List ℤ → PieceEnd
piece_end s wood coefs k num den =
    let o = curve_alone s coefs (length num) (length den) in
    record {
      answers = piece_outcome s wood coefs k (length num) (length den);
      numerators = curve_numerators s o num;
      denominators = curve_denominators s o den;
    }
