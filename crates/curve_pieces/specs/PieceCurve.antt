-- What a piece has to do with the curve (§ 11): at every position of its segment its polynomial differs from the
-- exact curve by at most s/2 units, and at its ends it is the value itself.
use Rattle.std.specs.Prelude.{◌≡◌, false, List, ℕ, suc, ℤ, pos, get_or}
use Rattle.base_exact.specs.Rational.{ℚ, int, ◌+ᵠ◌, ◌*ᵠ◌, ◌/ᵠ◌}
use Rattle.base_exact.specs.Order.{◌≤ᵠ◌}
use Rattle.base_exact.specs.Sum.{sum}
use Rattle.base_outcome.specs.Codes as codes
use Rattle.base_outcome.specs.Outcome.{answer, refusal}
use Rattle.spec_spline.specs.Space.{Space, break, degree}
use Rattle.spec_spline.specs.Table.{Table}
use Rattle.spec_spline.specs.Reading.{Wood, fine, fine_width, offset, starts_at_discontinuity, segment_at, value_at}
use Rattle.spec_spline.specs.ExactCurve.{bernstein_at, exact_curve, most_weights}
use Rattle.spec_spline.specs.Piecewise.{Accepted}
use Rattle.theorems_values.specs.ValueLimits.{InSpan}
use Rattle.spec_calls.specs.Pieces.{Piece, piece_outcome, piece_end}

-- The piece's polynomial at position x of segment k, in the units of the values.
unfoldable pub polynomial_at : Space → Piece → ℕ → ℤ → ℚ
polynomial_at s p k x = sum (suc (degree s k)) (λ t. int (get_or p.ordinates t (pos 0)) *ᵠ bernstein_at (degree s k) (fine_width s k)
    (offset s k x) t)

-- s/2 of segment k.
abbrev pub half_the_weights : Space → Table → ℕ → ℚ
half_the_weights s t k = int (pos (most_weights s t k)) /ᵠ int (pos 2)

-- The difference is at most s/2, on either side; the accepted table is the call's.
pub record WithinHalfTheWeights (s : Space) (wood : Wood) (coefs : List ℤ) (p : Piece) (k : ℕ) (x : ℤ) : Type 0 where
  pub accepted : Accepted s
  pub exact_at_most : exact_curve s accepted.table wood coefs x ≤ᵠ polynomial_at s p k x +ᵠ half_the_weights s accepted.table k
  pub at_most_exact : polynomial_at s p k x ≤ᵠ exact_curve s accepted.table wood coefs x +ᵠ half_the_weights s accepted.table k

-- At every position that belongs to the segment.
abbrev pub PiecesAreClose : Type 0
PiecesAreClose = (s : Space) (wood : Wood) (coefs : List ℤ) (k num_length den_length : ℕ) (p : Piece)
    → piece_outcome s wood coefs k num_length den_length ≡ answer p
    → (x : ℤ) → InSpan s x → segment_at s x ≡ k → WithinHalfTheWeights s wood coefs p k x

-- The piece is the value itself at a breakpoint x.
pub record IsTheValue (s : Space) (wood : Wood) (coefs : List ℤ) (p : Piece) (k : ℕ) (x : ℤ) : Type 0 where
  pub accepted : Accepted s
  pub same : polynomial_at s p k x ≡ int (value_at s accepted.table wood coefs x)

-- At the end of its segment, whichever segment that position belongs to.
abbrev pub PiecesEndAtTheValue : Type 0
PiecesEndAtTheValue = (s : Space) (wood : Wood) (coefs : List ℤ) (k num_length den_length : ℕ) (p : Piece)
    → piece_outcome s wood coefs k num_length den_length ≡ answer p
    → IsTheValue s wood coefs p k (fine (break s (suc k)))

-- At its start too, unless the join there has order -1.
abbrev pub PiecesStartAtTheValue : Type 0
PiecesStartAtTheValue = (s : Space) (wood : Wood) (coefs : List ℤ) (k num_length den_length : ℕ) (p : Piece)
    → piece_outcome s wood coefs k num_length den_length ≡ answer p
    → starts_at_discontinuity s k ≡ false → IsTheValue s wood coefs p k (fine (break s k))

-- Code 9 never comes, whatever the call is given.
abbrev pub PiecesNeverGiveNine : Type 0
PiecesNeverGiveNine = (s : Space) (wood : Wood) (coefs : List ℤ) (k : ℕ) (num den : List ℤ) (place : ℕ)
    → (piece_end s wood coefs k num den).answers ≡ refusal codes.jumps place → ⊥
