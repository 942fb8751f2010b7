-- Which numbers the reach and piece calls can give, and with which places, whatever their lists and buffers are; none of them is 0. The
-- other calls are in crate theorems_codes, specs/Codes.
use Rattle.std.specs.Prelude.{◌≡◌, List, ℕ, ◌<◌, ℤ, length}
use Rattle.base_outcome.specs.Codes as codes
use Rattle.base_outcome.specs.Outcome.{refusal, largest_place, capped}
use Rattle.spec_spline.specs.Space.{Space}
use Rattle.spec_spline.specs.Reading.{Wood}
use Rattle.theorems_codes.specs.Codes.{SpaceRefusal}
use Rattle.spec_calls.specs.Reach.{reach_end}
use Rattle.spec_calls.specs.Pieces.{piece_end}

-- The curve without positions: 1 at one of the two weight buffers, the space's own numbers, 6 for the count of coefficients or at one of
-- them.
pub data AloneRefusal (s : Space) (coefs : List ℤ) : ℕ → ℕ → Type 0 where
  short_buffer : (i : ℕ) → i < 2 → AloneRefusal s coefs codes.short_buffer i
  of_space : {code place : ℕ} → SpaceRefusal s code place → AloneRefusal s coefs code place
  coefficient_count : AloneRefusal s coefs codes.coefficient largest_place
  at_coefficient : (i : ℕ) → i < length coefs → AloneRefusal s coefs codes.coefficient (capped i)

-- A reach call: those, and 16 at 0.
pub data ReachRefusal (s : Space) (coefs : List ℤ) : ℕ → ℕ → Type 0 where
  of_curve : {code place : ℕ} → AloneRefusal s coefs code place → ReachRefusal s coefs code place
  unreached : ReachRefusal s coefs codes.never_reached 0

-- A piece call: those, and 17 at the segment named.
pub data PieceRefusal (s : Space) (coefs : List ℤ) (k : ℕ) : ℕ → ℕ → Type 0 where
  of_curve : {code place : ℕ} → AloneRefusal s coefs code place → PieceRefusal s coefs k code place
  undrawable : PieceRefusal s coefs k codes.not_drawn (capped k)

abbrev pub ReachNumbers : Type 0
ReachNumbers = (s : Space) (wood : Wood) (coefs : List ℤ) (width : ℤ) (num den : List ℤ) (code place : ℕ)
    → (reach_end s wood coefs width num den).answers ≡ refusal code place → ReachRefusal s coefs code place × (0 < code)

abbrev pub PieceNumbers : Type 0
PieceNumbers = (s : Space) (wood : Wood) (coefs : List ℤ) (k : ℕ) (num den : List ℤ) (code place : ℕ)
    → (piece_end s wood coefs k num den).answers ≡ refusal code place → PieceRefusal s coefs k code place × (0 < code)
