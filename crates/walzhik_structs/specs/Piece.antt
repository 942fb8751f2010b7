-- A piece as the struct that C and Rust receive: its numbers, and zeros for all that a smaller degree or a refusal leaves open.
use Rattle.std.specs.Prelude.{◌≡◌, List, [], ◌∷◌, ◌++◌, ℕ, ◌-◌, Float, ℤ, pos, length, replicate}
use Rattle.base_outcome.specs.Outcome.{Outcome, answer, refusal}
use Rattle.spec_spline.specs.Reading.{fineness}
use Rattle.curve_drawing.specs.Floats.{Is, Each}
use Rattle.spec_calls.specs.Pieces as pieces
use Rattle.walzhik_structs.specs.declared.Piece.{Piece}

-- The struct has room for a cubic's ordinates.
abbrev pub room : ℕ
room = 4

abbrev pub ordinates_of : Piece → List Float
ordinates_of r = r.o0 ∷ r.o1 ∷ r.o2 ∷ r.o3 ∷ []

-- The struct's numbers: the floats exactly, and 0.0 for the ordinates past the degree.
pub record Carries (r : Piece) (code place degree : ℕ) (ordinates : List ℤ) (start end : ℤ) : Type 0 where
  pub code_is : r.number ≡ code
  pub place_is : r.place ≡ place
  pub degree_is : r.degree ≡ degree
  pub unused_is : r.unused ≡ 0
  pub ordinates_are : Each fineness (ordinates_of r) (ordinates ++ replicate (room - length ordinates) (pos 0))
  pub start_is : Is r.start start 1
  pub end_is : Is r.end end 1

-- The piece with code 0 and place 0; or the code and place of a refusal, and 0 for all else.
abbrev pub Sent : Piece → Outcome pieces.Piece → Type 0
Sent r (answer p) = Carries r 0 0 (length p.ordinates - 1) p.ordinates p.start p.end
Sent r (refusal code place) = Carries r code place 0 [] (pos 0) (pos 0)
