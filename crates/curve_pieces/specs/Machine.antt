-- The machine's form of a piece: its floats are the definition's numbers, and the answer's case is the outcome's; and a piece by the
-- ordinates of all columns.
use Rattle.std.specs.Prelude.{cond, List, ◌≡◌, ℕ, suc, ◌+◌, ◌<◌, ◌≤◌, ℤ, pos, length, get_or, Result, Ok, Err}
use Rattle.base_exact.specs.Tabulate.{tab}
use Rattle.base_outcome.specs.Codes as codes
use Rattle.base_outcome.specs.Outcome.{Outcome, answer, refusal, refuse}
use Rattle.spec_spline.specs.Space.{Space, break, degree, first_column}
use Rattle.spec_spline.specs.Reading.{fineness}
use Rattle.build_space.specs.Legal.{ListsLegal}
use Rattle.curve_places.specs.Offsets.{column_limit}
use Rattle.curve_drawing.specs.Floats.{Is, Each, floats}
use Rattle.spec_calls.specs.Pieces.{drawable_degree, Piece, is_drawable}
use Rattle.curve_pieces.specs.declared.Drawing.{Drawing}
use Rattle.base_outcome.specs.declared.Refusal.{Refusal}

-- The machine's piece is the definition's, "all as 64-bit floats, exactly" (§ 11): an end is the breakpoint itself, and an ordinate
-- times 256 is the whole number from step 1 of § 6.
pub record Shows (r : Drawing) (p : Piece) : Type 0 where
  pub ordinates : Each fineness (floats r.curve) p.ordinates
  pub start : Is r.ends.start p.start 1
  pub end : Is r.ends.end p.end 1

-- The answer is the outcome: the piece, or the code and place of a refusal.
pub data Replies : Result Drawing Refusal → Outcome Piece → Type 0 where
  drawn : {r : Drawing} {p : Piece} → Shows r p → Replies (Ok r) (answer p)
  refused : {r : Refusal} → Replies (Err r) (refusal r.code r.place)

-- ---- a piece by the ordinates of all columns

-- The piece of segment k.
abbrev pub piece_held : Space → List ℤ → ℕ → Piece
piece_held s os k = record {
  ordinates = tab (suc (degree s k)) (λ i. get_or os (first_column s k + i) (pos 0));
  start = break s k;
  end = break s (suc k);
}

-- The same, or 17.
abbrev pub drawn_held : Space → List ℤ → ℕ → Outcome Piece
drawn_held s os k = cond (is_drawable s k) (answer (piece_held s os k)) (refuse codes.not_drawn k)

-- ---- what the functions of a piece ask

-- A segment of legal lists whose degree the screen draws, and the ordinates of all columns.
pub record PieceAsks (s : Space) (os : List ℤ) (k : ℕ) : Type 0 where
  pub legal : ListsLegal s.breaks s.degrees s.orders
  pub segment-within : k < length s.degrees
  pub drawable : degree s k ≤ drawable_degree
  pub long : length os ≡ column_limit

-- Legal lists, and the ordinates of all columns.
pub record DrawAsks (s : Space) (os : List ℤ) : Type 0 where
  pub legal : ListsLegal s.breaks s.degrees s.orders
  pub long : length os ≡ column_limit
