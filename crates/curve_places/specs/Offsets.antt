-- What the functions over the positions ask and leave.
use Rattle.std.specs.Prelude.{cond, List, ◌≡◌, ℕ, ◌+◌, ◌*◌, ◌<◌, leb, ltb, ℤ, pos, length, get_or, ◌≤ℤ◌}
use Rattle.base_exact.specs.Tabulate.{tab}
use Rattle.spec_spline.specs.Space.{Space, segment_limit, degree_limit, break, segments, first_column}
use Rattle.spec_spline.specs.Reading.{fine}
use Rattle.build_space.specs.Legal.{BreaksLegal}
use Rattle.curve_ordinates.specs.Ordinates.{Bounded}

-- A beam has at most this many columns: six for each of 48 segments.
abbrev pub column_limit : ℕ
column_limit = (degree_limit + 1) * segment_limit

-- The first columns of the segments in an array, 0 past them.
unfoldable pub columns_of : Space → List ℕ
columns_of s = tab segment_limit (λ i. cond (ltb i (segments s)) (first_column s i) 0)

-- The p + 1 numbers from index c on in an array of six, 0 past them.
unfoldable pub local_of : List ℤ → ℕ → ℕ → List ℤ
local_of os c p = tab 6 (λ k. cond (leb k p) (get_or os (c + k) (pos 0)) (pos 0))

-- An array of ordinates that takes the columns of every beam, each number within the limit.
pub record BeamOrdinates (os : List ℤ) : Type 0 where
  pub long : length os ≡ column_limit
  pub bounded : Bounded os

-- Breakpoint i of a legal list.
pub record BreakAt (breaks : List ℤ) (i : ℕ) : Type 0 where
  pub within : i < length breaks
  pub legal : BreaksLegal breaks

-- A position within the span.
pub record Within (s : Space) (x : ℤ) : Type 0 where
  pub low : fine (break s 0) ≤ℤ x
  pub high : x ≤ℤ fine (break s (segments s))
